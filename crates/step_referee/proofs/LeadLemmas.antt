-- The judge's answer for a proof is the check's.
use Rattle.std.proofs.Common.{◌≡◌, ◌↔◌, ℕ, List, None, true, refl, sym, ap, ◌∙◌}
use Rattle.std.specs.Prelude.{if◌then◌else◌}
use Rattle.rd_base.specs.declared.digest.Digest32.{Digest32}
use Rattle.rd_base.specs.declared.proof.Proof.{Proof}
use Rattle.open_proof.specs.Conditions.{LeadsFrom}
use Rattle.open_proof.specs.Facts.{facts_of}
use Rattle.open_proof.specs.InRange.{is_in_range}
use Rattle.open_proof.specs.declared.facts.Facts.{Facts}
use Rattle.step_referee.specs.Tests.{checked}
use Rattle.step_referee.specs.declared.check.StepCheck.{StepCheck}
use Rattle.step_referee.specs.declared.check.StepCheck.TheVariants as check
use Rattle.step_referee.specs.MachineRuling.{root_led, leads_in}

-- two checks that say alike when a proof leads say alike where to
same-led : (L : Digest32 → Type 0) (r c : StepCheck) → ((b : Digest32) → (r ≡ check.Leads b) ↔ L b) → ((b : Digest32) → (c ≡ check.Leads b) ↔ L b) → root_led r ≡ root_led c
same-led L (check.Leads b) c first second = ap root_led (sym ((second b).1 ((first b).0 refl)))
same-led L check.NotOpen (check.Leads b) first second = let no = (first b).1 ((second b).0 refl) in absurd cc
same-led L check.WrongShape (check.Leads b) first second = let no = (first b).1 ((second b).0 refl) in absurd cc
same-led L check.NotOpen check.NotOpen first second = refl
same-led L check.NotOpen check.WrongShape first second = refl
same-led L check.WrongShape check.NotOpen first second = refl
same-led L check.WrongShape check.WrongShape first second = refl

-- the law of the answer by tests
abbrev pub Decided : (List ℕ → List ℕ) → Type 0
Decided digest = (version : ℕ) (a b : Digest32) (facts : Facts) → (checked digest version a facts ≡ check.Leads b) ↔ LeadsFrom digest version a facts b

pub led-by : (digest : List ℕ → List ℕ) → Decided digest → (version : ℕ) (a : Digest32) (proof : Proof) (r : StepCheck) → is_in_range proof ≡ true
    → ((b : Digest32) → (r ≡ check.Leads b) ↔ LeadsFrom digest version a (facts_of proof) b) → root_led r ≡ leads_in digest version a proof
unfolding leads_in
led-by digest decided version a proof r range leads =
    same-led (LeadsFrom digest version a (facts_of proof)) r (checked digest version a (facts_of proof)) leads (λ b. decided version a b (facts_of proof))
    ∙ ap (λ t. if t then root_led (checked digest version a (facts_of proof)) else None) (sym range)
