-- Derived: if the judge of the machine lets a proof lead, its conditions hold; and it keeps the laws of a judge.
use Rattle.std.proofs.Common.{◌≡◌, ◌↔◌, ◌≢◌, ℕ, List, length, Some, None, Bool, true, false, refl, ap, ◌∙◌}
use Rattle.std.specs.Prelude.{if◌then◌else◌}
use Rattle.rd_base.specs.declared.digest.Digest32.{Digest32}
use Rattle.rd_base.specs.declared.claim.Claim.{Claim}
use Rattle.rd_base.specs.declared.proof.Proof.{Proof}
use Rattle.bisect_game.specs.Ruling.{IsFair, IsCollision}
use Rattle.out_chain.specs.Collision.{claim_collision}
use Rattle.out_chain.specs.ClaimLaws.{claims_without_collision, claims_collide, no_collision_of_two_roots, no_collision_of_equal}
use Rattle.open_proof.specs.Conditions.{LeadsFrom}
use Rattle.open_proof.specs.Facts.{facts_of}
use Rattle.open_proof.specs.InRange.{is_in_range}
use Rattle.open_proof.specs.Strings.{opened_by_facts}
use Rattle.step_referee.specs.Tests.{checked}
use Rattle.step_referee.specs.TestLaws.{checked-leads}
use Rattle.step_referee.specs.declared.check.StepCheck.{StepCheck}
use Rattle.step_referee.specs.declared.check.StepCheck.TheVariants as check
use Rattle.open_proof.specs.Collision.{step_collision}
use Rattle.open_proof.specs.CollisionLaws.{proofs_apart, proofs_collide}
use Rattle.step_referee.specs.MachineRuling.{root_led, leads_in, machine_ruling}

led : (r : StepCheck) (b : Digest32) → root_led r ≡ Some b → r ≡ check.Leads b
led (check.Leads root) b some = cc
led check.NotOpen b none = absurd cc
led check.WrongShape b none = absurd cc

-- a proof leads by the judge if and only if it is in range and its conditions hold
pub leads-exactly : (digest : List ℕ → List ℕ) (version : ℕ) (a b : Digest32) (proof : Proof)
    → (leads_in digest version a proof ≡ Some b) ↔ ((is_in_range proof ≡ true) × LeadsFrom digest version a (facts_of proof) b)
unfolding leads_in
leads-exactly digest version a b proof =
    let conditions = checked-leads digest version a (facts_of proof) b in (
      go (is_in_range proof) refl,
      λ both. ap (λ t. if t then root_led (checked digest version a (facts_of proof)) else None) both.0 ∙ ap root_led (conditions.1 both.1),
    )
  where
    go : (t : Bool) → is_in_range proof ≡ t → (if t then root_led (checked digest version a (facts_of proof)) else None) ≡ Some b
        → (is_in_range proof ≡ true) × LeadsFrom digest version a (facts_of proof) b
    go true range some = (range, (checked-leads digest version a (facts_of proof) b).0 (led (checked digest version a (facts_of proof)) b some))
    go false range none = absurd cc

steps-apart : (digest : List ℕ → List ℕ) → ((bytes : List ℕ) → length (digest bytes) ≡ 32) → (version : ℕ) (from : Digest32) (x y : Proof) (b c : Digest32) →
    leads_in digest version from x ≡ Some b → leads_in digest version from y ≡ Some c → b ≢ c
    → (pair : List ℕ × List ℕ) × (step_collision digest version from (facts_of x) (facts_of y) ≡ Some pair)
steps-apart digest is_digest version from x y b c x_leads y_leads differ =
    let first = (leads-exactly digest version from b x).0 x_leads in
    let second = (leads-exactly digest version from c y).0 y_leads in
    proofs_apart digest is_digest version from b c x y first.0 second.0 first.1 second.1 differ

-- what the judge calls a collision of proofs is one, whether they lead or not
pub steps-collide : (digest : List ℕ → List ℕ) (version : ℕ) (from : Digest32) (x y : Proof) (pair : List ℕ × List ℕ) → step_collision digest version from (facts_of x) (facts_of y) ≡ Some pair →
    IsCollision (machine_ruling digest version) (opened_by_facts digest (facts_of x)) (opened_by_facts digest (facts_of y)) pair
steps-collide digest version from x y pair some =
    let found = proofs_collide digest (facts_of x) (facts_of y) pair version from some in
    record { differ = found.differ; one_digest = found.one_digest; first_opened = found.first_opened; second_opened = found.second_opened }

-- and what it calls one of claims, whether they are sound or not
pub claims-collide : (digest : List ℕ → List ℕ) (version : ℕ) (x y : Claim) (pair : List ℕ × List ℕ) → claim_collision digest x y ≡ Some pair →
    IsCollision (machine_ruling digest version) ((machine_ruling digest version).opened_by_claim x) ((machine_ruling digest version).opened_by_claim y) pair
claims-collide digest version x y pair some =
    let found = claims_collide digest x y pair some in
    record { differ = found.differ; one_digest = found.one_digest; first_opened = found.first_opened; second_opened = found.second_opened }

pub machine_ruling_is_fair : (digest : List ℕ → List ℕ) → ((bytes : List ℕ) → length (digest bytes) ≡ 32) → (version : ℕ) → IsFair (machine_ruling digest version)
machine_ruling_is_fair digest is_digest version = record {
  claims_collide = λ x y x_sound y_sound roots none.
      claims_without_collision digest is_digest x y x_sound y_sound (ap (λ (d : Digest32). d.0) roots) none;
  claims_apart = λ x y x_sound y_sound differ. no_collision_of_two_roots digest x y (λ same. differ (λ i. record { 0 = same i }));
  claims_equal = λ x x_sound. no_collision_of_equal digest x;
  claim_collisions = λ x y pair x_sound y_sound some. claims-collide digest version x y pair some;
  steps_collide = λ from x y b c x_leads y_leads differ. steps-apart digest is_digest version from x y b c x_leads y_leads differ;
  step_collisions = λ from x y b c pair x_leads y_leads some. steps-collide digest version from x y pair some;
}
