use Rattle.std.proofs.Common.{◌≡◌, ◌⊎◌, ◌↔◌, ℕ, ◌+◌, ◌≤◌, List, sym, ap, subst, ◌∙◌}
use Rattle.rd_base.specs.declared.digest.Digest32.{Digest32}
use Rattle.rd_base.specs.declared.proof.Proof.{Proof}
use Rattle.open_proof.specs.Conditions.{AllHold, FirstFails, LeadsFrom, conditions}
use Rattle.open_proof.specs.Conditions.Refusal.{opening, shape}
use Rattle.open_proof.specs.Facts.{facts_of}
use Rattle.open_proof.specs.declared.facts.Facts.{Facts}
use Rattle.open_proof.specs.StateCollision.{IsStateCollision}
use Rattle.rv_step.specs.Step.{step}
use Rattle.state_commit.specs.StateRoot.{root_in}
use Rattle.step_referee.specs.Tests.{checked, checked_ticks}
use Rattle.step_referee.specs.Ticks.{TicksUntil, condition_digests, opening_digests, step_ticks, ticks_of}
use Rattle.step_referee.specs.declared.check.StepCheck.{StepCheck}
use Rattle.step_referee.specs.declared.check.StepCheck.TheVariants as check
use Rattle.step_referee.proofs.BoundLemmas.{IsShaped, bounded}
use Rattle.step_referee.specs.TestLaws.{checked-leads, checked-fails, checked-ticks}
use Rattle.step_referee.proofs.check.check_step.Goals as goal

pub returns-clause-leads : goal.returns-clause-leads
returns-clause-leads g c = λ b.
    let digest = g.D.Digester.digest_of in
    let facts = facts_of c.args.proof.now in
    let value = c.check_facts.ensures.value ∙ ap (checked digest c.args.version c.args.a) c.facts_of-facts.ensures in
    subst (λ (r : StepCheck). (r ≡ check.Leads b) ↔ LeadsFrom digest c.args.version c.args.a facts b) (sym value) (checked-leads digest c.args.version c.args.a facts b)

pub returns-clause-not_open : goal.returns-clause-not_open
returns-clause-not_open g c =
    let digest = g.D.Digester.digest_of in
    let facts = facts_of c.args.proof.now in
    let value = c.check_facts.ensures.value ∙ ap (checked digest c.args.version c.args.a) c.facts_of-facts.ensures in
    subst (λ (r : StepCheck). (r ≡ check.NotOpen) ↔ FirstFails opening (conditions digest c.args.version c.args.a facts)) (sym value) (checked-fails digest c.args.version c.args.a facts opening)

pub returns-clause-wrong_shape : goal.returns-clause-wrong_shape
returns-clause-wrong_shape g c =
    let digest = g.D.Digester.digest_of in
    let facts = facts_of c.args.proof.now in
    let value = c.check_facts.ensures.value ∙ ap (checked digest c.args.version c.args.a) c.facts_of-facts.ensures in
    subst (λ (r : StepCheck). (r ≡ check.WrongShape) ↔ FirstFails shape (conditions digest c.args.version c.args.a facts)) (sym value) (checked-fails digest c.args.version c.args.a facts shape)

pub returns-clause-counted : goal.returns-clause-counted
returns-clause-counted g c =
    let digest = g.D.Digester.digest_of in
    let old = c.args.steps.now in
    let facts = facts_of c.args.proof.now in
    let now' = c.check_facts.ensures.counted ∙ ap (λ (f : Facts). checked_ticks digest c.args.version c.args.a f old) c.facts_of-facts.ensures in
    subst (TicksUntil (conditions digest c.args.version c.args.a facts) (condition_digests facts) (step_ticks digest facts) old) (sym now') (checked-ticks digest c.args.version c.args.a facts old)

-- the conditions of shape
shapes : (digest : List ℕ → List ℕ) (version : ℕ) (a : Digest32) (facts : Facts) → AllHold (conditions digest version a facts) → IsShaped facts
shapes digest version a facts all = (all.1.1.1.1.1.1.0, all.1.1.1.1.1.1.1.1.0)

both : (digest : List ℕ → List ℕ) (version : ℕ) (a : Digest32) (proof : Proof) (facts : Facts) (r : StepCheck) (old new : ℕ) → facts ≡ facts_of proof → r ≡ checked digest version a facts
    → ((b : Digest32) → r ≡ check.Leads b → new ≡ old + ticks_of digest facts) → (r ≡ check.NotOpen → new ≤ old + opening_digests facts) → (r ≡ check.WrongShape → new ≤ old + opening_digests facts)
    → ((b : Digest32) → r ≡ check.Leads b → (new ≡ old + ticks_of digest (facts_of proof)) × IsShaped (facts_of proof))
both digest version a proof facts r old new same value exactly not_open wrong_shape = λ b is.
    let leads = (checked-leads digest version a (facts_of proof) b).0 (sym (value ∙ ap (checked digest version a) same) ∙ is) in
    (exactly b is ∙ ap (λ (f : Facts). old + ticks_of digest f) same, shapes digest version a (facts_of proof) leads.hold)

pub returns-clause-few : goal.returns-clause-few
returns-clause-few g c =
    let digest = g.D.Digester.digest_of in
    let old = c.args.steps.now in
    let new = c.check_facts.new.steps in
    let same = c.facts_of-facts.ensures in
    (bounded digest c.args.proof.now c.check_facts.result old new
    (both digest c.args.version c.args.a c.args.proof.now c.facts_of-facts.result c.check_facts.result old new same c.check_facts.ensures.value c.check_facts.ensures.exactly c.check_facts.ensures.not_open c.check_facts.ensures.wrong_shape)
    (λ is. subst (λ (f : Facts). new ≤ old + opening_digests f) same (c.check_facts.ensures.not_open is))
    (λ is. subst (λ (f : Facts). new ≤ old + opening_digests f) same (c.check_facts.ensures.wrong_shape is))).0

pub returns-clause-alone : goal.returns-clause-alone
returns-clause-alone g c =
    let digest = g.D.Digester.digest_of in
    let old = c.args.steps.now in
    let new = c.check_facts.new.steps in
    let same = c.facts_of-facts.ensures in
    (bounded digest c.args.proof.now c.check_facts.result old new
    (both digest c.args.version c.args.a c.args.proof.now c.facts_of-facts.result c.check_facts.result old new same c.check_facts.ensures.value c.check_facts.ensures.exactly c.check_facts.ensures.not_open c.check_facts.ensures.wrong_shape)
    (λ is. subst (λ (f : Facts). new ≤ old + opening_digests f) same (c.check_facts.ensures.not_open is))
    (λ is. subst (λ (f : Facts). new ≤ old + opening_digests f) same (c.check_facts.ensures.wrong_shape is))).1

pub returns-clause-next : goal.returns-clause-next
returns-clause-next g c = λ s b valid version root leads.
    let digest = g.D.Digester.digest_of in
    let proof = c.args.proof.now in
    let value = c.check_facts.ensures.value ∙ ap (checked digest c.args.version c.args.a) c.facts_of-facts.ensures in
    let holds = (checked-leads digest c.args.version c.args.a (facts_of proof) b).0 (sym value ∙ leads) in
    let led = c.proofs_lead_to_the_next_state.ensures digest g.met.D.Digester.is_digest proof s c.args.a b c.proofs_are_in_range.ensures valid
    (root ∙ ap (λ v. root_in digest v s) (sym version)) (subst (λ v. LeadsFrom digest v c.args.a (facts_of proof) b) (sym version) holds) in
    subst (λ v. (b.0 ≡ root_in digest v (step s)) ⊎ ((pair : List ℕ × List ℕ) × IsStateCollision digest (facts_of proof) s pair)) version led
