use Rattle.std.proofs.Common.{◌≡◌, Some, None, IfSome, sym, ap, ◌∙◌}
use Rattle.rd_base.specs.declared.proof.Proof.{Proof}
use Rattle.open_proof.specs.Facts.{facts_of}
use Rattle.open_proof.specs.Collision.{step_collision, IsStepCollision}
use Rattle.open_proof.specs.CollisionLaws.{no_collision_of_one_proof, proofs_collide, proofs_without_collision}
use Rattle.open_proof.proofs.collision.step_collision.Goals as goal

pub returns-clause-none : goal.returns-clause-none
returns-clause-none g c = λ b d first_leads second_leads.
    let digest = g.D.Digester.digest_of in
    let is = c.collision_between.ensures in (
      λ none. proofs_without_collision digest g.met.D.Digester.is_digest c.args.version c.args.a b d c.args.first.now c.args.second.now c.proofs_are_in_range.ensures c.proofs_are_in_range-2.ensures first_leads second_leads (sym is ∙ none),
      λ same. is ∙ (ap (λ (p : Proof). step_collision digest c.args.version c.args.a (facts_of c.args.first.now) (facts_of p)) (sym same) ∙ no_collision_of_one_proof digest c.args.version c.args.a (facts_of c.args.first.now)),
    )

pub returns-clause-pair : goal.returns-clause-pair
returns-clause-pair g c =
    let digest = g.D.Digester.digest_of in
    let x = facts_of c.args.first.now in
    let y = facts_of c.args.second.now in
    elim c.collision_between.result as (λ r. r ≡ step_collision digest c.args.version c.args.a x y → IfSome r (IsStepCollision digest x y)) [
      | Some pair ↦ λ is. proofs_collide digest x y pair c.args.version c.args.a (sym is)
      | None ↦ λ is. tt
    ] c.collision_between.ensures
