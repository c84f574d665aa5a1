use Rattle.std.proofs.Common.{◌≡◌, Some, None, IfSome, sym, ◌∙◌}
use Rattle.out_chain.specs.Collision.{claim_collision, IsClaimCollision}
use Rattle.out_chain.specs.ClaimLaws.{claims_collide, no_collision_exactly}
use Rattle.out_chain.proofs.colliding.claim_collision.Goals as goal

pub returns-clause-none : goal.returns-clause-none
returns-clause-none g c = λ first_sound second_sound.
    let exactly = no_collision_exactly g.D.Digester.digest_of g.met.D.Digester.is_digest c.args.first.now c.args.second.now first_sound second_sound in
    (λ none. exactly.0 (sym c.opened_collision.ensures ∙ none), λ either. c.opened_collision.ensures ∙ exactly.1 either)

pub returns-clause-pair : goal.returns-clause-pair
returns-clause-pair g c =
    let digest = g.D.Digester.digest_of in
    let x = c.args.first.now in
    let y = c.args.second.now in
    elim c.opened_collision.result as (λ r. r ≡ claim_collision digest x y → IfSome r (IsClaimCollision digest x y)) [
      | Some pair ↦ λ is. claims_collide digest x y pair (sym is)
      | None ↦ λ is. tt
    ] c.opened_collision.ensures
