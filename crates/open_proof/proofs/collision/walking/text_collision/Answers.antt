use Rattle.std.proofs.Common.{[], ap, ◌∙◌, sym}
use Rattle.open_proof.proofs.CodeLemmas.{collides-code, collision-first, collision-later, collision_of_none}
use Rattle.open_proof.proofs.collision.walking.text_collision.Goals as goal

pub returns : goal.returns
returns g c =
    let digest = g.D.Digester.digest_of in
    sym (collision-first digest c.args.x c.args.y [] [] (collides-code digest c.args.x c.args.y c.digest-of_x.result.0 c.digest-of_y.result.0 _
    (c.digest-of_x.ensures ∙ ap digest c.as_slice.ensures) (c.digest-of_y.ensures ∙ ap digest c.as_slice-2.ensures) c.if-not-collides.ensures))

pub returns-then-not-collides : goal.returns-then-not-collides
returns-then-not-collides g c =
    let digest = g.D.Digester.digest_of in
    sym (collision-later digest c.args.x c.args.y [] [] (collides-code digest c.args.x c.args.y c.digest-of_x.result.0 c.digest-of_y.result.0 _
    (c.digest-of_x.ensures ∙ ap digest c.as_slice.ensures) (c.digest-of_y.ensures ∙ ap digest c.as_slice-2.ensures) c.if-not-collides.ensures)
    ∙ collision_of_none digest [])
