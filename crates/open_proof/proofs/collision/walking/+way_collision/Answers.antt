use Rattle.std.proofs.Common.{◌≡◌, length, Some, true, false, refl, sym, ap, subst, ◌∙◌}
use Rattle.out_chain.specs.Collision.{collides}
use Rattle.open_proof.specs.Slots.{way_above}
use Rattle.open_proof.specs.Ways.{Way}
use Rattle.open_proof.proofs.CodeLemmas.{collides-code}
use Rattle.open_proof.proofs.ClimbLemmas.{ways-first, ways-end, ways-end_second, ways-on}
use Rattle.open_proof.proofs.collision.walking.+way_collision.Goals as goal

pub returns-then-collides : goal.returns-then-collides
returns-then-collides g t c =
    let digest = g.D.Digester.digest_of in
    let x = c.args.x.now in
    let y = c.args.y.now in
    let text_x : c.x.inside.text ≡ x.text = ap (λ (w : Way). w.text) c.x.view_is in
    let text_y : c.y.inside.text ≡ y.text = ap (λ (w : Way). w.text) c.y.view_is in
    let test : collides digest x.text y.text ≡ true = ap (λ text. collides digest text y.text) (sym text_x) ∙ (ap (collides digest c.x.inside.text) (sym text_y)
    ∙ collides-code digest c.x.inside.text c.y.inside.text c.digest-of_x.result.0 c.digest-of_y.result.0 _ (c.digest-of_x.ensures ∙ ap digest c.as_slice.ensures) (c.digest-of_y.ensures ∙ ap digest c.as_slice-2.ensures) c.if-collides.ensures) in
    ap (λ text. Some (text, c.copy-then-collides.result)) (c.copy.ensures ∙ text_x) ∙ (ap (λ text. Some (x.text, text)) (c.copy-then-collides.ensures ∙ text_y)
    ∙ ways-first digest x y (subst (λ (w : Way). w.levels ≡ length w.siblings) c.x.view_is refl) (subst (λ (w : Way). w.levels ≡ length w.siblings) c.y.view_is refl) test)

pub returns-in-Some-above : goal.returns-in-Some-above
returns-in-Some-above g t c =
    let digest = g.D.Digester.digest_of in
    let x = c.args.x.now in
    let y = c.args.y.now in
    let text_x : c.x.inside.text ≡ x.text = ap (λ (w : Way). w.text) c.x.view_is in
    let text_y : c.y.inside.text ≡ y.text = ap (λ (w : Way). w.text) c.y.view_is in
    let test : collides digest x.text y.text ≡ false = ap (λ text. collides digest text y.text) (sym text_x) ∙ (ap (collides digest c.x.inside.text) (sym text_y)
    ∙ collides-code digest c.x.inside.text c.y.inside.text c.digest-of_x.result.0 c.digest-of_y.result.0 _ (c.digest-of_x.ensures ∙ ap digest c.as_slice.ensures) (c.digest-of_y.ensures ∙ ap digest c.as_slice-2.ensures) c.if-collides.ensures) in
    c.way_collision.ensures
    ∙ ways-on digest x y c.in-Some.x_rest c.in-Some-above.y_rest (subst (λ (w : Way). w.levels ≡ length w.siblings) c.x.view_is refl) (subst (λ (w : Way). w.levels ≡ length w.siblings) c.y.view_is refl) test
    (c.in-Some.ensures ∙ ap (way_above x) (c.digest-of_x.ensures ∙ ap digest (c.as_slice.ensures ∙ text_x)))
    (c.in-Some-above.ensures ∙ ap (way_above y) (c.digest-of_y.ensures ∙ ap digest (c.as_slice-2.ensures ∙ text_y)))

pub returns-in-None-above : goal.returns-in-None-above
returns-in-None-above g t c =
    let digest = g.D.Digester.digest_of in
    let x = c.args.x.now in
    let y = c.args.y.now in
    let text_x : c.x.inside.text ≡ x.text = ap (λ (w : Way). w.text) c.x.view_is in
    let text_y : c.y.inside.text ≡ y.text = ap (λ (w : Way). w.text) c.y.view_is in
    let test : collides digest x.text y.text ≡ false = ap (λ text. collides digest text y.text) (sym text_x) ∙ (ap (collides digest c.x.inside.text) (sym text_y)
    ∙ collides-code digest c.x.inside.text c.y.inside.text c.digest-of_x.result.0 c.digest-of_y.result.0 _ (c.digest-of_x.ensures ∙ ap digest c.as_slice.ensures) (c.digest-of_y.ensures ∙ ap digest c.as_slice-2.ensures) c.if-collides.ensures) in
    ways-end_second digest x y (subst (λ (w : Way). w.levels ≡ length w.siblings) c.x.view_is refl) (subst (λ (w : Way). w.levels ≡ length w.siblings) c.y.view_is refl) test
    (c.in-None-above.ensures ∙ ap (way_above y) (c.digest-of_y.ensures ∙ ap digest (c.as_slice-2.ensures ∙ text_y)))

pub returns-in-None : goal.returns-in-None
returns-in-None g t c =
    let digest = g.D.Digester.digest_of in
    let x = c.args.x.now in
    let y = c.args.y.now in
    let text_x : c.x.inside.text ≡ x.text = ap (λ (w : Way). w.text) c.x.view_is in
    let text_y : c.y.inside.text ≡ y.text = ap (λ (w : Way). w.text) c.y.view_is in
    let test : collides digest x.text y.text ≡ false = ap (λ text. collides digest text y.text) (sym text_x) ∙ (ap (collides digest c.x.inside.text) (sym text_y)
    ∙ collides-code digest c.x.inside.text c.y.inside.text c.digest-of_x.result.0 c.digest-of_y.result.0 _ (c.digest-of_x.ensures ∙ ap digest c.as_slice.ensures) (c.digest-of_y.ensures ∙ ap digest c.as_slice-2.ensures) c.if-collides.ensures) in
    ways-end digest x y (subst (λ (w : Way). w.levels ≡ length w.siblings) c.x.view_is refl) (subst (λ (w : Way). w.levels ≡ length w.siblings) c.y.view_is refl) test
    (c.in-None.ensures ∙ ap (way_above x) (c.digest-of_x.ensures ∙ ap digest (c.as_slice.ensures ∙ text_x)))
