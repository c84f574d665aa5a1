use Rattle.std.proofs.Common.{◌≡◌, ℕ, Option, ◌∷◌, [], inl, inr, refl, sym, subst, ◌∙◌, ⊎_elim}
use Rattle.std.proofs.lemmas.Bool.{cases_eq}
use Rattle.checkpoint_run.specs.NamedPages.{IsNamed}
use Rattle.checkpoint_run.proofs.VersionLemmas.{added_below, added_elsewhere}
use Rattle.checkpoint_run.proofs.recording.note_changed_page.Goals as goal

pub returns-in_ok-insert-in-Some-clause-pages : goal.returns-in_ok-insert-in-Some-clause-pages
returns-in_ok-insert-in-Some-clause-pages c pages below =
    let page = c.in-Some.page in
    let P : Option ℕ → Type 0 = λ o. IsNamed page (o ∷ []) in
    added_below page c.args.changed.now.keys c.insert.new.self.keys c.in_ok-insert-in-Some.ensures.updates.0 (pages page (subst P (sym c.in-Some.is) (inl refl))) below

pub returns-in_ok-insert-in-Some-clause-only : goal.returns-in_ok-insert-in-Some-clause-only
returns-in_ok-insert-in-Some-clause-only c p there =
    let page = c.in-Some.page in
    let P : Option ℕ → Type 0 = λ o. IsNamed p (o ∷ []) in
    ⊎_elim
    (λ (same : p ≡ page). inr (subst P (sym c.in-Some.is) (inl (sym same))))
    (λ other. inl (sym (added_elsewhere page c.args.changed.now.keys c.insert.new.self.keys c.in_ok-insert-in-Some.ensures.updates.0 p other) ∙ there))
    (cases_eq p page)
