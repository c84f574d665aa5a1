use Rattle.std.proofs.Common.{ℕ, Option, ◌∷◌, [], inl, refl, sym, subst}
use Rattle.checkpoint_run.specs.NamedPages.{IsNamed}
use Rattle.segment_replay.proofs.cursor.touch_named.Goals as goal

pub touch-requires : goal.touch-requires
touch-requires g c =
    let page = c.in-Some.page in
    let P : Option ℕ → Type 0 = λ o. IsNamed page (o ∷ []) in
    c.requires page (subst P (sym c.in-Some.is) (inl refl))
