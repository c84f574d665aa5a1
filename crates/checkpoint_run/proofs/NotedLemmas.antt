-- Pages that were noted lately.
use Rattle.std.proofs.Common.{◌≡◌, ℕ, zero, suc, List, Option, Some, None, replicate, get_or, refl, sym, ◌∙◌}
use Rattle.std.proofs.lemmas.Option.{none-some}
use Rattle.checkpoint_run.specs.NotedPages.{AreNoted}

at-none : (o : Option ℕ) (n k : ℕ) → get_or (replicate n o) k o ≡ o
at-none o zero k = refl
at-none o (suc n) zero = refl
at-none o (suc n) (suc k) = at-none o n k

-- where no place names a page, none is named
pub none_noted : (n : ℕ) (pages : List ℕ) → AreNoted (replicate n None) pages
none_noted n pages k p is = absurd (none-some p (sym (at-none None n k) ∙ is))

-- what isn't a page is none
pub none_only : (R : Option ℕ → Type 0) → ((p : ℕ) → R (Some p) → ⊥) → (o : Option ℕ) → R o → o ≡ None
none_only R not None is = refl
none_only R not (Some p) is = absurd (not p is)
