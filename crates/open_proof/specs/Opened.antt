-- To believe: the strings of a path.
use Rattle.std.specs.Prelude.{ℕ, zero, suc, ◌+◌, List, [], ◌∷◌}

-- this many strings, from a level on
unfoldable pub texts_from : (ℕ → List ℕ) → ℕ → ℕ → List (List ℕ)
texts_from text l zero = []
texts_from text l (suc n) = text l ∷ texts_from text (l + 1) n
