-- Derived: lists after swaps, of which `serve_all` takes all back.
use Rattle.std.specs.Prelude.{ℕ, suc, List, [], ◌∷◌}
use Rattle.std.specs.List.{swap}

-- after swaps of which the first changes the places p and j, and the next p + 1 and its own
abbrev pub swapped : {X : Type 0} → ℕ → List ℕ → List X → List X
swapped p [] xs = xs
swapped p (j ∷ js) xs = swapped (suc p) js (swap xs p j)

-- after the same swaps, the last of them first
abbrev pub swapped_back : {X : Type 0} → ℕ → List ℕ → List X → List X
swapped_back p [] xs = xs
swapped_back p (j ∷ js) xs = swap (swapped_back (suc p) js xs) p j
