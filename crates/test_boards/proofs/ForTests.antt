-- What the tests' own functions need.
use Rattle.std.proofs.Common.{◌≡◌, List, [], ◌∷◌, map, length, refl, ap, arith}

-- where nothing is said of the elements, only the length tells
pub map_unit : {A B : Type 0} (xs : List A) (ys : List B) → length xs ≡ length ys → map (λ (a : A). tt {0}) xs ≡ map (λ (b : B). tt {0}) ys
map_unit [] [] e = refl
map_unit [] (y ∷ ys) e = absurd (omega arith)
map_unit (x ∷ xs) [] e = absurd (omega arith)
map_unit (x ∷ xs) (y ∷ ys) e = ap (λ l. tt {0} ∷ l) (map_unit xs ys (omega arith))
