-- What answerers say, as lists.
use Rattle.std.proofs.Common.{◌≡◌, ℕ, zero, suc, ◌+◌, ◌<◌, List, [], ◌∷◌, map, length, get_or, set, drop, Option, refl, ap, ◌∙◌, arith}
use Rattle.rd_base.specs.declared.answer.Answer.{Answer}
use Rattle.bisect_game.specs.declared.settled.Question.{Question}
use Rattle.bisect_game.specs.Says.{Says, AnswerAs}

abbrev pub first_or : {B : Type 0} → B → List B → B
first_or d [] = d
first_or d (x ∷ xs) = x

module _ {A B : Type 0} (f : A → B) where
  -- what is said at a place
  pub said_at : (says : ℕ → B) (xs : List A) (ns : List ℕ) (i : ℕ) (d : A) (n : ℕ) → map f xs ≡ map says ns → i < length ns → f (get_or xs i d) ≡ says (get_or ns i n)
  said_at says [] [] i d n e below = absurd (omega arith)
  said_at says [] (k ∷ ns) i d n e below = let l = ap length e in absurd (omega arith)
  said_at says (x ∷ xs) [] i d n e below = absurd (omega arith)
  said_at says (x ∷ xs) (k ∷ ns) zero d n e below = ap (first_or (f x)) e
  said_at says (x ∷ xs) (k ∷ ns) (suc i) d n e below = said_at says xs ns i d n (ap (drop 1) e) (omega arith)

  -- one that says the same in its place
  pub said_again : (xs : List A) (i : ℕ) (a d : A) → f a ≡ f (get_or xs i d) → map f (set xs i a) ≡ map f xs
  said_again [] i a d e = refl
  said_again (x ∷ xs) zero a d e = ap (λ (y : B). y ∷ map f xs) e
  said_again (x ∷ xs) (suc i) a d e = ap (λ (ys : List B). f x ∷ ys) (said_again xs i a d e)

  pub as_long : (xs ys : List A) → map f xs ≡ map f ys → length xs ≡ length ys
  as_long [] [] e = refl
  as_long [] (y ∷ ys) e = let l = ap length e in absurd (omega arith)
  as_long (x ∷ xs) [] e = let l = ap length e in absurd (omega arith)
  as_long (x ∷ xs) (y ∷ ys) e = ap suc (as_long xs ys (ap (drop 1) e))

module _ {A : Type 0} (answers : A → Question → ℕ → Option Answer) (says : Says) where
  -- those that answer as they did answer as the provers
  pub answer_again : (k : ℕ) (xs ys : List A) → map answers ys ≡ map answers xs → AnswerAs answers says k xs → AnswerAs answers says k ys
  answer_again k [] [] e a = tt
  answer_again k [] (y ∷ ys) e a = let l = ap length e in absurd (omega arith)
  answer_again k (x ∷ xs) [] e a = let l = ap length e in absurd (omega arith)
  answer_again k (x ∷ xs) (y ∷ ys) e a = (ap (first_or (answers y)) e ∙ a.0, answer_again (k + 1) xs ys (ap (drop 1) e) a.1)
