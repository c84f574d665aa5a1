-- To believe: what the provers of a match say, and which answerers answer as they say.
use Rattle.std.specs.Prelude.{◌≡◌, ℕ, ◌+◌, List, [], ◌∷◌, Option, Some}
use Rattle.rd_base.specs.declared.answer.Answer.{Answer}
use Rattle.bisect_game.specs.declared.settled.Question.{Question}

-- what a prover answers to a question after this many passes on it; None is a pass
abbrev pub Says : Type 0
Says = ℕ → Question → ℕ → Option Answer

-- to one question a prover gives one answer, after however many passes
abbrev pub GiveOneAnswer : Says → Type 0
GiveOneAnswer says = (p : ℕ) (q : Question) (n k : ℕ) (a b : Answer) → says p q n ≡ Some a → says p q k ≡ Some b → a ≡ b

-- each of these answers as the prover of its number, from this one on
abbrev pub AnswerAs : {A : Type 0} → (A → Question → ℕ → Option Answer) → Says → ℕ → List A → Type 0
AnswerAs answers says p [] = Unit {0}
AnswerAs answers says p (a ∷ rest) = (answers a ≡ says p) × AnswerAs answers says (p + 1) rest
