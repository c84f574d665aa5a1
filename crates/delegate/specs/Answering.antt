-- To believe. Which answers a command has, and that each refusal says why.
use Rattle.std.specs.Prelude.{◌≡◌, ◌≢◌, ℕ, true, List, []}
use Rattle.command_line.specs.Words.{chosen}
use Rattle.delegate.specs.Answered.{is_answer_to, is_refusal}
use Rattle.delegate.specs.Outcome.{outcome}

-- each outcome has an answer of the command that the arguments name
abbrev pub EachCommandHasItsAnswers : Type 0
EachCommandHasItsAnswers = (words : List (List ℕ)) (bytes : List ℕ) → is_answer_to (chosen words) (outcome words bytes).answered ≡ true

-- what is refused is refused with a text: no rule of a case, of an image or of a full text is that memory ran out
abbrev pub EachRefusalSaysWhy : Type 0
EachRefusalSaysWhy = (words : List (List ℕ)) (bytes : List ℕ) → is_refusal (outcome words bytes).answered ≡ true → (outcome words bytes).text ≢ []
