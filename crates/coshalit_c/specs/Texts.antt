-- To believe. What a caller gets of a command: its exit status, how many bytes its text has, and as much of the text as there is room for.
use Rattle.std.specs.Prelude.{◌≡◌, ℕ, List, ◌++◌, length, take, drop}
use Rattle.delegate.specs.Alone.{IsOutcomeOf}
use Rattle.delegate.specs.Answered.{status_number}
use Rattle.delegate.specs.declared.commands.Alone.{Alone}
use Rattle.delegate.specs.declared.response.Response.{Response}
use Rattle.coshalit_c.specs.declared.texts.CoshalitAnswer.{CoshalitAnswer}

-- the status and the length are those of the response, and its text is in the first bytes of the caller's room, as far as there are
-- any; those behind it stay
pub record IsWrittenTo (response : Response) (answer : CoshalitAnswer) (before now : List ℕ) : Type 0 where
  pub status : answer.status ≡ status_number response.answered
  pub size : answer.length ≡ length response.text
  pub room : now ≡ take (length before) response.text ++ drop (length response.text) before

-- the outcome of the command on these bytes, as the program gives it for all arguments that name the command
pub record IsOutcome (command : Alone) (bytes : List ℕ) (answer : CoshalitAnswer) (before now : List ℕ) : Type 0 where
  pub response : Response
  pub outcome : IsOutcomeOf command bytes response
  pub written : IsWrittenTo response answer before now

-- there is no text, and the caller's room is as it was
pub record IsUntouched (answer : CoshalitAnswer) (before now : List ℕ) : Type 0 where
  pub size : answer.length ≡ 0
  pub room : now ≡ before
