-- To believe. A response that was written whole, of a source whose bytes may not be visible; and, of a process, its arguments and what its
-- exit status says.
use Rattle.std.specs.Prelude.{◌≡◌, ℕ, List, Option, IfSome, ◌==◌, ◌||◌, [], Bool, true, not, Some, None, Result, Ok, Err, String, Vec}
use Rattle.std.specs.Io.KnownBytes.{Appends}
use Rattle.delegate.specs.declared.response.Response.{Response}
use Rattle.delegate.specs.declared.response.Answered.{Answered}
use Rattle.std.specs.IoError.{error_kind}
use Rattle.std.specs.declared.alloc.Global.{Global}
use Rattle.std.specs.declared.io.Error.{Error}
use Rattle.std.specs.declared.io.ErrorKind.{ErrorKind}
use Rattle.std.specs.declared.io.ErrorKind.TheVariants.{OutOfMemory}
use Rattle.clap.specs.Walk.{Text}
use Rattle.command_line.specs.Words.{texts}
use Rattle.command_line.specs.declared.request.Command.{Command}
use Rattle.delegate.specs.Answered.{status_number, is_answer_to}

-- THE BYTES OF A SOURCE, which may not be visible

-- P of bytes that a source may have had: of its own if they are visible, and of some if they aren't
abbrev pub ForItsBytes : Option (List ℕ) → (List ℕ → Type 0) → Type 0
ForItsBytes left P = (bytes : List ℕ) × IfSome left (λ all. all ≡ bytes) × P bytes

-- what was answered, and what the sink took, if its bytes are visible
pub record IsWritten (response : Response) (result : Answered) (before now : Option (List ℕ)) : Type 0 where
  pub answered : result ≡ response.answered
  pub text : Appends before now response.text

-- A PROCESS

-- the arguments, if reading them failed with this kind: none, which name no command, and nothing if memory ran out
abbrev pub given_after : ErrorKind → Option (List Text)
given_after OutOfMemory = None
given_after _ = Some []

-- the arguments as they were read
abbrev pub words_given : Result (Vec (String Global) Global) Error → Option (List Text)
words_given (Ok words) = Some (texts words.items)
words_given (Err error) = given_after (error_kind error)

-- a status with which a whole text is written
abbrev pub is_written_whole : ℕ → Bool
is_written_whole status = not (status == 5 || status == 6 || status == 9)

-- a status with which the source was read to its end, if the arguments name a command that reads
abbrev pub is_read_whole : ℕ → Bool
is_read_whole status = not (status == 2 || status == 5 || status == 6 || status == 9 || status == 12)

-- a response that was written whole, and whose status it is
pub record IsWrittenBy (response : Response) (status : ℕ) (before now : Option (List ℕ)) : Type 0 where
  pub status_is : status ≡ status_number response.answered
  pub text : Appends before now response.text

-- a status of an answer that the command has, or that arguments have which name none
pub record IsStatusOf (command : Option Command) (status : ℕ) : Type 0 where
  pub answered : Answered
  pub status_is : status ≡ status_number answered
  pub of_command : is_answer_to command answered ≡ true
