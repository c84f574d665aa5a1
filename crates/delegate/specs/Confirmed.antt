-- To believe. What it is worth that `audit` confirms a text.
use Rattle.std.specs.Prelude.{◌≡◌, ℕ, ◌<◌, ◌≤◌, List, ◌++◌, codes, Some, Ok}
use Rattle.rv_step.specs.State.{State}
use Rattle.transcript_text.specs.declared.text.FullText.{FullText}
use Rattle.transcript_text.specs.Lines.{line_of_stated}
use Rattle.transcript_text.specs.Report.{line_text}
use Rattle.transcript_text.specs.reader.ReadText.{read_text}
use Rattle.machine_audit.specs.MachineAudit.{IsStatedStart, AreTrueOfRun, IsAnswerOrCollision}
use Rattle.command_line.specs.Words.{chosen}
use Rattle.command_line.specs.declared.request.Command.TheVariants.{Audit}
use Rattle.digest_core.specs.Name.{digest_of}
use Rattle.delegate.specs.Outcome.{outcome}
use Rattle.delegate.specs.declared.response.Response.{Response}
use Rattle.delegate.specs.declared.response.Answered.TheVariants.{Done}

-- the bytes are a full text, and its verdict's line is written. Of every run from a state with the stated root at step 0 over the
-- stated bound, of which one prover's lines are all given and true, it states the answer, or a collision that the text opens.
pub record IsConfirmed (bytes : List ℕ) (response : Response) : Type 0 where
  pub text : FullText
  pub read : read_text bytes ≡ Ok text
  pub written : response.text ≡ codes "confirmed " ++ line_text (line_of_stated text.stated)
  pub right : (start : State) (p : ℕ) → IsStatedStart (digest_of text.head.digest) text.head start → 0 < p → p ≤ text.head.provers →
      AreTrueOfRun (digest_of text.head.digest) text start p → IsAnswerOrCollision (digest_of text.head.digest) text start text.stated

-- all is done for `audit` only if the bytes are confirmed
abbrev pub ConfirmedTextsAreRight : Type 0
ConfirmedTextsAreRight = (words : List (List ℕ)) (bytes : List ℕ) → chosen words ≡ Some Audit → (outcome words bytes).answered ≡ Done → IsConfirmed bytes (outcome words bytes)
