-- To believe. `audit`: the full text that is read, checked line by line before the judge of the machine, and its verdict.
use Rattle.std.specs.Prelude.{ℕ, List, [], ◌++◌, codes, decimal, Result, Ok}
use Rattle.rd_base.specs.Results.{◌>>=◌}
use Rattle.bisect_game.specs.Ruling.{Ruling}
use Rattle.step_referee.specs.MachineRuling.{machine_ruling}
use Rattle.transcript_text.specs.declared.text.FullText.{FullText}
use Rattle.transcript_text.specs.declared.text.Stated.{Stated}
use Rattle.transcript_text.specs.Lines.{line_of_stated}
use Rattle.transcript_text.specs.Report.{line_text}
use Rattle.transcript_text.specs.declared.reader.fault.TextFault.{TextFault}
use Rattle.transcript_text.specs.declared.reader.fault.TextFault.TheVariants.{BadHead, BadLine, Truncated, OutOfRange, Memory}
use Rattle.transcript_text.specs.reader.ReadText.{read_text}
use Rattle.audit.specs.declared.finding.Cause.{Cause}
use Rattle.audit.specs.declared.finding.Cause.TheVariants.{NotAsked, OtherReply, OtherVerdict, MovesMissing, MovesAfterEnd}
use Rattle.audit.specs.declared.finding.Audit.{Audit}
use Rattle.audit.specs.declared.finding.Audit.TheVariants.{Confirmed, Refused}
use Rattle.audit.specs.LineByLine.{audited}
use Rattle.digest_core.specs.Name.{digest_of}
use Rattle.delegate.specs.Refusal.{or_refusal}
use Rattle.delegate.specs.declared.response.Response.{Response}
use Rattle.delegate.specs.declared.response.Answered.TheVariants.{Done, AuditRefused}

-- the first fault of a text, with its line if it says one
abbrev pub text_fault_text : TextFault → List ℕ
text_fault_text BadHead = codes "fault text 1\n"
text_fault_text (BadLine line) = codes "fault text 2 " ++ (decimal line ++ codes "\n")
text_fault_text Truncated = codes "fault text 3\n"
text_fault_text (OutOfRange line) = codes "fault text 4 " ++ (decimal line ++ codes "\n")
text_fault_text Memory = []

abbrev pub text_refusal : TextFault → Response
text_refusal fault = record { answered = AuditRefused; text = text_fault_text fault }

-- the number of a cause
abbrev pub cause_number : Cause → ℕ
cause_number NotAsked = 1
cause_number OtherReply = 2
cause_number OtherVerdict = 3
cause_number MovesMissing = 4
cause_number MovesAfterEnd = 5

-- a text is confirmed with the line of its verdict, or refused with a line and a cause
abbrev pub response_to_finding : Stated → Audit → Response
response_to_finding stated (Confirmed verdict) = record { answered = Done; text = codes "confirmed " ++ line_text (line_of_stated stated) }
response_to_finding stated (Refused line cause) = record { answered = AuditRefused; text = codes "refused " ++ (decimal line ++ (codes " " ++ (decimal (cause_number cause) ++ codes "\n"))) }

-- before the judge of the machine in the version and by the digest that its head names
abbrev pub ruling_of_text : FullText → Ruling
ruling_of_text text = machine_ruling (digest_of text.head.digest) text.head.version

unfoldable pub audit_response : List ℕ → Result Response Response
audit_response bytes = do
  text ← or_refusal text_refusal (read_text bytes)
  Ok (response_to_finding text.stated (audited (ruling_of_text text) text))
