-- To believe. The forms of a full text's lines: the head, a move, the verdict.
use Rattle.std.specs.Prelude.{ℕ, nat_lt, List, [], ◌∷◌, length, Result, Ok, Err, codes, bytes_eq, if◌then◌else◌}
use Rattle.std.specs.Option.{ok_or}
use Rattle.rd_base.specs.declared.status.Status.{Status}
use Rattle.rd_base.specs.declared.status.Status.TheVariants.{Running, Exited, Trapped}
use Rattle.rd_base.specs.Results.{◌>>=◌}
use Rattle.bisect_game.specs.declared.settled.Settled.{Settled}
use Rattle.bisect_game.specs.declared.settled.Settled.TheVariants.{Given, Faulty, Spent}
use Rattle.transcript_text.specs.declared.reader.fault.LineFault.{LineFault}
use Rattle.transcript_text.specs.declared.reader.fault.LineFault.TheVariants.{NoForm}
use Rattle.transcript_text.specs.declared.text.TextMove.{TextMove}
use Rattle.transcript_text.specs.declared.text.Stated.{Stated}
use Rattle.transcript_text.specs.declared.text.Stated.TheVariants as stated
use Rattle.transcript_text.specs.declared.reader.entries.Entry.{Entry}
use Rattle.transcript_text.specs.declared.reader.entries.Entry.TheVariants.{Move, Verdict}
use Rattle.transcript_text.specs.declared.reader.entries.HeadNumbers.{HeadNumbers}
use Rattle.transcript_text.specs.reader.TextLines.{cut_at}
use Rattle.transcript_text.specs.reader.Fields.{ReadField, behind_or, skip_word, small_number_at, number_after, some_bytes_in_hex, digest_in_hex, answer_in_hex, name_at}

-- THE HEAD: `refereed provers M bound N patience P version V fan F digest NAME start HEX`
unfoldable pub head_in : List ℕ → Result HeadNumbers LineFault
head_in line = do
  provers ← number_after (codes "refereed provers ") line
  bound ← number_after (codes " bound ") provers.1
  patience ← number_after (codes " patience ") bound.1
  version ← number_after (codes " version ") patience.1
  fan ← number_after (codes " fan ") version.1
  digits ← skip_word (codes " digest ") fan.1
  name ← name_at digits
  root ← skip_word (codes " start ") name.1
  start ← digest_in_hex root
  Ok (record { provers = provers.0; bound = bound.0; patience = patience.0; version = version.0; fan = fan.0; digest = name.0; start = start })

-- A MOVE: `move D R pI given HEX`, `move D R pI faulty HEX` or `move D R pI spent`

unfoldable pub settlement_in : List ℕ → Result Settled LineFault
settlement_in bytes =
    behind_or (codes "given ") bytes (λ digits. answer_in_hex digits >>= (λ a. Ok (Given a))) (
    behind_or (codes "faulty ") bytes (λ digits. answer_in_hex digits >>= (λ a. Ok (Faulty a))) (
    if bytes_eq bytes (codes "spent") then Ok Spent else Err NoForm))

-- behind `move `
unfoldable pub move_in : List ℕ → Result TextMove LineFault
move_in bytes = do
  dispute ← small_number_at bytes
  behind ← skip_word (codes " ") dispute.1
  round ← small_number_at behind
  name ← skip_word (codes " p") round.1
  prover ← small_number_at name
  rest ← skip_word (codes " ") prover.1
  s ← settlement_in rest
  Ok (record { qid = record { dispute = dispute.0; round = round.0 }; prover = prover.0; settled = s })

-- THE VERDICT: `accept STATE output`, with a space and bytes if there are any, `none left` or `collision HEX HEX`

abbrev pub coded : (ℕ → Status) → ℕ × List ℕ → Result (Status × List ℕ) LineFault
coded status code = Ok (status code.0, code.1)

unfoldable pub status_at : List ℕ → ReadField Status
status_at bytes =
    behind_or (codes "running") bytes (λ rest. Ok (Running, rest)) (
    behind_or (codes "exited ") bytes (λ code. small_number_at code >>= coded Exited) (
    behind_or (codes "trapped ") bytes (λ code. small_number_at code >>= coded Trapped) (Err NoForm)))

unfoldable pub output_in : List ℕ → Result (List ℕ) LineFault
output_in [] = Ok []
output_in (b ∷ bytes) = skip_word (codes " ") (b ∷ bytes) >>= some_bytes_in_hex

-- behind `accept `
unfoldable pub accepted_in : List ℕ → Result Stated LineFault
accepted_in bytes = do
  status ← status_at bytes
  rest ← skip_word (codes " output") status.1
  output ← output_in rest
  Ok (stated.Accept status.0 output)

-- a string that is digested: at most 129 bytes, and not none
unfoldable pub string_in : List ℕ → Result (List ℕ) LineFault
string_in digits = do
  bytes ← some_bytes_in_hex digits
  if nat_lt 129 (length bytes) then Err NoForm else Ok bytes

-- behind `collision `
unfoldable pub collided_in : List ℕ → Result Stated LineFault
collided_in bytes = do
  both ← ok_or (cut_at 32 bytes) NoForm
  first ← string_in both.0
  second ← string_in both.1
  Ok (stated.Collision first second)

unfoldable pub verdict_in : List ℕ → Result Stated LineFault
verdict_in bytes =
    behind_or (codes "accept ") bytes accepted_in (
    behind_or (codes "collision ") bytes collided_in (
    if bytes_eq bytes (codes "none left") then Ok stated.NoneLeft else Err NoForm))

-- a later line: a move or the verdict
unfoldable pub entry_in : List ℕ → Result Entry LineFault
entry_in bytes = behind_or (codes "move ") bytes (λ rest. move_in rest >>= (λ x. Ok (Move x))) (verdict_in bytes >>= (λ s. Ok (Verdict s)))
