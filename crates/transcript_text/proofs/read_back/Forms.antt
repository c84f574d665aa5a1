-- The forms of a line by what is behind each word, as `behind_or` goes through them.
use Rattle.std.proofs.Common.{ℕ, List, Option, Result, Ok, Err}
use Rattle.std.specs.Prelude.{codes, bytes_eq, if◌then◌else◌}
use Rattle.std.specs.Option.{option_map_or}
use Rattle.rd_base.specs.declared.status.Status.{Status}
use Rattle.rd_base.specs.declared.status.Status.TheVariants.{Running, Exited, Trapped}
use Rattle.rd_base.specs.Results.{◌>>=◌}
use Rattle.bisect_game.specs.declared.settled.Settled.{Settled}
use Rattle.bisect_game.specs.declared.settled.Settled.TheVariants.{Given, Faulty, Spent}
use Rattle.transcript_text.specs.declared.reader.fault.LineFault.{LineFault}
use Rattle.transcript_text.specs.declared.reader.fault.LineFault.TheVariants.{NoForm}
use Rattle.transcript_text.specs.declared.text.Stated.{Stated}
use Rattle.transcript_text.specs.declared.text.Stated.TheVariants as stated
use Rattle.transcript_text.specs.declared.reader.entries.Entry.{Entry}
use Rattle.transcript_text.specs.declared.reader.entries.Entry.TheVariants.{Move, Verdict}
use Rattle.transcript_text.specs.reader.Entries.{move_in, coded, accepted_in, collided_in, verdict_in}
use Rattle.transcript_text.specs.reader.Fields.{ReadField, behind_or, small_number_at, answer_in_hex}

abbrev pub faulty_or_spent : List ℕ → Option (List ℕ) → Result Settled LineFault
faulty_or_spent bytes o = option_map_or (λ digits. answer_in_hex digits >>= (λ a. Ok (Faulty a))) o (if bytes_eq bytes (codes "spent") then Ok Spent else Err NoForm)

abbrev pub given_or_not : List ℕ → Option (List ℕ) → Result Settled LineFault
given_or_not bytes o =
    option_map_or (λ digits. answer_in_hex digits >>= (λ a. Ok (Given a))) o (
    behind_or (codes "faulty ") bytes (λ digits. answer_in_hex digits >>= (λ a. Ok (Faulty a))) (if bytes_eq bytes (codes "spent") then Ok Spent else Err NoForm))

abbrev pub trapped_or_not : Option (List ℕ) → ReadField Status
trapped_or_not o = option_map_or (λ code. small_number_at code >>= coded Trapped) o (Err NoForm)

abbrev pub exited_or_not : List ℕ → Option (List ℕ) → ReadField Status
exited_or_not bytes o =
    option_map_or (λ code. small_number_at code >>= coded Exited) o (
    behind_or (codes "trapped ") bytes (λ code. small_number_at code >>= coded Trapped) (Err NoForm))

abbrev pub running_or_not : List ℕ → Option (List ℕ) → ReadField Status
running_or_not bytes o =
    option_map_or (λ rest. Ok (Running, rest)) o (
    behind_or (codes "exited ") bytes (λ code. small_number_at code >>= coded Exited) (
    behind_or (codes "trapped ") bytes (λ code. small_number_at code >>= coded Trapped) (Err NoForm)))

abbrev pub collided_or_none : List ℕ → Option (List ℕ) → Result Stated LineFault
collided_or_none bytes o = option_map_or collided_in o (if bytes_eq bytes (codes "none left") then Ok stated.NoneLeft else Err NoForm)

abbrev pub accepted_or_not : List ℕ → Option (List ℕ) → Result Stated LineFault
accepted_or_not bytes o =
    option_map_or accepted_in o (behind_or (codes "collision ") bytes collided_in (if bytes_eq bytes (codes "none left") then Ok stated.NoneLeft else Err NoForm))

abbrev pub move_or_verdict : List ℕ → Option (List ℕ) → Result Entry LineFault
move_or_verdict bytes o = option_map_or (λ rest. move_in rest >>= (λ x. Ok (Move x))) o (verdict_in bytes >>= (λ s. Ok (Verdict s)))
