-- To believe. The audit of a full text: its lines are played in order, and the first one that isn't the next legal entry is refused.
use Rattle.std.specs.Prelude.{ℕ, ◌+◌, ◌≤◌, ◌<◌, Bool, true, false, not, ◌&&◌, ◌==◌, List, [], ◌∷◌, Option, Some, None, bytes_eq, if◌then◌else◌, All}
use Rattle.rd_base.specs.declared.status.Status.{Status}
use Rattle.rd_base.specs.declared.status.Status.TheVariants.{Running, Exited, Trapped}
use Rattle.bisect_game.specs.declared.settled.Kind.{Kind}
use Rattle.bisect_game.specs.declared.settled.Question.{Question}
use Rattle.bisect_game.specs.declared.settled.Settled.{Settled}
use Rattle.bisect_game.specs.declared.settled.Settled.TheVariants.{Given, Faulty, Spent}
use Rattle.bisect_game.specs.Ruling.{Ruling}
use Rattle.bisect_game.specs.Rules.{Rules, is_fit, rules_of}
use Rattle.bisect_game.specs.Setup.{Setup}
use Rattle.tournament.specs.declared.reading.Verdict.{Verdict}
use Rattle.tournament.specs.Bracket.{Record, nothing_settled, is_complete, settle, verdict_of}
use Rattle.rd_base.specs.Questions.{same_qid}
use Rattle.transcript_text.specs.declared.text.Head.{Head}
use Rattle.transcript_text.specs.declared.text.TextMove.{TextMove}
use Rattle.transcript_text.specs.declared.text.Stated.{Stated}
use Rattle.transcript_text.specs.declared.text.Stated.TheVariants as stated
use Rattle.transcript_text.specs.declared.text.FullText.{FullText}
use Rattle.transcript_text.specs.StatedVerdict.{stated_of}
use Rattle.audit.specs.declared.finding.Cause.{Cause}
use Rattle.audit.specs.declared.finding.Cause.TheVariants.{NotAsked, OtherReply, OtherVerdict, MovesMissing, MovesAfterEnd}
use Rattle.audit.specs.declared.finding.Audit.{Audit}
use Rattle.audit.specs.declared.finding.Audit.TheVariants.{Confirmed, Refused}
use Rattle.audit.specs.NextEntry.{next}
use Rattle.std.specs.Option.{option_map_or}

-- the numbers by which the match of a head is played
abbrev pub setup_of_head : Head → Setup
setup_of_head h = record { provers = h.provers; bound = h.bound; fan = h.fan; patience = h.patience; start = h.start }

-- a judge and the numbers of a head
abbrev pub rules_of_head : Ruling → Head → Rules
rules_of_head r h = rules_of r (setup_of_head h)

-- each move is of one of `provers` provers
abbrev pub IsOfProver : ℕ → TextMove → Type 0
IsOfProver provers m = (0 < m.prover) × (m.prover ≤ provers)

abbrev pub AreOfProvers : ℕ → List TextMove → Type 0
AreOfProvers provers moves = All (IsOfProver provers) moves

-- an answer to what was asked is called what it is: given if it fits, else faulty. `spent` is taken as stated.
abbrev pub is_right : Rules → Kind → Settled → Bool
is_right rules k (Given a) = is_fit rules.ruling k a
is_right rules k (Faulty a) = not (is_fit rules.ruling k a)
is_right rules k Spent = true

abbrev pub is_move_of : TextMove → ℕ × Question → Bool
is_move_of m asked = (asked.0 == m.prover) && same_qid asked.1.qid m.qid

abbrev pub cause_by : Rules → TextMove → Option (ℕ × Question) → Option Cause
cause_by rules m None = Some NotAsked
cause_by rules m (Some asked) = if is_move_of m asked then (if is_right rules asked.1.kind m.settled then None else Some OtherReply) else Some NotAsked

-- why a move isn't the next legal entry, if it isn't
unfoldable pub cause_of : Rules → Record → TextMove → Option Cause
cause_of rules t m = if is_complete t then Some MovesAfterEnd else cause_by rules m (next t)

abbrev pub same_status : Status → Status → Bool
same_status Running Running = true
same_status (Exited x) (Exited y) = x == y
same_status (Trapped x) (Trapped y) = x == y
same_status _ _ = false

abbrev pub same_stated : Stated → Stated → Bool
same_stated (stated.Accept status output) (stated.Accept other bytes) = same_status status other && bytes_eq output bytes
same_stated stated.NoneLeft stated.NoneLeft = true
same_stated (stated.Collision x y) (stated.Collision a b) = bytes_eq x a && bytes_eq y b
same_stated _ _ = false

abbrev pub is_this : Option Stated → Stated → Bool
is_this s said = option_map_or (λ s. same_stated s said) s false

-- the verdict of a match with these claims is stated so
abbrev pub is_stated : List (Option Settled) → Verdict → Stated → Bool
is_stated claims v said = is_this (stated_of claims v) said

-- the verdict's line
abbrev pub end_of : Rules → ℕ → Stated → Record → Audit
end_of rules line said t =
    if is_complete t then (if is_stated t.claims (verdict_of rules t) said then Confirmed (verdict_of rules t) else Refused line OtherVerdict)
    else Refused line MovesMissing

-- the lines from the one with this number on, after those whose moves made this record
abbrev pub audit_from : Rules → ℕ → List TextMove → Stated → Record → Audit
audit_from rules line [] said t = end_of rules line said t
audit_from rules line (m ∷ ms) said t =
    elim (cause_of rules t m) [
      | Some cause ↦ Refused line cause
      | None ↦ audit_from rules (line + 1) ms said (settle rules m.prover m.settled t)
    ]

-- the head is line 1, and the moves begin at line 2
unfoldable pub audited : Ruling → FullText → Audit
audited ruling text =
    let rules : Rules = rules_of_head ruling text.head in
    audit_from rules 2 text.moves text.stated (nothing_settled rules)
