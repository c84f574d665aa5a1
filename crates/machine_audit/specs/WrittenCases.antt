-- To believe. What is written of a match that the machine's judge decides is read and confirmed: whatever collision it calls, a text can
-- state its strings.
use Rattle.std.specs.Prelude.{◌≡◌, ℕ, List}
use Rattle.bisect_game.specs.Rules.{Rules}
use Rattle.bisect_game.specs.Says.{Says}
use Rattle.tournament.specs.Bracket.{Record, verdict_of, bracket}
use Rattle.tournament.specs.Journals.{answers_of}
use Rattle.tournament.specs.Posting.{Post, record_after}
use Rattle.step_referee.specs.MachineRuling.{machine_ruling}
use Rattle.transcript_text.specs.declared.text.Head.{Head}
use Rattle.transcript_text.specs.MoveLists.{moves_of}
use Rattle.transcript_text.specs.FullLines.{AreWritten}
use Rattle.transcript_text.specs.reader.InLimits.{IsHeadInLimits}
use Rattle.transcript_text.specs.reader.Laws.{HasStrings}
use Rattle.audit.specs.OwnMatch.{IsReadAndConfirmed}
use Rattle.machine_audit.specs.MachineAudit.{machine_rules}

-- of each record to which posts come, by anybody and with any contents: if its answers have wire forms, each of the two strings of a
-- collision has 1 to 129 bytes
abbrev pub CollisionsOfPostsHaveStrings : (List ℕ → List ℕ) → Type 0
CollisionsOfPostsHaveStrings digest =
    (rules : Rules) (version : ℕ) (xs : List Post) →
    let r : Record = record_after rules xs in
    rules.ruling ≡ machine_ruling digest version → AreWritten (moves_of r) → HasStrings (verdict_of rules r)

-- and of the record of each case, whatever its provers say
abbrev pub CollisionsOfCasesHaveStrings : (List ℕ → List ℕ) → Type 0
CollisionsOfCasesHaveStrings digest =
    (rules : Rules) (version : ℕ) (says : Says) →
    let r : Record = bracket rules (answers_of rules says) in
    rules.ruling ≡ machine_ruling digest version → AreWritten (moves_of r) → HasStrings (verdict_of rules r)

-- so the bytes that `full` writes of a case's record are read, and the text that is read is confirmed before the judge of the machine in the
-- head's version, if the head's numbers are within the limits and the answers have wire forms
abbrev pub MachineCasesAreConfirmed : (List ℕ → List ℕ) → Type 0
MachineCasesAreConfirmed digest =
    (says : Says) (head : Head) →
    let r : Record = bracket (machine_rules digest head) (answers_of (machine_rules digest head) says) in
    IsHeadInLimits head → AreWritten (moves_of r) → IsReadAndConfirmed (machine_ruling digest head.version) head r
