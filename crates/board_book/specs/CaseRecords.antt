-- To believe. The result of a case doesn't depend on the schedule, in the journal's own words: each legal journal after which the match is
-- over ends in the record of the case, and so in its verdict, whoever moved when.
use Rattle.std.specs.Prelude.{◌≡◌, ℕ, true, List, Some}
use Rattle.bisect_game.specs.Says.{Says}
use Rattle.bisect_game.specs.Rules.{Rules, ArePlayable}
use Rattle.tournament.specs.Bracket.{Record, is_complete, bracket, verdict_of}
use Rattle.tournament.specs.Moves.{begun}
use Rattle.tournament.specs.Journals.{answers_of}
use Rattle.board_book.specs.declared.entry.Entry.{Entry}
use Rattle.board_book.specs.Entries.{IsJournal, state_after}
use Rattle.board_book.specs.Tasks.{Task, Game, numbered, games_of, IsTaskJournal, games_after}

-- a record is that of the case, and its verdict is the case's
pub record IsRecordOfCase (rules : Rules) (says : Says) (r : Record) : Type 0 where
  pub same : r ≡ bracket rules (answers_of rules says)
  pub verdict : verdict_of rules r ≡ verdict_of rules (bracket rules (answers_of rules says))

-- of one case: a list of entries
abbrev pub JournalsHaveTheRecordOfTheCase : Type 0
JournalsHaveTheRecordOfTheCase =
    (rules : Rules) (says : Says) (es : List Entry) → ArePlayable rules → IsJournal rules says es (begun rules) →
    is_complete (state_after rules says es).record_ ≡ true → IsRecordOfCase rules says (state_after rules says es).record_

-- of many tasks: a list of entries of all of them, after which the match of this task is over, whatever became of the others
abbrev pub TasksHaveTheRecordOfTheirCase : Type 0
TasksHaveTheRecordOfTheirCase =
    (tasks : List Task) (xs : List (ℕ × Entry)) (t : ℕ) (task : Task) (game : Game) → numbered tasks t ≡ Some task → ArePlayable task.rules →
    IsTaskJournal xs (games_of tasks) → games_after xs (games_of tasks) t ≡ Some game → is_complete game.state.record_ ≡ true →
    IsRecordOfCase task.rules task.says game.state.record_
