-- A legal journal is a legal list of moves, so what holds of these holds of it.
use Rattle.std.proofs.Common.{◌≡◌, ℕ, true, List, Some, option_map, sym, ◌∙◌, ap, subst}
use Rattle.bisect_game.specs.Says.{Says}
use Rattle.bisect_game.specs.Rules.{Rules}
use Rattle.tournament.specs.Bracket.{Record, is_complete, bracket, verdict_of}
use Rattle.tournament.specs.Moves.{begun}
use Rattle.tournament.specs.Journals.{answers_of, RecordOfCase}
use Rattle.board_book.specs.declared.entry.Entry.{Entry}
use Rattle.board_book.specs.Entries.{IsJournal, who, state_after}
use Rattle.board_book.specs.Tasks.{Task, Game, games_of, begun_game, games_after, entries_of}
use Rattle.board_book.specs.Alone.{game_after}
use Rattle.board_book.specs.CaseRecords.{IsRecordOfCase, JournalsHaveTheRecordOfTheCase, TasksHaveTheRecordOfTheirCase}
use Rattle.board_book.proofs.AloneLemmas.{alone}
use Rattle.board_book.proofs.BookLemmas.{journal-legal}

with-verdict : (rules : Rules) (says : Says) (r : Record) → r ≡ bracket rules (answers_of rules says) → IsRecordOfCase rules says r
with-verdict rules says r same = record { same = same; verdict = ap (verdict_of rules) same }

pub journals_have_the_record : RecordOfCase → JournalsHaveTheRecordOfTheCase
journals_have_the_record one rules says es playable legal complete =
    with-verdict rules says (state_after rules says es).record_ (one rules says (who es) playable (journal-legal rules says es (begun rules) legal) complete)

pub tasks_have_the_record : RecordOfCase → TasksHaveTheRecordOfTheirCase
tasks_have_the_record one tasks xs t task game there playable legal after complete =
    let begins : games_of tasks t ≡ Some (begun_game task) = ap (option_map begun_game) there in
    let own : IsJournal task.rules task.says (entries_of t xs) (begun task.rules) × (games_after xs (games_of tasks) t ≡ Some (game_after (entries_of t xs) (begun_game task))) =
    alone xs (games_of tasks) t (begun_game task) legal begins in
    let same : game_after (entries_of t xs) (begun_game task) ≡ game = some-is _ _ (sym own.1 ∙ after) in
    subst (λ (g : Game). IsRecordOfCase task.rules task.says g.state.record_) same
    (journals_have_the_record one task.rules task.says (entries_of t xs) playable own.0 (subst (λ (g : Game). is_complete g.state.record_ ≡ true) (sym same) complete))
  where
    some-is : (a b : Game) → Some a ≡ Some b → a ≡ b
    some-is a b e = cc
