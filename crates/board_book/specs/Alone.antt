-- To believe: each task is alone. Its result depends on its own entries, whatever is posted in between for others.
use Rattle.std.specs.Prelude.{◌≡◌, ℕ, List, Option, Some}
use Rattle.rd_base.specs.declared.answer.Answer.{Answer}
use Rattle.rd_base.specs.declared.answer.Qid.{Qid}
use Rattle.tournament.specs.Bracket.{open_question}
use Rattle.tournament.specs.Moves.{MatchState}
use Rattle.tournament.specs.Journals.{turns}
use Rattle.tournament.specs.Posting.{reply_to}
use Rattle.board_book.specs.declared.entry.Entry.{Entry}
use Rattle.board_book.specs.Entries.{IsJournal, who, ask_on}
use Rattle.board_book.specs.Tasks.{Task, numbered, Game, Games, games_of, IsTaskJournal, games_after, entries_of}

-- a game after entries of its own
abbrev pub game_after : List Entry → Game → Game
game_after es g = record { task = g.task; state = turns g.task.rules g.task.says (who es) g.state }

-- from any games on: the entries of a task are a legal journal of that task alone, with the same replies, and the task has the state after
-- these alone
abbrev pub TasksAreAlone : Type 0
TasksAreAlone =
    (xs : List (ℕ × Entry)) (games : Games) (t : ℕ) (g : Game) → IsTaskJournal xs games → games t ≡ Some g →
    IsJournal g.task.rules g.task.says (entries_of t xs) g.state × (games_after xs games t ≡ Some (game_after (entries_of t xs) g))

-- two games are alike if what is asked, what a post is answered, and the record are the same
pub record AreAlike (task : Task) (a b : MatchState) : Type 0 where
  pub asked : (p : ℕ) → ask_on a p (open_question task.rules a.record_ p) ≡ ask_on b p (open_question task.rules b.record_ p)
  pub replied : (p : ℕ) (qid : Qid) (m : Option Answer) → reply_to task.rules a p qid m ≡ reply_to task.rules b p qid m
  pub recorded : a.record_ ≡ b.record_

-- two journals that agree on the entries of a task give the same question, the same reply and the same record of it
abbrev pub OwnEntriesDecide : Type 0
OwnEntriesDecide =
    (tasks : List Task) (xs ys : List (ℕ × Entry)) (t : ℕ) (k : Task) (a b : Game) → numbered tasks t ≡ Some k →
    IsTaskJournal xs (games_of tasks) → IsTaskJournal ys (games_of tasks) → entries_of t xs ≡ entries_of t ys →
    games_after xs (games_of tasks) t ≡ Some a → games_after ys (games_of tasks) t ≡ Some b → AreAlike k a.state b.state
