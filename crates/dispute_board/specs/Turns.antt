-- Derived: what one turn does to the books. The clauses of `TaskBoard::ask` and `TaskBoard::post` state it for the one history.
use Rattle.std.specs.Prelude.{◌≡◌, ℕ, Bool, not, List, length, Option, Some, None, is_none, if◌then◌else◌}
use Rattle.rd_base.specs.declared.answer.Answer.{Answer}
use Rattle.rd_base.specs.declared.answer.Qid.{Qid}
use Rattle.bisect_game.specs.declared.settled.Question.{Question}
use Rattle.bisect_game.specs.Says.{Says, GiveOneAnswer}
use Rattle.bisect_game.specs.Rules.{Rules}
use Rattle.tournament.specs.declared.posting.Reply.{Reply}
use Rattle.tournament.specs.declared.posting.Reply.TheVariants as reply
use Rattle.tournament.specs.Bracket.{open_question}
use Rattle.tournament.specs.Moves.{MatchState, passes_of}
use Rattle.tournament.specs.Posting.{reply_to}
use Rattle.board_book.specs.declared.entry.Entry.{Entry}
use Rattle.board_book.specs.declared.entry.Ask.{Ask}
use Rattle.board_book.specs.Tasks.{Task, numbered, games_of, IsTaskJournal, noted_for}
use Rattle.dispute_board.specs.declared.turns.Posted.{Posted}
use Rattle.dispute_board.specs.OneHistory.{ask_in, IsOfTheCase, receipt_of, own_state}

-- the move is due on the open question: the prover passes there now exactly as the move does
abbrev pub is_due : Says → MatchState → ℕ → Option Answer → Question → Bool
is_due says st p m q = if is_none m then is_none (says p q (passes_of st p)) else not (is_none (says p q (passes_of st p)))

abbrev pub reply_on_board : Rules → Says → MatchState → ℕ → Qid → Option Answer → Option Question → Reply
reply_on_board rules says st p qid m None = reply.Stale None
reply_on_board rules says st p qid m (Some q) = if is_due says st p m q then reply_to rules st p qid m else reply.Stale (Some q.qid)

-- the reply of the book if the move is due, and else stale with the open question
abbrev pub reply_in : Rules → Says → MatchState → ℕ → Qid → Option Answer → Reply
reply_in rules says st p qid m = reply_on_board rules says st p qid m (open_question rules st.record_ p)

-- the open question's number if the move isn't due on it
abbrev pub undue : Says → MatchState → ℕ → Option Answer → Option Question → Option Qid
undue says st p m None = None
undue says st p m (Some q) = if is_due says st p m q then None else Some q.qid

-- an open question is one that the record of the case asks
abbrev pub AsksTheCase : Rules → Says → MatchState → ℕ → Type 0
AsksTheCase rules says st p = (q : Question) → open_question rules st.record_ p ≡ Some q → IsOfTheCase rules says p q

-- a legal journal, and what is asked there
pub record Asks (tasks : List Task) (journal : List (ℕ × Entry)) (t p : ℕ) (ask : Ask) : Type 0 where
  pub task : Task
  pub there : numbered tasks t ≡ Some task
  pub legal : IsTaskJournal journal (games_of tasks)
  pub answer : ask ≡ ask_in task.rules (own_state task t journal) p
  pub asked : AsksTheCase task.rules task.says (own_state task t journal) p

-- a legal journal, the reply there, and the journal that is left
pub record Posts (tasks : List Task) (journal : List (ℕ × Entry)) (t p : ℕ) (qid : Qid) (m : Option Answer) (posted : Posted) (left : List (ℕ × Entry)) : Type 0 where
  pub task : Task
  pub there : numbered tasks t ≡ Some task
  pub one_answer : GiveOneAnswer task.says
  pub legal : IsTaskJournal journal (games_of tasks)
  pub legal_after : IsTaskJournal left (games_of tasks)
  pub reply : posted.reply ≡ reply_in task.rules task.says (own_state task t journal) p qid m
  pub notes : left ≡ noted_for t journal (record { p = p; qid = qid; pass = is_none m; reply = posted.reply })
  pub receipt : posted.receipt ≡ receipt_of posted.reply (length journal)
  pub asked : AsksTheCase task.rules task.says (own_state task t journal) p
