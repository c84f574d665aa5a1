-- To believe: one history on the board. The journal of all tasks is the log of the board's lock; each turn of each seat is at a point of
-- one legal journal, and what it is answered is what its task alone answers there.
use Rattle.std.specs.Prelude.{◌≡◌, ℕ, suc, ◌<◌, List, [], length, Option, Some, None, is_none, if◌then◌else◌, Bool, true, false, ◌∷◌, ◌++◌, map, ◌≢◌, ◌≤◌}
use Rattle.std.specs.List.{All}
use Rattle.rd_base.specs.declared.answer.Answer.{Answer}
use Rattle.rd_base.specs.declared.answer.Qid.{Qid}
use Rattle.bisect_game.specs.declared.settled.Question.{Question}
use Rattle.tournament.specs.declared.posting.Reply.{Reply}
use Rattle.tournament.specs.Moves.{MatchState, passes_of}
use Rattle.board_book.specs.declared.entry.Entry.{Entry}
use Rattle.board_book.specs.declared.entry.Ask.{Ask}
use Rattle.board_book.specs.declared.entry.Ask.TheVariants as variant
use Rattle.board_book.specs.Entries.{state_after, ask_on}
use Rattle.board_book.specs.Tasks.{Task, numbered, games_of, IsTaskJournal, entries_of}
use Rattle.seat_lock.specs.History.{log_of, Begins, NoneTwice, with_receipt, Turn}
use Rattle.seat_lock.specs.Seats.{Known}
use Rattle.seat_lock.specs.Turned.{SameSeat}
use Rattle.dispute_board.specs.declared.turns.Posted.{Posted}
use Rattle.tournament.specs.declared.posting.Reply.TheVariants.{Taken, Faulty, Spent, Stale}
use Rattle.bisect_game.specs.Says.{Says}
use Rattle.bisect_game.specs.Rules.{Rules}
use Rattle.tournament.specs.declared.posting.Reply.TheVariants as reply
use Rattle.tournament.specs.Bracket.{open_question, bracket}
use Rattle.tournament.specs.Journals.{answers_of}
use Rattle.tournament.specs.Asked.{asked}
use Rattle.tournament.specs.Posting.{reply_to, is_stale}

-- THE JOURNAL AS THE LOG OF A LOCK. An entry is written as plain numbers, each entry as other ones

abbrev pub number_of_pass : Bool → ℕ
number_of_pass true = 1
number_of_pass false = 0

abbrev pub numbers_of_reply : Reply → List ℕ
numbers_of_reply Taken = 0 ∷ []
numbers_of_reply Faulty = 1 ∷ []
numbers_of_reply Spent = 2 ∷ []
numbers_of_reply (Stale None) = 3 ∷ []
numbers_of_reply (Stale (Some qid)) = 4 ∷ qid.dispute ∷ qid.round ∷ []

-- task, prover, number of the question, pass or answer, reply
abbrev pub numbers_of : ℕ × Entry → List ℕ
numbers_of x = x.0 ∷ x.1.p ∷ x.1.qid.dispute ∷ x.1.qid.round ∷ number_of_pass x.1.pass ∷ numbers_of_reply x.1.reply

abbrev pub log_of_journal : List (ℕ × Entry) → List (List ℕ)
log_of_journal = map numbers_of

-- a journal after a turn that adds this entry, or none
abbrev pub with_entry : List (ℕ × Entry) → Option (ℕ × Entry) → List (ℕ × Entry)
with_entry journal (Some x) = journal ++ x ∷ []
with_entry journal None = journal

-- the turn of the lock that adds it
abbrev pub turn_of : Option (ℕ × Entry) → Turn
turn_of (Some x) = Some (numbers_of x)
turn_of None = None

-- different journals have different logs
abbrev pub LogsTellJournals : Type 0
LogsTellJournals = (xs ys : List (ℕ × Entry)) → log_of_journal xs ≡ log_of_journal ys → xs ≡ ys

-- if a log begins with another, so does its journal
abbrev pub StartsTellJournals : Type 0
StartsTellJournals = (xs ys : List (ℕ × Entry)) → Begins (log_of_journal xs) (log_of_journal ys) → Begins xs ys

-- WHAT THE BOARD ANSWERS at a point of the journal, and which moves a prover may post

-- what the book of one thread asks a prover in this state
abbrev pub ask_in : Rules → MatchState → ℕ → Ask
ask_in rules st p = ask_on st p (open_question rules st.record_ p)

-- the question is one that the record of the case asks the prover under its number
abbrev pub IsOfTheCase : Rules → Says → ℕ → Question → Type 0
IsOfTheCase rules says p q = asked rules (bracket rules (answers_of rules says)) p q.qid ≡ Some q.kind

-- a prover may post a move under a number: if the case asks it a question of that number, the move is what it says to it
-- after some number of passes
abbrev pub MayPost : Rules → Says → ℕ → Qid → Option Answer → Type 0
MayPost rules says p qid m = (q : Question) → q.qid ≡ qid → IsOfTheCase rules says p q → (n : ℕ) × (m ≡ says p q n)

-- a prover of a task may post a move under a number, as in its own case
abbrev pub MayPostFor : List Task → ℕ → ℕ → Qid → Option Answer → Type 0
MayPostFor tasks t p qid m = (task : Task) → numbered tasks t ≡ Some task → MayPost task.rules task.says p qid m

-- there is a task of this number, and it has a prover of that number
abbrev pub IsThere : List Task → ℕ → ℕ → Type 0
IsThere tasks t p = (task : Task) × (numbered tasks t ≡ Some task) × (0 < p) × (p ≤ task.rules.setup.provers)

-- the board's reply: if the prover has an open question and says the move after the passes at that point, the one of the book; if it says
-- something else there, or has no question, stale, with the open one
pub record IsReply (rules : Rules) (says : Says) (st : MatchState) (p : ℕ) (qid : Qid) (m : Option Answer) (r : Reply) : Type 0 where
  pub said : (q : Question) → open_question rules st.record_ p ≡ Some q → m ≡ says p q (passes_of st p) → r ≡ reply_to rules st p qid m
  pub unsaid : (q : Question) → open_question rules st.record_ p ≡ Some q → m ≢ says p q (passes_of st p) → r ≡ reply.Stale (Some q.qid)
  pub unasked : open_question rules st.record_ p ≡ None → r ≡ reply.Stale None

-- what a prover says to a question that its task's case asks it may be posted for it
abbrev pub SaidMayBePosted : Type 0
SaidMayBePosted =
    (tasks : List Task) (t p : ℕ) (task : Task) (q : Question) (n : ℕ) (m : Option Answer) → numbered tasks t ≡ Some task → IsOfTheCase task.rules task.says p q → m ≡ task.says p q n → MayPostFor tasks t p q.qid m

-- ONE HISTORY

-- a turn of a seat at this point of the journal, which added this entry or none
pub record IsTurnAt {H : Type 0} (tasks : List Task) (before : Known H) (journal : List (ℕ × Entry)) (added : Option (ℕ × Entry)) (after : Known H) : Type 0 where
  -- the journal is legal, with the entry too
  pub legal : IsTaskJournal journal (games_of tasks)
  pub legal_after : IsTaskJournal (with_entry journal added) (games_of tasks)
  -- it begins with all that the seat, and the seats joined into it since its last turn, had seen
  pub saw : Begins (log_of before.seen) (log_of_journal journal)
  pub saw_joined : All (λ seen. Begins (log_of seen) (log_of_journal journal)) before.joined
  -- the seat has then seen the journal with the entry, and is the same otherwise
  pub sees : log_of after.seen ≡ log_of_journal (with_entry journal added)
  pub none_joined : after.joined ≡ []
  pub same : SameSeat before after
  -- it is one turn of the seat, no more
  pub one : after.turns ≡ suc before.turns
  -- the entry's place, which is the length of the journal, is a new receipt behind the others, which are of earlier places; no place occurs
  -- twice
  pub receipts : after.receipts ≡ with_receipt (turn_of added) (length journal) before.receipts
  pub later : All (λ place. place < length journal) before.receipts
  pub none_twice : NoneTwice after.receipts

-- a post of task t adds its entry unless the reply is stale
abbrev pub entry_unless_stale : ℕ → Entry → Option (ℕ × Entry)
entry_unless_stale t e = if is_stale e.reply then None else Some (t, e)

-- the receipt of a post at this place, there if and only if the reply is not stale
abbrev pub receipt_of : Reply → ℕ → Option ℕ
receipt_of r place = if is_stale r then None else Some place

-- the state of a task at this point, which its own entries alone determine
abbrev pub own_state : Task → ℕ → List (ℕ × Entry) → MatchState
own_state task t journal = state_after task.rules task.says (entries_of t journal)

-- a question of a seat for a prover of task t, at its point: it is answered as by the task's book of one thread there, and leaves no
-- entry; what is asked is what the record of the task's case asks
pub record AsksOnBoard {H : Type 0} (tasks : List Task) (before : Known H) (t p : ℕ) (ask : Ask) (after : Known H) : Type 0 where
  pub task : Task
  pub there : numbered tasks t ≡ Some task
  pub journal : List (ℕ × Entry)
  pub stands : IsTurnAt tasks before journal None after
  pub answer : ask ≡ ask_in task.rules (own_state task t journal) p
  pub asked : (q : Question) (n : ℕ) → ask ≡ variant.Question q n → IsOfTheCase task.rules task.says p q

-- a post of a seat for a prover of task t, at its point: its reply is the board's there, and it leaves its entry, as one of task t,
-- if and only if the reply is not stale
pub record PostsOnBoard {H : Type 0} (tasks : List Task) (before : Known H) (t p : ℕ) (qid : Qid) (m : Option Answer) (posted : Posted) (after : Known H) : Type 0 where
  pub task : Task
  pub there : numbered tasks t ≡ Some task
  pub journal : List (ℕ × Entry)
  pub stands : IsTurnAt tasks before journal (entry_unless_stale t (record { p = p; qid = qid; pass = is_none m; reply = posted.reply })) after
  pub reply : IsReply task.rules task.says (own_state task t journal) p qid m posted.reply
  pub receipt : posted.receipt ≡ receipt_of posted.reply (length journal)
