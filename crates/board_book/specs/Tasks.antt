-- To believe: many tasks, each a match of its own, and one journal of all of them. An entry moves one task, and leaves the others as they
-- are; so does a post.
use Rattle.std.specs.Prelude.{◌≡◌, ℕ, ◌-◌, ◌==◌, List, [], ◌∷◌, map, Option, Some, None, slice_get, if◌then◌else◌, zero, suc, ◌+◌, ◌++◌, set, is_none}
use Rattle.std.specs.Option.{option_map}
use Rattle.bisect_game.specs.Says.{Says}
use Rattle.bisect_game.specs.Ruling.{Ruling}
use Rattle.bisect_game.specs.Rules.{Rules, rules_of}
use Rattle.tournament.specs.Bracket.{open_question}
use Rattle.tournament.specs.Match.{MatchOf}
use Rattle.tournament.specs.Moves.{MatchState, begun}
use Rattle.tournament.specs.Journals.{turn_on}
use Rattle.tournament.specs.Posting.{posted, reply_to, is_stale}
use Rattle.board_book.specs.declared.entry.Entry.{Entry}
use Rattle.board_book.specs.declared.book.Opening.{Opening}
use Rattle.board_book.specs.Entries.{IsEntry, noted}
use Rattle.rd_base.specs.declared.answer.Answer.{Answer}
use Rattle.rd_base.specs.declared.answer.Qid.{Qid}
use Rattle.bisect_game.specs.declared.settled.Question.{Question}
use Rattle.tournament.specs.declared.posting.Reply.{Reply}

-- a task: by what its match is played, and what its provers say
pub record Task : Type 0 where
  pub rules : Rules
  pub says : Says

-- the task of an opening, if the names of judges and provers fix what these decide and say
abbrev pub task_of : {N M : Type 0} → (N → Ruling) → (M → Says) → Opening N M → Task
task_of ruling says opening = record { rules = rules_of (ruling opening.judge) opening.setup; says = says opening.provers }

-- what contracts see of a book: its opening, its journal and the state of its match
pub record BookOf (N M : Type 0) : Type 0 where
  pub opening : Opening N M
  pub journal : List Entry
  pub game : MatchState

-- what contracts see of the books of many tasks: each book, and the journal of all, with the task of each entry
pub record BooksOf (N M : Type 0) : Type 0 where
  pub books : List (BookOf N M)
  pub journal : List (ℕ × Entry)

-- the match of a book
abbrev pub match_of : {N M : Type 0} → BookOf N M → MatchOf N
match_of b = record { judge = b.opening.judge; setup = b.opening.setup; game = b.game }

module _ {N M : Type 0} where
  -- the openings of books
  abbrev pub openings : List (BookOf N M) → List (Opening N M)
  openings = map (λ (b : BookOf N M). b.opening)

  -- their tasks
  abbrev pub tasks_of_openings : (N → Ruling) → (M → Says) → List (Opening N M) → List Task
  tasks_of_openings ruling says = map (task_of ruling says)

-- the element of a number, of a list that is counted from 1; None if there is none
abbrev pub numbered : {A : Type 0} → List A → ℕ → Option A
numbered xs t = if t == 0 then None else slice_get xs (t - 1)

-- a task in play: its match is in this state
pub record Game : Type 0 where
  pub task : Task
  pub state : MatchState

-- the games of all tasks, by the task's number
abbrev pub Games : Type 0
Games = ℕ → Option Game

abbrev pub begun_game : Task → Game
begun_game k = record { task = k; state = begun k.rules }

abbrev pub games_of : List Task → Games
games_of tasks t = option_map begun_game (numbered tasks t)

-- the prover moves, as it says, on its open question
abbrev pub turned : ℕ → Game → Game
turned p g = record { task = g.task; state = turn_on g.task.rules g.task.says g.state p (open_question g.task.rules g.state.record_ p) }

-- the games after an entry of one of them
abbrev pub after_entry : ℕ × Entry → Games → Games
after_entry x games t = if t == x.0 then option_map (turned x.1.p) (games t) else games t

-- an entry is legal if its task is there and it is legal in the state of that task's match
pub record IsTaskEntry (games : Games) (x : ℕ × Entry) : Type 0 where
  pub game : Game
  pub there : games x.0 ≡ Some game
  pub entry : IsEntry game.task.rules game.task.says game.state x.1

-- a legal journal of all tasks, from these games on
abbrev pub IsTaskJournal : List (ℕ × Entry) → Games → Type 0
IsTaskJournal [] games = Unit {0}
IsTaskJournal (x ∷ xs) games = IsTaskEntry games x × IsTaskJournal xs (after_entry x games)

-- the games after it
abbrev pub games_after : List (ℕ × Entry) → Games → Games
games_after [] games = games
games_after (x ∷ xs) games = games_after xs (after_entry x games)

-- the entries of one task, in their order
abbrev pub entries_of : ℕ → List (ℕ × Entry) → List Entry
entries_of t [] = []
entries_of t (x ∷ xs) = if t == x.0 then x.1 ∷ entries_of t xs else entries_of t xs

-- entries as those of task t
abbrev pub of_task : ℕ → List Entry → List (ℕ × Entry)
of_task t es = map (λ (e : Entry). (t, e)) es

-- the journal with this entry of task t, unless it is stale
abbrev pub noted_for : ℕ → List (ℕ × Entry) → Entry → List (ℕ × Entry)
noted_for t xs e = if is_stale e.reply then xs else xs ++ (t, e) ∷ []

-- a post to the book of task t: that book is the one after the post, with the reply of the game, and the others are as they were
pub record PostedTo {N M : Type 0} (ruling : N → Ruling) (books : List (BookOf N M)) (journal : List (ℕ × Entry)) (t p : ℕ) (qid : Qid) (m : Option Answer) (reply : Reply) (books_after : List (BookOf N M)) (journal_after : List (ℕ × Entry)) : Type 0 where
  pub book : BookOf N M
  pub there : numbered books t ≡ Some book
  pub replied : reply ≡ reply_to (rules_of (ruling book.opening.judge) book.opening.setup) book.game p qid m
  pub notes : journal_after ≡ noted_for t journal (record { p = p; qid = qid; pass = is_none m; reply = reply })
  pub others : books_after ≡ set books (t - 1) (record book { journal = noted book.journal (record { p = p; qid = qid; pass = is_none m; reply = reply }); game = posted (rules_of (ruling book.opening.judge) book.opening.setup) book.game p qid m })

-- WHO ANSWERS. Provers are numbered from 0 through all tasks, in order of the tasks

-- what this many provers of a task say, from this one on
abbrev pub sayings_from : Says → ℕ → ℕ → List (Question → ℕ → Option Answer)
sayings_from says p zero = []
sayings_from says p (suc n) = says p ∷ sayings_from says (p + 1) n

-- what the provers of all tasks say
abbrev pub sayings : {N M : Type 0} → (M → Says) → List (Opening N M) → List (Question → ℕ → Option Answer)
sayings says [] = []
sayings says (h ∷ hs) = sayings_from (says h.provers) 1 h.setup.provers ++ sayings says hs
