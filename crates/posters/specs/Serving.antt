-- Derived: how the provers of all tasks are numbered, what stays of a poster while it serves, what a seat must be for it, and what a seat
-- has seen when its poster leaves. The clauses of `play_tasks` state the result.
use Rattle.std.specs.Prelude.{◌≡◌, ℕ, ◌<◌, ◌≤◌, true, [], List, Option, Some, None, get_or, slice_get, map, zero, suc, ◌+◌, ◌∷◌, ◌++◌}
use Rattle.std.specs.List.{All}
use Rattle.rd_base.specs.declared.answer.Answer.{Answer}
use Rattle.bisect_game.specs.declared.settled.Question.{Question}
use Rattle.bisect_game.specs.Says.{Says}
use Rattle.bisect_game.specs.Ruling.{Ruling}
use Rattle.tournament.specs.Bracket.{is_complete}
use Rattle.seat_lock.specs.History.{LogEntry, log_of, Begins}
use Rattle.seat_lock.specs.Seats.{LockId, Known}
use Rattle.board_book.specs.declared.book.Opening.{Opening}
use Rattle.board_book.specs.declared.entry.Entry.{Entry}
use Rattle.board_book.specs.Tasks.{Task, tasks_of_openings, games_of, IsTaskJournal, numbered, sayings}
use Rattle.dispute_board.specs.OneHistory.{log_of_journal, own_state}
use Rattle.posters.specs.declared.playing.Place.{Place}

-- the provers of all tasks are numbered from 0, through all tasks in order: this many provers of a task, from this one on
abbrev pub provers_from : ℕ → ℕ → ℕ → List Place
provers_from t p zero = []
provers_from t p (suc n) = record { task = t; prover = p } ∷ provers_from t (p + 1) n

-- the provers of all tasks, the first of which has this number
abbrev pub places_from : {N M : Type 0} → ℕ → List (Opening N M) → List Place
places_from t [] = []
places_from t (h ∷ hs) = provers_from t 1 h.setup.provers ++ places_from (t + 1) hs

-- a prover that only passes
abbrev pub silent : Question → ℕ → Option Answer
silent question passes = None

-- what the prover of a number says, of all provers of all tasks
abbrev pub saying_of : {N M : Type 0} → (M → Says) → List (Opening N M) → ℕ → Question → ℕ → Option Answer
saying_of says heads number = get_or (sayings says heads) number silent

-- the prover at this place is there, and says this
pub record IsProverAt {N M : Type 0} (says : M → Says) (heads : List (Opening N M)) (place : Place) (said : Question → ℕ → Option Answer) : Type 0 where
  pub head : Opening N M
  pub there : numbered heads place.task ≡ Some head
  pub some : 0 < place.prover
  pub few : place.prover ≤ head.setup.provers
  pub says_it : said ≡ says head.provers place.prover

module _ {H : Type 0} where
  -- what no turn changes of a seat
  abbrev pub staying_part_of : Known H → Known H
  staying_part_of k = record k { seen = []; joined = []; receipts = []; turns = 0 }

  -- a seat at this board with this head
  pub record IsSeatOf (board : LockId) (head : H) (k : Known H) : Type 0 where
    pub lock : k.lock ≡ board
    pub head_is : k.head ≡ Some head

  -- each log that begins with what this seat, and the seats joined into it, had seen begins with this one
  abbrev pub KnowsStart : List LogEntry → Known H → Type 0
  KnowsStart start k = (log : List LogEntry) → Begins (log_of k.seen) log → All (λ seen. Begins (log_of seen) log) k.joined → Begins start log

-- a seat at this board may serve the provers of these numbers, of all at these places, with answerers that say this
pub record MayServe {N M : Type 0} (says : M → Says) (board : LockId) (places : List Place) (k : Known (List (Opening N M))) (numbers : List ℕ) (said : List (Question → ℕ → Option Answer)) : Type 0 where
  pub heads : List (Opening N M)
  pub seat : IsSeatOf board heads k
  pub placed : places ≡ places_from 1 heads
  pub said_all : said ≡ map (saying_of says heads) numbers

-- a seat sees that the match of a task is over: what it has seen is the log of a legal journal, at which nothing is open in that match
pub record SeesOver {N M : Type 0} (ruling : N → Ruling) (says : M → Says) (k : Known (List (Opening N M))) (t : ℕ) : Type 0 where
  pub heads : List (Opening N M)
  pub head_is : k.head ≡ Some heads
  pub task : Task
  pub there : numbered (tasks_of_openings ruling says heads) t ≡ Some task
  pub journal : List (ℕ × Entry)
  pub legal : IsTaskJournal journal (games_of (tasks_of_openings ruling says heads))
  pub seen : log_of k.seen ≡ log_of_journal journal
  pub over : is_complete (own_state task t journal).record_ ≡ true

-- it sees that the match of the prover of this number is over, of all provers at these places
pub record SeesOverOf {N M : Type 0} (ruling : N → Ruling) (says : M → Says) (places : List Place) (k : Known (List (Opening N M))) (number : ℕ) : Type 0 where
  pub place : Place
  pub placed : slice_get places number ≡ Some place
  pub sees : SeesOver ruling says k place.task
