-- Derived. The rule of a lock's table: `SeatLock::new` establishes it, each kind of step keeps it, and the clauses of the lock follow from it.
-- Word 0 is the next ticket and word 1 the number served, both modulo 2^64. Slot 0 holds the value.
use Rattle.std.specs.Prelude.{◌≡◌, ℕ, suc, ◌+◌, ◌%◌, ◌<◌, ◌≤◌, List, [], ◌∷◌, length, Option, Some, None}
use Rattle.std.specs.List.{All}
use mathlib.Core.Option.{some, none}
use mathlib.Core.Option as maybe
use lib.ListN.{get_elem?}
use Rattle.atomic_table.specs.Table.{State}
use Rattle.seat_lock.specs.View.{View}
use Rattle.seat_lock.specs.History.{LogEntry, History, log_of, Begins, times}
use Rattle.seat_lock.specs.Seats.{once_between}
use Rattle.seat_lock.specs.Views.{InTurn}

-- how many numbers a word has, so 2^64
abbrev pub word_size : ℕ
word_size = 18446744073709551616

-- 1 if there is something
abbrev pub weight : {A : Type 0} → Option A → ℕ
weight (Some a) = 1
weight None = 0

-- f of each, added up
abbrev pub total : {V : Type 0} → (V → ℕ) → List V → ℕ
total f [] = 0
total f (v ∷ vs) = f v + total f vs

module _ {H : Type 0} where
  -- 1 for a view that isn't spent, which is one with a head
  abbrev pub weight_of_view : View H → ℕ
  weight_of_view v = weight v.head

  -- 1 for a view that holds a ticket
  abbrev pub holds_ticket : View H → ℕ
  holds_ticket v = weight v.ticket

  abbrev pub NoneInTurn : List (View H) → Type 0
  NoneInTurn views = (j : ℕ) (v : View H) → get_elem? views j ≡ some v → InTurn v → ⊥

  -- the first seat's view counts the others that aren't spent
  pub record CountsTheOthers (at : H) (views : List (View H)) : Type 0 where
    pub view : View H
    pub is_first : get_elem? views 0 ≡ some view
    pub head : view.head ≡ Some at
    pub counts : total weight_of_view views ≡ suc view.out
    pub few : suc view.out < word_size

  -- what the rule requires of view number j alone. The queue has the numbers of the views that hold a ticket, from the one served on
  pub record FitsAt {T : Type 0} (at : H) (began : ℕ) (queue : List ℕ) (history : History) (serving : ℕ) (homes : List (maybe.Option (Option T))) (j : ℕ) (v : View H) : Type 0 where
    -- unless it is spent it has the one head, and has seen a start of the history
    pub headed : (head : H) → v.head ≡ Some head → (head ≡ at) × Begins v.seen history × All (λ seen. Begins seen history) v.joined
    -- and it knows how long the log was at the start
    pub knows : (head : H) → v.head ≡ Some head → v.began ≡ began
    -- one that is spent has no receipts
    pub empty : v.head ≡ None → v.receipts ≡ []
    -- a ticket is a place in the queue: the number served and some steps further
    pub waits : (ticket : ℕ) → v.ticket ≡ Some ticket → (v.head ≡ Some at) × ((k : ℕ) × (get_elem? queue k ≡ some j) × (ticket ≡ (serving + k) % word_size))
    -- without a ticket it has learnt no number
    pub rests : v.ticket ≡ None → v.served ≡ None
    -- in its turn it is the one served, has seen the whole history, and the slot is lent
    pub turn : (ticket : ℕ) → v.ticket ≡ Some ticket → v.served ≡ Some ticket → (ticket ≡ serving) × (v.seen ≡ history) × (homes ≡ none ∷ [])

  pub record IsHeldByRule {T : Type 0} (head : T → H) (log : T → List LogEntry) (s : State (Option T) (View H)) : Type 0 where
    pub at : H
    pub queue : List ℕ
    pub began : ℕ
    pub history : History
    pub serving : ℕ
    pub words : s.words ≡ (serving + length queue) % word_size ∷ serving ∷ []
    pub each : (j : ℕ) (v : View H) → get_elem? s.views j ≡ some v → FitsAt at began queue history serving s.homes j v
    pub holders : total holds_ticket s.views ≡ length queue
    pub first : CountsTheOthers at s.views
    -- the log is no shorter than at the start. Of each entry behind there is one receipt in all views together, and of no other place
    pub grown : began ≤ length (log_of history)
    pub places : (place : ℕ) → total (λ v. times place v.receipts) s.views ≡ once_between began (length (log_of history)) place
    -- while nobody is in turn, the slot is at home with a value of the one head, whose log is that of the history
    pub free : NoneInTurn s.views → (value : T) × (s.homes ≡ some (Some value) ∷ []) × (head value ≡ at) × (log value ≡ log_of history)
