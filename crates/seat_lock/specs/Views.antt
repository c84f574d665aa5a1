-- Derived. A seat's view after each step, and what a step shows its seat: `Turned`, `split_off` and `after_join` state the result.
use Rattle.std.specs.Prelude.{◌≡◌, ◌≢◌, ◌⊎◌, ℕ, suc, ◌+◌, ◌-◌, ◌<◌, List, [], ◌∷◌, ◌++◌, length, Option, Some, None}
use Rattle.std.specs.List.{All}
use Rattle.atomic_table.specs.Table.{Me, Step}
use Rattle.atomic_table.specs.declared.shared.Seat.{Seat}
use Rattle.seat_lock.specs.View.{View}
use Rattle.seat_lock.specs.History.{LogEntry, Turn, History, log_of, turns_of, Begins, longer_of, with_receipt, NoneTwice}
use Rattle.seat_lock.specs.Seats.{LockId, Known}

module _ {H : Type 0} where
  -- it waits for the number in its ticket, and has learnt that this is the number served
  abbrev pub InTurn : View H → Type 0
  InTurn v = (ticket : ℕ) × (v.ticket ≡ Some ticket) × (v.served ≡ Some ticket)

  -- the view of a lock's first seat
  abbrev pub starting : H → List LogEntry → View H
  starting head log = record { head = Some head; ticket = None; served = None; out = 0; seen = turns_of log; joined = []; receipts = []; turns = 0; began = length log }

  -- the first seat's view, after a split
  abbrev pub with_one_more_out : View H → View H
  with_one_more_out v = record v { out = suc v.out }

  -- the view of the seat that was split off
  abbrev pub newcomer : View H → View H
  newcomer v = record { head = v.head; ticket = None; served = None; out = 0; seen = v.seen; joined = v.joined; receipts = []; turns = 0; began = v.began }

  -- the first seat's view, after a join
  abbrev pub with_joined : View H → View H → View H
  with_joined v w = record v {
    out = v.out - 1;
    seen = longer_of v.seen w.seen;
    joined = v.seen ∷ w.seen ∷ (v.joined ++ w.joined);
    receipts = v.receipts ++ w.receipts;
    turns = v.turns + w.turns;
  }

  -- the view of the seat that was joined in
  abbrev pub spent_view : View H
  spent_view = record { head = None; ticket = None; served = None; out = 0; seen = []; joined = []; receipts = []; turns = 0; began = 0 }

  -- after a ticket was drawn
  abbrev pub with_ticket : ℕ → View H → View H
  with_ticket ticket v = record v { ticket = Some ticket }

  -- after a look at the number served
  abbrev pub with_served : Option ℕ → View H → View H
  with_served served v = record v { served = served }

  -- after the look that found the seat's own number: the turn begins, and the seat sees the history
  abbrev pub at_turn : ℕ → History → View H → View H
  at_turn served history v = record v { served = Some served; seen = history; joined = [] }

  -- after the turn
  abbrev pub after_turn : Turn → View H → View H
  after_turn turn v = record v {
    ticket = None;
    served = None;
    seen = v.seen ++ turn ∷ [];
    receipts = with_receipt turn (length (log_of v.seen)) v.receipts;
    turns = suc v.turns;
  }

  -- what contracts see of a seat with this view
  abbrev pub known_as : LockId → ℕ → View H → Known H
  known_as lock number v = record { lock = lock; number = number; head = v.head; out = v.out; seen = v.seen; joined = v.joined; receipts = v.receipts; turns = v.turns; began = v.began }

module _ {T H : Type 0} where
  -- a seat's view, and the slots that are lent to it with what they hold
  abbrev pub view_of : Me (Option T) (View H) → View H
  view_of me = me.0

  abbrev pub lent_to : Me (Option T) (View H) → List (ℕ × Option T)
  lent_to me = me.1

  -- the seat waits for the number in its ticket, hasn't learnt that it is served, and has no slot
  abbrev pub WaitsFor : ℕ → Me (Option T) (View H) → Type 0
  WaitsFor ticket me = ((view_of me).ticket ≡ Some ticket) × ((view_of me).served ≢ Some ticket) × (lent_to me ≡ [])

  abbrev pub known : Seat (Option T) (View H) → Known H
  known seat = known_as seat.table_id seat.id seat.me.0

  -- between two turns a seat holds no ticket and no slot; it isn't spent
  pub record IsAtRest (seat : Seat (Option T) (View H)) : Type 0 where
    pub empty_handed : seat.me.1 ≡ []
    pub no_ticket : seat.me.0.ticket ≡ None
    pub none_served : seat.me.0.served ≡ None
    pub headed : (head : H) × (seat.me.0.head ≡ Some head)

  -- a ticket was drawn: the number that was found
  abbrev pub Draws : Step (Option T) → Me (Option T) (View H) → ℕ → Me (Option T) (View H) → Type 0
  Draws step before found after = after ≡ (with_ticket found before.0, before.1)

  -- while it waits the seat learns numbers that aren't its ticket, and nothing else
  pub record StillWaits (ticket : ℕ) (before after : Me (Option T) (View H)) : Type 0 where
    pub empty_handed : after.1 ≡ []
    pub learns : after.0 ≡ with_served after.0.served before.0
    pub not_yet : after.0.served ≢ Some ticket

  -- a turn begins: the slot is lent to the seat, with a value of the seat's head, whose log is that of the history
  pub record BeginsTurn (head : T → H) (log : T → List LogEntry) (before : Me (Option T) (View H)) (ticket : ℕ) (after : Me (Option T) (View H)) : Type 0 where
    pub value : T
    pub history : History
    pub seat : after ≡ (at_turn ticket history before.0, (0, Some value) ∷ [])
    pub has_head : before.0.head ≡ Some (head value)
    pub has_log : log value ≡ log_of history
    pub saw : Begins before.0.seen history
    pub saw_joined : All (λ seen. Begins seen history) before.0.joined
    pub later : All (λ place. place < length (log_of history)) before.0.receipts

  -- the number served was looked at: it is the seat's ticket, or another
  abbrev pub LooksAt : (T → H) → (T → List LogEntry) → Step (Option T) → Me (Option T) (View H) → ℕ → Me (Option T) (View H) → Type 0
  LooksAt head log step before found after =
      (before.0.ticket ≡ Some found → BeginsTurn head log before found after)
      × (before.0.ticket ≢ Some found → after ≡ (with_served (Some found) before.0, []))

  -- the turn ends, with an entry or without one: the log of the value that was put back shows which
  abbrev pub EndsTurn : (T → List LogEntry) → Me (Option T) (View H) → T → Me (Option T) (View H) → Type 0
  EndsTurn log before value after =
      ((log value ≡ log_of before.0.seen) × (after ≡ (after_turn None before.0, [])))
      ⊎ ((entry : LogEntry) × (log value ≡ log_of before.0.seen ++ entry ∷ []) × (after ≡ (after_turn (Some entry) before.0, [])))

  -- the number served was raised, while the slot held this value
  abbrev pub Ends : (T → List LogEntry) → Step (Option T) → Me (Option T) (View H) → ℕ → Me (Option T) (View H) → Type 0
  Ends log step before found after = (value : T) × (before.1 ≡ (0, Some value) ∷ []) × EndsTurn log before value after × NoneTwice after.0.receipts
