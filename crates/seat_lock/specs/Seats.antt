-- To believe: what contracts see of a lock and of a seat, and of a seat after `new`, `split` and `join`.
use Rattle.std.specs.Prelude.{◌≡◌, ℕ, suc, ◌+◌, ◌-◌, nat_lt, if◌then◌else◌, List, [], ◌∷◌, ◌++◌, length, Option, Some, Result, IfOk}
use Rattle.atomic_table.specs.Seated.{TableId}
use Rattle.seat_lock.specs.History.{LogEntry, History, turns_of, longer_of, times}

-- what tells one lock from another
abbrev pub LockId : Type 0
LockId = TableId

-- what a seat knows, where H is the type of heads
pub record Known (H : Type 0) : Type 0 where
  -- the lock that it is at, and its number there: 0 for the first seat, that of `new`
  pub lock : LockId
  pub number : ℕ
  -- the head of the value under the lock; each seat has one
  pub head : Option H
  -- how many seats that were split off it haven't been joined in again
  pub out : ℕ
  -- the turns that it has seen, and, since its last turn, those that it and the seats joined into it had seen
  pub seen : History
  pub joined : List History
  -- the places in the log of the entries that it added, and then of those that seats joined into it added
  pub receipts : List ℕ
  -- how many turns it has taken, with those of seats joined into it; and how long the log was at `new`
  pub turns : ℕ
  pub began : ℕ

-- 1 for a place from the first number on and below the second, else 0
abbrev pub once_between : ℕ → ℕ → ℕ → ℕ
once_between from to place = if nat_lt place from then 0 else if nat_lt place to then 1 else 0

-- these are the places from the first number on and below the second, each of them once
abbrev pub AreEachOnce : ℕ → ℕ → List ℕ → Type 0
AreEachOnce from to places = (place : ℕ) → times place places ≡ once_between from to place

-- if a lock, or a board over one, was made with its first seat, this holds of the two
abbrev pub IfMade : {A B E : Type 0} → Result (A × B) E → (A → B → Type 0) → Type 0
IfMade made fact = IfOk made (λ both. fact both.0 both.1)

module _ {H : Type 0} where
  -- the first seat of a lock whose value has this head and this log
  abbrev pub first_seat : LockId → H → List LogEntry → Known H
  first_seat lock head log = record { lock = lock; number = 0; head = Some head; out = 0; seen = turns_of log; joined = []; receipts = []; turns = 0; began = length log }

  -- the first seat after one was split off it
  abbrev pub after_split : Known H → Known H
  after_split k = record k { out = suc k.out }

  -- the seat that was split off: it has seen the same, and has taken no turn
  abbrev pub split_off : Known H → ℕ → Known H
  split_off k number = record { lock = k.lock; number = number; head = k.head; out = 0; seen = k.seen; joined = k.joined; receipts = []; turns = 0; began = k.began }

  -- the first seat after another was joined into it
  abbrev pub after_join : Known H → Known H → Known H
  after_join k other = record k {
    out = k.out - 1;
    seen = longer_of k.seen other.seen;
    joined = k.seen ∷ other.seen ∷ (k.joined ++ other.joined);
    receipts = k.receipts ++ other.receipts;
    turns = k.turns + other.turns;
  }
