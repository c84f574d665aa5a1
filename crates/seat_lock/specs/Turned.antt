-- To believe: one turn of a seat, which is what the lock promises of a turn.
use Rattle.std.specs.Prelude.{◌≡◌, suc, ◌<◌, List, [], ◌∷◌, ◌++◌, length, slice_get, Some, None}
use Rattle.std.specs.List.{All}
use Rattle.seat_lock.specs.History.{LogEntry, Turn, History, log_of, Begins, with_receipt, NoneTwice}
use Rattle.seat_lock.specs.Seats.{Known}

-- what no turn changes of a seat
pub record SameSeat {H : Type 0} (before after : Known H) : Type 0 where
  pub lock : after.lock ≡ before.lock
  pub number : after.number ≡ before.number
  pub head : after.head ≡ before.head
  pub out : after.out ≡ before.out
  pub began : after.began ≡ before.began

-- where the seat found this value under the lock and left that one
pub record Turned {T H : Type 0} (head : T → H) (log : T → List LogEntry) (before : Known H) (found left : T) (after : Known H) : Type 0 where
  -- all turns before this one, and what this one added
  pub shown : History
  pub turn : Turn
  pub same : SameSeat before after
  -- it is one turn
  pub one : after.turns ≡ suc before.turns
  -- the value has the seat's head, and keeps it
  pub head_found : before.head ≡ Some (head found)
  pub head_left : head left ≡ head found
  -- the history begins with all that the seat, and the seats that were joined into it, had seen; so does the log
  pub saw : Begins before.seen shown
  pub saw_joined : All (λ seen. Begins seen shown) before.joined
  pub saw_log : Begins (log_of before.seen) (log found)
  pub saw_joined_logs : All (λ seen. Begins (log_of seen) (log found)) before.joined
  -- the log that was found is that of the history, and the seat has then seen this turn too
  pub log_found : log found ≡ log_of shown
  pub log_left : log left ≡ log_of (shown ++ turn ∷ [])
  pub sees : after.seen ≡ shown ++ turn ∷ []
  pub none_joined : after.joined ≡ []
  -- a turn that leaves the log as it was is idle, and one that adds an entry is that entry
  pub idle : log left ≡ log found → turn ≡ None
  pub adds : (entry : LogEntry) → log left ≡ log found ++ entry ∷ [] → turn ≡ Some entry
  -- the place of an entry that was added is the length of the log before it: the entry is there, behind all places that the seat had, and
  -- no place occurs twice
  pub receipts : after.receipts ≡ with_receipt turn (length (log found)) before.receipts
  pub stands : (entry : LogEntry) → turn ≡ Some entry → slice_get (log left) (length (log found)) ≡ Some entry
  pub later : All (λ place. place < length (log found)) before.receipts
  pub none_twice : NoneTwice after.receipts
