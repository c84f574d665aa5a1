-- Derived: what a seat knows while it waits and acts. `Known` is what contracts see of it between two turns.
use Rattle.std.specs.Prelude.{ℕ, List, Option}
use Rattle.seat_lock.specs.History.{History}

-- where H is the type of heads
pub record View (H : Type 0) : Type 0 where
  -- the head of the value, unless the view is spent
  pub head : Option H
  -- the ticket that it holds, and the number served that it last learnt
  pub ticket : Option ℕ
  pub served : Option ℕ
  -- how many seats that were split off it are out
  pub out : ℕ
  -- the turns that it has seen; and, since its last turn, what it and the seats joined into it had seen
  pub seen : History
  pub joined : List History
  -- the places of the entries that it added
  pub receipts : List ℕ
  -- how many turns it has taken, with those of seats joined into it; and how long the log was at the start
  pub turns : ℕ
  pub began : ℕ
