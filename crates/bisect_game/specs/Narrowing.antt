-- Derived: what a dispute in memory keeps. Its interval narrows, so that no round needs memory, and an open one waits for a side.
use Rattle.std.specs.Prelude.{◌≡◌, ℕ, ◌-◌, ◌*◌, ◌^◌, ◌<◌, ◌≤◌, Option, is_some, is_none, false, ◌&&◌}
use Rattle.bisect_game.specs.declared.settled.Interval.{Interval}
use Rattle.bisect_game.specs.declared.settled.Settled.{Settled}
use Rattle.bisect_game.specs.declared.settled.Close.{Close}

pub record IsNarrowing (fan : ℕ) (place : Interval) (rounds room : ℕ) : Type 0 where
  pub parted : 1 < fan
  pub few_parts : fan ≤ 16
  pub some : place.lo < place.hi
  pub short : place.hi < 2 ^ 32
  pub narrow : (place.hi - place.lo - 1) * fan ^ rounds < 2 ^ 32
  pub roomy : 32 ≤ room
  pub counted : rounds ≤ 32

-- both answers of the last round are there only if it closed the dispute
pub record IsKept (fan : ℕ) (place : Interval) (rounds room : ℕ) (by_first by_second : Option Settled) (close : Option Close) : Type 0 where
  pub narrowing : IsNarrowing fan place rounds room
  pub waits : (is_some by_first && (is_some by_second && is_none close)) ≡ false
