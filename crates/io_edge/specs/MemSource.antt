-- To believe: what contracts see of a source over memory.
use Rattle.std.specs.Prelude.{ℕ, List, drop}
use Rattle.io_edge.specs.Device.{next_count}

-- the bytes left, the most that one call gives, the numbers of the calls that fail, and the two counts
pub record SourceState : Type 0 where
  pub left : List ℕ
  pub piece : ℕ
  pub fails : List ℕ
  pub calls : ℕ
  pub faults : ℕ

-- after a call that gave n bytes
abbrev pub after_read : SourceState → ℕ → SourceState
after_read s n = record s { left = drop n s.left; calls = next_count s.calls }

-- after a call that failed
abbrev pub after_failed_read : SourceState → SourceState
after_failed_read s = record s { calls = next_count s.calls; faults = next_count s.faults }
