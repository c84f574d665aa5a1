-- To believe: what contracts see of a sink over memory.
use Rattle.std.specs.Prelude.{ℕ, List, ◌++◌}
use Rattle.io_edge.specs.Device.{next_count}

-- the bytes held, the most that it holds and that one call takes, the numbers of the calls that fail, and the two counts
pub record SinkState : Type 0 where
  pub held : List ℕ
  pub room : ℕ
  pub piece : ℕ
  pub fails : List ℕ
  pub calls : ℕ
  pub faults : ℕ

-- after a call that took these bytes
abbrev pub after_write : SinkState → List ℕ → SinkState
after_write s bytes = record s { held = s.held ++ bytes; calls = next_count s.calls }

-- after a call that failed
abbrev pub after_failed_write : SinkState → SinkState
after_failed_write s = record s { calls = next_count s.calls; faults = next_count s.faults }
