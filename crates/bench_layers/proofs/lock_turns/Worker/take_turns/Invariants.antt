use Rattle.std.proofs.Common.{◌≡◌}
use Rattle.bench_layers.proofs.lock_turns.Worker.take_turns.Given as goal

abbrev pub invariant-loop : goal.invariant-loop
invariant-loop g l = l.self.seat.lock ≡ l.fn.lock
