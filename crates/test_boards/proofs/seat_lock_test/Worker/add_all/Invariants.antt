use Rattle.std.proofs.Common.{◌≡◌}
use Rattle.test_boards.proofs.seat_lock_test.Worker.add_all.Given as goal

abbrev pub invariant-loop-k : goal.invariant-loop-k
invariant-loop-k g l = l.self.seat.lock ≡ l.fn.lock
