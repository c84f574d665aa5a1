use Rattle.std.proofs.Common.{◌≡◌, length, All}
use Rattle.test_boards.proofs.seat_lock_test.join_workers.Given as goal

abbrev pub invariant-loop-worker : goal.invariant-loop-worker
invariant-loop-worker l = (l.seat.lock ≡ l.initial.seat.lock) × (l.seat.number ≡ 0) × (l.seat.out ≡ length l.workers.items) × All (λ w. w.seat.lock ≡ l.fn.lock) l.workers.items

abbrev pub decreases-loop-worker : goal.decreases-loop-worker
decreases-loop-worker l = length l.workers.items
