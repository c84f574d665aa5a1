use Rattle.std.proofs.Common.{◌≡◌, length, All}
use Rattle.test_boards.proofs.seat_lock_test.seat_workers.Given as goal

abbrev pub invariant-loop-number : goal.invariant-loop-number
invariant-loop-number l = (l.seat.lock ≡ l.initial.seat.lock) × (l.seat.number ≡ 0) × (l.seat.out ≡ length l.workers.items) × (length l.workers.items ≡ l.number) × (l.workers.cap ≡ l.initial.workers.cap) × All (λ w. w.seat.lock ≡ l.fn.lock) l.workers.items
