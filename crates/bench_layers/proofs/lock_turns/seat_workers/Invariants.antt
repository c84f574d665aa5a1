use Rattle.std.proofs.Common.{◌≡◌, length, All}
use Rattle.bench_layers.proofs.lock_turns.seat_workers.Given as goal

abbrev pub invariant-loop : goal.invariant-loop
invariant-loop l = (l.seat.lock ≡ l.initial.seat.lock) × (l.seat.number ≡ 0) × (l.seat.out ≡ length l.workers.items) × (length l.workers.items ≡ l.counter) × (l.workers.cap ≡ l.initial.workers.cap) × All (λ w. w.seat.lock ≡ l.fn.lock) l.workers.items
