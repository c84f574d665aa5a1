use Rattle.std.proofs.Common.{◌≡◌, length, All}
use Rattle.seat_lock.specs.History.{log_of}
use Rattle.posters.specs.Serving.{KnowsStart}
use Rattle.posters.proofs.playing.join_posters.Given as goal

abbrev pub invariant-loop-poster : goal.invariant-loop-poster
invariant-loop-poster g l = (l.seat.lock ≡ l.initial.seat.lock) × (l.seat.number ≡ 0) × (l.seat.head ≡ l.initial.seat.head) × (l.seat.out ≡ length l.posters.items) × All (λ poster. poster.seat.lock ≡ l.fn.board) l.posters.items × KnowsStart (log_of l.initial.seat.seen) l.seat

abbrev pub decreases-loop-poster : goal.decreases-loop-poster
decreases-loop-poster g l = length l.posters.items
