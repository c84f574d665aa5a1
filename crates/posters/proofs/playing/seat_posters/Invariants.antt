use Rattle.std.proofs.Common.{◌≡◌, length, All}
use Rattle.posters.specs.Classes.{HaveClasses}
use Rattle.posters.proofs.playing.seat_posters.Given as goal

abbrev pub invariant-loop-class : goal.invariant-loop-class
invariant-loop-class g l = (l.seat.lock ≡ l.initial.seat.lock) × (l.seat.number ≡ 0) × (l.seat.head ≡ l.initial.seat.head) × (l.seat.out ≡ length l.posters.items) × (length l.posters.items ≡ l.class)
    × (l.posters.cap ≡ l.initial.posters.cap) × All (λ poster. (poster.seat.lock ≡ l.fn.board) × (poster.seat.head ≡ l.initial.seat.head)) l.posters.items × HaveClasses (λ poster. poster.class) 0 l.posters.items × (l.seat.seen ≡ l.initial.seat.seen)
