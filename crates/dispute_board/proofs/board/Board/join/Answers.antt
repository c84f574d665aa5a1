use Rattle.std.proofs.Common.{◌∙◌, ap}
use Rattle.dispute_board.proofs.board.Board.join.Goals as goal

pub invariant_of-seat : goal.invariant_of-seat
invariant_of-seat g c = let one = c.seat.invariant in (one.0, ap (λ k. k.head) c.join.ensures ∙ one.1)
