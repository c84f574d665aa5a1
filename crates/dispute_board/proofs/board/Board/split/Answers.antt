use Rattle.std.proofs.Common.{◌∙◌, ap}
use Rattle.dispute_board.proofs.board.Board.split.Goals as goal

pub invariant_of-seat : goal.invariant_of-seat
invariant_of-seat g c = let one = c.seat.invariant in (one.0, ap (λ k. k.head) c.split.ensures.first ∙ one.1)

pub invariant_of-result : goal.invariant_of-result
invariant_of-result g c = let one = c.seat.invariant in (one.0, ap (λ k. k.head) c.split.ensures.other ∙ one.1)
