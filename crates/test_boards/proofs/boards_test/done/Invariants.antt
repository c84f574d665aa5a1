use Rattle.std.proofs.Common.{◌≡◌}
use Rattle.test_boards.specs.Seats.{IsSeatOfTwo}
use Rattle.test_boards.proofs.boards_test.done.Given as goal

abbrev pub invariant-loop-prover : goal.invariant-loop-prover
invariant-loop-prover g l = IsSeatOfTwo l.fn.board l.fn.cast l.seat × (l.seat.number ≡ 0) × (l.seat.out ≡ 0)
