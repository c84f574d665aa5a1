use Rattle.std.proofs.Common.{◌≡◌}
use Rattle.posters.specs.Serving.{staying_part_of}
use Rattle.test_boards.specs.TaskSeats.{IsSeatOfTasks}
use Rattle.test_boards.proofs.task_boards_test.play_in_order.Given as goal

abbrev pub invariant-loop-turn : goal.invariant-loop-turn
invariant-loop-turn g l = IsSeatOfTasks l.fn.board l.fn.casts.0 l.fn.casts.1 l.seat × (staying_part_of l.seat ≡ staying_part_of l.initial.seat)
