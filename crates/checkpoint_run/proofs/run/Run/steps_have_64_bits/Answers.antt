use Rattle.std.proofs.Common.{arith}
use Rattle.checkpoint_run.proofs.run.Run.steps_have_64_bits.Goals as goal

pub returns-clause-bound : goal.returns-clause-bound
returns-clause-bound c = let bound = c.bound.ensures in omega arith

pub returns-clause-still : goal.returns-clause-still
returns-clause-still c = let still = c.still.ensures in omega arith
