use Rattle.step_referee.specs.MachineFair.{leads-exactly}
use Rattle.step_referee.proofs.laws.judged_leading_is_exact.Goals as goal

pub returns : goal.returns
returns c = leads-exactly
