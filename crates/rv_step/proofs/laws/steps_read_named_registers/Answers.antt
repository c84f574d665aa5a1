use Rattle.rv_step.proofs.AlikeLemmas.{steps-alike, step-changes}
use Rattle.rv_step.proofs.laws.steps_read_named_registers.Goals as goal

pub returns-clause-alike : goal.returns-clause-alike
returns-clause-alike c = steps-alike

pub returns-clause-changes : goal.returns-clause-changes
returns-clause-changes c = step-changes
