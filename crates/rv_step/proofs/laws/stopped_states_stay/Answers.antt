use Rattle.rv_step.proofs.StepLemmas.{step-stopped}
use Rattle.rv_step.proofs.laws.stopped_states_stay.Goals as goal

pub returns : goal.returns
returns c = step-stopped
