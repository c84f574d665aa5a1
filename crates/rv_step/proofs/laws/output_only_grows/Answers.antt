use Rattle.rv_step.proofs.StepLemmas.{step_adds}
use Rattle.rv_step.proofs.laws.output_only_grows.Goals as goal

pub returns : goal.returns
returns c = step_adds
