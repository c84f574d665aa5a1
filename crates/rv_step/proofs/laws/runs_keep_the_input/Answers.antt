use Rattle.rv_step.proofs.StepLemmas.{steps_offer}
use Rattle.rv_step.proofs.laws.runs_keep_the_input.Goals as goal

pub returns-clause-version : goal.returns-clause-version
returns-clause-version c = λ s n. (steps_offer s n).0

pub returns-clause-input : goal.returns-clause-input
returns-clause-input c = λ s n. (steps_offer s n).1
