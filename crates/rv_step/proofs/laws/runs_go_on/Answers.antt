use Rattle.rv_step.proofs.StepLemmas.{run_adds, run_valid, state_at-add}
use Rattle.rv_step.proofs.laws.runs_go_on.Goals as goal

pub returns-clause-further : goal.returns-clause-further
returns-clause-further c = state_at-add

pub returns-clause-valid : goal.returns-clause-valid
returns-clause-valid c = run_valid c.steps_keep_valid_states.ensures

pub returns-clause-output : goal.returns-clause-output
returns-clause-output c = run_adds
