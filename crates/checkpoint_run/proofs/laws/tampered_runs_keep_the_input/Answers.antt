use Rattle.checkpoint_run.proofs.RunLemmas.{kept_by, tampered_input, run_input}
use Rattle.checkpoint_run.proofs.laws.tampered_runs_keep_the_input.Goals as goal

pub returns-clause-version_at : goal.returns-clause-version_at
returns-clause-version_at c t i s = (tampered_input t i s).0

pub returns-clause-input_at : goal.returns-clause-input_at
returns-clause-input_at c t i s = (tampered_input t i s).1

pub returns-clause-version : goal.returns-clause-version
returns-clause-version c t first i = (run_input (kept_by c.runs_keep_the_input.ensures.version c.runs_keep_the_input.ensures.input) t first i).0

pub returns-clause-input : goal.returns-clause-input
returns-clause-input c t first i = (run_input (kept_by c.runs_keep_the_input.ensures.version c.runs_keep_the_input.ensures.input) t first i).1
