use Rattle.checkpoint_run.proofs.ValidRunLemmas.{runs-valid}
use Rattle.checkpoint_run.proofs.laws.tampered_runs_keep_valid_states.Goals as goal

pub returns : goal.returns
returns c = runs-valid c.memories_are_their_bytes.ensures.stored c.steps_keep_valid_states.ensures
