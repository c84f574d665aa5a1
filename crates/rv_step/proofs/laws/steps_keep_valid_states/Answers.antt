use Rattle.rv_step.proofs.ValidLemmas.{step_valid}
use Rattle.rv_step.proofs.laws.steps_keep_valid_states.Goals as goal

pub returns : goal.returns
returns c = step_valid c.memories_are_their_bytes.ensures.stored
