use Rattle.prover_run.proofs.GrowingLemmas.{outputs_grow}
use Rattle.prover_run.proofs.laws.outputs_grow_slowly.Goals as goal

pub returns : goal.returns
returns c = outputs_grow
