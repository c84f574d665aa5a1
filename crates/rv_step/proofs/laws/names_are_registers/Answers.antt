use Rattle.rv_step.proofs.NamedLemmas.{names-below}
use Rattle.rv_step.proofs.laws.names_are_registers.Goals as goal

pub returns : goal.returns
returns c = names-below
