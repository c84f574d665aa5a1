use Rattle.open_proof.proofs.TruthLemmas.{plain-names}
use Rattle.open_proof.proofs.facts.laws.plain_proofs_name_registers.Goals as goal

pub returns : goal.returns
returns c = λ digest s. plain-names digest s c.laws_below.ensures.steps
