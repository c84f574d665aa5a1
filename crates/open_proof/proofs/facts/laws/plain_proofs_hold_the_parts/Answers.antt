use Rattle.open_proof.proofs.TruthLemmas.{plain-holds}
use Rattle.open_proof.proofs.facts.laws.plain_proofs_hold_the_parts.Goals as goal

pub returns : goal.returns
returns c = plain-holds
