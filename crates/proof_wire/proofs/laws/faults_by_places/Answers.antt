use Rattle.proof_wire.proofs.FaultLemmas.{by_places}
use Rattle.proof_wire.proofs.laws.faults_by_places.Goals as goal

pub returns : goal.returns
returns c = by_places
