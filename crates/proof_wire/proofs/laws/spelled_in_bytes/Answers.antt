use Rattle.proof_wire.proofs.BytesLemmas.{spelled_bytes}
use Rattle.proof_wire.proofs.laws.spelled_in_bytes.Goals as goal

pub returns : goal.returns
returns c = spelled_bytes
