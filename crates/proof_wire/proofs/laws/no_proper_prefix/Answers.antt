use Rattle.proof_wire.proofs.AnswerLemmas.{whole_alone}
use Rattle.proof_wire.proofs.laws.no_proper_prefix.Goals as goal

pub returns : goal.returns
returns c = whole_alone
