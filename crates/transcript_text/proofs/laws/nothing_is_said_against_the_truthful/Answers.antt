use Rattle.transcript_text.proofs.AgainstLemmas.{nothing_against}
use Rattle.transcript_text.proofs.laws.nothing_is_said_against_the_truthful.Goals as goal

pub returns : goal.returns
returns c = nothing_against
