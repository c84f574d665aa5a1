use Rattle.transcript_text.proofs.MoveLemmas.{text-of-parts}
use Rattle.transcript_text.proofs.laws.a_full_text_is_that_of_its_parts.Goals as goal

pub returns : goal.returns
returns c = text-of-parts
