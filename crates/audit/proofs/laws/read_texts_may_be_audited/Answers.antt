use Rattle.audit.proofs.ReadLemmas.{read-auditable}
use Rattle.audit.proofs.laws.read_texts_may_be_audited.Goals as goal

pub returns : goal.returns
returns c = read-auditable c.reading_is_the_inverse_of_writing.ensures.exactly
