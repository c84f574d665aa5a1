use Rattle.delegate.proofs.KindLemmas.{answer-kind}
use Rattle.delegate.proofs.of_case.answers_are_no_fault.Goals as goal

pub returns : goal.returns
returns c = answer-kind
