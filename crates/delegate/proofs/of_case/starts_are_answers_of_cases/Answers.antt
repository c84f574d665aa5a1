use Rattle.delegate.proofs.KindLemmas.{start-kind}
use Rattle.delegate.proofs.of_case.starts_are_answers_of_cases.Goals as goal

pub returns : goal.returns
returns c = start-kind
