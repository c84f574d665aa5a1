use Rattle.delegate.proofs.TrueLemmas.{is-within}
use Rattle.delegate.proofs.of_case.plain_answers_are_true.Goals as goal

pub returns : goal.returns
returns c = λ digest of start k may. c.plain_answers_within_the_bound_are_true.ensures digest of start k (is-within of.bound k may)
