use Rattle.case_match.proofs.HonestLemmas.{plain-of-case}
use Rattle.case_match.proofs.laws.plain_answers_within_the_bound_are_true.Goals as goal

pub returns : goal.returns
returns c = λ digest. plain-of-case digest c.cuts_divide.ensures
