use Rattle.tournament.proofs.order.AskedLemmas as lemmas
use Rattle.tournament.proofs.laws.a_number_names_one_question.Goals as goal

pub returns : goal.returns
returns c = lemmas.asked_by_the_case c.bisection_laws.ensures
