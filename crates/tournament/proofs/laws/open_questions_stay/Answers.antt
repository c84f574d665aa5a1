use Rattle.tournament.proofs.order.AskedLemmas as lemmas
use Rattle.tournament.proofs.laws.open_questions_stay.Goals as goal

pub returns : goal.returns
returns c = lemmas.questions_stay c.bisection_laws.ensures
