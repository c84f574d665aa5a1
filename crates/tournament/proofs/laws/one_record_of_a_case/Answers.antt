use Rattle.tournament.proofs.order.BracketLemmas as lemmas
use Rattle.tournament.proofs.laws.one_record_of_a_case.Goals as goal

pub returns : goal.returns
returns c = lemmas.record_of_case c.bisection_laws.ensures
