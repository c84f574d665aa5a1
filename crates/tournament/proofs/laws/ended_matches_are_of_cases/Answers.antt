use Rattle.tournament.proofs.order.OfCasesLemmas as lemmas
use Rattle.tournament.proofs.laws.ended_matches_are_of_cases.Goals as goal

pub returns : goal.returns
returns c = lemmas.ended_matches_are_of_cases c.bisection_laws.ensures
