use Rattle.tournament.proofs.safety.TheoremLemmas as lemmas
use Rattle.tournament.proofs.laws.truthful_provers_stay.Goals as goal

pub returns : goal.returns
returns c = lemmas.truthful_stay c.bisection_laws.ensures
