use Rattle.tournament.proofs.safety.TheoremLemmas as lemmas
use Rattle.tournament.proofs.laws.nobody_asked_means_over.Goals as goal

pub returns : goal.returns
returns c = lemmas.nobody_asked_is_over c.bisection_laws.ensures
