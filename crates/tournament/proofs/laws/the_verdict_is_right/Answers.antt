use Rattle.tournament.proofs.safety.TheoremLemmas as lemmas
use Rattle.tournament.proofs.laws.the_verdict_is_right.Goals as goal

pub returns : goal.returns
returns c = lemmas.verdict_is_right c.bisection_laws.ensures
