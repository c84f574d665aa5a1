use Rattle.tournament.proofs.safety.TruthfulLemmas as lemmas
use Rattle.tournament.proofs.laws.truthful_provers_are_safe.Goals as goal

pub returns : goal.returns
returns c = lemmas.truthful_provers_are_safe c.bisection_laws.ensures
