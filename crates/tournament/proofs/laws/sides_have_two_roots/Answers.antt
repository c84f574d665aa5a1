use Rattle.tournament.proofs.safety.PairLemmas as lemmas
use Rattle.tournament.proofs.laws.sides_have_two_roots.Goals as goal

pub returns : goal.returns
returns c = record { roots = lemmas.sides-have-two-roots c.bisection_laws.ensures; one_root = lemmas.one-root-never-meets c.bisection_laws.ensures; truthful = lemmas.truthful-never-meet c.bisection_laws.ensures }
