use Rattle.tournament.proofs.length.WithinLemmas as lemmas
use Rattle.tournament.proofs.laws.questions_are_within_the_bound.Goals as goal

pub returns : goal.returns
returns c = record { open_ = lemmas.open_is_within c.bisection_laws.ensures; asked = lemmas.asked_is_within c.bisection_laws.ensures }
