use Rattle.tournament.proofs.order.SoFarLemmas as lemmas
use Rattle.tournament.proofs.laws.a_record_is_the_bracket_over_its_answers.Goals as goal

pub returns : goal.returns
returns c = lemmas.record_is_bracket c.bisection_laws.ensures
