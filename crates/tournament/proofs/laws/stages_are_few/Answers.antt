use Rattle.tournament.proofs.few.StageCountLemmas.{few-stages}
use Rattle.tournament.proofs.laws.stages_are_few.Goals as goal

pub returns : goal.returns
returns c = few-stages c.a_match_has_few_disputes_and_rounds.ensures.disputes
