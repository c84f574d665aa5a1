use Rattle.tournament.proofs.few.DelayLemmas.{few-rounds-in-sequence}
use Rattle.tournament.proofs.laws.few_rounds_come_in_sequence.Goals as goal

pub returns : goal.returns
returns c = few-rounds-in-sequence c.stages_are_few.ensures c.a_match_has_few_disputes_and_rounds.ensures.rounds
