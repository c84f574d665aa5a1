use Rattle.tournament.proofs.few.SumLemmas.{few-questions, questions-cost}
use Rattle.tournament.proofs.laws.questions_are_few.Goals as goal

pub returns-clause-each : goal.returns-clause-each
returns-clause-each c = few-questions c.a_match_has_few_disputes_and_rounds.ensures.disputes c.a_match_has_few_disputes_and_rounds.ensures.rounds

pub returns-clause-cost : goal.returns-clause-cost
returns-clause-cost c = questions-cost c.a_match_has_few_disputes_and_rounds.ensures.rounds
