use Rattle.tournament.proofs.few.SumLemmas as lemmas
use Rattle.tournament.proofs.laws.posts_are_few.Goals as goal

pub returns-clause-by_questions : goal.returns-clause-by_questions
returns-clause-by_questions c = lemmas.posts-by-questions c.a_match_has_few_disputes_and_rounds.ensures.disputes c.a_match_has_few_disputes_and_rounds.ensures.rounds c.a_record_is_of_its_provers.ensures.provers c.open_disputes_share_no_prover.ensures.two

pub returns-clause-of_each : goal.returns-clause-of_each
returns-clause-of_each c = lemmas.few-posts-of-each c.a_match_has_few_disputes_and_rounds.ensures.disputes c.a_match_has_few_disputes_and_rounds.ensures.rounds c.a_record_is_of_its_provers.ensures.provers c.open_disputes_share_no_prover.ensures.two

pub returns-clause-all : goal.returns-clause-all
returns-clause-all c = lemmas.few-posts c.a_match_has_few_disputes_and_rounds.ensures.disputes c.a_match_has_few_disputes_and_rounds.ensures.rounds c.a_record_is_of_its_provers.ensures.provers c.open_disputes_share_no_prover.ensures.two
