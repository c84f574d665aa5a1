use Rattle.deposits.proofs.BurningLemmas as lemmas
use Rattle.deposits.proofs.laws.stages_burn_stakes.Goals as goal

pub returns-clause-stages : goal.returns-clause-stages
returns-clause-stages c = lemmas.stages-burn c.disputes_put_out_or_collide.ensures.ends c.the_lowest_is_never_idle.ensures.disputes

pub returns-clause-others : goal.returns-clause-others
returns-clause-others c = lemmas.others-pay-for-stages c.disputes_put_out_or_collide.ensures.ends c.the_lowest_is_never_idle.ensures.disputes c.burned_stakes_add_up.ensures c.a_match_that_has_ended_is_settled_up.ensures

pub returns-clause-between : goal.returns-clause-between
returns-clause-between c = lemmas.between-burns c.disputes_put_out_or_collide.ensures.ends c.the_lowest_is_never_idle.ensures.disputes c.burned_stakes_add_up.ensures c.balances_and_pool_add_up.ensures.record_ c.a_match_that_has_ended_is_settled_up.ensures

pub returns-clause-rounds : goal.returns-clause-rounds
returns-clause-rounds c = lemmas.rounds-burn c.disputes_put_out_or_collide.ensures.ends c.the_lowest_is_never_idle.ensures.disputes c.few_rounds_come_in_sequence.ensures
