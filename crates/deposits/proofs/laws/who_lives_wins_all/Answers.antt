use Rattle.deposits.proofs.BalanceLemmas as lemmas
use Rattle.deposits.proofs.laws.who_lives_wins_all.Goals as goal

pub returns-clause-lives : goal.returns-clause-lives
returns-clause-lives c = lemmas.who-lives-wins-all c.disputes_put_out_or_collide.ensures.ends c.disputes_put_out_or_collide.ensures.one c.balances_and_pool_add_up.ensures.record_ c.a_match_that_has_ended_is_settled_up.ensures

pub returns-clause-truthful : goal.returns-clause-truthful
returns-clause-truthful c = lemmas.true-moves-win-all c.disputes_put_out_or_collide.ensures.ends c.disputes_put_out_or_collide.ensures.one c.balances_and_pool_add_up.ensures.record_ c.a_match_that_has_ended_is_settled_up.ensures c.true_moves_are_true_answers.ensures.safe

pub returns-clause-others : goal.returns-clause-others
returns-clause-others c = lemmas.others-gain-nothing c.disputes_put_out_or_collide.ensures.ends c.disputes_put_out_or_collide.ensures.one c.balances_and_pool_add_up.ensures.record_ c.a_match_that_has_ended_is_settled_up.ensures

pub returns-clause-scripts : goal.returns-clause-scripts
returns-clause-scripts c = lemmas.truthful-win-all c.disputes_put_out_or_collide.ensures.ends c.disputes_put_out_or_collide.ensures.one c.balances_and_pool_add_up.ensures.record_ c.a_match_that_has_ended_is_settled_up.ensures c.truthful_provers_are_safe.ensures c.legal_moves_are_posts.ensures
