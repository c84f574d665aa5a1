use Rattle.deposits.proofs.BurningLemmas.{first-is-paid-for-stages}
use Rattle.deposits.proofs.laws.the_first_is_paid_for_stages.Goals as goal

pub returns : goal.returns
returns c = first-is-paid-for-stages c.the_lowest_is_never_idle.ensures.first c.who_lives_wins_all.ensures.lives
