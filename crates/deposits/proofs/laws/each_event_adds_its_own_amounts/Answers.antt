use Rattle.deposits.proofs.LawLemmas.{events-add-their-own}
use Rattle.deposits.proofs.laws.each_event_adds_its_own_amounts.Goals as goal

pub returns : goal.returns
returns c = events-add-their-own
