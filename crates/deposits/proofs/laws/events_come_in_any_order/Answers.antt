use Rattle.deposits.proofs.LawLemmas.{order-does-not-matter}
use Rattle.deposits.proofs.laws.events_come_in_any_order.Goals as goal

pub returns : goal.returns
returns c = order-does-not-matter
