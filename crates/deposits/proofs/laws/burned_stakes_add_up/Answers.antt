use Rattle.deposits.proofs.BurningLemmas.{burned-add-up}
use Rattle.deposits.proofs.laws.burned_stakes_add_up.Goals as goal

pub returns : goal.returns
returns c = burned-add-up c.balances_and_pool_add_up.ensures.ledger
