use Rattle.deposits.proofs.SumLemmas.{ledgers-add-up, balances-add-up}
use Rattle.deposits.proofs.laws.balances_and_pool_add_up.Goals as goal

pub returns : goal.returns
returns c = record { record_ = balances-add-up; ledger = ledgers-add-up }
