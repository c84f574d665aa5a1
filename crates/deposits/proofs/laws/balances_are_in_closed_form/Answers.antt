use Rattle.deposits.proofs.LawLemmas.{records-are-in-closed-form, ledgers-are-in-closed-form}
use Rattle.deposits.proofs.laws.balances_are_in_closed_form.Goals as goal

pub returns : goal.returns
returns c = record { record_ = records-are-in-closed-form; ledger = ledgers-are-in-closed-form }
