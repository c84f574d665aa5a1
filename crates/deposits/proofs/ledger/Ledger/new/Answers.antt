use Rattle.deposits.proofs.StepLemmas.{new-kept}
use Rattle.deposits.proofs.ledger.Ledger.new.Goals as goal

pub invariant_of-result : goal.invariant_of-result
invariant_of-result c = rw (c.in_ok-stakes.ensures, c.in_ok-none_out.ensures) (new-kept c.args.stake c.args.provers c.requires.small c.requires.few)
