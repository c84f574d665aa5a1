use Rattle.deposits.proofs.StalledLemmas.{stalls-are-free}
use Rattle.deposits.proofs.laws.stalls_are_free.Goals as goal

pub returns : goal.returns
returns c = stalls-are-free
