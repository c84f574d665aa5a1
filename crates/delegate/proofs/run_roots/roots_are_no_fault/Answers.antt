use Rattle.delegate.proofs.KindLemmas.{roots-kind}
use Rattle.delegate.proofs.run_roots.roots_are_no_fault.Goals as goal

pub returns : goal.returns
returns c = roots-kind
