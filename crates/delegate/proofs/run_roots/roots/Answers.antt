use Rattle.sha2.specs.Sha256.{sha256}
use Rattle.delegate.proofs.run_roots.roots.Goals as goal

pub roots_from-requires : goal.roots_from-requires
roots_from-requires c = (c.in_ok-machine.ensures.fresh sha256).chained
