use Rattle.sha2.specs.Sha256.{sha256}
use Rattle.delegate.proofs.commands.run.run.Goals as goal

pub advance-requires : goal.advance-requires
advance-requires c = (c.in_ok-machine.ensures.fresh sha256).chained
