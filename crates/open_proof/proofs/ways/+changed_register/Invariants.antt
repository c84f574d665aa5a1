use Rattle.std.proofs.Common.{length}
use Rattle.open_proof.proofs.ways.+changed_register.Given as goal

abbrev pub decreases-changed_register : goal.decreases-changed_register
decreases-changed_register l = length l.names.now
