use Rattle.std.proofs.Common.{length}
use Rattle.open_proof.proofs.shown.+file_of.Given as goal

abbrev pub decreases-file_of : goal.decreases-file_of
decreases-file_of l = length l.names.now
