use Rattle.std.proofs.Common.{length}
use Rattle.open_proof.proofs.proving.+put_openings.Given as goal

abbrev pub decreases-put_openings : goal.decreases-put_openings
decreases-put_openings g l = length l.names.now
