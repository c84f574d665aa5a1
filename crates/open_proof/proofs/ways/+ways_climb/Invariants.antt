use Rattle.std.proofs.Common.{length}
use Rattle.open_proof.proofs.ways.+ways_climb.Given as goal

abbrev pub decreases-ways_climb : goal.decreases-ways_climb
decreases-ways_climb g l = length l.ways.now
