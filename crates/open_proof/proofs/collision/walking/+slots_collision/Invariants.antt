use Rattle.std.proofs.Common.{length}
use Rattle.open_proof.proofs.collision.walking.+slots_collision.Given as goal

abbrev pub decreases-slots_collision : goal.decreases-slots_collision
decreases-slots_collision g l = length l.xs.now
