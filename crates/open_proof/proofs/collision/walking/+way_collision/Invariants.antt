use Rattle.std.proofs.Common.{length}
use Rattle.open_proof.proofs.collision.walking.+way_collision.Given as goal

abbrev pub decreases-way_collision : goal.decreases-way_collision
decreases-way_collision g l = length l.x.now.siblings
