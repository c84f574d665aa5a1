use Rattle.std.proofs.Common.{length}
use Rattle.open_proof.proofs.facts.ranges.+each_is_in_range.Given as goal

abbrev pub decreases-each_is_in_range : goal.decreases-each_is_in_range
decreases-each_is_in_range l = length l.openings.now
