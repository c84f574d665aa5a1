use Rattle.std.proofs.Common.{length}
use Rattle.case_match.proofs.opening.+open_matches.Given as goal

abbrev pub decreases-open_matches : goal.decreases-open_matches
decreases-open_matches g l = length l.loads.items
