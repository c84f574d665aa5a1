use Rattle.std.proofs.Common.{length}
use Rattle.audit.proofs.next_entry.+next_in.Given as goal

abbrev pub decreases-next_in : goal.decreases-next_in
decreases-next_in l = length l.disputes.now
