use Rattle.std.proofs.Common.{length}
use Rattle.deposits.proofs.settling.+tell_disputes.Given as goal

abbrev pub decreases-tell_disputes : goal.decreases-tell_disputes
decreases-tell_disputes l = length l.disputes.now
