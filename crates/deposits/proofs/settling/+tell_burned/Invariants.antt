use Rattle.std.proofs.Common.{length}
use Rattle.deposits.proofs.settling.+tell_burned.Given as goal

abbrev pub decreases-tell_burned : goal.decreases-tell_burned
decreases-tell_burned l = length l.disputes.now
