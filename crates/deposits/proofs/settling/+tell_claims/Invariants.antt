use Rattle.std.proofs.Common.{length}
use Rattle.deposits.proofs.settling.+tell_claims.Given as goal

abbrev pub decreases-tell_claims : goal.decreases-tell_claims
decreases-tell_claims l = length l.claims.now
