use Rattle.std.proofs.Common.{length}
use Rattle.delegate.proofs.loading.+loads_from.Given as goal

abbrev pub decreases-loads_from : goal.decreases-loads_from
decreases-loads_from l = length l.cases.now
