use Rattle.std.proofs.Common.{length}
use Rattle.prover_run.proofs.provers.+put_answerers.Given as goal

abbrev pub decreases-put_answerers : goal.decreases-put_answerers
decreases-put_answerers g l = length l.scripts.now
