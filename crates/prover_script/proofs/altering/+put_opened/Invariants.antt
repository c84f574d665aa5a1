use Rattle.std.proofs.Common.{length}
use Rattle.prover_script.proofs.altering.+put_opened.Given as goal

abbrev pub decreases-put_opened : goal.decreases-put_opened
decreases-put_opened l = length l.opened.now
