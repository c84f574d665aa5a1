use Rattle.std.proofs.Common.{◌≡◌, take}
use Rattle.prover_run.proofs.provers.copied.Given as goal

abbrev pub invariant-scripts : goal.invariant-scripts
invariant-scripts l = l.copies.items ≡ take l.script-index l.scripts
