use Rattle.std.proofs.Common.{◌≡◌, drop}
use Rattle.prover_script.specs.Manners.{written}
use Rattle.prover_script.proofs.scripted.written.Given as goal

-- what is written down stands behind
abbrev pub invariant-entries : goal.invariant-entries
invariant-entries l = written l.entries l.qid ≡ written (drop l.entry-index l.entries) l.qid
