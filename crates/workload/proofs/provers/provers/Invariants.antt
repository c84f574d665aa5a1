use Rattle.std.proofs.Common.{◌≡◌, ◌+◌, ◌*◌, map}
use Rattle.serde_json.specs.View.{view}
use Rattle.workload.specs.Draws.{draw, first_values}
use Rattle.workload.specs.Workload.{prover_tree}
use Rattle.workload.proofs.provers.provers.Given as goal

abbrev pub invariant-loop-place : goal.invariant-loop-place
invariant-loop-place l = record {
  drawn : l.draws.last ≡ draw l.seed (4096 + 2 * l.place);
  made : map view l.provers.items ≡ first_values l.place (prover_tree l.seed);
}
