use Rattle.std.proofs.Common.{◌≡◌}
use Rattle.workload.specs.Draws.{draw, first_values}
use Rattle.workload.specs.Workload.{input_byte}
use Rattle.workload.proofs.big.input.Given as goal

abbrev pub invariant-loop : goal.invariant-loop
invariant-loop l = record {
  drawn : l.draws.last ≡ draw l.fn.draws.last l.counter;
  made : l.bytes.items ≡ first_values l.counter (input_byte l.fn.draws.last);
}
