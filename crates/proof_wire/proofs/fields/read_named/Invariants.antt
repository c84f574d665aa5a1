use Rattle.std.proofs.Common.{◌≡◌, ◌-◌, length}
use Rattle.proof_wire.specs.Reading.{register_opening_ahead, each_ahead}
use Rattle.proof_wire.proofs.EachLemmas.{with_front}
use Rattle.proof_wire.proofs.fields.read_named.Given as goal

abbrev pub invariant-loop : goal.invariant-loop
invariant-loop l = record {
  count : length l.named ≡ l.counter;
  so_far : with_front l.named (each_ahead register_opening_ahead (l.fn.count - l.counter) l.rest) ≡ each_ahead register_opening_ahead l.fn.count l.bytes;
}
