use Rattle.std.proofs.Common.{◌≡◌, ◌-◌, length}
use Rattle.proof_wire.specs.Reading.{digest_ahead, each_ahead}
use Rattle.proof_wire.proofs.EachLemmas.{with_front}
use Rattle.proof_wire.proofs.reading.read_digests.Given as goal

abbrev pub invariant-loop : goal.invariant-loop
invariant-loop l = record {
  number : length l.digests.items ≡ l.counter;
  so_far : with_front l.digests.items (each_ahead digest_ahead (l.fn.count - l.counter) l.rest) ≡ each_ahead digest_ahead l.fn.count l.bytes;
}
