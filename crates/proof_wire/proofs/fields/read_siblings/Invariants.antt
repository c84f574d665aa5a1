use Rattle.std.proofs.Common.{◌≡◌, ◌≤◌, ◌*◌, ◌-◌, length, take}
use Rattle.proof_wire.specs.Reading.{digest_ahead, each_ahead}
use Rattle.proof_wire.proofs.EachLemmas.{with_front}
use Rattle.proof_wire.proofs.fields.read_siblings.Given as goal

abbrev pub invariant-loop-sibling : goal.invariant-loop-sibling
invariant-loop-sibling g l = record {
  count : length l.sibling-items ≡ g.row.N;
  room : 32 * (g.row.N - l.sibling-index) ≤ length l.rest;
  so_far : with_front (take l.sibling-index l.sibling-items) (each_ahead digest_ahead (g.row.N - l.sibling-index) l.rest) ≡ each_ahead digest_ahead g.row.N l.bytes;
}
