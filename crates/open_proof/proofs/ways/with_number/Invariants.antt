use Rattle.std.proofs.Common.{◌≡◌, ◌+◌, ◌-◌}
use Rattle.mem_plain.specs.Page.{with_number_in}
use Rattle.open_proof.proofs.ways.with_number.Given as goal

-- the bytes that are left, written over those so far, give the whole
abbrev pub invariant-bytes : goal.invariant-bytes
invariant-bytes l = with_number_in l.bytes (l.at + l.k) (l.width - l.k) l.rest ≡ with_number_in l.fn.chunk l.at l.width l.value
