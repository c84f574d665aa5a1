use Rattle.std.proofs.Common.{◌≡◌, drop}
use Rattle.image_reader.specs.Elf.{some_share}
use Rattle.image_reader.proofs.overlap.any_neighbours_share.Given as goal

-- none of the loads so far shares an address with any behind it
abbrev pub invariant-loads : goal.invariant-loads
invariant-loads l = some_share (drop l.k l.loads) ≡ some_share l.loads
