use Rattle.std.proofs.Common.{◌≡◌, drop}
use Rattle.mem_plain.specs.Contents.{contents_with}
use Rattle.image_reader.specs.Elf.{byte_of_loads}
use Rattle.image_reader.proofs.loading.lay_loads.Given as goal

-- the loads from the k-th on are laid
abbrev pub invariant-loads : goal.invariant-loads
invariant-loads l = l.mem ≡ contents_with (byte_of_loads l.bytes (drop l.k l.loads))
