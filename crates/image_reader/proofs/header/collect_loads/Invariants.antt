use Rattle.std.proofs.Common.{◌≡◌, ◌+◌, ◌*◌, ◌-◌, ◌++◌}
use Rattle.image_reader.specs.Elf.{loads_from}
use Rattle.image_reader.proofs.header.collect_loads.Given as goal

-- the loads so far, and those of the headers that are left, are all
abbrev pub invariant-headers : goal.invariant-headers
invariant-headers l =
    l.loads.items ++ loads_from l.bytes (l.offset + 32 * l.k) (l.count - l.k) ≡ loads_from l.bytes l.offset l.count
