use Rattle.std.proofs.Common.{◌≡◌, ◌∷◌, ◌+◌, ◌*◌, length, take}
use Rattle.std.specs.List.{flat_map}
use Rattle.byteorder.specs.Endian.{little_bytes}
use Rattle.digest_core.proofs.text.registers_text.Given as goal

abbrev pub invariant-regs : goal.invariant-regs
invariant-regs l = record {
  done : l.string ≡ 2 ∷ flat_map (little_bytes 4) (take l.reg l.regs);
  size : length l.string ≡ 1 + 4 * l.reg;
}
