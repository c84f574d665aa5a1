use Rattle.std.proofs.Common.{◌≡◌, ◌++◌, ◌-◌, take, drop}
use Rattle.std.specs.List.{flat_map, AllByRecursion}
use Rattle.proof_wire.specs.Wire.{in_four_bytes}
use Rattle.proof_wire.proofs.writing.put_registers.Given as goal

abbrev pub invariant-loop-reg : goal.invariant-loop-reg
invariant-loop-reg l = record {
  bytes : l.out.items ≡ l.fn.out.items ++ flat_map (λ n. (in_four_bytes n).bytes) (take (l.reg - 1) (drop 1 l.regs));
  fits : AllByRecursion (λ n. (in_four_bytes n).fits) (take (l.reg - 1) (drop 1 l.regs));
}
