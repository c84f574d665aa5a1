use Rattle.std.proofs.Common.{◌≡◌, ◌++◌, take}
use Rattle.std.specs.List.{flat_map, AllByRecursion}
use Rattle.proof_wire.specs.Wire.{register_opening}
use Rattle.proof_wire.proofs.writing.put_openings.Given as goal

abbrev pub invariant-loop-opened : goal.invariant-loop-opened
invariant-loop-opened l = record {
  bytes : l.out.items ≡ l.fn.out.items ++ flat_map (λ d. (register_opening d).bytes) (take l.opened-index l.named);
  fits : AllByRecursion (λ d. (register_opening d).fits) (take l.opened-index l.named);
}
