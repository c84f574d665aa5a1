use Rattle.std.proofs.Common.{◌≡◌, ◌++◌, take}
use Rattle.std.specs.List.{flat_map, AllByRecursion}
use Rattle.proof_wire.specs.Wire.{digest}
use Rattle.proof_wire.proofs.writing.put_digests.Given as goal

abbrev pub invariant-loop-sibling : goal.invariant-loop-sibling
invariant-loop-sibling l = record {
  bytes : l.out.items ≡ l.fn.out.items ++ flat_map (λ d. (digest d).bytes) (take l.sibling-index l.written);
  fits : AllByRecursion (λ d. (digest d).fits) (take l.sibling-index l.written);
}
