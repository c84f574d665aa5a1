use Rattle.std.proofs.Common.{◌≡◌, take}
use Rattle.mem_tree.specs.Costs.{parents}
use Rattle.mem_tree.proofs.levels.parents.Given as goal

abbrev pub invariant-places : goal.invariant-places
invariant-places l = l.above.items ≡ parents (take l.i l.places)
