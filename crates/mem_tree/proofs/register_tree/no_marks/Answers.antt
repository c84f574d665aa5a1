use Rattle.std.proofs.Common.{refl}
use Rattle.mem_tree.proofs.PlaceLemmas.{none-marked}
use Rattle.mem_tree.proofs.register_tree.no_marks.Goals as goal

pub returns : goal.returns
returns c = record { len = refl; none = none-marked 64 }
