use Rattle.std.proofs.Common.{refl}
use Rattle.mem_tree.proofs.PlaceLemmas.{none-marked}
use Rattle.mem_tree.proofs.page.no_marks.Goals as goal

pub returns : goal.returns
returns c = record { len = refl; none = none-marked 256 }
