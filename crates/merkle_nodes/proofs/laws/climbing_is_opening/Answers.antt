use Rattle.merkle_nodes.specs.PathLaws.{opens-climbs, climbs-opens}
use Rattle.merkle_nodes.proofs.laws.climbing_is_opening.Goals as goal

pub returns : goal.returns
returns c = record { climbs = λ digest leaf siblings n k d. (opens-climbs digest leaf siblings n k d, climbs-opens digest leaf siblings n k d) }
