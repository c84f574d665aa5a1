use Rattle.merkle_nodes.proofs.OpeningLemmas.{climb-changed}
use Rattle.merkle_nodes.proofs.laws.changed_leaves_climb_with_old_siblings.Goals as goal

pub returns : goal.returns
returns c = record { climbs = climb-changed }
