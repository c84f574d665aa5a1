use Rattle.merkle_nodes.proofs.OpeningLemmas.{climb-node}
use Rattle.merkle_nodes.proofs.laws.paths_climb_to_nodes.Goals as goal

pub returns : goal.returns
returns c = record { climbs = climb-node }
