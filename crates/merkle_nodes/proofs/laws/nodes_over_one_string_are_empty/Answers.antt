use Rattle.merkle_nodes.proofs.NodeLemmas.{node-empty}
use Rattle.merkle_nodes.proofs.laws.nodes_over_one_string_are_empty.Goals as goal

pub returns : goal.returns
returns c = record { empty = node-empty }
