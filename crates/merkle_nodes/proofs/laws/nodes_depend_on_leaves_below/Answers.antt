use Rattle.merkle_nodes.proofs.NodeLemmas.{node-same}
use Rattle.merkle_nodes.proofs.laws.nodes_depend_on_leaves_below.Goals as goal

pub returns : goal.returns
returns c = record { same = node-same }
