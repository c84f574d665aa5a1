use Rattle.merkle_nodes.proofs.HeapLemmas.{heap-node}
use Rattle.merkle_nodes.proofs.laws.heaps_are_trees.Goals as goal

pub returns : goal.returns
returns c = record { nodes = λ digest nodes leaf n heap. heap-node digest nodes n leaf heap }
