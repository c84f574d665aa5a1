use Rattle.mem_tree.proofs.NodeLemmas.{node-inside, node-over}
use Rattle.mem_tree.proofs.laws.kept_nodes_are_of_the_memory.Goals as goal

pub returns-clause-inside : goal.returns-clause-inside
returns-clause-inside c = λ digest t m empty made pages.
    node-inside c.heaps_are_trees.ensures.nodes c.nodes_depend_on_leaves_below.ensures.same c.nodes_over_one_string_are_empty.ensures.empty digest t empty made m pages

pub returns-clause-over : goal.returns-clause-over
returns-clause-over c = λ digest t m empty made pages.
    node-over c.heaps_are_trees.ensures.nodes c.nodes_depend_on_leaves_below.ensures.same c.nodes_over_one_string_are_empty.ensures.empty digest t empty made m pages
