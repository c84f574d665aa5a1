use Rattle.merkle_nodes.proofs.BindingLemmas.{one_tree, same_or_split}
use Rattle.merkle_nodes.proofs.laws.roots_bind_trees.Goals as goal

pub returns-clause-leaves : goal.returns-clause-leaves
returns-clause-leaves c = one_tree

pub returns-clause-strings : goal.returns-clause-strings
returns-clause-strings c = same_or_split
