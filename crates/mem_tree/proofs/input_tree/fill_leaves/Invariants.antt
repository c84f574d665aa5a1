use Rattle.std.proofs.Common.{true}
use Rattle.mem_tree.specs.InputTree.{input_leaf}
use Rattle.mem_tree.proofs.LeafRenewingLemmas.{IsRenewing}
use Rattle.mem_tree.proofs.input_tree.fill_leaves.Given as goal

abbrev pub invariant-chunks : goal.invariant-chunks
invariant-chunks g l = IsRenewing g.C.Counted.digest_of l.fn.nodes (input_leaf l.input) (λ _. true) 32768 l.initial.steps l.nodes l.marks l.steps l.k
