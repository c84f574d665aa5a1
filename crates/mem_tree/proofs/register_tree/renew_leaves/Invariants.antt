use Rattle.mem_tree.specs.RegisterTree.{register_leaf, differs}
use Rattle.mem_tree.proofs.LeafRenewingLemmas.{IsRenewing}
use Rattle.mem_tree.proofs.register_tree.renew_leaves.Given as goal

abbrev pub invariant-registers : goal.invariant-registers
invariant-registers g l = IsRenewing g.C.Counted.digest_of l.fn.nodes (register_leaf l.change.after.now) (differs l.change.before.now l.change.after.now) 32 l.initial.steps l.nodes l.marks l.steps l.reg
