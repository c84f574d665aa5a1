use Rattle.mem_tree.proofs.RenewingLemmas.{IsRenewing}
use Rattle.mem_tree.proofs.page.renew_leaves.Given as goal

abbrev pub invariant-chunks : goal.invariant-chunks
invariant-chunks g l = IsRenewing g.C.Counted.digest_of l.fn.nodes l.fn.chunks l.of.mem.now l.of.page l.initial.steps l.nodes l.chunks l.marks l.steps l.j
