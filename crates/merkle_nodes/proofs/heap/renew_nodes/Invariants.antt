use Rattle.std.proofs.Common.{◌+◌, ◌-◌}
use Rattle.merkle_nodes.proofs.RenewingLemmas.{IsRenewing}
use Rattle.merkle_nodes.proofs.heap.renew_nodes.Given as goal

abbrev pub invariant-nodes : goal.invariant-nodes
invariant-nodes g l = IsRenewing g.C.Counted.digest_of l.fn.nodes l.fn.marks l.width l.initial.steps l.nodes l.marks l.steps (l.width + 1 - l.k)
