use Rattle.std.proofs.Common.{◌≡◌, ◌<◌, ℕ}
use Rattle.merkle_nodes.specs.Node.{empty_node, digest_at}
use Rattle.merkle_nodes.proofs.heap.fill_empty_nodes.Given as goal

abbrev pub invariant-levels : goal.invariant-levels
invariant-levels g l = record {
  written : (i : ℕ) → i < l.level → digest_at l.nodes i ≡ empty_node g.D.Digester.digest_of l.leaf i;
}
