use Rattle.std.proofs.Common.{◌≡◌, ◌+◌, ◌-◌, ◌^◌, ◌<◌, ◌≤◌, ℕ}
use Rattle.merkle_nodes.specs.Node.{digest_at}
use Rattle.merkle_nodes.proofs.heap.fill_empty_heap.Given as goal

abbrev pub invariant-places : goal.invariant-places
invariant-places l = (i m : ℕ) → 1 ≤ i → i < l.place → m ≤ l.levels → 2 ^ m ≤ i → i < 2 ^ (m + 1) → digest_at l.nodes i ≡ digest_at l.empties (l.levels - m)
