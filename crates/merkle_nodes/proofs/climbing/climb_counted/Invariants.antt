use Rattle.std.proofs.Common.{◌≡◌, ◌/◌, ◌^◌, ◌+◌}
use Rattle.merkle_nodes.specs.Opening.{opened}
use Rattle.merkle_nodes.specs.Node.{digest_at}
use Rattle.merkle_nodes.proofs.climbing.climb_counted.Given as goal

abbrev pub invariant-levels : goal.invariant-levels
invariant-levels g l =
    (l.steps ≡ l.initial.steps + l.sibling-index)
    × (l.digest.0 ≡ g.C.Counted.digest_of (opened g.C.Counted.digest_of l.leaf (digest_at l.siblings) l.sibling-index l.index))
    × (l.k ≡ l.index / 2 ^ l.sibling-index)
