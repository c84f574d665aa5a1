use Rattle.std.proofs.Common.{◌≡◌, ◌<◌, ℕ, length}
use Rattle.merkle_nodes.specs.Node.{digest_at}
use Rattle.open_proof.proofs.facts.ranges.digests_are_in_range.Given as goal

abbrev pub invariant-digests : goal.invariant-digests
invariant-digests l = (k : ℕ) → k < l.i → length (digest_at l.digests k) ≡ 32
