use Rattle.std.proofs.Common.{◌≡◌, ℕ, ◌*◌, List, map, take}
use Rattle.segment_replay.specs.Roots.{digests}
use Rattle.segment_replay.specs.Pieces.{ArePieces}
use Rattle.segment_replay.proofs.replaying.joined.Given as goal

abbrev pub invariant-pieces : goal.invariant-pieces
invariant-pieces g l = (want : List (List ℕ)) (size : ℕ) → ArePieces want size (map (λ w. w.made) l.workers) → digests l.all.items ≡ take (l.worker-index * size) want
