use Rattle.std.proofs.Common.{◌≡◌, ◌<◌, ◌≤◌, All, length}
use Rattle.posters.specs.Swaps.{swapped_back}
use Rattle.posters.proofs.round_robin.restore.Given as goal

abbrev pub invariant-loop-j : goal.invariant-loop-j
invariant-loop-j g l = (length l.items ≡ length l.fn.items) × (length l.swaps.items ≤ length l.fn.items) × All (λ j. j < length l.fn.items) l.swaps.items × (swapped_back 0 l.fn.swaps.items l.fn.items ≡ swapped_back 0 l.swaps.items l.items)

abbrev pub decreases-loop-j : goal.decreases-loop-j
decreases-loop-j g l = length l.swaps.items
