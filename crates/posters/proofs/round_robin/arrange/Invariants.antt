use Rattle.std.proofs.Common.{length, ◌-◌, ◌≡◌, ◌≤◌, ◌<◌, All}
use Rattle.posters.specs.Swaps.{swapped}
use Rattle.posters.specs.Arranging.{IsArranging}
use Rattle.posters.proofs.round_robin.arrange.Given as goal

abbrev pub invariant-loop-i : goal.invariant-loop-i
invariant-loop-i g l = (length l.swaps.items ≤ l.i) × (length l.swaps.items ≤ length l.items) × (length l.numbers.items ≡ length l.items) × (length l.items ≡ length l.fn.items) × (l.swaps.cap ≡ l.fn.swaps.cap)
    × All (λ j. j < length l.fn.items) l.swaps.items × (l.numbers.items ≡ swapped 0 l.swaps.items l.fn.numbers.items) × (l.items ≡ swapped 0 l.swaps.items l.fn.items) × IsArranging l.fn.classes l.class (length l.swaps.items) l.i l.numbers.items

abbrev pub decreases-loop-i : goal.decreases-loop-i
decreases-loop-i g l = length l.initial.items - l.i

abbrev pub invariant-loop-class : goal.invariant-loop-class
invariant-loop-class g l = (length l.swaps.items ≤ length l.items) × (length l.numbers.items ≡ length l.items) × (length l.items ≡ length l.fn.items) × (l.swaps.cap ≡ l.fn.swaps.cap)
    × All (λ j. j < length l.fn.items) l.swaps.items × (l.numbers.items ≡ swapped 0 l.swaps.items l.fn.numbers.items) × (l.items ≡ swapped 0 l.swaps.items l.fn.items) × IsArranging l.fn.classes l.class (length l.swaps.items) (length l.swaps.items) l.numbers.items
