use Rattle.std.proofs.Common.{ℕ, length, ◌-◌, ◌≤◌, ◌<◌, ◌%◌, slice_index}
use Rattle.posters.proofs.round_robin.count_below.Given as goal

abbrev pub invariant-loop-i : goal.invariant-loop-i
invariant-loop-i l = (l.i ≤ length l.numbers) × ((j : ℕ) → j < l.i → slice_index l.numbers j % l.fn.classes < l.fn.class)

abbrev pub decreases-loop-i : goal.decreases-loop-i
decreases-loop-i l = length l.numbers - l.i
