use Rattle.std.proofs.Common.{◌≡◌, length}
use Rattle.std.specs.List.{range_with_len}
use Rattle.posters.proofs.round_robin.serve_all.Given as goal

abbrev pub invariant-loop-number : goal.invariant-loop-number
invariant-loop-number g l = (l.numbers.items ≡ range_with_len 0 l.number) × (length l.numbers.items ≡ l.number) × (l.numbers.cap ≡ l.initial.numbers.cap)
