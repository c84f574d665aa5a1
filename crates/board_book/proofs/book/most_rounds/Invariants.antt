use Rattle.std.proofs.Common.{◌≡◌, ◌*◌, ◌^◌, ◌<◌, ◌-◌}
use Rattle.board_book.proofs.book.most_rounds.Given as goal

abbrev pub invariant-loop-power : goal.invariant-loop-power
invariant-loop-power l = record {
  is : l.fan ^ l.rounds ≡ l.power;
  low : l.power < l.fan * l.bound;
  some : 0 < l.power;
}

abbrev pub decreases-loop-power : goal.decreases-loop-power
decreases-loop-power l = l.bound - l.power
