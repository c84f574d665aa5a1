use Rattle.std.proofs.Common.{◌-◌, ◌≡◌, ◌+◌, ◌≤◌, length, drop}
use Rattle.bisect_game.specs.Bisection.{agreeing}
use Rattle.bisect_game.proofs.rounds.agreeing.Given as goal

abbrev pub invariant-loop-j : goal.invariant-loop-j
invariant-loop-j l = record {
  within : l.j ≤ l.most;
  first : l.j ≤ length l.first;
  second : l.j ≤ length l.second;
  rest : agreeing l.first l.second ≡ l.j + agreeing (drop l.j l.first) (drop l.j l.second);
}

abbrev pub decreases-loop-j : goal.decreases-loop-j
decreases-loop-j l = l.most - l.j
