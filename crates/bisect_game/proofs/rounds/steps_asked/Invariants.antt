use Rattle.std.proofs.Common.{◌≡◌, ◌-◌, ◌+◌, ◌++◌, ◌≤◌, length}
use Rattle.bisect_game.specs.Bisection.{cuts, cuts_from}
use Rattle.bisect_game.proofs.rounds.steps_asked.Given as goal

-- the cuts so far, followed by those that are left, are all
abbrev pub invariant-cuts : goal.invariant-cuts
invariant-cuts l = record {
  whole : l.steps.items ++ cuts_from l.lo l.hi l.parts l.j (l.parts - l.j) ≡ cuts l.lo l.hi l.parts;
  count : length l.steps.items + 1 ≡ l.j;
  low : 1 ≤ l.j;
  high : l.j ≤ l.parts;
}
