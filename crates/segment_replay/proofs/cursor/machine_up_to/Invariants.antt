use Rattle.std.proofs.Common.{◌-◌, ◌≤◌}
use Rattle.segment_replay.specs.Cursor.{IsMachineOf}
use Rattle.segment_replay.proofs.cursor.machine_up_to.Given as goal

abbrev pub invariant-steps : goal.invariant-steps
invariant-steps g l = record {
  until : l.at ≤ l.goal;
  machine : IsMachineOf g.D.Digester.digest_of l.run l.at l.machine;
}

abbrev pub decreases-steps : goal.decreases-steps
decreases-steps g l = l.goal - l.at
