use Rattle.std.proofs.Common.{◌-◌, ◌≤◌}
use Rattle.segment_replay.specs.Cursor.{IsMachineOf, IsBehind}
use Rattle.segment_replay.proofs.cursor.step_to.Given as goal

-- the tree is that of the memory at first, but for the pages that were touched since then
abbrev pub invariant-steps : goal.invariant-steps
invariant-steps g l = record {
  until : l.moved.at ≤ l.goal;
  machine : IsMachineOf g.D.Digester.digest_of l.replay.run.now l.moved.at l.moved.machine;
  tree : IsBehind g.D.Digester.digest_of l.moved.tree l.fn.cursor.machine.mem l.moved.machine.mem;
}

abbrev pub decreases-steps : goal.decreases-steps
decreases-steps g l = l.goal - l.moved.at
