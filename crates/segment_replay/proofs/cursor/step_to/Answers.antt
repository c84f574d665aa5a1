use Rattle.segment_replay.proofs.cursor.step_to.Goals as goal

pub steps-preserved : goal.steps-preserved
steps-preserved g c = record {
  until = c.in_ok-moved.ensures.within;
  machine = c.in_ok-moved.ensures.machine;
  tree = c.in_ok-moved.ensures.tree c.args.cursor.machine.mem c.steps.invariant.tree;
}

pub returns-clause-tree : goal.returns-clause-tree
returns-clause-tree g c = record {
  untouched = c.in_ok-refresh.ensures.untouched;
  tree_of = c.in_ok-refresh.ensures.tree c.args.cursor.machine.mem c.steps.invariant.tree.tree_of c.steps.invariant.tree.same;
}
