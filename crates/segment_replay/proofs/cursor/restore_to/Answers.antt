use Rattle.segment_replay.proofs.cursor.restore_to.Goals as goal

pub returns-clause-tree : goal.returns-clause-tree
returns-clause-tree g c =
    let old = c.args.cursor.machine.mem in
    let before = c.in_ok-released.ensures in
    let after = c.in_ok-turned.ensures in
    record {
      untouched = c.in_ok-refresh.ensures.untouched;
      tree_of = c.in_ok-refresh.ensures.tree old (after.tree old (before.tree old c.requires.tree.tree_of))
          (c.unused_pages_are_alike.ensures c.in_ok-turned.turned.touched old c.in_ok-machine.machine.mem (λ p used. after.others p (before.used p used)) after.used);
    }
