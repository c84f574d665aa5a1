use Rattle.std.proofs.Common.{inl, inr}
use Rattle.segment_replay.proofs.CursorLemmas.{same_more}
use Rattle.segment_replay.proofs.cursor.step_towards.Goals as goal

pub touch_named-requires : goal.touch_named-requires
touch_named-requires g c page named = c.in_ok-pages.ensures.pages page ((c.pages_of_two_places.ensures c.in_ok-pages.pages page c.in_ok-pages.ensures.two).1 (inl named))

pub touch_named-requires-2 : goal.touch_named-requires-2
touch_named-requires-2 g c page named = c.in_ok-pages.ensures.pages page ((c.pages_of_two_places.ensures c.in_ok-pages.pages page c.in_ok-pages.ensures.two).1 (inr named))

pub returns-clause-tree : goal.returns-clause-tree
returns-clause-tree g c old behind =
    let first = c.in_ok-touch_named.ensures in
    let second = c.in_ok-touch_named-2.ensures in
    record {
      tree_of = second.tree old (first.tree old behind.tree_of);
      same = same_more c.in_ok-pages.pages c.args.cursor.tree.touched c.touch_named.new.tree.touched c.touch_named-2.new.tree.touched old c.args.cursor.machine.mem c.advance.new.machine.mem
          (λ p. (c.pages_of_two_places.ensures c.in_ok-pages.pages p c.in_ok-pages.ensures.two).0) first.named first.others second.named second.others c.in_ok-pages.ensures.elsewhere behind.same;
    }
