use Rattle.std.proofs.Common.{⊎_elim, ◌∙◌}
use Rattle.std.proofs.lemmas.Bool.{cases_lt}
use Rattle.mem_tree.proofs.TouchedLemmas.{still_touched, used_more}
use Rattle.mem_tree.proofs.tree.touch_used_pages.Goals as goal

pub pages-preserved : goal.pages-preserved
pages-preserved g c =
    let kept = c.pages.invariant in
    let more = still_touched c.in-Some.page c.pages.with.touched c.touch.new.self.touched c.in_ok-touch.ensures.touched c.in_ok-touch.ensures.others in
    record {
      whole = c.touch.ensures.whole ∙ kept.whole;
      tree = λ m is. c.touch.ensures.tree m (kept.tree m is);
      used = used_more c.in-Some.page c.pages.with.touched c.touch.new.self.touched c.in_ok-touch.ensures.touched more c.args.mem.now c.pages.least kept.used c.in-Some.ensures.next.2;
      others = λ p touched. more p (kept.others p touched);
    }

pub returns-clause-used : goal.returns-clause-used
returns-clause-used g c p used =
    ⊎_elim (λ before. c.pages.invariant.used p before used) (λ late. absurd (c.in_default.ensures.next p late used)) (cases_lt p c.pages.least)
