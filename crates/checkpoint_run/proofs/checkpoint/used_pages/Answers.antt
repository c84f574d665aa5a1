use Rattle.std.proofs.Common.{⊎_elim}
use Rattle.std.proofs.lemmas.Bool.{cases_lt}
use Rattle.checkpoint_run.proofs.VersionLemmas.{added_below, used_more, used_only, shown_unused}
use Rattle.checkpoint_run.proofs.checkpoint.used_pages.Goals as goal

pub pages-preserved : goal.pages-preserved
pages-preserved c =
    let adds = c.in_ok-insert.ensures.updates.0 in
    let next = c.in-Some.ensures.next in
    record {
      below = added_below c.in-Some.page c.pages.pages.keys c.insert.new.self.keys adds c.in-Some.ensures.below c.pages.invariant.below;
      used = used_more c.in-Some.page c.pages.pages.keys c.insert.new.self.keys adds c.args.mem.now c.pages.from c.pages.invariant.used next.2;
      only = used_only c.in-Some.page c.pages.pages.keys c.insert.new.self.keys adds c.args.mem.now c.pages.invariant.only next.1;
    }

pub returns-clause-shown : goal.returns-clause-shown
returns-clause-shown c =
    shown_unused c.pages.pages.keys c.args.mem.now
    (λ p used. ⊎_elim (λ before. c.pages.invariant.used p before used) (λ late. absurd (c.in_default.ensures.next p late used)) (cases_lt p c.pages.from))
