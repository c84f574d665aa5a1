use Rattle.std.proofs.Common.{Option, sym, subst, ◌∙◌}
use Rattle.mem_tree.specs.Page.{IsMadeTree, IsPageOf}
use Rattle.mem_tree.specs.Tree.{kept_of}
use Rattle.mem_tree.specs.declared.kept.PageTree.{PageTree}
use Rattle.mem_tree.proofs.JoinedLemmas.{page-same}
use Rattle.mem_tree.proofs.StaleLemmas.{stays-over}
use Rattle.mem_tree.proofs.kept.Nodes.refresh.Goals as goal

pub raise_all-requires-clause-pages : goal.raise_all-requires-clause-pages
raise_all-requires-clause-pages g c = λ p is. c.requires.pages p (c.in_ok-stale.ensures.among p is)

pub returns-in_err-raise_all-clause-others : goal.returns-in_err-raise_all-clause-others
returns-in_err-raise_all-clause-others g c = λ p not. page-same c.raise_all.new.self c.renew_pages.new.self c.raise_all.ensures.pages p ∙ c.renew_pages.ensures.others p not

pub returns-in_err-raise_all-clause-made : goal.returns-in_err-raise_all-clause-made
returns-in_err-raise_all-clause-made g c = λ p. subst (IsMadeTree g.C.Counted.digest_of) (sym (page-same c.raise_all.new.self c.renew_pages.new.self c.raise_all.ensures.pages p)) (c.renew_pages.ensures.made p)

pub returns-in_err-raise_all-clause-joined : goal.returns-in_err-raise_all-clause-joined
returns-in_err-raise_all-clause-joined g c =
    let digest = g.C.Counted.digest_of in
    stays-over digest (kept_of c.renew_pages.new.self) (kept_of c.raise_all.new.self) c.args.touched.now.pages.now.keys c.in_ok-stale.stale.items c.raise_all.ensures.empties
    (page-same c.raise_all.new.self c.renew_pages.new.self c.raise_all.ensures.pages) c.raise_all.ensures.elsewhere c.raise_all.ensures.top c.in_ok-stale.ensures.among c.renew_pages.ensures.joined

pub returns-clause-others : goal.returns-clause-others
returns-clause-others g c = λ p not. page-same c.raise_all.new.self c.renew_pages.new.self c.raise_all.ensures.pages p ∙ c.renew_pages.ensures.others p not

pub returns-clause-made : goal.returns-clause-made
returns-clause-made g c = λ p. subst (IsMadeTree g.C.Counted.digest_of) (sym (page-same c.raise_all.new.self c.renew_pages.new.self c.raise_all.ensures.pages p)) (c.renew_pages.ensures.made p)

pub returns-clause-joined : goal.returns-clause-joined
returns-clause-joined g c =
    let digest = g.C.Counted.digest_of in
    stays-over digest (kept_of c.renew_pages.new.self) (kept_of c.raise_all.new.self) c.args.touched.now.pages.now.keys c.in_ok-stale.stale.items c.raise_all.ensures.empties
    (page-same c.raise_all.new.self c.renew_pages.new.self c.raise_all.ensures.pages) c.raise_all.ensures.elsewhere c.raise_all.ensures.top c.in_ok-stale.ensures.among c.renew_pages.ensures.joined

pub returns-clause-pages : goal.returns-clause-pages
returns-clause-pages g c = λ before p. subst (λ (o : Option PageTree). IsPageOf o c.args.mem.now p) (sym (page-same c.raise_all.new.self c.renew_pages.new.self c.raise_all.ensures.pages p)) (c.in_ok-stale.ensures.pages before p)
