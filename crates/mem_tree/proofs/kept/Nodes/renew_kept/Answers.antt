use Rattle.std.proofs.Common.{Option, Some, is_some, refl, sym, ap, subst, ◌∙◌, arith}
use Rattle.mem_tree.specs.Page.{IsMadeTree}
use Rattle.mem_tree.specs.Tree.{kept_of, page_at}
use Rattle.mem_tree.specs.Costs.{page_renewals}
use Rattle.mem_tree.specs.declared.kept.PageTree.{PageTree}
use Rattle.mem_tree.proofs.AmongLemmas.{is_at_other}
use Rattle.mem_tree.proofs.RenewedLemmas.{renewed-kept, renewals-used}
use Rattle.mem_tree.proofs.kept.Nodes.renew_kept.Goals as goal

pub renew-changed-requires : goal.renew-changed-requires
renew-changed-requires g c = (subst (IsMadeTree g.C.Counted.digest_of) (sym c.in-Some.ensures.value) (c.requires.made c.args.of.now.page)).heap

pub returns-in-Some-clause-renewed : goal.returns-in-Some-clause-renewed
returns-in-Some-clause-renewed g c =
    let page = c.args.of.now.page in
    let done = c.renew-changed.ensures in
    renewed-kept c.renewals_are_few.ensures.root c.renewals_are_few.ensures.some g.C.Counted.digest_of c.args.of.now.mem.now page
    (page_at (kept_of c.args.self.now) page) _ c.in-Some.tree.now c.renew-changed.new.tree c.tree_root.result _ (sym c.in-Some.ensures.value)
    (((c.get_mut.follows.holds c.renew-changed.new.tree).3 (ap is_some (sym c.in-Some.ensures.value))).1) c.requires.used done.heap done.chunks refl c.tree_root.ensures done.changed done.same

pub returns-in-Some-clause-elsewhere : goal.returns-in-Some-clause-elsewhere
returns-in-Some-clause-elsewhere g c p other =
    ((c.get_mut.follows.holds c.renew-changed.new.tree).3 (ap is_some (sym c.in-Some.ensures.value))).2 p (is_at_other c.args.of.now.page p (λ e. other (sym e)))

pub returns-in-Some-clause-exactly : goal.returns-in-Some-clause-exactly
returns-in-Some-clause-exactly g c =
    let m = c.args.of.now.mem.now in
    let page = c.args.of.now.page in
    let all = ap (λ (o : Option PageTree). page_renewals o m page) (sym c.in-Some.ensures.value) ∙ renewals-used c.renewals_are_few.ensures.root c.renewals_are_few.ensures.some g.C.Counted.digest_of m page (Some c.in-Some.tree.now) c.requires.used in
    omega (arith, all, c.renew-changed.ensures.steps)
