use Rattle.std.proofs.Common.{true≢false, is_some, refl, sym, ap, ◌∙◌, arith}
use Rattle.mem_tree.specs.Tree.{kept_of, page_at}
use Rattle.mem_tree.proofs.RenewedLemmas.{renewed-unused, renewed-new, renewals-unused}
use Rattle.mem_tree.proofs.kept.Nodes.renew_tree.Goals as goal

pub returns-then-not-is_used-clause-renewed : goal.returns-then-not-is_used-clause-renewed
returns-then-not-is_used-clause-renewed g c =
    let page = c.args.of.now.page in
    renewed-unused c.renewals_are_few.ensures.root c.renewals_are_few.ensures.some g.C.Counted.digest_of c.args.of.now.mem.now page
    (page_at (kept_of c.args.self.now) page) _ _ (c.requires.made page) (λ used. true≢false (sym (c.is_used.ensures.1 used) ∙ c.if-not-is_used.true))
    c.take_page-before.ensures.here refl (c.is_some.ensures ∙ ap is_some c.take_page-before.ensures.taken)

pub returns-then-not-is_used-clause-exactly : goal.returns-then-not-is_used-clause-exactly
returns-then-not-is_used-clause-exactly g c =
    let page = c.args.of.now.page in
    let none = renewals-unused c.renewals_are_few.ensures.root c.renewals_are_few.ensures.some g.C.Counted.digest_of c.args.of.now.mem.now page
    (page_at (kept_of c.args.self.now) page) (λ used. true≢false (sym (c.is_used.ensures.1 used) ∙ c.if-not-is_used.true)) in
    omega (arith, none)

pub renew_kept-requires-clause-used : goal.renew_kept-requires-clause-used
renew_kept-requires-clause-used g c = c.is_used.ensures.0 c.if-not-is_used.false

pub returns-in_ok-put_page-in-None-clause-renewed : goal.returns-in_ok-put_page-in-None-clause-renewed
returns-in_ok-put_page-in-None-clause-renewed g c =
    let page = c.args.of.now.page in
    renewed-new c.renewals_are_few.ensures.root c.renewals_are_few.ensures.some g.C.Counted.digest_of c.args.of.now.mem.now page
    (page_at (kept_of c.args.self.now) page) _ c.in_ok-tree-in-None.tree c.tree_root-root.result _ c.in-None.ensures.none c.in_ok-put_page-in-None.ensures.here
    (c.is_used.ensures.0 c.if-not-is_used.false) c.in_ok-tree-in-None.ensures.tree refl c.tree_root-root.ensures refl
