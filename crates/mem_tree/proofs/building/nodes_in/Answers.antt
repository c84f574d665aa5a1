use Rattle.std.proofs.Common.{◌≡◌, ◌<◌, ℕ, [], ◌∷◌, ◌++◌, All, IfOk, Option, Result, false, true, true≢false, refl, ◌∙◌, sym, ap, subst, arith, ⊎_elim}
use Rattle.std.specs.List.{AllZip}
use Rattle.std.proofs.lemmas.Bool.{cases_eq}
use Rattle.rd_base.specs.declared.memory.Memory.{Memory}
use Rattle.mem_plain.specs.Contents.{has_page}
use Rattle.mem_tree.specs.Page.{AreEmpty, IsMadeTree, IsPageOf, IsPageTree}
use Rattle.mem_tree.specs.Tree.{kept_of, page_at, upper_at, IsRoot}
use Rattle.mem_tree.specs.Levels.{IsJoinedOver}
use Rattle.mem_tree.proofs.StaleLemmas.{over-first, over-last, over-more, among-one}
use Rattle.mem_tree.specs.declared.kept.PageTree.{PageTree}
use Rattle.mem_tree.proofs.AmongLemmas.{among-but_last, zip-last, zip-none, no-items, all-front, all-last}
use Rattle.mem_tree.proofs.JoinedLemmas.{nothing-joined, nothing-at, page-same}
use Rattle.mem_tree.proofs.PageLemmas.{unused-page}
use Rattle.mem_tree.proofs.building.nodes_in.Goals as goal

pub pages-init : goal.pages-init
pages-init g c =
    let digest = g.D.Digester.digest_of in
    let m = c.args.mem.now in
    let left = c.in_ok-left.left.items in
    let nodes = c.no_nodes-nodes.result in
    let none = nothing-at (kept_of nodes) c.no_nodes-nodes.ensures.pages in
    record {
      pages = c.in_ok-left.ensures.pages;
      trees = subst (λ xs. AllZip (λ page tree. IfOk tree (λ t. IsPageTree digest t m page)) xs c.in_ok-trees.trees.items) c.deref.ensures.value c.in_ok-trees.ensures;
      empty = c.no_nodes-nodes.ensures.empty;
      made = λ p. subst (IsMadeTree digest) (sym (none p)) tt;
      joined = subst (λ xs. IsJoinedOver digest (kept_of nodes) xs []) (sym c.new-placed.ensures.items)
          (over-first digest (kept_of nodes) [] (nothing-joined digest (kept_of nodes) c.no_nodes-nodes.ensures.pages c.no_nodes-nodes.ensures.upper c.no_nodes-nodes.ensures.empty));
      low = λ p is. absurd (true≢false (sym is ∙ ap (λ xs. has_page xs p) c.new-placed.ensures.items));
      are = λ p fresh. subst (λ (o : Option PageTree). IsPageOf o m p) (sym (none p)) (unused-page m p (λ used. true≢false (sym (c.in_ok-left.ensures.used p used) ∙ fresh)));
    }

pub unreachable-requires : goal.unreachable-requires
unreachable-requires g c =
    let R = λ (page : ℕ) (tree : Result (Option PageTree) Memory). IfOk tree (λ t. IsPageTree g.D.Digester.digest_of t c.args.mem.now page) in
    zip-none R c.pop.new.self.items c.in-Some.page
    (subst (λ ys. AllZip R (c.pop.new.self.items ++ c.in-Some.page ∷ []) ys) (no-items c.pages.trees.items (omega (arith, c.pages.trees.ok.0, c.in_default-pop.ensures.cases.0))) (subst (λ xs. AllZip R xs c.pages.trees.items) c.in-Some.ensures.items c.pages.invariant.trees))

pub pages-preserved : goal.pages-preserved
pages-preserved g c =
    let digest = g.D.Digester.digest_of in
    let m = c.args.mem.now in
    let page = c.in-Some.page in
    let left = c.pop.new.self.items in
    let rest = c.pop-in-Some.new.self.items in
    let popped : c.pages.left.items ≡ left ++ page ∷ [] = c.in-Some.ensures.items in
    let popped2 = c.in-Some-pop.ensures.items in
    let R = λ (page : ℕ) (tree : Result (Option PageTree) Memory). IfOk tree (λ t. IsPageTree digest t m page) in
    let zips = zip-last R left rest page c.in-Some-pop.tree (subst (λ ys. AllZip R (left ++ page ∷ []) ys) popped2 (subst (λ xs. AllZip R xs c.pages.trees.items) popped c.pages.invariant.trees)) in
    let tree : IsPageTree digest c.in_ok-tree.field-0 m page = subst (λ t. IfOk t (λ t'. IsPageTree digest t' m page)) c.in_ok-tree.was zips.1 in
    record {
      pages = all-front (λ p. p < 1048576) left page (subst (λ xs. All (λ p. p < 1048576) xs) popped c.pages.invariant.pages);
      trees = zips.0;
      empty = subst (AreEmpty digest) (sym c.set_page.ensures.empties) c.pages.invariant.empty;
      made = c.set_page.ensures.made c.pages.invariant.made tree.made;
      joined = subst (λ xs. IsJoinedOver digest (kept_of c.set_page.new.self) xs []) (sym c.in_ok-push.ensures.items)
          (over-more digest (kept_of c.pages.nodes) (kept_of c.set_page.new.self) page c.set_page.ensures.empties c.set_page.ensures.elsewhere c.set_page.ensures.upper c.pages.placed.items [] []
          (subst (λ (o : Option PageTree). IsRoot (upper_at (kept_of c.set_page.new.self) 0 page) o) (sym c.in_ok-set_page.ensures.here) c.in_ok-set_page.ensures.root) (λ p other not. refl) c.pages.invariant.joined);
      low = λ p is. ⊎_elim
          (λ same. subst (λ q. q < 1048576) (sym same) (all-last (λ p. p < 1048576) left page (subst (λ xs. All (λ p. p < 1048576) xs) popped c.pages.invariant.pages)))
          (λ held. c.pages.invariant.low p held)
          (among-one c.pages.placed.items page p (subst (λ xs. has_page xs p ≡ true) c.in_ok-push.ensures.items is));
      are = λ p fresh. ⊎_elim
          (λ same. subst (λ q. IsPageOf (page_at (kept_of c.set_page.new.self) q) m q) (sym same) (subst (λ (o : Option PageTree). IsPageOf o m page) (sym c.in_ok-set_page.ensures.here) tree.page_of))
          (λ other. subst (λ (o : Option PageTree). IsPageOf o m p) (sym (c.set_page.ensures.elsewhere p other))
          (c.pages.invariant.are p (subst (λ l. has_page l p ≡ false) (sym popped) (among-but_last left page p other fresh))))
          (cases_eq p page);
    }

pub returns-clause-pages : goal.returns-clause-pages
returns-clause-pages g c = λ p. subst (λ (o : Option PageTree). IsPageOf o c.args.mem.now p) (sym (page-same c.raise_all.new.self c.pages.nodes c.raise_all.ensures.pages p))
    (c.pages.invariant.are p (ap (λ xs. has_page xs p) (no-items c.pages.left.items (omega (arith, c.pages.left.ok.0, c.in_default.ensures.cases.0)))))

pub returns-clause-made : goal.returns-clause-made
returns-clause-made g c = λ p. subst (IsMadeTree g.D.Digester.digest_of) (sym (page-same c.raise_all.new.self c.pages.nodes c.raise_all.ensures.pages p)) (c.pages.invariant.made p)

pub returns-clause-joined : goal.returns-clause-joined
returns-clause-joined g c = c.in_ok-raise_all.ensures.joined (over-last g.D.Digester.digest_of (kept_of c.pages.nodes) c.pages.placed.items c.pages.invariant.joined)
