use Rattle.std.proofs.Common.{◌≡◌, ◌+◌, ◌∷◌, ◌++◌, ◌||◌, cond, [], ℕ, refl, Option, true, false, true≢false, length, length-append, ap, ◌∙◌, sym, subst, arith, ⊎_elim}
use Rattle.std.specs.Ordering.{nat_cmp}
use Rattle.std.specs.List.Sorted.{IsStrictlySortedBy}
use Rattle.std.proofs.lemmas.Bool.{cases_eq, cases_Bool}
use Rattle.std.proofs.lemmas.Map.Keys.{sorted_tail}
use Rattle.std.proofs.lemmas.List.{append_assoc, append-nil}
use Rattle.mem_plain.specs.Contents.{has_page}
use Rattle.mem_tree.specs.Page.{IsPageOf}
use Rattle.mem_tree.specs.Tree.{kept_of, page_at, IsJoinedBut}
use Rattle.mem_tree.specs.Costs.{changed_chunks, has_changed, page_digests, page_renewals, stale_pages}
use Rattle.mem_tree.specs.Levels.{IsJoinedOver, as_number}
use Rattle.mem_tree.specs.declared.kept.PageTree.{PageTree}
use Rattle.mem_tree.proofs.AmongLemmas.{among-head, among-tail, among-other, sorted-apart}
use Rattle.mem_tree.proofs.StaleLemmas.{over-first, over-last, over-more, over-same, others-stay, joined-stays, changes-left, among-one}
use Rattle.mem_tree.proofs.kept.Nodes.renew_pages.Goals as goal

pub invariant_of-of : goal.invariant_of-of
invariant_of-of g c =
    record { below = c.requires.pages c.in-Some.page.now (c.pages.invariant.among c.in-Some.page.now (subst (λ l. has_page l c.in-Some.page.now ≡ true) (sym c.in-Some.ensures.steps) (among-head c.in-Some.page.now c.next.new.self))) }

pub returns-in_err-is_stale-clause-others : goal.returns-in_err-is_stale-clause-others
returns-in_err-is_stale-clause-others g c =
    let done = c.renew_page.ensures in
    others-stay g.C.Counted.digest_of (kept_of c.pages.self) (kept_of c.renew_page.new.self) c.in-Some.page.now done.empties done.elsewhere done.upper c.pages.page-iterator c.next.new.self c.args.touched.now.pages.now.keys
    c.in-Some.ensures.steps c.pages.invariant.among (kept_of c.args.self.now) c.pages.invariant.others

pub returns-in_err-is_stale-clause-joined : goal.returns-in_err-is_stale-clause-joined
returns-in_err-is_stale-clause-joined g c =
    let done = c.renew_page.ensures in
    joined-stays g.C.Counted.digest_of (kept_of c.pages.self) (kept_of c.renew_page.new.self) c.in-Some.page.now done.empties done.elsewhere done.upper c.pages.page-iterator c.next.new.self c.args.touched.now.pages.now.keys
    c.in-Some.ensures.steps c.pages.invariant.among c.pages.invariant.joined

pub returns-in_err-is_stale-clause-few_in_all : goal.returns-in_err-is_stale-clause-few_in_all
returns-in_err-is_stale-clause-few_in_all g c = λ failed.
    let left = changes-left (kept_of c.args.self.now) (kept_of c.pages.self) c.args.mem.now c.in-Some.page.now c.pages.page-iterator c.next.new.self c.in-Some.ensures.steps c.pages.invariant.left in
    let so_far = c.pages.invariant.few failed in
    let here = c.renew_page.ensures.few_in_all failed in
    omega (arith, so_far, here, left)

pub returns-in_err-add_if-clause-others : goal.returns-in_err-add_if-clause-others
returns-in_err-add_if-clause-others g c =
    let done = c.renew_page.ensures in
    others-stay g.C.Counted.digest_of (kept_of c.pages.self) (kept_of c.renew_page.new.self) c.in-Some.page.now done.empties done.elsewhere done.upper c.pages.page-iterator c.next.new.self c.args.touched.now.pages.now.keys
    c.in-Some.ensures.steps c.pages.invariant.among (kept_of c.args.self.now) c.pages.invariant.others

pub returns-in_err-add_if-clause-joined : goal.returns-in_err-add_if-clause-joined
returns-in_err-add_if-clause-joined g c =
    let done = c.renew_page.ensures in
    joined-stays g.C.Counted.digest_of (kept_of c.pages.self) (kept_of c.renew_page.new.self) c.in-Some.page.now done.empties done.elsewhere done.upper c.pages.page-iterator c.next.new.self c.args.touched.now.pages.now.keys
    c.in-Some.ensures.steps c.pages.invariant.among c.pages.invariant.joined

pub returns-in_err-add_if-clause-few_in_all : goal.returns-in_err-add_if-clause-few_in_all
returns-in_err-add_if-clause-few_in_all g c = λ failed.
    let left = changes-left (kept_of c.args.self.now) (kept_of c.pages.self) c.args.mem.now c.in-Some.page.now c.pages.page-iterator c.next.new.self c.in-Some.ensures.steps c.pages.invariant.left in
    let so_far = c.pages.invariant.few failed in
    let here = c.renew_page.ensures.few_in_all failed in
    omega (arith, so_far, here, left)

pub pages-init : goal.pages-init
pages-init g c =
    let digest = g.C.Counted.digest_of in
    let eq = c.into_iter-page-iterator.ensures.into_iter_gives ∙ c.iter-page-items.ensures.rest in
    let nodes = kept_of c.args.self.now in
    let m = c.args.mem.now in
    let none = c.new-stale.ensures.items in
    let changes = ap (changed_chunks nodes m) eq in
    record {
      sorted = subst (IsStrictlySortedBy nat_cmp) (sym eq) c.iter-page-items.ensures.ordered;
      among = λ p at. subst (λ l. has_page l p ≡ true) eq at;
      rest = omega (arith, ap length eq);
      pages = λ before p not. before p (subst (λ l. has_page l p ≡ false) eq not);
      others = λ p not. refl;
      left = λ p at. refl;
      made = c.requires.made;
      joined = c.requires.joined;
      fresh = λ failed. subst (λ xs. IsJoinedOver digest nodes xs c.into_iter-page-iterator.result) (sym none) (over-first digest nodes c.into_iter-page-iterator.result (subst (IsJoinedBut digest nodes) (sym eq) c.requires.joined));
      whole = λ failed. subst (λ xs. IsJoinedOver digest nodes xs []) (sym none) (over-first digest nodes [] (c.requires.whole failed));
      of = λ p is. absurd (true≢false (sym is ∙ ap (λ xs. has_page xs p) none));
      empties = refl;
      count = omega (arith, ap length none, ap length eq);
      choice = ap (λ xs. xs ++ stale_pages c.args.touched.now.failed nodes m c.into_iter-page-iterator.result) none ∙ ap (stale_pages c.args.touched.now.failed nodes m) eq;
      exact = let digests = ap (page_digests nodes m) eq in omega (arith, digests);
      steps = omega (arith, ap length eq);
      few = λ failed. omega (arith, changes, ap length none);
      more = omega arith;
    }

pub pages-preserved : goal.pages-preserved
pages-preserved g c =
    let digest = g.C.Counted.digest_of in
    let m = c.args.mem.now in
    let page = c.in-Some.page.now in
    let rest = c.next.new.self in
    let inv = c.pages.invariant in
    let step = c.in-Some.ensures.steps in
    let first = kept_of c.args.self.now in
    let before = kept_of c.pages.self in
    let after = kept_of c.renew_page.new.self in
    let keys = c.args.touched.now.pages.now.keys in
    let was : page_at before page ≡ page_at first page = inv.left page (subst (λ l. has_page l page ≡ true) (sym step) (among-head page rest)) in
    let sorted : IsStrictlySortedBy nat_cmp (page ∷ rest) = subst (IsStrictlySortedBy nat_cmp) step inv.sorted in
    let apart = sorted-apart page rest sorted in
    let there = inv.among page (subst (λ l. has_page l page ≡ true) (sym step) (among-head page rest)) in
    let long : length c.pages.page-iterator ≡ length rest + 1 = omega (arith, ap length step) in
    let done = c.renew_page.ensures in
    let ok = c.in_ok-is_stale.ensures in
    let old = c.pages.stale.items in
    let now' = c.add_if.new.pages.items in
    let added : c.in_ok-is_stale.is_stale ≡ true → now' ≡ old ++ page ∷ [] = c.in_ok-add_if.ensures.added in
    let kept : c.in_ok-is_stale.is_stale ≡ false → now' ≡ old = c.in_ok-add_if.ensures.kept in
    let either = cases_Bool c.in_ok-is_stale.is_stale in
    let one : c.in_ok-is_stale.is_stale ≡ true → length now' ≡ length old + 1 = λ e. ap (length {A = ℕ}) (added e) ∙ length-append old (page ∷ []) in
    let same : c.in_ok-is_stale.is_stale ≡ false → length now' ≡ length old = λ e. ap (length {A = ℕ}) (kept e) in
    let changes = changes-left first before m page c.pages.page-iterator rest step inv.left in
    record {
      sorted = sorted_tail nat_cmp page rest sorted;
      among = λ p at. inv.among p (subst (λ l. has_page l p ≡ true) (sym step) (among-tail page rest p at));
      rest = omega (arith, inv.rest, long);
      pages = λ is p not. ⊎_elim
          (λ here. subst (λ q. IsPageOf (page_at after q) m q) (sym here) ok.page)
          (λ other. subst (λ (o : Option PageTree). IsPageOf o m p) (sym (done.elsewhere p other)) (inv.pages is p (subst (λ l. has_page l p ≡ false) (sym step) (among-other page rest p other not))))
          (cases_eq p page);
      others = others-stay digest before after page done.empties done.elsewhere done.upper c.pages.page-iterator rest keys step inv.among first inv.others;
      left = λ p at. done.elsewhere p (λ e. true≢false (sym at ∙ (ap (has_page rest) e ∙ apart))) ∙ inv.left p (subst (λ l. has_page l p ≡ true) (sym step) (among-tail page rest p at));
      made = done.made;
      joined = joined-stays digest before after page done.empties done.elsewhere done.upper c.pages.page-iterator rest keys step inv.among inv.joined;
      fresh = λ failed. ⊎_elim
          (λ e. subst (λ xs. IsJoinedOver digest after xs rest) (sym (added e)) (over-more digest before after page done.empties done.elsewhere done.upper old c.pages.page-iterator rest (ok.stale e)
          (λ p other not. subst (λ l. has_page l p ≡ false) (sym step) (among-other page rest p other not)) (inv.fresh failed)))
          (λ e. absurd (true≢false (sym failed ∙ (ok.fresh e).0)))
          either;
      whole = λ failed. ⊎_elim
          (λ e. subst (λ xs. IsJoinedOver digest after xs []) (sym (added e)) (over-more digest before after page done.empties done.elsewhere done.upper old [] [] (ok.stale e) (λ p other not. refl) (inv.whole failed)))
          (λ e. subst (λ xs. IsJoinedOver digest after xs []) (sym (kept e)) (over-same digest before after page done.empties done.elsewhere done.upper old (ok.fresh e).2 (ok.fresh e).1 (inv.whole failed)))
          either;
      of = λ p is. ⊎_elim
          (λ e. ⊎_elim (λ here. ap (has_page keys) here ∙ there) (λ held. inv.of p held) (among-one old page p (subst (λ xs. has_page xs p ≡ true) (added e) is)))
          (λ e. inv.of p (subst (λ xs. has_page xs p ≡ true) (kept e) is))
          either;
      empties = done.empties ∙ inv.empties;
      count = ⊎_elim (λ e. omega (arith, one e, inv.count, long)) (λ e. omega (arith, same e, inv.count, long)) either;
      choice =
          let failed = c.args.touched.now.failed in
          let left = stale_pages failed first m rest in
          let chosen : (has_changed (page_at first page) m page || failed) ≡ c.in_ok-is_stale.is_stale = sym (ok.choice ∙ ap (λ (o : Option PageTree). has_changed o m page || failed) was) in
          let next : stale_pages failed first m c.pages.page-iterator ≡ cond c.in_ok-is_stale.is_stale (page ∷ left) left = ap (stale_pages failed first m) step ∙ ap (λ b. cond b (page ∷ left) left) chosen in
          ⊎_elim
          (λ e. ap (λ xs. xs ++ left) (added e) ∙ (append_assoc old (page ∷ []) left ∙ (ap (λ xs. old ++ xs) (sym (next ∙ ap (λ b. cond b (page ∷ left) left) e)) ∙ inv.choice)))
          (λ e. ap (λ xs. xs ++ left) (kept e) ∙ (ap (λ xs. old ++ xs) (sym (next ∙ ap (λ b. cond b (page ∷ left) left) e)) ∙ inv.choice))
          either;
      exact =
          let here = ok.exactly in
          let digests : page_digests first m c.pages.page-iterator ≡ page_renewals (page_at first page) m page + page_digests first m rest = ap (page_digests first m) step in
          let digests' : page_renewals (page_at before page) m page ≡ page_renewals (page_at first page) m page = ap (λ (o : Option PageTree). page_renewals o m page) was in
          omega (arith, here, inv.exact, digests, digests');
      steps = omega (arith, inv.steps, long, done.steps);
      few = λ failed. let so_far = inv.few failed in let here = ok.few failed in ⊎_elim
          (λ e. let number : as_number c.in_ok-is_stale.is_stale ≡ 1 = ap as_number e in omega (arith, so_far, here, number, one e, changes))
          (λ e. let number : as_number c.in_ok-is_stale.is_stale ≡ 0 = ap as_number e in omega (arith, so_far, here, number, same e, changes))
          either;
      more = omega (arith, inv.more, done.more);
    }

pub returns-clause-pages : goal.returns-clause-pages
returns-clause-pages g c = λ before p. c.pages.invariant.pages before p (ap (λ l. has_page l p) c.in-None.ensures.steps.0)

pub returns-clause-stale : goal.returns-clause-stale
returns-clause-stale g c =
    let digest = g.C.Counted.digest_of in
    let stale = c.pages.stale.items in
    ⊎_elim
    (λ failed. over-last digest (kept_of c.pages.self) stale (subst (λ w. IsJoinedOver digest (kept_of c.pages.self) stale w) c.in-None.ensures.steps.0 (c.pages.invariant.fresh failed)))
    (λ whole. over-last digest (kept_of c.pages.self) stale (c.pages.invariant.whole whole))
    (cases_Bool c.args.touched.now.failed)

pub returns-clause-choice : goal.returns-clause-choice
returns-clause-choice g c =
    let none = ap (stale_pages c.args.touched.now.failed (kept_of c.args.self.now) c.args.mem.now) c.in-None.ensures.steps.0 in
    sym (append-nil c.pages.stale.items) ∙ (ap (λ xs. c.pages.stale.items ++ xs) (sym none) ∙ c.pages.invariant.choice)

pub returns-clause-exactly : goal.returns-clause-exactly
returns-clause-exactly g c =
    let none = ap (page_digests (kept_of c.args.self.now) c.args.mem.now) c.in-None.ensures.steps.0 in
    omega (arith, none, c.pages.invariant.exact)
