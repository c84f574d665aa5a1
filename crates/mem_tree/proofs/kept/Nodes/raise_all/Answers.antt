use Rattle.std.proofs.Common.{◌≡◌, inl, inr, ◌+◌, ◌/◌, ◌^◌, ℕ, length, true, false, refl, sym, ap, ◌∙◌, arith, ⊎_elim, subst}
use Rattle.std.proofs.Math.Nat.{div-one}
use Rattle.mem_plain.specs.Contents.{has_page}
use Rattle.mem_tree.specs.Tree.{kept_of}
use Rattle.mem_tree.specs.Levels.{IsJoinedFrom}
use Rattle.mem_tree.specs.Costs.{ancestors, kept_above, kept_among, parents}
use Rattle.mem_tree.proofs.JoinedLemmas.{page-same}
use Rattle.mem_tree.proofs.ParentLemmas.{ancestors-first, ancestors-next, kept-first, kept-next, kept-same}
use Rattle.mem_tree.proofs.LevelLemmas.{joined-level, all-joined, below-next, apart-from, times-next}
use Rattle.mem_tree.proofs.kept.Nodes.raise_all.Goals as goal

pub returns-in_err-join_places-clause-elsewhere : goal.returns-in_err-join_places-clause-elsewhere
returns-in_err-join_places-clause-elsewhere g c = λ n k apart.
    c.join_places.ensures.elsewhere n k (⊎_elim (λ level. inl level) (λ none. inr (subst (λ xs. has_page xs k ≡ false) (sym c.deref-in-levels.ensures.value) none))
    (apart-from c.args.pages.items c.in_ok-places.places.items (c.levels.above + 1) n k
    (λ h is. let q = c.in_ok-places.ensures.below h is in below-next c.args.pages.items c.levels.above q.0 h (c.levels.invariant.below q.0 (subst (λ xs. has_page xs q.0 ≡ true) c.deref.ensures.value q.1)) q.2) apart))
    ∙ c.levels.invariant.elsewhere n k apart

pub returns-in_err-join_places-clause-top : goal.returns-in_err-join_places-clause-top
returns-in_err-join_places-clause-top g c = λ n k high.
    c.join_places.ensures.elsewhere n k (inl (λ e. absurd (omega (arith, e, high, c.levels-test.true)))) ∙ c.levels.invariant.top n k high

pub levels-preserved : goal.levels-preserved
levels-preserved g c =
    let digest = g.C.Counted.digest_of in
    let inv = c.levels.invariant in
    let pages = c.args.pages.items in
    let places = c.in_ok-places.places.items in
    let value = c.deref.ensures.value in
    let value' = c.deref-in-levels.ensures.value in
    let before = kept_of c.levels.self in
    let after = kept_of c.join_places.new.self in
    let below : (h : ℕ) → has_page places h ≡ true → (p : ℕ) × (has_page pages p ≡ true) × (p / 2 ^ (c.levels.above + 1) ≡ h) =
    λ h is. let q = c.in_ok-places.ensures.below h is in below-next pages c.levels.above q.0 h (inv.below q.0 (subst (λ xs. has_page xs q.0 ≡ true) value q.1)) q.2 in
    let n = length pages in
    let are : places ≡ ancestors (c.levels.above + 1) pages = c.in_ok-places.ensures.exactly ∙ (ap parents (value ∙ inv.are) ∙ sym (ancestors-next c.levels.above pages)) in
    record {
      low = λ h is. let q = c.in_ok-places.ensures.below h is in let less = inv.low q.0 (subst (λ xs. has_page xs q.0 ≡ true) value q.1) in omega (arith, less, q.2);
      below = below;
      joined = λ first. joined-level digest before after c.levels.above c.levels.places.items places c.join_places.ensures.empties
          (page-same c.join_places.new.self c.levels.self c.join_places.ensures.pages) c.levels-test.true
          (λ q is. c.in_ok-places.ensures.above q (subst (λ xs. has_page xs q ≡ true) (sym value) is))
          (λ k is. c.in_ok-join_places.ensures.joined k (subst (λ xs. has_page xs k ≡ true) (sym value') is))
          (λ i k apart. c.join_places.ensures.elsewhere i k (⊎_elim (λ level. inl level) (λ none. inr (subst (λ xs. has_page xs k ≡ false) (sym value') none)) apart))
          (inv.joined first);
      elsewhere = λ n k apart. c.join_places.ensures.elsewhere n k (⊎_elim (λ level. inl level) (λ none. inr (subst (λ xs. has_page xs k ≡ false) (sym value') none)) (apart-from pages places (c.levels.above + 1) n k below apart))
          ∙ inv.elsewhere n k apart;
      top = λ n k high. c.join_places.ensures.elsewhere n k (inl (λ e. absurd (omega (arith, e, high, c.levels-test.true)))) ∙ inv.top n k high;
      pages = c.join_places.ensures.pages ∙ inv.pages;
      empties = c.join_places.ensures.empties ∙ inv.empties;
      few = omega (arith, c.in_ok-places.ensures.few, inv.few, ap length value);
      are = are;
      exact =
          let next = kept-next after c.levels.above pages in
          let same = kept-same before after c.levels.above pages (λ i k low. c.join_places.ensures.elsewhere i k (inl (λ e. absurd (omega (arith, e, low))))) in
          let here = ap (kept_among after (c.levels.above + 1)) (value' ∙ are) in
          omega (arith, c.in_ok-join_places.ensures.exactly, inv.exact, next, same, here);
      steps = omega (arith, c.join_places.ensures.steps, inv.steps, c.in_ok-places.ensures.few, inv.few, ap length value, ap length value', times-next c.levels.above n);
      more = omega (arith, c.join_places.ensures.more, inv.more);
    }

pub returns-clause-joined : goal.returns-clause-joined
returns-clause-joined g c = λ first.
    let last : c.levels.above ≡ 20 = omega (arith, c.levels-test.false, c.levels.auto.above-end) in
    all-joined g.C.Counted.digest_of (kept_of c.levels.self) c.levels.places.items (subst (λ n. IsJoinedFrom g.C.Counted.digest_of (kept_of c.levels.self) n c.levels.places.items) last (c.levels.invariant.joined first))

pub levels-init : goal.levels-init
levels-init g c = record {
  low = c.requires.pages;
  below = λ q is. (q, is, div-one q);
  joined = λ first. first;
  elsewhere = λ n k apart. refl;
  top = λ n k high. refl;
  pages = refl;
  empties = refl;
  few = omega arith;
  are = sym (ancestors-first c.args.pages.items);
  exact = let none = kept-first (kept_of c.args.self.now) c.args.pages.items in omega (arith, none);
  steps = omega arith;
  more = omega arith;
}

pub returns-clause-exactly : goal.returns-clause-exactly
returns-clause-exactly g c =
    let last : c.levels.above ≡ 20 = omega (arith, c.levels-test.false, c.levels.auto.above-end) in
    let all = ap (λ n. kept_above (kept_of c.levels.self) n c.args.pages.items) last in
    omega (arith, c.levels.invariant.exact, all)
