-- One page of a tree, and the nodes above it, are written.
use Rattle.std.proofs.Common.{◌≡◌, ◌≢◌, ◌⊎◌, inl, inr, ℕ, ◌+◌, ◌*◌, ◌/◌, ◌^◌, ◌<◌, List, [], None, true, false, true≢false, refl, sym, ap, ◌∙◌, subst, arith, ⊎_elim}
use Rattle.std.specs.Ordering.{nat_cmp}
use Rattle.std.specs.Map.{lookup}
use Rattle.std.specs.BTreeMap.{is_at}
use Rattle.std.proofs.Math.Nat.{div-one}
use Rattle.std.proofs.lemmas.Bool.{cases_eq}
use Rattle.mem_plain.specs.Contents.{Contents, has_page}
use Rattle.rd_base.specs.declared.digest.Digest32.{Digest32}
use Rattle.merkle_nodes.specs.Node.{digest_at}
use Rattle.mem_tree.specs.Page.{AreEmpty, IsMadeTree}
use Rattle.mem_tree.specs.Tree.{Kept, kept_of, AllMade, IsJoinedAbove, IsJoinedBut, IsOver, IsRoot, by_place, page_at, upper_at}
use Rattle.mem_tree.specs.declared.kept.PageTree.{PageTree}
use Rattle.mem_tree.specs.declared.kept.Nodes.{Nodes}
use Rattle.mem_tree.proofs.MemoryLemmas.{up-one}
use Rattle.mem_tree.proofs.UpperLemmas.{of-two, empty-above}

module _ (digest : List ℕ → List ℕ) (t t' : Kept) (page : ℕ) (empties : t'.empties ≡ t.empties)
    (pages_kept : (p : ℕ) → p ≢ page → page_at t' p ≡ page_at t p) (upper_kept : (n k : ℕ) → (20 < n) ⊎ (k ≢ page / 2 ^ n) → upper_at t' n k ≡ upper_at t n k) where
  root-kept : (p : ℕ) → p ≢ page → IsRoot (upper_at t 0 p) (page_at t p) → IsRoot (upper_at t' 0 p) (page_at t' p)
  root-kept p other is =
      subst (λ o. IsRoot o (page_at t' p)) (sym (upper_kept 0 p (inr (λ e. other (e ∙ div-one page))))) (subst (IsRoot (upper_at t 0 p)) (sym (pages_kept p other)) is)

  above-kept : (n k : ℕ) → k ≢ page / 2 ^ (n + 1) → IsJoinedAbove digest t n k → IsJoinedAbove digest t' n k
  above-kept n k other is =
      let half = up-one page n in
      of-two digest _ _ _ _ _ _ _ _ _ _ (upper_kept (n + 1) k (inr other))
      (upper_kept n (2 * k) (inr (λ e. other (omega arith)))) (upper_kept n (2 * k + 1) (inr (λ e. other (omega arith))))
      (ap (λ es. digest_at es (7 + n)) empties) (ap (λ es. digest_at es (7 + (n + 1))) empties) is

  -- what is written in and above a stale page isn't seen
  pub stays-joined : (stale : List ℕ) → IsJoinedBut digest t stale → has_page stale page ≡ true → IsJoinedBut digest t' stale
  stays-joined stale before is = record {
    roots = λ p fresh. root-kept p (λ e. true≢false (sym is ∙ (ap (has_page stale) (sym e) ∙ fresh))) (before.roots p fresh);
    above = λ n k low fresh. above-kept n k (λ e. true≢false (sym is ∙ fresh page (sym e))) (before.above n k low fresh);
    top = λ n k high. upper_kept n k (inl high) ∙ before.top n k high;
  }

  -- each heap is made of its chunks
  pub made-put : IsMadeTree digest (page_at t' page) → AllMade digest t → AllMade digest t'
  made-put here made p = ⊎_elim
      (λ same. subst (λ q. IsMadeTree digest (page_at t' q)) (sym same) here)
      (λ other. subst (IsMadeTree digest) (sym (pages_kept p other)) (made p))
      (cases_eq p page)

-- more pages are stale
pub joined-fewer : (digest : List ℕ → List ℕ) (t : Kept) (stale more : List ℕ) → ((p : ℕ) → has_page more p ≡ false → has_page stale p ≡ false) → IsJoinedBut digest t stale → IsJoinedBut digest t more
joined-fewer digest t stale more tells is = record {
  roots = λ p fresh. is.roots p (tells p fresh);
  above = λ n k low fresh. is.above n k low (λ p at. tells p (fresh p at));
  top = is.top;
}

-- nothing is kept
pub nothing-joined : (digest : List ℕ → List ℕ) (t : Kept) → t.pages ≡ [] → t.upper ≡ [] → AreEmpty digest t.empties → IsJoinedBut digest t []
nothing-joined digest t pages upper empty = record {
  roots = λ p fresh. subst (λ (us : List ((ℕ × ℕ) × Digest32)). IsRoot (lookup (is_at (by_place (0, p))) us) (page_at t p)) (sym upper)
      (subst (λ (ps : List (ℕ × PageTree)). IsRoot None (lookup (is_at (nat_cmp p)) ps)) (sym pages) (record { digest_is = λ e. refl; kept = refl }));
  above = λ n k low fresh.
      let next : 7 + (n + 1) ≡ 7 + n + 1 = omega arith in
      let none : (i q : ℕ) → upper_at t i q ≡ None = λ i q. ap (λ (us : List ((ℕ × ℕ) × Digest32)). lookup (is_at (by_place (i, q))) us) upper in
      of-two digest None _ None _ None _ (digest_at t.empties (7 + n)) _ (digest_at t.empties (7 + (n + 1))) _ (none (n + 1) k) (none n (2 * k)) (none n (2 * k + 1)) refl refl
      (record { digest_is = ap (digest_at t.empties) next ∙ empty-above digest t.empties (7 + n) empty (omega arith); kept = refl });
  top = λ n k high. ap (λ (us : List ((ℕ × ℕ) × Digest32)). lookup (is_at (by_place (n, k))) us) upper;
}

-- nodes whose upper ones or pages are the same
pub upper-same : (a b : Nodes) → a.upper ≡ b.upper → (n k : ℕ) → upper_at (kept_of a) n k ≡ upper_at (kept_of b) n k
upper-same a b upper n k = ap (λ u. lookup (is_at (by_place (n, k))) u.entries) upper

pub page-same : (a b : Nodes) → a.pages ≡ b.pages → (p : ℕ) → page_at (kept_of a) p ≡ page_at (kept_of b) p
page-same a b pages p = ap (λ ps. lookup (is_at (nat_cmp p)) ps.entries) pages

pub over-fewer : (digest : List ℕ → List ℕ) (t : Kept) (stale more : List ℕ) (m : Contents) → ((p : ℕ) → has_page more p ≡ false → has_page stale p ≡ false) → IsOver digest t stale m → IsOver digest t more m
over-fewer digest t stale more m tells is = record { pages = λ p fresh. is.pages p (tells p fresh); joined = joined-fewer digest t stale more tells is.joined }

pub nothing-at : (t : Kept) → t.pages ≡ [] → (p : ℕ) → page_at t p ≡ None
nothing-at t pages p = ap (λ (ps : List (ℕ × PageTree)). lookup (is_at (nat_cmp p)) ps) pages
