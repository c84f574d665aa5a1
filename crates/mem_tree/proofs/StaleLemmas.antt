-- Touched pages are renewed one by one, and the nodes above them are left for later.
use Rattle.std.proofs.Common.{◌≡◌, ◌≢◌, ◌⊎◌, inl, inr, ℕ, ◌+◌, ◌-◌, ◌*◌, ◌/◌, ◌^◌, ◌<◌, List, [], ◌∷◌, ◌++◌, Option, true, false, true≢false, refl, sym, ap, ◌∙◌, subst, arith, ⊎_elim}
use Rattle.std.proofs.Math.Nat.{div-one}
use Rattle.std.proofs.lemmas.Bool.{cases_eq, cases_Bool}
use Rattle.mem_plain.specs.Contents.{Contents, has_page}
use Rattle.merkle_nodes.specs.Node.{digest_at}
use Rattle.mem_tree.specs.Tree.{Kept, IsJoinedAbove, IsJoinedBut, IsRoot, page_at, upper_at}
use Rattle.mem_tree.specs.Costs.{changed_chunks, page_changes}
use Rattle.mem_tree.specs.Levels.{IsJoinedFrom, IsJoinedOver}
use Rattle.mem_tree.specs.declared.kept.PageTree.{PageTree}
use Rattle.mem_tree.proofs.AmongLemmas.{among-head, among-last, among-front, among-but_last}
use Rattle.mem_tree.proofs.JoinedLemmas.{stays-joined}
use Rattle.mem_tree.proofs.MemoryLemmas.{up-one}
use Rattle.mem_tree.proofs.UpperLemmas.{of-two}

pub over-first : (digest : List ℕ → List ℕ) (t : Kept) (waiting : List ℕ) → IsJoinedBut digest t waiting → IsJoinedOver digest t [] waiting
over-first digest t waiting is = record { roots = is.roots; above = λ i k low none. is.above i k low (λ p at. (none p at).1); top = is.top }

pub over-last : (digest : List ℕ → List ℕ) (t : Kept) (stale : List ℕ) → IsJoinedOver digest t stale [] → IsJoinedFrom digest t 0 stale
over-last digest t stale is = record {
  roots = λ p. is.roots p refl;
  above = λ i k low none. is.above i k low (λ q at. (none q (omega arith) (let e : i + 1 - 0 ≡ i + 1 = omega arith in ap (λ m. q / 2 ^ m) e ∙ at), refl));
  top = is.top;
}

module _ (digest : List ℕ → List ℕ) (t t' : Kept) (page : ℕ) (empties : t'.empties ≡ t.empties) (pages_kept : (p : ℕ) → p ≢ page → page_at t' p ≡ page_at t p)
    (upper_kept : (n k : ℕ) → (n ≢ 0) ⊎ (k ≢ page) → upper_at t' n k ≡ upper_at t n k) where
  other-root : (p : ℕ) → p ≢ page → IsRoot (upper_at t 0 p) (page_at t p) → IsRoot (upper_at t' 0 p) (page_at t' p)
  other-root p other is =
      subst (λ o. IsRoot o (page_at t' p)) (sym (upper_kept 0 p (inr other))) (subst (IsRoot (upper_at t 0 p)) (sym (pages_kept p other)) is)

  -- what stays joined: what isn't above the page
  other-above : (i k : ℕ) → page / 2 ^ (i + 1) ≢ k → IsJoinedAbove digest t i k → IsJoinedAbove digest t' i k
  other-above i k apart is = of-two digest _ _ _ _ _ _ _ _ _ _ (upper_kept (i + 1) k (inl (λ e. absurd (omega (arith, e)))))
      (half (2 * k) (omega arith)) (half (2 * k + 1) (omega arith))
      (ap (λ es. digest_at es (7 + i)) empties) (ap (λ es. digest_at es (7 + (i + 1))) empties) is
    where
      half : (j : ℕ) → j / 2 ≡ k → upper_at t' i j ≡ upper_at t i j
      half j at = ⊎_elim
          (λ zero'. upper_kept i j (inr (λ e. let one : i + 1 ≡ 1 = omega (arith, zero') in apart (ap (λ m. page / 2 ^ m) one ∙ (ap (λ x. x / 2) (sym e) ∙ at)))))
          (λ some. upper_kept i j (inl some))
          (cases_eq i 0)

  pub over-more : (stale waiting waiting' : List ℕ) → IsRoot (upper_at t' 0 page) (page_at t' page) → ((p : ℕ) → p ≢ page → has_page waiting' p ≡ false → has_page waiting p ≡ false)
      → IsJoinedOver digest t stale waiting → IsJoinedOver digest t' (stale ++ page ∷ []) waiting'
  over-more stale waiting waiting' root tells is = record {
    roots = λ p fresh. ⊎_elim
        (λ same. subst (λ q. IsRoot (upper_at t' 0 q) (page_at t' q)) (sym same) root)
        (λ other. other-root p other (is.roots p (tells p other fresh)))
        (cases_eq p page);
    above = λ i k low none.
        let apart : page / 2 ^ (i + 1) ≢ k = λ at. true≢false (sym (among-last stale page) ∙ (none page at).0) in
        other-above i k apart (is.above i k low (λ q at. (
          ⊎_elim (λ held. absurd (true≢false (sym (among-front stale page q held) ∙ (none q at).0))) (λ out. out) (cases_Bool (has_page stale q)),
          tells q (λ e. apart (ap (λ x. x / 2 ^ (i + 1)) (sym e) ∙ at)) (none q at).1,
        )));
    top = λ i k high. upper_kept i k (inl (λ e. absurd (omega (arith, e, high)))) ∙ is.top i k high;
  }

  pub over-same : (stale : List ℕ) → upper_at t' 0 page ≡ upper_at t 0 page → (IsRoot (upper_at t 0 page) (page_at t page) → IsRoot (upper_at t' 0 page) (page_at t' page))
      → IsJoinedOver digest t stale [] → IsJoinedOver digest t' stale []
  over-same stale same root is = record {
    roots = λ p fresh. ⊎_elim
        (λ here. subst (λ q. IsRoot (upper_at t' 0 q) (page_at t' q)) (sym here) (root (is.roots page refl)))
        (λ other. other-root p other (is.roots p refl))
        (cases_eq p page);
    above = λ i k low none. of-two digest _ _ _ _ _ _ _ _ _ _ (all (i + 1) k) (all i (2 * k)) (all i (2 * k + 1))
        (ap (λ es. digest_at es (7 + i)) empties) (ap (λ es. digest_at es (7 + (i + 1))) empties) (is.above i k low none);
    top = λ i k high. all i k ∙ is.top i k high;
  }
    where
      all : (n k : ℕ) → upper_at t' n k ≡ upper_at t n k
      all n k = ⊎_elim
          (λ zero'. ⊎_elim
          (λ here. ap₂-upper n k zero' here)
          (λ other. upper_kept n k (inr other))
          (cases_eq k page))
          (λ some. upper_kept n k (inl some))
          (cases_eq n 0)
        where
          ap₂-upper : (n k : ℕ) → n ≡ 0 → k ≡ page → upper_at t' n k ≡ upper_at t n k
          ap₂-upper n k zero' here = subst (λ m. upper_at t' m k ≡ upper_at t m k) (sym zero') (subst (λ q. upper_at t' 0 q ≡ upper_at t 0 q) (sym here) same)

  -- as nodes above no other page change
  pub aside : (n k : ℕ) → (20 < n) ⊎ (k ≢ page / 2 ^ n) → upper_at t' n k ≡ upper_at t n k
  aside n k apart = ⊎_elim
      (λ zero'. upper_kept n k (⊎_elim (λ high. absurd (omega (arith, high, zero'))) (λ other. inr (λ e. other (e ∙ (sym (div-one page) ∙ ap (λ m. page / 2 ^ m) (sym zero'))))) apart))
      (λ some. upper_kept n k (inl some))
      (cases_eq n 0)

  -- what is written at the first of the touched pages that are left isn't seen
  module _ (left rest keys : List ℕ) (step : left ≡ page ∷ rest) (among : (p : ℕ) → has_page left p ≡ true → has_page keys p ≡ true) where
    is-touched : has_page keys page ≡ true
    is-touched = among page (subst (λ l. has_page l page ≡ true) (sym step) (among-head page rest))

    pub others-stay : (first : Kept) → ((p : ℕ) → has_page keys p ≡ false → page_at t p ≡ page_at first p) → (p : ℕ) → has_page keys p ≡ false → page_at t' p ≡ page_at first p
    others-stay first others p not = pages_kept p (λ e. true≢false (sym is-touched ∙ (ap (has_page keys) (sym e) ∙ not))) ∙ others p not

    pub joined-stays : IsJoinedBut digest t keys → IsJoinedBut digest t' keys
    joined-stays is = stays-joined digest t t' page empties pages_kept aside keys is is-touched

-- the chunks that differ in the touched pages that are left
pub changes-left : (first t : Kept) (m : Contents) (page : ℕ) (left rest : List ℕ) → left ≡ page ∷ rest → ((p : ℕ) → has_page left p ≡ true → page_at t p ≡ page_at first p)
    → changed_chunks first m left ≡ page_changes (page_at t page) m page + changed_chunks first m rest
changes-left first t m page left rest step same =
    ap (changed_chunks first m) step
    ∙ ap (λ (o : Option PageTree). page_changes o m page + changed_chunks first m rest) (sym (same page (subst (λ l. has_page l page ≡ true) (sym step) (among-head page rest))))

-- nodes above none of some pages stay, and so do pages
pub stays-over : (digest : List ℕ → List ℕ) (t t' : Kept) (keys stale : List ℕ) → t'.empties ≡ t.empties → ((p : ℕ) → page_at t' p ≡ page_at t p)
    → ((n k : ℕ) → ((p : ℕ) → has_page stale p ≡ true → p / 2 ^ n ≢ k) → upper_at t' n k ≡ upper_at t n k) → ((n k : ℕ) → 20 < n → upper_at t' n k ≡ upper_at t n k)
    → ((p : ℕ) → has_page stale p ≡ true → has_page keys p ≡ true) → IsJoinedBut digest t keys → IsJoinedBut digest t' keys
stays-over digest t t' keys stale empties pages elsewhere high of is = record {
  roots = λ p fresh. subst (λ o. IsRoot o (page_at t' p)) (sym (elsewhere 0 p (λ q held e. true≢false (sym (of q held) ∙ (ap (has_page keys) (sym (div-one q) ∙ e) ∙ fresh)))))
      (subst (IsRoot (upper_at t 0 p)) (sym (pages p)) (is.roots p fresh));
  above = λ n k low fresh.
      let apart : (m j : ℕ) → ((q : ℕ) → q / 2 ^ m ≡ j → q / 2 ^ (n + 1) ≡ k) → (q : ℕ) → has_page stale q ≡ true → q / 2 ^ m ≢ j = λ m j up q held e. true≢false (sym (of q held) ∙ fresh q (up q e)) in
      of-two digest _ _ _ _ _ _ _ _ _ _ (elsewhere (n + 1) k (apart (n + 1) k (λ q e. e)))
      (elsewhere n (2 * k) (apart n (2 * k) (λ q e. up-one q n ∙ (ap (λ x. x / 2) e ∙ even k)))) (elsewhere n (2 * k + 1) (apart n (2 * k + 1) (λ q e. up-one q n ∙ (ap (λ x. x / 2) e ∙ odd k))))
      (ap (λ es. digest_at es (7 + n)) empties) (ap (λ es. digest_at es (7 + (n + 1))) empties) (is.above n k low fresh);
  top = λ n k above. high n k above ∙ is.top n k above;
}
  where
    even : (k : ℕ) → 2 * k / 2 ≡ k
    even k = omega arith

    odd : (k : ℕ) → (2 * k + 1) / 2 ≡ k
    odd k = omega arith

-- one page more among some
pub among-one : (xs : List ℕ) (page p : ℕ) → has_page (xs ++ page ∷ []) p ≡ true → (p ≡ page) ⊎ (has_page xs p ≡ true)
among-one xs page p is = ⊎_elim
    (λ same. inl same)
    (λ other. ⊎_elim
    (λ held. inr held)
    (λ out. absurd (true≢false (sym is ∙ among-but_last xs page p other out)))
    (cases_Bool (has_page xs p)))
    (cases_eq p page)
