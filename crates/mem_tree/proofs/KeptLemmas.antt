-- What a tree keeps: nothing but what stands over pages that are used, or stale; and so how much.
use Rattle.std.proofs.Common.{◌≡◌, ◌≢◌, ◌⊎◌, inl, inr, ℕ, zero, suc, ◌+◌, ◌*◌, ◌/◌, ◌^◌, ◌<◌, ◌≤◌, List, [], ◌∷◌, ◌++◌, length, length-append, is_some, true, false, true≢false, refl, sym, ap, ◌∙◌, subst, arith, ⊎_elim}
use Rattle.std.specs.Ordering.{nat_cmp, eq_by_cmp}
use Rattle.std.specs.Cmp.{IsEquivalence}
use Rattle.std.specs.List.{list_any}
use Rattle.std.specs.List.Sorted.{IsStrictlySortedBy}
use Rattle.std.specs.Map.{keys_of}
use Rattle.std.specs.BTreeMap.{is_at}
use Rattle.std.proofs.Math.Nat.{div-one}
use Rattle.std.proofs.lemmas.Bool.{cases_Bool, cases_eq, cases_lt, or_cases, or_left, or_right}
use Rattle.std.proofs.lemmas.Cmp.{eq_by_cmp_equiv, nat_cmp_total, on_total, then_total}
use Rattle.std.proofs.lemmas.List.Folds.{list_any-append}
use Rattle.std.proofs.lemmas.Map.Entries.{length-keys_of}
use Rattle.std.proofs.lemmas.Map.Keys.{IsDistinct-from_sorted}
use Rattle.std.proofs.lemmas.Map.Made.{is_some-lookup, length-le_from_is_member}
use Rattle.mem_plain.specs.Contents.{Contents, has_page}
use Rattle.mem_tree.specs.Tree.{Kept, Tree, IsJoinedBut, IsTreeOf, IsUsedOrTouched, by_place, page_at, upper_at}
use Rattle.mem_tree.proofs.MemoryLemmas.{up-half}
use Rattle.mem_tree.proofs.AmongLemmas.{among-head, among-tail, among-other}

-- one of some pages is the one over which a node stands, or none is
stale-over : (stale : List ℕ) (w k : ℕ) → ((p : ℕ) × (p / w ≡ k) × (has_page stale p ≡ true)) ⊎ ((p : ℕ) → p / w ≡ k → has_page stale p ≡ false)
stale-over [] w k = inr (λ p at. refl)
stale-over (q ∷ rest) w k = ⊎_elim
    (λ here. inl (q, here, among-head q rest))
    (λ other. ⊎_elim
    (λ found. inl (found.0, found.1, among-tail q rest found.0 found.2))
    (λ none. inr (λ p at. among-other q rest p (λ e. other (ap (λ x. x / w) (sym e) ∙ at)) (none p at)))
    (stale-over rest w k))
    (cases_eq (q / w) k)

-- above the pages
module _ (digest : List ℕ → List ℕ) (t : Kept) (stale : List ℕ) (joined : IsJoinedBut digest t stale) where
  abbrev IsBelow : ℕ → Type 0
  IsBelow p = (is_some (page_at t p) ≡ true) ⊎ (has_page stale p ≡ true)

  over : (n k : ℕ) → n ≤ 20 → is_some (upper_at t n k) ≡ true → (p : ℕ) × (p / 2 ^ n ≡ k) × IsBelow p
  over zero k low is = ⊎_elim
      (λ among. (k, div-one k, inr among))
      (λ fresh. (k, div-one k, inl (sym (joined.roots k fresh).kept ∙ is)))
      (cases_Bool (has_page stale k))
  over (suc n) k low is = ⊎_elim
      (λ found. (found.0, ap (λ i. found.0 / 2 ^ i) one ∙ found.1, inr found.2))
      (λ fresh. ⊎_elim
      (λ left. let found = over n (2 * k) (omega arith) left in (found.0, up-half found.0 n k (2 * k) (inl refl) found.1, found.2))
      (λ right. let found = over n (2 * k + 1) (omega arith) right in (found.0, up-half found.0 n k (2 * k + 1) (inr refl) found.1, found.2))
      (or_cases _ _ (sym (joined.above n k (omega arith) fresh).kept ∙ (ap (λ i. is_some (upper_at t i k)) (sym one) ∙ is))))
      (stale-over stale (2 ^ (n + 1)) k)
    where
      one : suc n ≡ n + 1
      one = omega arith

  low-enough : (n k : ℕ) → is_some (upper_at t n k) ≡ true → n ≤ 20
  low-enough n k is = ⊎_elim
      (λ high. absurd (true≢false (sym is ∙ ap is_some (joined.top n k high))))
      (λ low. low)
      (cases_lt 20 n)

-- so of a memory
module _ (digest : List ℕ → List ℕ) (t : Tree) (m : Contents) (tree : IsTreeOf digest t m) where
  pub page-needed : (p : ℕ) → is_some (page_at t.nodes p) ≡ true → IsUsedOrTouched t m p
  page-needed p is = ⊎_elim
      (λ among. inr among)
      (λ fresh. inl ((tree.pages p fresh).used.0 is))
      (cases_Bool (has_page t.touched p))

  pub upper-needed : (n k : ℕ) → is_some (upper_at t.nodes n k) ≡ true → (n ≤ 20) × ((p : ℕ) × (p / 2 ^ n ≡ k) × IsUsedOrTouched t m p)
  upper-needed n k is =
      let low = low-enough digest t.nodes t.touched tree.joined n k is in
      let found = over digest t.nodes t.touched tree.joined n k low is in
      (low, (found.0, found.1, ⊎_elim (page-needed found.0) (λ among. inr among) found.2))

-- the nodes of so many levels on the way from a page to the root, and those from some pages
way : ℕ → ℕ → List (ℕ × ℕ)
way p zero = []
way p (suc n) = (n, p / 2 ^ n) ∷ way p n

ways : List ℕ → List (ℕ × ℕ)
ways [] = []
ways (p ∷ rest) = way p 21 ++ ways rest

way-length : (p n : ℕ) → length (way p n) ≡ n
unfolding way
way-length p zero = refl
way-length p (suc n) = ap suc (way-length p n)

ways-length : (pages : List ℕ) → length (ways pages) ≡ 21 * length pages
unfolding ways
ways-length [] = refl
ways-length (p ∷ rest) = let one = way-length p 21 in let others = ways-length rest in length-append (way p 21) (ways rest) ∙ omega (arith, one, others)

place_equal : IsEquivalence (eq_by_cmp by_place)
place_equal = eq_by_cmp_equiv (then_total (on_total (λ (q : ℕ × ℕ). q.0) nat_cmp_total) (on_total (λ (q : ℕ × ℕ). q.1) nat_cmp_total))

on-way : (p n top : ℕ) → n < top → list_any (is_at (by_place (n, p / 2 ^ n))) (way p top) ≡ true
unfolding way
on-way p n zero low = absurd (omega arith)
on-way p n (suc top) low = ⊎_elim
    (λ same. or_left _ _ (subst (λ i. is_at (by_place (n, p / 2 ^ n)) (i, p / 2 ^ i) ≡ true) same (place_equal.refl (n, p / 2 ^ n))))
    (λ other. or_right _ _ (on-way p n top (omega arith)))
    (cases_eq n top)

on-ways : (pages : List ℕ) (p n : ℕ) → has_page pages p ≡ true → n < 21 → list_any (is_at (by_place (n, p / 2 ^ n))) (ways pages) ≡ true
unfolding ways
on-ways [] p n among low = absurd (true≢false (sym among))
on-ways (q ∷ rest) p n among low = list_any-append (is_at (by_place (n, p / 2 ^ n))) (way q 21) (ways rest) ∙ ⊎_elim
    (λ same. or_left _ _ (subst (λ x. list_any (is_at (by_place (n, p / 2 ^ n))) (way x 21) ≡ true) same (on-way p n 21 low)))
    (λ other. or_right _ _ (on-ways rest p n (among-rest q rest p other among) low))
    (cases_eq p q)
  where
    among-rest : (q : ℕ) (rest : List ℕ) (p : ℕ) → p ≢ q → has_page (q ∷ rest) p ≡ true → has_page rest p ≡ true
    among-rest q rest p other among = ⊎_elim (λ is. is) (λ not. absurd (true≢false (sym among ∙ among-other q rest p other not))) (cases_Bool (has_page rest p))

-- some pages that hold each that is used or touched are as many as are kept at least, and each stands below 21 nodes
module _ (digest : List ℕ → List ℕ) (t : Tree) (m : Contents) (pages : List ℕ) (tree : IsTreeOf digest t m) (all : (p : ℕ) → IsUsedOrTouched t m p → has_page pages p ≡ true) where
  pub pages-few : IsStrictlySortedBy nat_cmp (keys_of t.nodes.pages) → length t.nodes.pages ≤ length pages
  pages-few sorted =
      let few = length-le_from_is_member (eq_by_cmp_equiv nat_cmp_total) (keys_of t.nodes.pages) pages (IsDistinct-from_sorted nat_cmp (keys_of t.nodes.pages) sorted)
      (λ q member. all q (page-needed digest t m tree q (is_some-lookup (is_at (nat_cmp q)) t.nodes.pages ∙ member))) in
      subst (λ n. n ≤ length pages) (length-keys_of t.nodes.pages) few

  pub upper-few : IsStrictlySortedBy by_place (keys_of t.nodes.upper) → length t.nodes.upper ≤ 21 * length pages
  upper-few sorted =
      let few = length-le_from_is_member place_equal (keys_of t.nodes.upper) (ways pages) (IsDistinct-from_sorted by_place (keys_of t.nodes.upper) sorted)
      (λ q member.
      let found = upper-needed digest t m tree q.0 q.1 (is_some-lookup (is_at (by_place q)) t.nodes.upper ∙ member) in
      subst (λ k. list_any (is_at (by_place (q.0, k))) (ways pages) ≡ true) found.1.1 (on-ways pages found.1.0 q.0 (all found.1.0 found.1.2) (omega (arith, found.0)))) in
      subst (λ n. n ≤ 21 * length pages) (length-keys_of t.nodes.upper) (subst (λ n. length (keys_of t.nodes.upper) ≤ n) (ways-length pages) few)
