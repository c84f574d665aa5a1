-- The nodes above changed pages are renewed level by level.
use Rattle.std.proofs.Common.{◌≡◌, ◌≢◌, ◌⊎◌, inl, inr, ℕ, zero, suc, ◌+◌, ◌-◌, ◌*◌, ◌/◌, ◌^◌, ◌<◌, ◌≤◌, List, [], ◌∷◌, ◌++◌, length, get_or, take, true, false, true≢false, ◌||◌, is_some, Option, refl, sym, ap, ◌∙◌, subst, arith, ⊎_elim}
use Rattle.std.proofs.Math.Nat.{div-div-eq-div-mul, pow-suc}
use Rattle.std.proofs.lemmas.Bool.{cases_eq, cases_lt, cases_Bool, or_from, or_parts}
use Rattle.std.specs.Ordering.{nat_cmp}
use Rattle.std.specs.BTreeMap.{is_at}
use Rattle.rd_base.specs.declared.digest.Digest32.{Digest32}
use Rattle.digest_core.specs.Text.{node_text}
use Rattle.mem_plain.specs.Contents.{has_page}
use Rattle.mem_tree.specs.Page.{kept_or}
use Rattle.std.proofs.lemmas.List.{take_more}
use Rattle.merkle_nodes.specs.Node.{digest_at}
use Rattle.mem_tree.specs.Tree.{Kept, IsJoinedAbove, IsJoinedBut, IsRoot, page_at, upper_at, upper_node}
use Rattle.mem_tree.specs.Levels.{IsJoinedFrom}
use Rattle.mem_tree.proofs.AmongLemmas.{among-head, among-tail, among-last, among-front, among-but_last}
use Rattle.mem_tree.proofs.UpperLemmas.{of-two}

-- the one at a place is among some
pub among-place : (xs : List ℕ) (i d : ℕ) → i < length xs → has_page xs (get_or xs i d) ≡ true
among-place [] i d low = absurd (omega (arith, low))
among-place (x ∷ xs) zero d low = among-head x xs
among-place (x ∷ xs) (suc i) d low = among-tail x xs (get_or xs i d) (among-place xs i d (omega (arith, low)))

-- what is among the first of some is the next, or among those before it
pub among-more : (xs : List ℕ) (i d q : ℕ) → i < length xs → has_page (take (i + 1) xs) q ≡ true → (q ≡ get_or xs i d) ⊎ (has_page (take i xs) q ≡ true)
among-more xs i d q low is = ⊎_elim
    (λ same. inl same)
    (λ apart. ⊎_elim
    (λ held. inr held)
    (λ out. absurd (true≢false (sym is ∙ (ap (λ ys. has_page ys q) (take_more xs i d low) ∙ among-but_last (take i xs) (get_or xs i d) q apart out))))
    (cases_Bool (has_page (take i xs) q)))
    (cases_eq q (get_or xs i d))

-- what isn't among the first of some isn't the last of these, nor among those before it
pub not-more : (xs : List ℕ) (i d q : ℕ) → i < length xs → has_page (take (i + 1) xs) q ≡ false → (q ≢ get_or xs i d) × (has_page (take i xs) q ≡ false)
not-more xs i d q low is = (
  (λ same. true≢false (sym (among-last (take i xs) (get_or xs i d)) ∙ (ap (has_page (take i xs ++ get_or xs i d ∷ [])) (sym same) ∙ (ap (λ ys. has_page ys q) (sym (take_more xs i d low)) ∙ is)))),
  ⊎_elim
      (λ held. absurd (true≢false (sym (among-front (take i xs) (get_or xs i d) q held) ∙ (ap (λ ys. has_page ys q) (sym (take_more xs i d low)) ∙ is))))
      (λ out. out)
      (cases_Bool (has_page (take i xs) q)),
)

-- what isn't among some isn't among the first of them
pub not-first : (xs : List ℕ) (i q : ℕ) → has_page xs q ≡ false → has_page (take i xs) q ≡ false
not-first xs zero q none = refl
not-first [] (suc i) q none = refl
not-first (x ∷ xs) (suc i) q none =
    let parts = or_parts (is_at (nat_cmp q) x) (has_page xs q) none in
    or_from (is_at (nat_cmp q) x) (has_page (take i xs) q) parts.0 (not-first xs i q parts.1)

-- nor at a place of them
pub not-all : (xs : List ℕ) (i q : ℕ) → i < length xs → has_page xs q ≡ false → q ≡ get_or xs i 0 → ⊥
not-all xs i q low none same = true≢false (sym (among-place xs i 0 low) ∙ (ap (has_page xs) (sym same) ∙ none))

-- one node of level 7 + n + 1 is joined
pub join-here : (digest : List ℕ → List ℕ) (before after : Kept) (n place : ℕ) (node : Option Digest32) → after.empties ≡ before.empties
    → ((i k : ℕ) → (i ≢ n + 1) ⊎ (k ≢ place) → upper_at after i k ≡ upper_at before i k)
    → upper_at after (n + 1) place ≡ node → kept_or node (digest_at before.empties (7 + (n + 1))) ≡ digest (node_text (upper_node before n (2 * place)) (upper_node before n (2 * place + 1)))
    → is_some node ≡ (is_some (upper_at before n (2 * place)) || is_some (upper_at before n (2 * place + 1))) → IsJoinedAbove digest after n place
join-here digest before after n place node empties elsewhere here is kept = of-two digest node _ _ _ _ _ _ _ _ _ here
    (elsewhere n (2 * place) (inl (λ e. absurd (omega (arith, e))))) (elsewhere n (2 * place + 1) (inl (λ e. absurd (omega (arith, e)))))
    (ap (λ es. digest_at es (7 + n)) empties) (ap (λ es. digest_at es (7 + (n + 1))) empties) (record { digest_is = is; kept = kept })

-- one node of level 7 + n + 1 is joined, behind others
pub join-more : (digest : List ℕ → List ℕ) (before after : Kept) (n place : ℕ) → after.empties ≡ before.empties
    → ((i k : ℕ) → (i ≢ n + 1) ⊎ (k ≢ place) → upper_at after i k ≡ upper_at before i k)
    → (k : ℕ) → k ≢ place → IsJoinedAbove digest before n k → IsJoinedAbove digest after n k
join-more digest before after n place empties elsewhere k other is = of-two digest _ _ _ _ _ _ _ _ _ _ (elsewhere (n + 1) k (inr other))
    (elsewhere n (2 * k) (inl (λ e. absurd (omega (arith, e))))) (elsewhere n (2 * k + 1) (inl (λ e. absurd (omega (arith, e)))))
    (ap (λ es. digest_at es (7 + n)) empties) (ap (λ es. digest_at es (7 + (n + 1))) empties) is

-- one level further up
up-further : (q i n : ℕ) → n < i → q / 2 ^ (i + 1 - n) ≡ q / 2 / 2 ^ (i + 1 - (n + 1))
up-further q i n low =
    let rest = i + 1 - (n + 1) in
    let e : i + 1 - n ≡ suc rest = omega (arith, low) in
    ap (λ j. q / 2 ^ j) e ∙ (ap (λ x. q / x) (pow-suc 2 rest ∙ times (2 ^ rest)) ∙ sym (div-div-eq-div-mul q 2 (2 ^ rest)))
  where
    times : (x : ℕ) → x * 2 ≡ 2 * x
    times x = omega arith

-- a level is joined, at all places above stale nodes
pub joined-level : (digest : List ℕ → List ℕ) (before after : Kept) (n : ℕ) (stale places : List ℕ) → after.empties ≡ before.empties → ((p : ℕ) → page_at after p ≡ page_at before p) → n < 20
    → ((q : ℕ) → has_page stale q ≡ true → has_page places (q / 2) ≡ true)
    → ((k : ℕ) → has_page places k ≡ true → IsJoinedAbove digest after n k)
    → ((i k : ℕ) → (i ≢ n + 1) ⊎ (has_page places k ≡ false) → upper_at after i k ≡ upper_at before i k)
    → IsJoinedFrom digest before n stale → IsJoinedFrom digest after (n + 1) places
joined-level digest before after n stale places empties pages low over joined elsewhere from = record {
  roots = λ p. subst (λ o. IsRoot o (page_at after p)) (sym (elsewhere 0 p (inl (λ e. absurd (omega (arith, e))))))
      (subst (IsRoot (upper_at before 0 p)) (sym (pages p)) (from.roots p));
  above = λ i k high fresh. ⊎_elim
      (λ below. kept i k (λ e. absurd (omega (arith, e, below))) (λ e. absurd (omega (arith, e, below))) (from.above i k high (λ q there at. absurd (omega (arith, there, below)))))
      (λ from_n. ⊎_elim
      (λ same. subst (λ j. IsJoinedAbove digest after j k) (sym same) (at-level k))
      (λ further. above-level i k high (omega (arith, from_n, further)) fresh)
      (cases_eq i n))
      (cases_lt i n);
  top = λ i k high. elsewhere i k (inl (λ e. absurd (omega (arith, e, high, low)))) ∙ from.top i k high;
}
  where
    stay : (i k : ℕ) → (has_page places k ≡ true → i ≢ n + 1) → upper_at after i k ≡ upper_at before i k
    stay i k apart = ⊎_elim (λ held. elsewhere i k (inl (apart held))) (λ out. elsewhere i k (inr out)) (cases_Bool (has_page places k))

    kept : (i k : ℕ) → (i ≡ n + 1 → ⊥) → (i ≡ n → ⊥) → IsJoinedAbove digest before i k → IsJoinedAbove digest after i k
    kept i k not-above not-here is = of-two digest _ _ _ _ _ _ _ _ _ _ (stay (i + 1) k (λ held e. not-here (omega (arith, e)))) (stay i (2 * k) (λ held e. not-above e)) (stay i (2 * k + 1) (λ held e. not-above e))
        (ap (λ es. digest_at es (7 + i)) empties) (ap (λ es. digest_at es (7 + (i + 1))) empties) is

    fresh-below : (k : ℕ) → has_page places k ≡ false → (q : ℕ) → n ≤ n → q / 2 ^ (n + 1 - n) ≡ k → has_page stale q ≡ false
    fresh-below k out q there at = ⊎_elim
        (λ held. let one : n + 1 - n ≡ 1 = omega arith in
        absurd (true≢false (sym (over q held) ∙ (ap (has_page places) (sym (ap (λ j. q / 2 ^ j) one) ∙ at) ∙ out))))
        (λ none. none)
        (cases_Bool (has_page stale q))

    at-level : (k : ℕ) → IsJoinedAbove digest after n k
    at-level k = ⊎_elim
        (λ held. joined k held)
        (λ out. of-two digest _ _ _ _ _ _ _ _ _ _ (elsewhere (n + 1) k (inr out)) (elsewhere n (2 * k) (inl (λ e. absurd (omega (arith, e))))) (elsewhere n (2 * k + 1) (inl (λ e. absurd (omega (arith, e)))))
        (ap (λ es. digest_at es (7 + n)) empties) (ap (λ es. digest_at es (7 + (n + 1))) empties) (from.above n k low (fresh-below k out)))
        (cases_Bool (has_page places k))

    above-level : (i k : ℕ) → i < 20 → n < i → ((q : ℕ) → n + 1 ≤ i → q / 2 ^ (i + 1 - (n + 1)) ≡ k → has_page places q ≡ false) → IsJoinedAbove digest after i k
    above-level i k high further fresh = of-two digest _ _ _ _ _ _ _ _ _ _
        (elsewhere (i + 1) k (inl (λ e. absurd (omega (arith, e, further))))) (half (2 * k) (omega arith)) (half (2 * k + 1) (omega arith))
        (ap (λ es. digest_at es (7 + i)) empties) (ap (λ es. digest_at es (7 + (i + 1))) empties)
        (from.above i k high (λ q there at. ⊎_elim
        (λ held. absurd (true≢false (sym (over q held) ∙ fresh (q / 2) (omega (arith, further)) (sym (up-further q i n further) ∙ at))))
        (λ out. out)
        (cases_Bool (has_page stale q))))
      where
        half : (j : ℕ) → j / 2 ≡ k → upper_at after i j ≡ upper_at before i j
        half j at = ⊎_elim
            (λ same. let one : i + 1 - (n + 1) ≡ 1 = omega (arith, same) in
            elsewhere i j (inr (fresh j (omega (arith, further)) (ap (λ m. j / 2 ^ m) one ∙ at))))
            (λ other. elsewhere i j (inl other))
            (cases_eq i (n + 1))

-- all levels are joined
pub all-joined : (digest : List ℕ → List ℕ) (t : Kept) (stale : List ℕ) → IsJoinedFrom digest t 20 stale → IsJoinedBut digest t []
all-joined digest t stale from = record {
  roots = λ p fresh. from.roots p;
  above = λ n k low fresh. from.above n k low (λ q there at. absurd (omega (arith, low, there)));
  top = from.top;
}

-- a page below a place, one level further up
pub below-next : (pages : List ℕ) (n q h : ℕ) → (p : ℕ) × (has_page pages p ≡ true) × (p / 2 ^ n ≡ q) → q / 2 ≡ h → (p : ℕ) × (has_page pages p ≡ true) × (p / 2 ^ (n + 1) ≡ h)
below-next pages n q h below at =
    let e : n + 1 ≡ suc n = omega arith in
    (below.0, below.1, ap (λ j. below.0 / 2 ^ j) e ∙ (ap (λ x. below.0 / x) (pow-suc 2 n) ∙ (sym (div-div-eq-div-mul below.0 (2 ^ n) 2) ∙ (ap (λ x. x / 2) below.2 ∙ at))))

-- a node that is above none of the pages isn't one that is joined
pub apart-from : (pages places : List ℕ) (level n k : ℕ) → ((h : ℕ) → has_page places h ≡ true → (p : ℕ) × (has_page pages p ≡ true) × (p / 2 ^ level ≡ h))
    → ((p : ℕ) → has_page pages p ≡ true → p / 2 ^ n ≢ k) → (n ≢ level) ⊎ (has_page places k ≡ false)
apart-from pages places level n k below apart = ⊎_elim
    (λ same. inr (⊎_elim
    (λ held. let p = below k held in absurd (apart p.0 p.1 (ap (λ j. p.0 / 2 ^ j) same ∙ p.2)))
    (λ none. none)
    (cases_Bool (has_page places k))))
    (λ other. inl other)
    (cases_eq n level)

pub times-next : (n m : ℕ) → (n + 1) * m ≡ n * m + m
times-next n m = grind arith
