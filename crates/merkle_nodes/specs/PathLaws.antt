-- Derived: opening from above is climbing from below, and two paths to one digest agree, or two different strings have one
-- digest. The laws `climbing_is_opening` and `two_paths_agree_or_split` have the same as clauses.
use Rattle.std.proofs.Common.{◌≡◌, ℕ, zero, suc, ◌/◌, ◌%◌, ◌^◌, ◌<◌, ◌≤◌, ◌⊎◌, inl, inr, List, [], ◌∷◌, ◌++◌, length, Bool, true, false, true≢false, refl, sym, ap, ◌∙◌, subst, arith, ⊎_elim}
use Rattle.std.specs.Prelude.{bytes_eq}
use Rattle.std.proofs.lemmas.Bool.{eq-eqb, ne_eqb, cases_eq}
use Rattle.std.proofs.lemmas.Slice.Eq.{bytes_eq-Decides}
use Rattle.digest_core.specs.Text.{node_text}
use Rattle.merkle_nodes.specs.Opening.{joined, Opens, opened}
use Rattle.merkle_nodes.specs.Split.{IsSplitAt}

module _ (digest : List ℕ → List ℕ) (leaf : List ℕ) (siblings : ℕ → List ℕ) where
  -- climbing from below is opening from above
  pub opens-climbs : (n k : ℕ) (d : List ℕ) → Opens digest leaf siblings n k d → d ≡ digest (opened digest leaf siblings n k)
  unfolding Opens opened
  opens-climbs zero k d opens = opens
  opens-climbs (suc l) k d opens = opens.1 ∙ ap (λ c. digest (joined (k / 2 ^ l % 2) c (siblings l))) (opens-climbs l k opens.0 opens.2)

  pub climbs-opens : (n k : ℕ) (d : List ℕ) → d ≡ digest (opened digest leaf siblings n k) → Opens digest leaf siblings n k d
  unfolding Opens opened
  climbs-opens zero k d climbs = climbs
  climbs-opens (suc l) k d climbs = (digest (opened digest leaf siblings l k), climbs, climbs-opens l k _ refl)

append-left : (a b c d : List ℕ) → length a ≡ length c → a ++ b ≡ c ++ d → (a ≡ c) × (b ≡ d)
append-left [] b [] d len e = (refl, e)
append-left [] b (x ∷ c) d len e = absurd (omega arith)
append-left (x ∷ a) b [] d len e = absurd (omega arith)
append-left (x ∷ a) b (y ∷ c) d len e =
    let shorter : length a ≡ length c = omega arith in
    let head : x ≡ y = cc in
    let tail : a ++ b ≡ c ++ d = cc in
    let rest = append-left a b c d shorter tail in
    let first = rest.0 in
    (cc, rest.1)

pub joined-same : (bit : ℕ) (c s d t : List ℕ) → length c ≡ length d → length s ≡ length t → joined bit c s ≡ joined bit d t → (c ≡ d) × (s ≡ t)
joined-same bit c s d t children others e = ⊎_elim
    (λ zero.
    let e' : node_text c s ≡ node_text d t = rw (eq-eqb bit 0 zero) at e in
    let inside : c ++ s ≡ d ++ t = cc in
    append-left c s d t children inside)
    (λ one.
    let e' : node_text s c ≡ node_text t d = rw (ne_eqb bit 0 one) at e in
    let inside : s ++ c ≡ t ++ d = cc in
    let both = append-left s c t d others inside in
    (both.1, both.0))
    (cases_eq bit 0)

-- the level above decides the level below
module _ (digest : List ℕ → List ℕ) (is_digest : (bytes : List ℕ) → length (digest bytes) ≡ 32) (a b : List ℕ) (s t : ℕ → List ℕ) (k : ℕ) where
  pub one_opening : (n : ℕ) → ((l : ℕ) → l < n → length (s l) ≡ length (t l)) → digest (opened digest a s n k) ≡ digest (opened digest b t n k)
      → ((a ≡ b) × ((l : ℕ) → l < n → s l ≡ t l)) ⊎ ((l : ℕ) × (l ≤ n) × IsSplitAt digest a s b t k l)
  unfolding opened
  one_opening zero sizes meet = go (bytes_eq a b) refl
    where
      go : (r : Bool) → bytes_eq a b ≡ r → ((a ≡ b) × ((l : ℕ) → l < 0 → s l ≡ t l)) ⊎ ((l : ℕ) × (l ≤ 0) × IsSplitAt digest a s b t k l)
      go true test = inl ((bytes_eq-Decides a b).0 test, λ l below. absurd (omega arith))
      go false test = inr (0, omega arith, record { differ = λ same. true≢false (sym ((bytes_eq-Decides a b).1 same) ∙ test); agree = meet })
  one_opening (suc n) sizes meet =
      let x = joined (k / 2 ^ n % 2) (digest (opened digest a s n k)) (s n) in
      let y = joined (k / 2 ^ n % 2) (digest (opened digest b t n k)) (t n) in
      go x y (one_opening n (λ l below. sizes l (omega arith))) (bytes_eq x y) refl (joined-same (k / 2 ^ n % 2) _ _ _ _ (is_digest _ ∙ sym (is_digest _)) (sizes n (omega arith))) meet refl refl
    where
      go : (x y : List ℕ) → (digest (opened digest a s n k) ≡ digest (opened digest b t n k) → ((a ≡ b) × ((l : ℕ) → l < n → s l ≡ t l)) ⊎ ((l : ℕ) × (l ≤ n) × IsSplitAt digest a s b t k l))
          → (r : Bool) → bytes_eq x y ≡ r → (x ≡ y → (digest (opened digest a s n k) ≡ digest (opened digest b t n k)) × (s n ≡ t n)) → digest x ≡ digest y
          → opened digest a s (suc n) k ≡ x → opened digest b t (suc n) k ≡ y
          → ((a ≡ b) × ((l : ℕ) → l < suc n → s l ≡ t l)) ⊎ ((l : ℕ) × (l ≤ suc n) × IsSplitAt digest a s b t k l)
      go x y below true test apart agree ex ey =
          let both = apart ((bytes_eq-Decides x y).0 test) in
          ⊎_elim (λ whole. inl (whole.0, λ l lt. ⊎_elim (λ here. subst (λ i. s i ≡ t i) (sym here) both.1) (λ other. whole.1 l (omega arith)) (cases_eq l n))) (λ split. inr (split.0, omega arith, split.2)) (below both.0)
      go x y below false test apart agree ex ey =
          inr (suc n, omega arith, record { differ = λ same. true≢false (sym ((bytes_eq-Decides x y).1 (sym ex ∙ same ∙ ey)) ∙ test); agree = ap digest ex ∙ agree ∙ ap digest (sym ey) })
