-- Sums over lists, and numbers of a word.
use Rattle.std.proofs.Common.{◌≡◌, ◌≢◌, ℕ, zero, suc, ◌+◌, ◌%◌, ◌<◌, ◌≤◌, List, [], ◌∷◌, ◌++◌, length, set, Option, Some, None, sym, refl, ap, ◌∙◌, subst, arith, mod-eq_of_lt}
use mathlib.Core.Option.{some, some-injective, some-ne-none}
use lib.ListN.{get_elem?}
use Rattle.std.proofs.Math.Nat.{mod-add-mod}
use Rattle.atomic_table.proofs.Lists.{one_turn}
use Rattle.seat_lock.specs.Rule.{word_size, weight, total}

module _ {V : Type 0} (f : V → ℕ) where
  pub total-set : (vs : List V) (i : ℕ) (v w : V) → get_elem? vs i ≡ some v → total f (set vs i w) + f v ≡ total f vs + f w
  total-set [] i v w e = absurd (some-ne-none v (sym e))
  total-set (x ∷ xs) zero v w e = let q : f x ≡ f v = ap f (some-injective x v e) in omega arith
  total-set (x ∷ xs) (suc i) v w e = let r = total-set xs i v w e in omega arith

  pub total-set_same : (vs : List V) (i : ℕ) (v w : V) → get_elem? vs i ≡ some v → f w ≡ f v → total f (set vs i w) ≡ total f vs
  total-set_same vs i v w e same = let r = total-set vs i v w e in omega arith

  pub total-append_one : (vs : List V) (w : V) → total f (vs ++ w ∷ []) ≡ total f vs + f w
  total-append_one [] w = omega arith
  total-append_one (x ∷ xs) w = let r = total-append_one xs w in omega arith

  pub one-le-total : (vs : List V) (i : ℕ) (v : V) → get_elem? vs i ≡ some v → f v ≤ total f vs
  one-le-total [] i v e = absurd (some-ne-none v (sym e))
  one-le-total (x ∷ xs) zero v e = let q : f x ≡ f v = ap f (some-injective x v e) in omega arith
  one-le-total (x ∷ xs) (suc i) v e = let r = one-le-total xs i v e in omega arith

  pub two-le-total : (vs : List V) (i j : ℕ) (v w : V) → i ≢ j → get_elem? vs i ≡ some v → get_elem? vs j ≡ some w → f v + f w ≤ total f vs
  two-le-total [] i j v w ne e d = absurd (some-ne-none v (sym e))
  two-le-total (x ∷ xs) zero zero v w ne e d = absurd (ne refl)
  two-le-total (x ∷ xs) zero (suc j) v w ne e d = let q : f x ≡ f v = ap f (some-injective x v e) in let r = one-le-total xs j w d in omega arith
  two-le-total (x ∷ xs) (suc i) zero v w ne e d = let q : f x ≡ f w = ap f (some-injective x w d) in let r = one-le-total xs i v e in omega arith
  two-le-total (x ∷ xs) (suc i) (suc j) v w ne e d = let r = two-le-total xs i j v w (λ h. ne (ap suc h)) e d in omega arith

  pub total-le-total : (g : V → ℕ) (vs : List V) → ((j : ℕ) (v : V) → get_elem? vs j ≡ some v → f v ≤ g v) → total f vs ≤ total g vs
  total-le-total g [] h = omega arith
  total-le-total g (x ∷ xs) h = let r = total-le-total g xs (λ j v e. h (suc j) v e) in let q = h zero x refl in omega arith

  -- of a list of which only the first counts
  total-none : (vs : List V) → ((j : ℕ) (v : V) → get_elem? vs j ≡ some v → f v ≡ 0) → total f vs ≡ 0
  total-none [] h = refl
  total-none (x ∷ xs) h = let r = total-none xs (λ j v e. h (suc j) v e) in let q = h zero x refl in omega arith

  pub total-alone : (vs : List V) (v : V) → get_elem? vs 0 ≡ some v → ((j : ℕ) (w : V) → 0 ≢ j → get_elem? vs j ≡ some w → f w ≡ 0) → total f vs ≡ f v
  total-alone [] v e h = absurd (some-ne-none v (sym e))
  total-alone (x ∷ xs) v e h = let r = total-none xs (λ j w d. h (suc j) w (λ (z : 0 ≡ suc j). absurd (omega (arith, z))) d) in let q : f x ≡ f v = ap f (some-injective x v e) in omega arith

pub weight-none : {A : Type 0} (o : Option A) → weight o ≡ 0 → o ≡ None
weight-none None e = refl
weight-none (Some a) e = absurd (omega (arith, e))

-- where one thing is there, so is the other
pub weight-le-weight : {A B : Type 0} (o : Option A) (p : Option B) (b : B) → ((a : A) → o ≡ Some a → p ≡ Some b) → weight o ≤ weight p
weight-le-weight None p b h = omega arith
weight-le-weight (Some a) p b h = subst (λ z. 1 ≤ weight z) (sym (h a refl)) (omega arith)

pub below-length : {A : Type 0} (l : List A) (i : ℕ) (a : A) → get_elem? l i ≡ some a → i < length l
below-length [] i a e = absurd (some-ne-none a (sym e))
below-length (x ∷ xs) zero a e = omega arith
below-length (x ∷ xs) (suc i) a e = let r = below-length xs i a e in omega arith

-- in a queue of fewer than 2^64 the number served is the first one's alone
pub first_place : (s k : ℕ) → s < word_size → k < word_size → s ≡ (s + k) % word_size → k ≡ 0
first_place s k small few e = let same : s ≡ s + k = one_turn s (s + k) word_size (omega arith) (omega arith) (mod-eq_of_lt small ∙ e) in omega arith

-- when the first one leaves, each is one place further on
pub next_place : (s k : ℕ) → (s + suc k) % word_size ≡ ((s + 1) % word_size + k) % word_size
next_place s k = ap (λ (n : ℕ). n % word_size) (let g : s + suc k ≡ s + 1 + k = omega arith in g) ∙ sym (mod-add-mod (s + 1) word_size k)
