-- How many digests a page takes.
use Rattle.std.proofs.Common.{◌≡◌, ◌≢◌, ℕ, zero, suc, ◌+◌, ◌^◌, ◌<◌, List, Bool, true, false, true≢false, not, cond, refl, sym, ap, ◌∙◌, arith}
use Rattle.std.specs.Prelude.{bytes_eq}
use Rattle.std.proofs.lemmas.Slice.Eq.{bytes_eq-Decides}
use Rattle.merkle_nodes.specs.Renewals.{how_many, is_changed}
use Rattle.mem_tree.specs.Costs.{are_different}

pub many-same : (f h : ℕ → Bool) (n : ℕ) → ((k : ℕ) → k < n → f k ≡ h k) → how_many f n ≡ how_many h n
unfolding how_many
many-same f h zero same = refl
many-same f h (suc n) same = ap (λ x. x + cond (f n) 1 0) (many-same f h n (λ k low. same k (omega arith))) ∙ ap (λ b. how_many h n + cond b 1 0) (same n (omega arith))

-- one number more
pub many-next : (f h : ℕ → Bool) (j : ℕ) (b : Bool) → ((i : ℕ) → i < j → f i ≡ h i) → f j ≡ b → how_many f (j + 1) ≡ how_many h j + cond b 1 0
unfolding how_many
many-next f h j b same here =
    let next : j + 1 ≡ suc j = omega arith in
    ap (how_many f) next ∙ (ap (λ x. x + cond (f j) 1 0) (many-same f h j same) ∙ ap (λ t. how_many h j + cond t 1 0) here)

pub many-none : (f : ℕ → Bool) (n : ℕ) → ((k : ℕ) → k < n → f k ≡ false) → how_many f n ≡ 0
unfolding how_many
many-none f zero none = refl
many-none f (suc n) none = ap (λ x. x + cond (f n) 1 0) (many-none f n (λ k low. none k (omega arith))) ∙ ap (λ b. 0 + cond b 1 0) (none n (omega arith))

-- a test of equality, the other way around
pub different-is : (a b : List ℕ) (r : Bool) → (r ≡ true → a ≡ b) → (a ≡ b → r ≡ true) → are_different a b ≡ not r
unfolding are_different
different-is a b true same test = ap not ((bytes_eq-Decides a b).1 (same refl))
different-is a b false same test = ap not (apart (bytes_eq a b) refl)
  where
    apart : (t : Bool) → bytes_eq a b ≡ t → bytes_eq a b ≡ false
    apart true is = absurd (true≢false (sym (test ((bytes_eq-Decides a b).0 is))))
    apart false is = is

pub different-same : (a b : List ℕ) → a ≡ b → are_different a b ≡ false
different-same a b same = different-is a b true (λ t. same) (λ t. refl)

pub different-apart : (a b : List ℕ) → a ≢ b → are_different a b ≡ true
different-apart a b apart = different-is a b false (λ t. absurd (true≢false (sym t))) (λ t. absurd (apart t))

pub not-true : (b : Bool) → (b ≡ true → ⊥) → b ≡ false
not-true true is = absurd (is refl)
not-true false is = refl

-- two laws of renewals, as `merkle_nodes` states them
abbrev pub RootLaw : Type 0
RootLaw = (changed : ℕ → Bool) (n k : ℕ) → k < 2 ^ n → changed k ≡ true → is_changed changed n 0 ≡ true

abbrev pub SomeLaw : Type 0
SomeLaw = (changed : ℕ → Bool) (n : ℕ) → is_changed changed n 0 ≡ true → 0 < how_many changed (2 ^ n)

pub none-changed : SomeLaw → (f : ℕ → Bool) → ((j : ℕ) → j < 128 → f j ≡ false) → is_changed f 7 0 ≡ false
none-changed law f none = not-true (is_changed f 7 0) (λ is. let some : 0 < how_many f 128 = law f 7 is in let zero' = many-none f 128 none in absurd (omega arith))
