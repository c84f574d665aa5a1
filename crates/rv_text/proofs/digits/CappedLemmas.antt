-- Capped numbers: the cap may be applied at each digit, and changes nothing that is in a range.
use Rattle.std.proofs.Common.{◌≡◌, ◌⊎◌, inl, inr, ⊎_elim, ap, sym, ◌∙◌, ◌^◌, ℕ, zero, suc, ◌+◌, ◌*◌, ◌<◌, ◌≤◌, List, [], ◌∷◌, drop, length, get_or, drop-cons, add-one, refl, arith, ℤ, pos, negsuc, Option, Some, None, option_map}
use Rattle.std.proofs.Math.Nat.{mul-suc}
use Rattle.std.proofs.lemmas.Nat.{mul-le}
use Rattle.std.proofs.lemmas.Bool.{cases_order}
use Rattle.std.proofs.lemmas.Bool.Decides.{nat_tests}
use Rattle.std.proofs.lemmas.Int.{ints}
use Rattle.std.specs.Prelude.{neg_ℤ}
use Rattle.std.specs.Char.{digit_value}
use Rattle.std.specs.Str.Parse.{digits_value_after}
use Rattle.rv_text.specs.Capped.{capped, capped_integer}
use Rattle.rv_text.specs.Operands.{ranged_or, ranged}
use Rattle.rv_text.specs.declared.field.Field.{Field}
use Rattle.rv_text.specs.declared.field.Field.TheVariants.{Rd, Rs1, Rs2, Immediate, Shift, StoreOffset, BranchTarget, JumpTarget, Upper, Word}
use Rattle.rv_text.specs.declared.fault.FaultKind.TheVariants.{OtherForm}

pub capped-twice : (n : ℕ) → capped (capped n) ≡ capped n
capped-twice n = grind (arith, nat_tests)

pub capped-small : (n : ℕ) → n ≤ 4294967296 → capped n ≡ n
capped-small n h = grind (arith, nat_tests)

capped-large : (n : ℕ) → 4294967296 ≤ n → capped n ≡ 4294967296
capped-large n h = grind (arith, nat_tests)

order : (m n : ℕ) → (m < n) ⊎ (n ≤ m)
order m n = ⊎_elim (λ same. inr (omega arith)) (⊎_elim (λ less. inl less) (λ more. inr (omega arith))) (cases_order m n)

large-product : (base n d : ℕ) → 0 < base → 4294967296 ≤ n → 4294967296 ≤ n * base + d
large-product zero n d some h = let never : ⊥ = omega arith in elim never [ ]
large-product (suc k) n d some h = omega (arith, mul-suc n k)

-- numbers that are alike once capped are equal, or none is below the cap
both-large : (base a b d : ℕ) → 4294967296 ≤ a → 4294967296 ≤ b → capped (a * base + d) ≡ capped (b * base + d)
both-large zero a b d h k = let same : a * zero + d ≡ b * zero + d = omega arith in ap capped same
both-large (suc n) a b d h k =
    capped-large _ (large-product (suc n) a d (omega arith) h) ∙ sym (capped-large _ (large-product (suc n) b d (omega arith) k))

capped-step : (base a b d : ℕ) → capped a ≡ capped b → capped (a * base + d) ≡ capped (b * base + d)
capped-step base a b d e = ⊎_elim
    (λ a_small. ⊎_elim
    (λ b_small. ap (λ n. capped (n * base + d)) (sym (capped-small a (omega arith)) ∙ e ∙ capped-small b (omega arith)))
    (λ b_large. let never : ⊥ = omega (arith, sym (capped-small a (omega arith)) ∙ e ∙ capped-large b b_large) in elim never [ ])
    (order b 4294967296))
    (λ a_large. ⊎_elim
    (λ b_small. let never : ⊥ = omega (arith, sym (capped-large a a_large) ∙ e ∙ capped-small b (omega arith)) in elim never [ ])
    (λ b_large. both-large base a b d a_large b_large)
    (order b 4294967296))
    (order a 4294967296)

digits-capped : (base a b : ℕ) (ds : List ℕ) → capped a ≡ capped b → capped (digits_value_after base a ds) ≡ capped (digits_value_after base b ds)
digits-capped base a b [] e = e
digits-capped base a b (c ∷ cs) e = digits-capped base (a * base + digit_value c) (b * base + digit_value c) cs (capped-step base a b (digit_value c) e)

pub last-digit : (base n k : ℕ) (ds : List ℕ) → k < length ds
    → capped (digits_value_after base (capped (n * base + digit_value (get_or ds k 0))) (drop (k + 1) ds)) ≡ capped (digits_value_after base n (drop k ds))
last-digit base n k ds l = rw (drop-cons ds k 0 l, add-one k) (digits-capped base _ _ (drop (suc k) ds) (capped-twice (n * base + digit_value (get_or ds k 0))))

pub product-fits : (n base : ℕ) → n ≤ 4294967296 → base < 2 ^ 32 → n * base ≤ 4294967296 * 4294967295
product-fits n base h k = mul-le n base 4294967296 4294967295 h (omega arith)

pub ruleset value_rules = (last-digit, capped-small, product-fits)

pub capped-negative : (n : ℕ) → neg_ℤ (pos (capped n)) ≡ capped_integer (neg_ℤ (pos n))
capped-negative zero = refl
capped-negative (suc n) = refl

pub ruleset sign_rules = (capped-negative, capped-small)

ranged-natural : (f : Field) (n : ℕ) → ranged f (pos (capped n)) ≡ ranged f (pos n)
ranged-natural Rd n = grind (arith, nat_tests, ints)
ranged-natural Rs1 n = grind (arith, nat_tests, ints)
ranged-natural Rs2 n = grind (arith, nat_tests, ints)
ranged-natural Immediate n = grind (arith, nat_tests, ints)
ranged-natural Shift n = grind (arith, nat_tests, ints)
ranged-natural StoreOffset n = grind (arith, nat_tests, ints)
ranged-natural BranchTarget n = grind (arith, nat_tests, ints)
ranged-natural JumpTarget n = grind (arith, nat_tests, ints)
ranged-natural Upper n = grind (arith, nat_tests, ints)
ranged-natural Word n = grind (arith, nat_tests, ints)

ranged-negative : (f : Field) (n : ℕ) → ranged f (capped_integer (negsuc n)) ≡ ranged f (negsuc n)
ranged-negative Rd n = grind (arith, nat_tests, ints)
ranged-negative Rs1 n = grind (arith, nat_tests, ints)
ranged-negative Rs2 n = grind (arith, nat_tests, ints)
ranged-negative Immediate n = grind (arith, nat_tests, ints)
ranged-negative Shift n = grind (arith, nat_tests, ints)
ranged-negative StoreOffset n = grind (arith, nat_tests, ints)
ranged-negative BranchTarget n = grind (arith, nat_tests, ints)
ranged-negative JumpTarget n = grind (arith, nat_tests, ints)
ranged-negative Upper n = grind (arith, nat_tests, ints)
ranged-negative Word n = grind (arith, nat_tests, ints)

pub ranged-capped : (f : Field) (z : ℤ) → ranged f (capped_integer z) ≡ ranged f z
ranged-capped f (pos n) = ranged-natural f n
ranged-capped f (negsuc n) = ranged-negative f n

pub written-capped : (f : Field) (o : Option ℤ) → (ranged_or OtherForm f (option_map capped_integer o)) ≡ (ranged_or OtherForm f o)
written-capped f None = refl
written-capped f (Some z) = ranged-capped f z

pub ruleset ranged_rules = (written-capped, ranged-capped)
