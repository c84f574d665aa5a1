-- There is a most number of bisection rounds, for every fan and bound.
use Rattle.std.proofs.Common.{◌≡◌, ℕ, zero, suc, ◌*◌, ◌^◌, ◌<◌, ◌≤◌, nat_lt, false, inl, inr, arith}
use Rattle.std.proofs.lemmas.Bool.Decides.{nat_tests}
use Rattle.std.proofs.lemmas.Bool.{cases_Bool}
use Rattle.std.proofs.Math.Nat.{pow-zero, pow-succ', pow-le-pow_right, mul-le-mul_right}
use Rattle.tournament.specs.Length.{IsMost}

-- there is a greatest k with b^k < m, where 1 < b and 1 < m

greatest-below : (b m : ℕ) → 1 < b → 1 < m → (n : ℕ) → ((j : ℕ) → b ^ j < m → j ≤ n) → (k : ℕ) × (b ^ k < m) × ((j : ℕ) → b ^ j < m → j ≤ k)
greatest-below b m more some zero above = (0, rw pow-zero some, above)
greatest-below b m more some (suc n) above = elim (cases_Bool (nat_lt (b ^ suc n) m)) [
  | inl less ↦ (suc n, grind (arith, nat_tests), above)
  | inr most ↦ greatest-below b m more some n (λ j lt. below j lt most)
]
  where
    below : (j : ℕ) → b ^ j < m → nat_lt (b ^ suc n) m ≡ false → j ≤ n
    below j lt most = elim (cases_Bool (nat_lt j (suc n))) [
      | inl less ↦ grind (arith, nat_tests)
      | inr high ↦ (let base : 0 < b = omega arith in let le : suc n ≤ j = grind (arith, nat_tests) in let up : b ^ suc n ≤ b ^ j = pow-le-pow_right base le in absurd (grind (arith, nat_tests)))
    ]

above-self : (b j : ℕ) → 1 < b → j < b ^ j
above-self b zero more = rw pow-zero (omega arith)
above-self b (suc j) more =
    let e : b ^ suc j ≡ b * b ^ j = pow-succ' b j in
    let two : 2 ≤ b = omega arith in
    let twice : 2 * b ^ j ≤ b * b ^ j = mul-le-mul_right (b ^ j) two in
    omega (arith, e, twice, above-self b j more)

small : (b j m : ℕ) → 1 < b → b ^ j < m → j ≤ m
small b j m more lt = omega (arith, above-self b j more, lt)

pub most-rounds : (fan bound : ℕ) → 1 < fan → 0 < bound → (k : ℕ) × IsMost fan bound k
most-rounds fan bound more steps =
    let two : 2 ≤ fan = omega arith in
    let twice : 2 * bound ≤ fan * bound = mul-le-mul_right bound two in
    let most = greatest-below fan (fan * bound) more (omega (arith, steps, twice)) (fan * bound) (λ j lt. small fan j (fan * bound) more lt) in
    (most.0, record { few = most.1; most = most.2 })
