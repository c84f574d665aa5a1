-- The cuts of an interval rise, and no part is as long as the whole.
use Rattle.std.proofs.Common.{◌≡◌, ℕ, zero, suc, ◌+◌, ◌-◌, ◌*◌, ◌/◌, ◌<◌, ◌≤◌, refl, arith, ap, ◌∙◌, ◌⊎◌, inl, inr, nat_le, List, [], ◌∷◌, ◌++◌, length, append_assoc}
use Rattle.std.proofs.lemmas.Bool.Decides.{nat_tests}
use Rattle.std.proofs.Math.Nat.{mul-le-mul_left, le_of_mul-le-mul_left, mul-div_cancel_left}
use Rattle.std.proofs.lemmas.Bool.{cases_Bool}
use Rattle.bisect_game.specs.Bisection.{cut, cuts_from, cuts}
use Rattle.bisect_game.specs.Laws.{CutsDivide, OneCutFewer}

pub record IsQuotient (g x a : ℕ) : Type 0 where
  pub low : g * a ≤ x
  pub high : x < g * a + g

is_quotient : (g x : ℕ) → 0 < g → IsQuotient g x (x / g)
is_quotient g x some = record { low = omega arith; high = omega arith }

le-or-lt : (m n : ℕ) → (m ≤ n) ⊎ (n < m)
le-or-lt m n = elim (cases_Bool (nat_le m n)) [ inl e ↦ inl (grind (arith, nat_tests)) | inr e ↦ inr (grind (arith, nat_tests)) ]

rises : (g l p a b : ℕ) → g ≤ l → IsQuotient g p a → IsQuotient g (p + l) b → b ≤ a → ⊥
rises g l p a b few qa qb le = omega (arith, mul-le-mul_left g le)

narrows : (g l p a b : ℕ) → 1 < g → g ≤ l → IsQuotient g p a → IsQuotient g (p + l) b → a + l ≤ b → ⊥
narrows g l p a b more few qa qb le =
    let two : 2 ≤ g = omega arith in
    omega (arith, mul-le-mul_left g le, mul-le-mul_left l two)

pub record IsPart (l a b : ℕ) : Type 0 where
  pub some : a < b
  pub less : b < a + l

pub part : (g l j : ℕ) → 1 < g → g ≤ l → IsPart l ((j * l) / g) (((j + 1) * l) / g)
part g l j more few =
    let p : ℕ = j * l in
    let e : (j + 1) * l ≡ j * l + l = omega arith in
    let some : 0 < g = omega arith in
    let qa : IsQuotient g (j * l) ((j * l) / g) = is_quotient g (j * l) some in
    let qb : IsQuotient g (j * l + l) ((j * l + l) / g) = is_quotient g (j * l + l) some in
    rw e (record {
      some = omega (arith, rises g l (j * l) ((j * l) / g) ((j * l + l) / g) few qa qb);
      less = omega (arith, narrows g l (j * l) ((j * l) / g) ((j * l + l) / g) more few qa qb);
    })

rising : (g l j : ℕ) → 0 < g → g ≤ l → (j * l) / g < ((j + 1) * l) / g
rising g l j some few =
    let e : (j + 1) * l ≡ j * l + l = omega arith in
    let qa : IsQuotient g (j * l) ((j * l) / g) = is_quotient g (j * l) some in
    let qb : IsQuotient g (j * l + l) ((j * l + l) / g) = is_quotient g (j * l + l) some in
    rw e (omega (arith, rises g l (j * l) ((j * l) / g) ((j * l + l) / g) few qa qb))

-- no cut is past the end
pub below : (g l j : ℕ) → 0 < g → j ≤ g → (j * l) / g ≤ l
below g l j some le =
    let q : IsQuotient g (j * l) ((j * l) / g) = is_quotient g (j * l) some in
    let m : l * j ≤ l * g = mul-le-mul_left l le in
    let h : g * ((j * l) / g) ≤ g * l = omega (arith, q.low, m) in
    le_of_mul-le-mul_left h some

tight-by : (g l p a b : ℕ) → 0 < g → 0 < l → IsQuotient g p a → IsQuotient g (p + l) b → g * (b - a - 1) ≤ l - 1
tight-by g l p a b some long qa qb =
    elim (le-or-lt b (a + 1)) [
      | inl le ↦ let z : b - a - 1 ≡ 0 = omega arith in rw z (omega arith)
      | inr lt ↦
          let c : ℕ = b - a - 1 in
          let e : b ≡ a + 1 + (b - a - 1) = omega arith in
          let m : g * b ≡ g * a + g + g * (b - a - 1) = ap (λ (x : ℕ). g * x) e ∙ omega arith in
          omega (arith, m, qa.high, qb.low)
    ]

-- a part is at most the whole by the number of parts, rounded up
pub tight : (g l j : ℕ) → 0 < g → 0 < l → g * (((j + 1) * l) / g - (j * l) / g - 1) ≤ l - 1
tight g l j some long =
    let e : (j + 1) * l ≡ j * l + l = omega arith in
    let qa : IsQuotient g (j * l) ((j * l) / g) = is_quotient g (j * l) some in
    let qb : IsQuotient g (j * l + l) ((j * l + l) / g) = is_quotient g (j * l + l) some in
    rw e (tight-by g l (j * l) ((j * l) / g) ((j * l + l) / g) some long qa qb)

pub cut-first : (lo hi parts : ℕ) → 0 < parts → cut lo hi parts 0 ≡ lo
unfolding cut
cut-first lo hi parts some =
    let none : 0 * (hi - lo) ≡ parts * 0 = omega arith in
    let z : (parts * 0) / parts ≡ 0 = mul-div_cancel_left 0 some in
    rw (none, z) (omega arith)

pub cut-last : (lo hi parts : ℕ) → 0 < parts → lo ≤ hi → cut lo hi parts parts ≡ hi
unfolding cut
cut-last lo hi parts some le =
    let z : (parts * (hi - lo)) / parts ≡ hi - lo = mul-div_cancel_left (hi - lo) some in
    rw z (omega (arith, le))

cut-rise : (lo hi parts j : ℕ) → 0 < parts → parts ≤ hi - lo → j < parts → cut lo hi parts j < cut lo hi parts (j + 1)
unfolding cut
cut-rise lo hi parts j some few last =
    let s : ((j * (hi - lo)) / parts) < (((j + 1) * (hi - lo)) / parts) = rising parts (hi - lo) j some few in
    omega (arith, s)

cut-between : (lo hi parts j : ℕ) → 1 < parts → parts ≤ hi - lo → 0 < j → j < parts → (lo < cut lo hi parts j) × (cut lo hi parts j < hi)
unfolding cut
cut-between lo hi parts zero more few some last = absurd (omega arith)
cut-between lo hi parts (suc i) more few some last =
    let e : i + 1 ≡ suc i = omega arith in
    let p : IsPart (hi - lo) ((i * (hi - lo)) / parts) (((i + 1) * (hi - lo)) / parts) = part parts (hi - lo) i more few in
    let q : IsPart (hi - lo) (((i + 1) * (hi - lo)) / parts) (((i + 1 + 1) * (hi - lo)) / parts) = part parts (hi - lo) (i + 1) more few in
    let b : ((i + 1 + 1) * (hi - lo)) / parts ≤ hi - lo = below parts (hi - lo) (i + 1 + 1) (omega arith) (omega (arith, last)) in
    rw (← e) (omega (arith, p.some), omega (arith, q.some, b))

pub cuts_divide : CutsDivide
cuts_divide = record { begin = cut-first; end_ = cut-last; rise = cut-rise; between = cut-between }

-- one cut more is put down
pub one-cut-more : (lo hi parts j left less c : ℕ) (steps next : List ℕ) → left ≡ suc less → c ≡ cut lo hi parts j → next ≡ steps ++ c ∷ [] →
    steps ++ cuts_from lo hi parts j left ≡ cuts lo hi parts → next ++ cuts_from lo hi parts (j + 1) less ≡ cuts lo hi parts
one-cut-more lo hi parts j left less c steps next el ec en whole =
    let more : steps ++ cut lo hi parts j ∷ cuts_from lo hi parts (j + 1) less ≡ cuts lo hi parts = rw el at whole in
    rw (en, ec, append_assoc) more

length-from : (lo hi parts j n : ℕ) → length (cuts_from lo hi parts j n) ≡ n
length-from lo hi parts j zero = refl
length-from lo hi parts j (suc n) = ap suc (length-from lo hi parts (j + 1) n)

pub one-cut-fewer : OneCutFewer
one-cut-fewer lo hi parts = length-from lo hi parts 1 (parts - 1)
