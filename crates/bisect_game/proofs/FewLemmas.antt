-- A dispute has few rounds: each leaves at most one part in so many.
use Rattle.std.proofs.Common.{◌≡◌, ℕ, zero, suc, ◌+◌, ◌-◌, ◌*◌, ◌/◌, ◌^◌, ◌<◌, ◌≤◌, min, nat_le, Bool, true, false, List, [], ◌∷◌, ◌++◌, length, inl, inr, Option, Some, None, refl, sym, ◌∙◌, ap, arith, length-append, add-one, if◌then◌else◌}
use Rattle.std.proofs.lemmas.Bool.Decides.{nat_tests}
use Rattle.std.proofs.Math.Nat.{mul-le-mul_left, pow-succ', pow-le-pow_left}
use Rattle.std.proofs.Math.Pow.{pow_mono}
use Rattle.std.proofs.lemmas.Bool.{cases_Bool}
use Rattle.bisect_game.specs.declared.settled.Interval.{Interval}
use Rattle.bisect_game.specs.declared.settled.Round.{Round}
use Rattle.bisect_game.specs.declared.settled.Settled.{Settled}
use Rattle.bisect_game.specs.declared.settled.Close.{Close}
use Rattle.rd_base.specs.declared.digest.Digest32.{Digest32}
use Rattle.bisect_game.specs.declared.settled.Side.{Side}
use Rattle.bisect_game.specs.declared.settled.Side.TheVariants.{First, Second}
use Rattle.bisect_game.proofs.CutLemmas.{tight}
use Rattle.bisect_game.proofs.RoundLemmas.{close_of-none}
use Rattle.bisect_game.specs.Bisection.{Bisection, rounds_of, proof_rounds_in, cut, kept_part, kept, parts_of, went_on, closed_or, decided, advanced, roots_of, settle_first, settle_second, settle_side}
use Rattle.bisect_game.specs.Closing.{is_step, close_of}
use Rattle.bisect_game.specs.Laws.{IsFew, RoundsAreFew}
use Rattle.bisect_game.specs.Ruling.{Ruling}

none-more : (l m : ℕ) → 1 < l → l * m ≤ l - 1 → m ≡ 0
none-more l zero long le = refl
none-more l (suc m) long le = let one : 1 ≤ suc m = omega arith in absurd (omega (arith, mul-le-mul_left l one))

-- m parts more, each of which was one in so many
shrinks : (fan l g m w bound : ℕ) → 1 < l → 1 < fan → g ≡ min fan l → g * m ≤ l - 1 → (l - 1) * w < bound → m * (fan * w) < bound
shrinks fan l g m w bound long more is le few =
    elim (cases_Bool (nat_le fan l)) [
      | inl e ↦
          let same : g ≡ fan = grind (arith, nat_tests) in
          let low : fan * m ≤ l - 1 = rw same at le in
          let t : w * (fan * m) ≤ w * (l - 1) = mul-le-mul_left w low in
          omega (arith, t)
      | inr e ↦
          let same : g ≡ l = grind (arith, nat_tests) in
          let low : l * m ≤ l - 1 = rw same at le in
          let z : m ≡ 0 = none-more l m long low in
          rw z (omega arith)
    ]

-- of an interval of more than a step
pub few-power : (fan bound : ℕ) (i : Interval) (k : ℕ) → is_step i ≡ false → (i.hi - i.lo - 1) * fan ^ k < bound → fan ^ k < bound
few-power fan bound i k long few =
    let wide : 1 < i.hi - i.lo = grind (arith, nat_tests) in
    let one : 1 ≤ i.hi - i.lo - 1 = omega arith in
    let low : fan ^ k * 1 ≤ fan ^ k * (i.hi - i.lo - 1) = mul-le-mul_left (fan ^ k) one in
    omega (arith, few, low)

-- a round that is asked over more than a step is one of few
pub few-asked : (fan bound : ℕ) (i : Interval) (k : ℕ) → 1 < fan → is_step i ≡ false → (i.hi - i.lo - 1) * fan ^ k < bound → fan ^ (k + 1) < fan * bound
few-asked fan bound i k more long few =
    let p : fan ^ (k + 1) ≡ fan * fan ^ k = ap (λ (n : ℕ). fan ^ n) (add-one k) ∙ pow-succ' fan k in
    let next : fan ^ k + 1 ≤ bound = omega (arith, few-power fan bound i k long few) in
    let t : fan * (fan ^ k + 1) ≤ fan * bound = mul-le-mul_left fan next in
    rw p (omega (arith, t))

-- the part that is kept, less a step, is at most one of so many
pub kept-narrow : (fan bound : ℕ) (i : Interval) (xs ys : List Digest32) (k : ℕ) → 1 < fan → is_step i ≡ false → (i.hi - i.lo - 1) * fan ^ k < bound →
    ((kept (parts_of fan i) i xs ys).hi - (kept (parts_of fan i) i xs ys).lo - 1) * fan ^ suc k < bound
unfolding cut
kept-narrow fan bound i xs ys k more long few =
    let wide : 1 < i.hi - i.lo = grind (arith, nat_tests) in
    let t : min fan (i.hi - i.lo) * (((kept_part (min fan (i.hi - i.lo)) xs ys + 1) * (i.hi - i.lo)) / min fan (i.hi - i.lo) - (kept_part (min fan (i.hi - i.lo)) xs ys * (i.hi - i.lo)) / min fan (i.hi - i.lo) - 1) ≤ i.hi - i.lo - 1 =
    tight (min fan (i.hi - i.lo)) (i.hi - i.lo) (kept_part (min fan (i.hi - i.lo)) xs ys) (omega arith) (omega arith) in
    let e : (kept (parts_of fan i) i xs ys).hi - (kept (parts_of fan i) i xs ys).lo - 1 ≡ ((kept_part (min fan (i.hi - i.lo)) xs ys + 1) * (i.hi - i.lo)) / min fan (i.hi - i.lo) - (kept_part (min fan (i.hi - i.lo)) xs ys * (i.hi - i.lo)) / min fan (i.hi - i.lo) - 1 = omega arith in
    let p : fan ^ suc k ≡ fan * fan ^ k = pow-succ' fan k in
    rw (p, e) (shrinks fan (i.hi - i.lo) (min fan (i.hi - i.lo)) _ (fan ^ k) bound wide more refl t few)

pub kept-few : (fan bound : ℕ) (i : Interval) (xs ys : List Digest32) (k : ℕ) → 1 < fan → is_step i ≡ false → IsFew fan bound i k → IsFew fan bound (kept (parts_of fan i) i xs ys) (suc k)
kept-few fan bound i xs ys k more long f =
    let n : fan ^ suc k ≡ fan ^ (k + 1) = ap (λ (m : ℕ). fan ^ m) (sym (add-one k)) in
    record { few = kept-narrow fan bound i xs ys k more long f.few; asked = rw n (few-asked fan bound i k more long f.few) }

few-by : (ruling : Ruling) (bound : ℕ) (d : Bisection) (a b : Settled) (o : Option Close) → 1 < d.fan → close_of ruling d.place a b ≡ o →
    IsFew d.fan bound d.place (length d.past) → IsFew d.fan bound (closed_or d (went_on d a b) o).place (length (closed_or d (went_on d a b) o).past)
few-by ruling bound d a b (Some c) more e f = f
few-by ruling bound d a b None more e f =
    let n : length (d.past ++ record { lo = d.place.lo; hi = d.place.hi; first = a; second = b } ∷ []) ≡ suc (length d.past) = length-append d.past _ ∙ add-one (length d.past) in
    rw n (kept-few d.fan bound d.place (roots_of a) (roots_of b) (length d.past) more (close_of-none ruling d.place a b e) f)

few-advanced : (ruling : Ruling) (bound : ℕ) (d : Bisection) (a b : Option Settled) → 1 < d.fan → IsFew d.fan bound d.place (length d.past) →
    IsFew d.fan bound (advanced ruling d a b).place (length (advanced ruling d a b).past)
unfolding decided
few-advanced ruling bound d (Some a) (Some b) more f = few-by ruling bound d a b (close_of ruling d.place a b) more refl f
few-advanced ruling bound d (Some a) None more f = f
few-advanced ruling bound d None b more f = f

few-first : (ruling : Ruling) (bound : ℕ) (s : Settled) (d : Bisection) → 1 < d.fan → IsFew d.fan bound d.place (length d.past) →
    IsFew d.fan bound (settle_first ruling s d).place (length (settle_first ruling s d).past)
unfolding settle_first
few-first ruling bound s d more f = few-advanced ruling bound (record d { by_first = Some s }) (Some s) d.by_second more f

few-second : (ruling : Ruling) (bound : ℕ) (s : Settled) (d : Bisection) → 1 < d.fan → IsFew d.fan bound d.place (length d.past) →
    IsFew d.fan bound (settle_second ruling s d).place (length (settle_second ruling s d).past)
unfolding settle_second
few-second ruling bound s d more f = few-advanced ruling bound (record d { by_second = Some s }) d.by_first (Some s) more f

rounds-few : (bound : ℕ) (d : Bisection) (b : Bool) → is_step d.place ≡ b → 1 < d.fan → IsFew d.fan bound d.place (length d.past) → d.fan ^ (length d.past + (if b then 0 else 1)) < d.fan * bound
rounds-few bound d true e more f = let z : length d.past + 0 ≡ length d.past = omega arith in rw z f.asked
rounds-few bound d false e more f = few-asked d.fan bound d.place (length d.past) more e f.few

few-side : (ruling : Ruling) (bound : ℕ) (by : Side) (s : Settled) (d : Bisection) → 1 < d.fan → IsFew d.fan bound d.place (length d.past) →
    IsFew d.fan bound (settle_side ruling by s d).place (length (settle_side ruling by s d).past)
few-side ruling bound First s d more f = few-first ruling bound s d more f
few-side ruling bound Second s d more f = few-second ruling bound s d more f

few-rounds : (bound : ℕ) (d : Bisection) → 1 < d.fan → IsFew d.fan bound d.place (length d.past) → d.fan ^ rounds_of d < d.fan * bound
few-rounds bound d more f = rounds-few bound d (is_step d.place) refl more f

-- a round that goes on is no proof round

none-first : (b : Bool) (n : ℕ) → (if b then 1 else 0) + n ≡ 0 → (b ≡ false) × (n ≡ 0)
none-first true n e = absurd (omega (arith, e))
none-first false n e = (refl, omega (arith, e))

last-more : (rs : List Round) (r : Round) → proof_rounds_in rs ≡ 0 → nat_le (r.hi - r.lo) 1 ≡ false → proof_rounds_in (rs ++ r ∷ []) ≡ 0
last-more [] r none long = rw long refl
last-more (x ∷ rs) r none long =
    let two : (nat_le (x.hi - x.lo) 1 ≡ false) × (proof_rounds_in rs ≡ 0) = none-first (nat_le (x.hi - x.lo) 1) (proof_rounds_in rs) none in
    rw (two.0, last-more rs r two.1 long) refl

last-by : (ruling : Ruling) (d : Bisection) (a b : Settled) (o : Option Close) → close_of ruling d.place a b ≡ o → proof_rounds_in d.past ≡ 0 → proof_rounds_in (closed_or d (went_on d a b) o).past ≡ 0
last-by ruling d a b (Some c) e none = none
last-by ruling d a b None e none = last-more d.past (record { lo = d.place.lo; hi = d.place.hi; first = a; second = b }) none (close_of-none ruling d.place a b e)

last-advanced : (ruling : Ruling) (d : Bisection) (a b : Option Settled) → proof_rounds_in d.past ≡ 0 → proof_rounds_in (advanced ruling d a b).past ≡ 0
unfolding decided
last-advanced ruling d (Some a) (Some b) none = last-by ruling d a b (close_of ruling d.place a b) refl none
last-advanced ruling d (Some a) None none = none
last-advanced ruling d None b none = none

last-side : (ruling : Ruling) (by : Side) (s : Settled) (d : Bisection) → proof_rounds_in d.past ≡ 0 → proof_rounds_in (settle_side ruling by s d).past ≡ 0
unfolding settle_first settle_second
last-side ruling First s d none = last-advanced ruling (record d { by_first = Some s }) (Some s) d.by_second none
last-side ruling Second s d none = last-advanced ruling (record d { by_second = Some s }) d.by_first (Some s) none

-- no more rounds than the bound has binary digits

-- halving is the slowest
pub halves-least : (fan k : ℕ) → 1 < fan → 2 ^ k ≤ fan ^ k
halves-least fan k more = let two : 2 ≤ fan = omega arith in pow-le-pow_left two k

too-many : (fan bound m count : ℕ) → 1 < fan → fan ^ suc m < fan * bound → bound < 2 ^ count → count ≤ m → ⊥
too-many fan bound m count more few short le =
    let p : fan ^ suc m ≡ fan * fan ^ m = pow-succ' fan m in
    let wide : bound ≤ fan ^ m = omega (arith, short, pow_mono le, halves-least fan m more) in
    let t : fan * bound ≤ fan * fan ^ m = mul-le-mul_left fan wide in
    omega (arith, p, few, t)

few-digits : (fan bound rounds count : ℕ) → 1 < fan → fan ^ rounds < fan * bound → bound < 2 ^ count → rounds ≤ count
few-digits fan bound zero count more few short = omega arith
few-digits fan bound (suc m) count more few short =
    elim (cases_Bool (nat_le count m)) [
      | inl e ↦ absurd (too-many fan bound m count more few short (grind (arith, nat_tests)))
      | inr e ↦ grind (arith, nat_tests)
    ]

pub rounds_are_few : RoundsAreFew
rounds_are_few = record { kept = few-side; few = few-rounds; digits = few-digits; last = last-side }
