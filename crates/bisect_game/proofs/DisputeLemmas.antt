-- What a dispute keeps in memory: its interval and the room for its rounds; and its calls, moved one answer at a time.
use Rattle.std.proofs.Common.{◌≡◌, ℕ, zero, suc, ◌+◌, ◌-◌, ◌*◌, ◌^◌, ◌<◌, ◌≤◌, min, nat_le, false, List, [], ◌∷◌, length, drop, inl, inr, Option, Some, None, refl, sym, ◌∙◌, ap, arith, add-one}
use Rattle.std.proofs.lemmas.Bool.Decides.{nat_tests}
use Rattle.std.proofs.Math.Pow.{pow_mono}
use Rattle.std.proofs.lemmas.Bool.{cases_Bool}
use Rattle.rd_base.specs.declared.digest.Digest32.{Digest32}
use Rattle.bisect_game.specs.declared.settled.Interval.{Interval}
use Rattle.bisect_game.specs.declared.settled.Settled.{Settled}
use Rattle.bisect_game.specs.declared.settled.Close.{Close}
use Rattle.bisect_game.specs.declared.settled.Side.{Side}
use Rattle.bisect_game.specs.declared.settled.Side.TheVariants.{First, Second}
use Rattle.bisect_game.specs.Ruling.{Ruling}
use Rattle.bisect_game.specs.Closing.{is_step, close_of}
use Rattle.bisect_game.specs.Bisection.{Bisection, kept, closed_with, went_on, closed_or, decided, advanced, agreeing, settle_side, settle_first, settle_second}
use Rattle.bisect_game.specs.Laws.{IsNarrower, OrderOfSidesIsFree}
use Rattle.bisect_game.specs.Narrowing.{IsNarrowing}
use Rattle.bisect_game.proofs.FewLemmas.{kept-narrow, few-power, halves-least}
use Rattle.bisect_game.proofs.RoundLemmas.{kept-narrows}

agreeing-none : (xs : List Digest32) → agreeing xs [] ≡ 0
agreeing-none [] = refl
agreeing-none (x ∷ xs) = refl

pub agreeing-end : (xs ys : List Digest32) (j : ℕ) → length ys ≤ j → agreeing xs (drop j ys) ≡ 0
agreeing-end xs [] zero le = agreeing-none xs
agreeing-end xs [] (suc j) le = agreeing-none xs
agreeing-end xs (y ∷ ys) zero le = absurd (omega arith)
agreeing-end xs (y ∷ ys) (suc j) le = agreeing-end xs ys j (omega arith)

fewer : (k : ℕ) → 2 ^ k < 2 ^ 32 → k < 32
fewer k lt =
    elim (cases_Bool (nat_le 32 k)) [
      | inl e ↦ let le : 32 ≤ k = grind (arith, nat_tests) in absurd (omega (arith, pow_mono le))
      | inr e ↦ grind (arith, nat_tests)
    ]

-- a dispute that goes on has room for a round more, whatever its fan
pub few-rounds : (fan : ℕ) (i : Interval) (k room : ℕ) → is_step i ≡ false → IsNarrowing fan i k room → k < 32
few-rounds fan i k room long h =
    let lt : fan ^ k < 2 ^ 32 = few-power fan (2 ^ 32) i k long h.narrow in
    fewer k (omega (arith, lt, halves-least fan k h.parted))

narrowing-kept : (fan : ℕ) (i : Interval) (xs ys : List Digest32) (k room : ℕ) → is_step i ≡ false → IsNarrowing fan i k room → IsNarrowing fan (kept (min fan (i.hi - i.lo)) i xs ys) (k + 1) room
narrowing-kept fan i xs ys k room long h =
    let n : IsNarrower i (kept (min fan (i.hi - i.lo)) i xs ys) = kept-narrows fan i xs ys h.parted long in
    let f : (((kept (min fan (i.hi - i.lo)) i xs ys).hi - (kept (min fan (i.hi - i.lo)) i xs ys).lo - 1) * fan ^ suc k) < 2 ^ 32 = kept-narrow fan (2 ^ 32) i xs ys k h.parted long h.narrow in
    let e : k + 1 ≡ suc k = add-one k in
    record {
      parted = h.parted;
      few_parts = h.few_parts;
      some = n.some;
      short = omega (arith, n.high, h.short);
      narrow = rw e f;
      roomy = h.roomy;
      counted = omega (arith, few-rounds fan i k room long h);
    }

pub narrowing-seen : (fan : ℕ) (i j : Interval) (parts : ℕ) (xs ys : List Digest32) (k room n cap : ℕ) → j ≡ kept parts i xs ys → parts ≡ min fan (i.hi - i.lo) → n ≡ k + 1 → cap ≡ room → is_step i ≡ false →
    IsNarrowing fan i k room → IsNarrowing fan j n cap
narrowing-seen fan i j parts xs ys k room n cap ej ep en ec long h = rw (ej, ep, en, ec) (narrowing-kept fan i xs ys k room long h)

-- a round of which both sides are settled
pub decided-closed : (ruling : Ruling) (d : Bisection) (a b : Settled) (c : Close) → Some c ≡ close_of ruling d.place a b → closed_with d c ≡ decided ruling d a b
unfolding decided
decided-closed ruling d a b c e = ap (closed_or d (went_on d a b)) e

pub decided-went : (ruling : Ruling) (d : Bisection) (a b : Settled) → None ≡ close_of ruling d.place a b → went_on d a b ≡ decided ruling d a b
unfolding decided
decided-went ruling d a b e = ap (closed_or d (went_on d a b)) e

-- the same of what contracts see of a dispute
pub seen-closed : (r : Ruling) (v w : Bisection) (a b : Settled) (c : Close) → v ≡ w → Some c ≡ close_of r v.place a b →
    record v { by_first = Some a; by_second = Some b; close = Some c } ≡ decided r (record w { by_first = Some a; by_second = Some b }) a b
seen-closed r v w a b c same e =
    decided-closed r (record v { by_first = Some a; by_second = Some b }) a b c e
    ∙ ap (λ (u : Bisection). decided r (record u { by_first = Some a; by_second = Some b }) a b) same

pub seen-went : (r : Ruling) (v w z : Bisection) (a b : Settled) → v ≡ w → None ≡ close_of r v.place a b → z ≡ went_on w a b →
    z ≡ decided r (record w { by_first = Some a; by_second = Some b }) a b
seen-went r v w z a b same e went =
    let here : None ≡ close_of r w.place a b = rw same at e in
    went ∙ decided-went r (record w { by_first = Some a; by_second = Some b }) a b here

-- a side that settles first waits for the other

first-waits : (ruling : Ruling) (s : Settled) (d : Bisection) → d.by_second ≡ None → record d { by_first = Some s } ≡ settle_first ruling s d
unfolding settle_first
first-waits ruling s d e = ap (advanced ruling (record d { by_first = Some s }) (Some s)) (sym e)

second-waits : (ruling : Ruling) (s : Settled) (d : Bisection) → d.by_first ≡ None → record d { by_second = Some s } ≡ settle_second ruling s d
unfolding settle_second
second-waits ruling s d e = ap (λ (o : Option Settled). advanced ruling (record d { by_second = Some s }) o (Some s)) (sym e)

pub seen-first : (ruling : Ruling) (side : Side) (s : Settled) (v w u : Bisection) (o : Option Settled) → side ≡ First → v ≡ w → v.by_second ≡ None → o ≡ None → u ≡ record v { by_first = Some s; by_second = o } →
    u ≡ settle_side ruling side s w
seen-first ruling side s v w u o es same none eo e =
    let back : record v { by_first = Some s; by_second = o } ≡ record v { by_first = Some s } = ap (λ (x : Option Settled). record v { by_first = Some s; by_second = x }) (eo ∙ sym none) in
    rw es (e ∙ (back ∙ (first-waits ruling s v none ∙ ap (settle_first ruling s) same)))

pub seen-second : (ruling : Ruling) (side : Side) (s : Settled) (v w u : Bisection) (o : Option Settled) → side ≡ Second → v ≡ w → v.by_first ≡ None → o ≡ None → u ≡ record v { by_first = o; by_second = Some s } →
    u ≡ settle_side ruling side s w
seen-second ruling side s v w u o es same none eo e =
    let back : record v { by_first = o; by_second = Some s } ≡ record v { by_second = Some s } = ap (λ (x : Option Settled). record v { by_first = x; by_second = Some s }) (eo ∙ sym none) in
    rw es (e ∙ (back ∙ (second-waits ruling s v none ∙ ap (settle_second ruling s) same)))

-- the side that settles last has the round decided

first-decides : (ruling : Ruling) (a b : Settled) (d : Bisection) → d.by_second ≡ Some b → decided ruling (record d { by_first = Some a; by_second = Some b }) a b ≡ settle_first ruling a d
unfolding settle_first
first-decides ruling a b d e = ap (λ (o : Option Settled). advanced ruling (record d { by_first = Some a; by_second = o }) (Some a) o) (sym e)

second-decides : (ruling : Ruling) (a b : Settled) (d : Bisection) → d.by_first ≡ Some a → decided ruling (record d { by_first = Some a; by_second = Some b }) a b ≡ settle_second ruling b d
unfolding settle_second
second-decides ruling a b d e = ap (λ (o : Option Settled). advanced ruling (record d { by_first = o; by_second = Some b }) o (Some b)) (sym e)

pub seen-first-last : (ruling : Ruling) (side : Side) (a b : Settled) (v w u : Bisection) → side ≡ First → v ≡ w → v.by_second ≡ Some b → u ≡ decided ruling (record v { by_first = Some a; by_second = Some b }) a b →
    u ≡ settle_side ruling side a w
seen-first-last ruling side a b v w u es same other e = rw es (e ∙ (first-decides ruling a b v other ∙ ap (settle_first ruling a) same))

pub seen-second-last : (ruling : Ruling) (side : Side) (a b : Settled) (v w u : Bisection) → side ≡ Second → v ≡ w → v.by_first ≡ Some a → u ≡ decided ruling (record v { by_first = Some a; by_second = Some b }) a b →
    u ≡ settle_side ruling side b w
seen-second-last ruling side a b v w u es same other e = rw es (e ∙ (second-decides ruling a b v other ∙ ap (settle_second ruling b) same))

-- whoever settles first, the round is decided over both answers
pub order_of_sides_is_free : OrderOfSidesIsFree
unfolding settle_first settle_second
order_of_sides_is_free ruling d a b none_first none_second = rw (none_first, none_second) refl
