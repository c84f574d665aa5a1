-- A dispute over answers: what is settled before its turn changes nothing of the end, and what a dispute holds plays it again.
use Rattle.std.proofs.Common.{◌≡◌, ◌≢◌, ℕ, zero, suc, ◌+◌, ◌-◌, ◌<◌, ◌≤◌, ◌==◌, ◌&&◌, not, true, false, List, [], ◌∷◌, length, ◌⊎◌, inl, inr, Option, Some, None, is_some, is_none, refl, sym, ◌∙◌, ap, arith}
use Rattle.std.proofs.lemmas.Bool.Decides.{nat_tests}
use Rattle.std.specs.Fn.{iterate}
use Rattle.std.specs.Option.{option_or}
use Rattle.std.proofs.lemmas.Bool.{cases_Bool}
use Rattle.bisect_game.specs.declared.settled.Question.{Question}
use Rattle.bisect_game.specs.declared.settled.Close.{Close}
use Rattle.bisect_game.specs.declared.settled.Settled.{Settled}
use Rattle.bisect_game.specs.declared.settled.Side.{Side}
use Rattle.bisect_game.specs.declared.settled.Side.TheVariants.{First, Second}
use Rattle.bisect_game.specs.Bisection.{Bisection, prover_of, asks, closed_or, went_on, decided, advanced, advance, is_closed, question_of, settle_first, settle_second, settle_side}
use Rattle.bisect_game.specs.Closing.{close_of}
use Rattle.bisect_game.specs.Disputes.{Answers, dispute_of, filled, round_over, played}
use Rattle.bisect_game.specs.Held.{settled_after_rounds, held, settled_one_by_one, EachIsAsked, DisputesArePlayed}
use Rattle.bisect_game.specs.OverAnswers.{HoldsOn, Waits, IsWaiting, PlayedOverAnswers}
use Rattle.bisect_game.specs.Laws.{IsNarrower, HasClosed}
use Rattle.bisect_game.specs.Rules.{Rules}
use Rattle.bisect_game.specs.Ruling.{Ruling}
use Rattle.bisect_game.specs.Truth.{own_open}
use Rattle.bisect_game.proofs.HeldLemmas.{settled_is_held}
use Rattle.bisect_game.proofs.RoundLemmas.{rounds_narrow}

iterate-fixed : {A : Type 0} (h : A → A) (n : ℕ) (x : A) → h x ≡ x → iterate h n x ≡ x
iterate-fixed h zero x e = refl
iterate-fixed h (suc n) x e = ap (iterate h n) e ∙ iterate-fixed h n x e

iterate-out : {A : Type 0} (h : A → A) (n : ℕ) (x : A) → h (iterate h n x) ≡ iterate h n (h x)
iterate-out h zero x = refl
iterate-out h (suc n) x = iterate-out h n (h x)

iterate-same : {A : Type 0} (h : A → A) (n : ℕ) (x y : A) → 0 < n → h x ≡ h y → iterate h n x ≡ iterate h n y
iterate-same h zero x y some e = absurd (omega arith)
iterate-same h (suc n) x y some e = ap (iterate h n) e

round-closed : (ruling : Ruling) (f : Answers) (d : Bisection) → is_closed d ≡ true → round_over ruling f d ≡ d
unfolding round_over
round-closed ruling f d closed = rw closed refl

round-open : (ruling : Ruling) (f : Answers) (d : Bisection) → is_closed d ≡ false → round_over ruling f d ≡ advance ruling (filled f d)
unfolding round_over
round-open ruling f d still = rw still refl

-- how a dispute moves: it closes where it stands, or it narrows
abbrev Moved : Bisection → Bisection → Type 0
Moved d e = HasClosed d e ⊎ IsNarrower d.place e.place

abbrev Steps : Ruling → Answers → Bisection → Bisection → Type 0
Steps ruling f d e = (round_over ruling f e ≡ round_over ruling f d) ⊎ (e ≡ round_over ruling f d)

-- a dispute keeps its fan

fan-by : (d : Bisection) (a b : Settled) (o : Option Close) → (closed_or d (went_on d a b) o).fan ≡ d.fan
fan-by d a b (Some c) = refl
fan-by d a b None = refl

fan-advanced : (ruling : Ruling) (d : Bisection) (a b : Option Settled) → (advanced ruling d a b).fan ≡ d.fan
unfolding decided
fan-advanced ruling d (Some a) (Some b) = fan-by d a b (close_of ruling d.place a b)
fan-advanced ruling d (Some a) None = refl
fan-advanced ruling d None b = refl

fan-round : (ruling : Ruling) (f : Answers) (d : Bisection) → (round_over ruling f d).fan ≡ d.fan
fan-round ruling f d =
    elim (cases_Bool (is_closed d)) [
      | inl closed ↦ ap (λ (e : Bisection). e.fan) (round-closed ruling f d closed)
      | inr open_ ↦ ap (λ (e : Bisection). e.fan) (round-open ruling f d open_) ∙ fan-advanced ruling (filled f d) (filled f d).by_first (filled f d).by_second
    ]

pub fan-side : (ruling : Ruling) (by : Side) (s : Settled) (d : Bisection) → (settle_side ruling by s d).fan ≡ d.fan
unfolding settle_first settle_second
fan-side ruling First s d = fan-advanced ruling (record d { by_first = Some s }) (Some s) d.by_second
fan-side ruling Second s d = fan-advanced ruling (record d { by_second = Some s }) d.by_first (Some s)

-- rounds over answers

advanced-moves : (ruling : Ruling) (d : Bisection) (a b : Option Settled) → 1 < d.fan → Moved d (advanced ruling d a b) ⊎ (advanced ruling d a b ≡ d)
advanced-moves ruling d (Some a) (Some b) more = inl (rounds_narrow ruling d a b more)
advanced-moves ruling d (Some a) None more = inr refl
advanced-moves ruling d None b more = inr refl

option_or-twice : (a b : Option Settled) → option_or (option_or a b) b ≡ option_or a b
option_or-twice (Some s) b = refl
option_or-twice None (Some s) = refl
option_or-twice None None = refl

filled-twice : (f : Answers) (d : Bisection) → filled f (filled f d) ≡ filled f d
filled-twice f d =
    rw (option_or-twice d.by_first (f d.first (question_of d)), option_or-twice d.by_second (f d.second (question_of d))) refl

-- after a round over the answers nothing more is to be done, or the interval is narrower
round-moves : (ruling : Ruling) (f : Answers) (d : Bisection) → 1 < d.fan →
    (round_over ruling f (round_over ruling f d) ≡ round_over ruling f d) ⊎ IsNarrower d.place (round_over ruling f d).place
round-moves ruling f d more =
    elim (cases_Bool (is_closed d)) [
      | inl closed ↦ inl (ap (round_over ruling f) (round-closed ruling f d closed))
      | inr still ↦
          let e : Bisection = filled f d in
          let o : round_over ruling f d ≡ advance ruling (filled f d) = round-open ruling f d still in
          elim (advanced-moves ruling (filled f d) (filled f d).by_first (filled f d).by_second more) [
            | inl m ↦ elim m [
              | inl c ↦ rw o (inl (round-closed ruling f (advance ruling (filled f d)) c.closed))
              | inr n ↦ rw o (inr n)
            ]
            | inr same ↦
                let oo : round_over ruling f d ≡ filled f d = o ∙ same in
                rw oo (inl (round-open ruling f (filled f d) still ∙ (ap (advance ruling) (filled-twice f d) ∙ same)))
          ]
    ]

-- as many rounds as there are steps are enough
enough : (ruling : Ruling) (f : Answers) (n : ℕ) (d : Bisection) → 1 < d.fan → d.place.lo < d.place.hi → d.place.hi - d.place.lo ≤ n →
    round_over ruling f (iterate (round_over ruling f) n d) ≡ iterate (round_over ruling f) n d
enough ruling f zero d more some few = absurd (omega arith)
enough ruling f (suc n) d more some few =
    elim (round-moves ruling f d more) [
      | inl fixed ↦ rw (iterate-fixed (round_over ruling f) n (round_over ruling f d) fixed) fixed
      | inr narrow ↦ enough ruling f n (round_over ruling f d) (omega (arith, fan-round ruling f d, more)) narrow.some (omega (arith, narrow.less))
    ]

-- a dispute of which the second side's answer is this one, and the first side's is settled now
first-by : (ruling : Ruling) (f : Answers) (d : Bisection) (s : Settled) (o : Option Settled) → is_closed d ≡ false → d.by_second ≡ o →
    d.by_first ≡ None → f d.first (question_of d) ≡ Some s → Steps ruling f d (advanced ruling (record d { by_first = Some s }) (Some s) o)
first-by ruling f d s None still second none is =
    let same : filled f (record d { by_first = Some s }) ≡ filled f d = rw (none, is) refl in
    inl (round-open ruling f (record d { by_first = Some s }) still ∙ (ap (advance ruling) same ∙ sym (round-open ruling f d still)))
first-by ruling f d s (Some t) still second none is =
    let e : Bisection = record d { by_first = Some s } in
    let same : filled f d ≡ e = rw (none, is, second) refl in
    inr (sym (round-open ruling f d still ∙ (ap (advance ruling) same ∙ ap (λ (o : Option Settled). advanced ruling e (Some s) o) second)))

second-by : (ruling : Ruling) (f : Answers) (d : Bisection) (s : Settled) (o : Option Settled) → is_closed d ≡ false → d.by_first ≡ o →
    d.by_second ≡ None → f d.second (question_of d) ≡ Some s → Steps ruling f d (advanced ruling (record d { by_second = Some s }) o (Some s))
second-by ruling f d s None still first none is =
    let same : filled f (record d { by_second = Some s }) ≡ filled f d = rw (none, is) refl in
    inl (round-open ruling f (record d { by_second = Some s }) still ∙ (ap (advance ruling) same ∙ sym (round-open ruling f d still)))
second-by ruling f d s (Some t) still first none is =
    let e : Bisection = record d { by_second = Some s } in
    let same : filled f d ≡ e = rw (none, is, first) refl in
    inr (sym (round-open ruling f d still ∙ (ap (advance ruling) same ∙ ap (λ (o : Option Settled). advanced ruling e o (Some s)) first)))

-- the first side settles its answer
steps-first : (ruling : Ruling) (f : Answers) (d : Bisection) (s : Settled) → is_closed d ≡ false → d.by_first ≡ None → f d.first (question_of d) ≡ Some s →
    Steps ruling f d (settle_first ruling s d)
unfolding settle_first
steps-first ruling f d s still none is = first-by ruling f d s d.by_second still refl none is

-- the second side settles its answer
steps-second : (ruling : Ruling) (f : Answers) (d : Bisection) (s : Settled) → is_closed d ≡ false → d.by_second ≡ None → f d.second (question_of d) ≡ Some s →
    Steps ruling f d (settle_second ruling s d)
unfolding settle_second
steps-second ruling f d s still none is = second-by ruling f d s d.by_first still refl none is

-- a dispute of which an answer was settled is played out to the same end
played-steps : (rules : Rules) (f : Answers) (d e : Bisection) → 1 < d.fan → 0 < rules.setup.bound → d.place.lo < d.place.hi → d.place.hi ≤ rules.setup.bound → Steps rules.ruling f d e →
    played rules f e ≡ played rules f d
unfolding played
played-steps rules f d e more long some high (inl same) = iterate-same (round_over rules.ruling f) rules.setup.bound e d long same
played-steps rules f d e more long some high (inr further) =
    ap (iterate (round_over rules.ruling f) rules.setup.bound) further
    ∙ (sym (iterate-out (round_over rules.ruling f) rules.setup.bound d) ∙ enough rules.ruling f rules.setup.bound d more some (omega (arith, high)))

played-closed : (rules : Rules) (f : Answers) (d : Bisection) → is_closed d ≡ true → played rules f d ≡ d
unfolding played
played-closed rules f d closed = iterate-fixed (round_over rules.ruling f) rules.setup.bound d (round-closed rules.ruling f d closed)

-- an open dispute waits for a side

waits-closed : (a b : Option Settled) (c : Close) → Waits a b (Some c)
waits-closed (Some a) (Some b) c = tt
waits-closed (Some a) None c = tt
waits-closed None b c = tt

waits-decided : (ruling : Ruling) (d : Bisection) (a b : Settled) (o : Option Close) → Waits (closed_or d (went_on d a b) o).by_first (closed_or d (went_on d a b) o).by_second (closed_or d (went_on d a b) o).close
waits-decided ruling d a b (Some c) = waits-closed d.by_first d.by_second c
waits-decided ruling d a b None = tt

waits-advanced : (ruling : Ruling) (d : Bisection) (x y : Option Settled) → d.by_first ≡ x → d.by_second ≡ y → Waits (advanced ruling d x y).by_first (advanced ruling d x y).by_second (advanced ruling d x y).close
unfolding decided
waits-advanced ruling d (Some a) (Some b) ex ey = waits-decided ruling d a b (close_of ruling d.place a b)
waits-advanced ruling d (Some a) None ex ey = rw (ex, ey) tt
waits-advanced ruling d None y ex ey = rw (ex) tt

waits-first : (ruling : Ruling) (s : Settled) (d : Bisection) → Waits (settle_first ruling s d).by_first (settle_first ruling s d).by_second (settle_first ruling s d).close
unfolding settle_first
waits-first ruling s d = waits-advanced ruling (record d { by_first = Some s }) (Some s) d.by_second refl refl

waits-second : (ruling : Ruling) (s : Settled) (d : Bisection) → Waits (settle_second ruling s d).by_first (settle_second ruling s d).by_second (settle_second ruling s d).close
unfolding settle_second
waits-second ruling s d = waits-advanced ruling (record d { by_second = Some s }) d.by_first (Some s) refl refl

waits-side : (ruling : Ruling) (by : Side) (s : Settled) (d : Bisection) → IsWaiting (settle_side ruling by s d)
waits-side ruling First s d = waits-first ruling s d
waits-side ruling Second s d = waits-second ruling s d

-- over the answers that it has a dispute stays

or-same : (o : Option Settled) → option_or o o ≡ o
or-same (Some s) = refl
or-same None = refl

filled-same : (f : Answers) (d : Bisection) → f d.first (question_of d) ≡ d.by_first → f d.second (question_of d) ≡ d.by_second → filled f d ≡ d
filled-same f d ea eb =
    ap (λ (o : Option Settled). record d { by_first = option_or d.by_first o; by_second = option_or d.by_second (f d.second (question_of d)) }) ea
    ∙ (ap (λ (o : Option Settled). record d { by_first = option_or d.by_first d.by_first; by_second = option_or d.by_second o }) eb
    ∙ (ap (λ (o : Option Settled). record d { by_first = o; by_second = option_or d.by_second d.by_second }) (or-same d.by_first)
    ∙ ap (λ (o : Option Settled). record d { by_first = d.by_first; by_second = o }) (or-same d.by_second)))

still-by : (ruling : Ruling) (d : Bisection) (x y : Option Settled) → Waits x y None → advanced ruling d x y ≡ d
still-by ruling d (Some a) (Some b) m = absurd m
still-by ruling d (Some a) None m = refl
still-by ruling d None y m = refl

none-closed : (c : Option Close) → is_some c ≡ false → c ≡ None
none-closed None e = refl
none-closed (Some c) e = absurd (cc)

round-same : (ruling : Ruling) (f : Answers) (d : Bisection) → Waits d.by_first d.by_second d.close → f d.first (question_of d) ≡ d.by_first → f d.second (question_of d) ≡ d.by_second → round_over ruling f d ≡ d
round-same ruling f d m ea eb =
    elim (cases_Bool (is_closed d)) [
      | inl closed ↦ round-closed ruling f d closed
      | inr open_ ↦ round-open ruling f d open_ ∙ (ap (advance ruling) (filled-same f d ea eb) ∙ still-by ruling d d.by_first d.by_second (rw (none-closed d.close open_) at m))
    ]

played-own : (rules : Rules) (f : Answers) (d : Bisection) → IsWaiting d → f d.first (question_of d) ≡ d.by_first → f d.second (question_of d) ≡ d.by_second → played rules f d ≡ d
unfolding played
played-own rules f d m ea eb = iterate-fixed (round_over rules.ruling f) rules.setup.bound d (round-same rules.ruling f d m ea eb)

-- an answer that is settled before its turn

asked-open : (o : Option Settled) (c : Option Close) → (is_none o && not (is_some c)) ≡ true → (o ≡ None) × (is_some c ≡ false)
asked-open None None e = (refl, refl)
asked-open None (Some c) e = absurd (cc)
asked-open (Some s) c e = absurd (cc)

played-settled : (rules : Rules) (f : Answers) (by : Side) (s : Settled) (d : Bisection) → 1 < d.fan → 0 < rules.setup.bound → d.place.lo < d.place.hi → d.place.hi ≤ rules.setup.bound →
    asks by d ≡ true → f (prover_of by d) (question_of d) ≡ Some s → played rules f (settle_side rules.ruling by s d) ≡ played rules f d
played-settled rules f First s d more long some high asked is =
    let a : (d.by_first ≡ None) × (is_closed d ≡ false) = asked-open d.by_first d.close asked in
    played-steps rules f d (settle_first rules.ruling s d) more long some high (steps-first rules.ruling f d s a.1 a.0 is)
played-settled rules f Second s d more long some high asked is =
    let a : (d.by_second ≡ None) × (is_closed d ≡ false) = asked-open d.by_second d.close asked in
    played-steps rules f d (settle_second rules.ruling s d) more long some high (steps-second rules.ruling f d s a.1 a.0 is)

pub played_over_answers : PlayedOverAnswers
played_over_answers = record { waits = waits-side; closed = played-closed; own = played-own; enough = enough; settled = played-settled }

-- a dispute after any settles is the one that is played over the answers that it holds

-- a dispute of two provers over an interval of a match
record IsGoing (rules : Rules) (d : Bisection) : Type 0 where
  more : 1 < d.fan
  some : d.place.lo < d.place.hi
  high : d.place.hi ≤ rules.setup.bound
  apart : d.first ≢ d.second
  waits : IsWaiting d

place-moved : (bound : ℕ) (d e : Bisection) → Moved d e → d.place.lo < d.place.hi → d.place.hi ≤ bound → (e.place.lo < e.place.hi) × (e.place.hi ≤ bound)
place-moved bound d e (inl c) some high = rw c.stays (some, high)
place-moved bound d e (inr n) some high = (n.some, omega (arith, n.high, high))

place-advanced : (bound : ℕ) (ruling : Ruling) (d : Bisection) (a b : Option Settled) → 1 < d.fan → d.place.lo < d.place.hi → d.place.hi ≤ bound →
    ((advanced ruling d a b).place.lo < (advanced ruling d a b).place.hi) × ((advanced ruling d a b).place.hi ≤ bound)
place-advanced bound ruling d (Some a) (Some b) more some high = place-moved bound d (decided ruling d a b) (rounds_narrow ruling d a b more) some high
place-advanced bound ruling d (Some a) None more some high = (some, high)
place-advanced bound ruling d None b more some high = (some, high)

place-side : (bound : ℕ) (ruling : Ruling) (by : Side) (s : Settled) (d : Bisection) → 1 < d.fan → d.place.lo < d.place.hi → d.place.hi ≤ bound →
    ((settle_side ruling by s d).place.lo < (settle_side ruling by s d).place.hi) × ((settle_side ruling by s d).place.hi ≤ bound)
unfolding settle_first settle_second
place-side bound ruling First s d more some high = place-advanced bound ruling (record d { by_first = Some s }) (Some s) d.by_second more some high
place-side bound ruling Second s d more some high = place-advanced bound ruling (record d { by_second = Some s }) d.by_first (Some s) more some high

open-asked : (by : Side) (d : Bisection) → asks by d ≡ true → own_open by d ≡ None
open-asked First d asked = (asked-open d.by_first d.close asked).0
open-asked Second d asked = (asked-open d.by_second d.close asked).0

going-side : (rules : Rules) (by : Side) (s : Settled) (d : Bisection) → asks by d ≡ true → IsGoing rules d → IsGoing rules (settle_side rules.ruling by s d)
going-side rules by s d asked g =
    let h : HoldsOn d (settle_side rules.ruling by s d) = settled_is_held.stays rules.ruling by s d (open-asked by d asked) in
    let p : _ × _ = place-side rules.setup.bound rules.ruling by s d g.more g.some g.high in
    record {
      more = omega (arith, fan-side rules.ruling by s d, g.more);
      some = p.0;
      high = p.1;
      apart = λ same. g.apart (sym h.first ∙ (same ∙ h.second));
      waits = waits-side rules.ruling by s d;
    }

going-all : (rules : Rules) (xs : List (Side × Settled)) (d : Bisection) → EachIsAsked rules.ruling xs d → IsGoing rules d → IsGoing rules (settled_one_by_one rules.ruling xs d)
going-all rules [] d asked g = g
going-all rules (x ∷ xs) d asked g = going-all rules xs (settle_side rules.ruling x.0 x.1 d) asked.1 (going-side rules x.0 x.1 d asked.0 g)

holds-all : (ruling : Ruling) (xs : List (Side × Settled)) (d : Bisection) → EachIsAsked ruling xs d → HoldsOn d (settled_one_by_one ruling xs d)
holds-all ruling [] d asked = settled_is_held.same d
holds-all ruling (x ∷ xs) d asked =
    settled_is_held.further d (settle_side ruling x.0 x.1 d) _ (settled_is_held.stays ruling x.0 x.1 d (open-asked x.0 d asked.0)) (holds-all ruling xs (settle_side ruling x.0 x.1 d) asked.1)

eqb-same : (n : ℕ) → (n == n) ≡ true
eqb-same n = grind (arith, nat_tests)

not-eqb : (m n : ℕ) → m ≢ n → (m == n) ≡ false
not-eqb m n ne = elim (cases_Bool (m == n)) [ inl e ↦ absurd (ne (grind (arith, nat_tests))) | inr e ↦ e ]

-- the round of an open question is at least 1
not-first-0 : (n : ℕ) → (n + 1 == 0) ≡ false
not-first-0 n = grind (arith, nat_tests)

-- what a dispute holds of a side in a round
held-at : (by : Side) (d e : Bisection) (s : Settled) → d.first ≢ d.second → HoldsOn d e → settled_after_rounds by e.past (own_open by e) (length d.past) ≡ Some s → held e (prover_of by d) (question_of d) ≡ Some s
held-at First d e s apart h is =
    let n : length d.past + 1 - 1 ≡ length d.past = omega arith in
    rw (h.number, eqb-same d.number, not-first-0 (length d.past), h.first, eqb-same d.first, n) is
held-at Second d e s apart h is =
    let n : length d.past + 1 - 1 ≡ length d.past = omega arith in
    let far : (d.first == d.second) ≡ false = not-eqb d.first d.second apart in
    rw (h.number, eqb-same d.number, not-first-0 (length d.past), h.first, far, h.second, eqb-same d.second, n) is

played-on : (rules : Rules) (f : Answers) (xs : List (Side × Settled)) (d : Bisection) → 0 < rules.setup.bound → IsGoing rules d → EachIsAsked rules.ruling xs d →
    ((p : ℕ) (q : Question) (s : Settled) → held (settled_one_by_one rules.ruling xs d) p q ≡ Some s → f p q ≡ Some s) →
    played rules f (settled_one_by_one rules.ruling xs d) ≡ played rules f d
played-on rules f [] d long g asked below = refl
played-on rules f (x ∷ xs) d long g asked below =
    let e : Bisection = settle_side rules.ruling x.0 x.1 d in
    let z : HoldsOn (settle_side rules.ruling x.0 x.1 d) (settled_one_by_one rules.ruling xs (settle_side rules.ruling x.0 x.1 d)) = holds-all rules.ruling xs (settle_side rules.ruling x.0 x.1 d) asked.1 in
    let h : HoldsOn d (settled_one_by_one rules.ruling xs (settle_side rules.ruling x.0 x.1 d)) = holds-all rules.ruling (x ∷ xs) d asked in
    let is : f (prover_of x.0 d) (question_of d) ≡ Some x.1 =
    below (prover_of x.0 d) (question_of d) x.1 (held-at x.0 d _ x.1 g.apart h (z.keeps x.0 (length d.past) x.1 (settled_is_held.holds rules.ruling x.0 x.1 d))) in
    played-on rules f xs (settle_side rules.ruling x.0 x.1 d) long (going-side rules x.0 x.1 d asked.0 g) asked.1 below
    ∙ played-settled rules f x.0 x.1 d g.more long g.some g.high asked.0 is

own-held : (d : Bisection) → d.first ≢ d.second → (held d d.first (question_of d) ≡ d.by_first) × (held d d.second (question_of d) ≡ d.by_second)
own-held d apart =
    let n : length d.past + 1 - 1 ≡ length d.past = omega arith in
    let far : (d.first == d.second) ≡ false = not-eqb d.first d.second apart in (
      rw (eqb-same d.number, not-first-0 (length d.past), eqb-same d.first, n) (settled_is_held.last First d.past d.by_first),
      rw (eqb-same d.number, not-first-0 (length d.past), far, eqb-same d.second, n) (settled_is_held.last Second d.past d.by_second),
    )

pub disputes_are_played : DisputesArePlayed
disputes_are_played rules stage number x y xs playable apart asked =
    let begun : Bisection = dispute_of rules.setup stage number x y in
    let going : IsGoing rules (dispute_of rules.setup stage number x y) = record { more = playable.parted; some = playable.steps; high = omega arith; apart = apart; waits = tt } in
    let e : IsGoing rules (settled_one_by_one rules.ruling xs (dispute_of rules.setup stage number x y)) = going-all rules xs (dispute_of rules.setup stage number x y) asked going in
    let own : _ × _ = own-held (settled_one_by_one rules.ruling xs (dispute_of rules.setup stage number x y)) e.apart in
    sym (played-own rules (held (settled_one_by_one rules.ruling xs (dispute_of rules.setup stage number x y))) (settled_one_by_one rules.ruling xs (dispute_of rules.setup stage number x y)) e.waits own.0 own.1)
    ∙ played-on rules (held (settled_one_by_one rules.ruling xs (dispute_of rules.setup stage number x y))) xs (dispute_of rules.setup stage number x y) playable.steps going asked (λ p q s is. is)
