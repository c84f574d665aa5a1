-- A dispute between two runs ends where they part.
use Rattle.std.proofs.Common.{◌≡◌, ◌≢◌, ℕ, ◌+◌, ◌-◌, ◌<◌, ◌≤◌, nat_lt, Bool, true, false, not, ◌&&◌, ◌||◌, if◌then◌else◌, List, [], ◌∷◌, ◌⊎◌, inl, inr, Option, Some, None, is_some, refl, sym, ◌∙◌, ap, arith}
use Rattle.std.proofs.lemmas.Bool.Decides.{nat_tests}
use Rattle.std.proofs.lemmas.Bool.{cases_Bool}
use Rattle.rd_base.specs.declared.digest.Digest32.{Digest32}
use Rattle.rd_base.specs.declared.proof.Proof.{Proof}
use Rattle.rd_base.specs.declared.answer.Answer.{Answer}
use Rattle.rd_base.specs.declared.answer.Answer.TheVariants as answer
use Rattle.bisect_game.specs.declared.settled.Kind.{Kind}
use Rattle.bisect_game.specs.declared.settled.Kind.TheVariants as kind
use Rattle.bisect_game.specs.declared.settled.Interval.{Interval}
use Rattle.bisect_game.specs.declared.settled.Settled.{Settled}
use Rattle.bisect_game.specs.declared.settled.Settled.TheVariants.{Given, Faulty, Spent}
use Rattle.bisect_game.specs.declared.settled.Close.{Close}
use Rattle.bisect_game.specs.declared.settled.Close.TheVariants.{Out, Collision}
use Rattle.bisect_game.specs.declared.settled.Side.{Side}
use Rattle.bisect_game.specs.declared.settled.Side.TheVariants.{First, Second}
use Rattle.bisect_game.specs.Bisection.{Bisection, kept, kind_over, parts_of, roots_of, closed_or, went_on, decided, advanced, asks, is_closed, settle_first, settle_second, settle_side}
use Rattle.bisect_game.specs.Closing.{is_step, is_out, both_proved, closed_by, close_of}
use Rattle.bisect_game.specs.Disputes.{dispute_of}
use Rattle.bisect_game.specs.Held.{settled_one_by_one, EachIsAsked}
use Rattle.bisect_game.specs.Laws.{IsNarrower}
use Rattle.bisect_game.specs.Parting.{proves, closed_by_proofs, EndsWhereTheyPart, RunsPartWhereTheyEnd, LeavesAt, IsRefutedAt, HasCollided, LieIsRefutedAtItsStep, StandsFrom, IsRefutedFrom, EarlyEndIsRefuted}
use Rattle.bisect_game.specs.Rules.{Rules}
use Rattle.bisect_game.specs.Ruling.{Ruling, IsFair, same_digest}
use Rattle.bisect_game.specs.Truth.{Truth, IsRun, IsTruthful, IsFit, IsTrueSettled, AllTrue}
use Rattle.bisect_game.proofs.RightLemmas.{NoneOut, none-out, true-last, asks-first, none-closed}
use Rattle.bisect_game.proofs.RoundLemmas.{close_of-none, kept-narrows}
use Rattle.bisect_game.proofs.TruthLemmas.{same-is, same-digests, HasRoots, kept-first, kept-second, kept-apart, true_answers_fit}

-- the roots of both sides are those of their runs, and differ
record IsApart (one other : Truth) (i : Interval) : Type 0 where
  first : HasRoots one First i
  second : HasRoots other Second i
  differ : i.first ≢ i.second

record ClosedBy (ruling : Ruling) (d : Bisection) : Type 0 where
  a : Settled
  b : Settled
  by_first : d.by_first ≡ Some a
  by_second : d.by_second ≡ Some b
  is : close_of ruling d.place a b ≡ d.close

-- a dispute in play whose sides have the roots of their runs so long as their answers are those of these
record IsLed (rules : Rules) (one other : Truth) (d : Bisection) : Type 0 where
  more : 1 < d.fan
  some : d.place.lo < d.place.hi
  high : d.place.hi ≤ rules.setup.bound
  keeps : IsTruthful one First d → IsTruthful other Second d → IsApart one other d.place
  closing : is_closed d ≡ true → ClosedBy rules.ruling d

true-fits : (ruling : Ruling) (t : Truth) (k : Kind) (s : Settled) → ruling.is_sound t.claim ≡ true → IsTrueSettled t k s → IsFit ruling k s
true-fits ruling t k (Given a) sound is = true_answers_fit ruling t k a sound is
true-fits ruling t k (Faulty a) sound is = absurd is
true-fits ruling t k Spent sound is = absurd is

led-by : (rules : Rules) (one other : Truth) (d : Bisection) (a b : Settled) (o : Option Close) → rules.ruling.is_sound one.claim ≡ true → rules.ruling.is_sound other.claim ≡ true →
    d.by_first ≡ Some a → d.by_second ≡ Some b → close_of rules.ruling d.place a b ≡ o → d.close ≡ None → 1 < d.fan → d.place.lo < d.place.hi → d.place.hi ≤ rules.setup.bound →
    (IsTruthful one First d → IsTruthful other Second d → IsApart one other d.place) → IsLed rules one other (closed_or d (went_on d a b) o)
led-by rules one other d a b (Some c) sound_one sound_other ea eb e open_ more some high keeps = record {
  more = more;
  some = some;
  high = high;
  keeps = λ f s. keeps (record { past = f.past; open_ = f.open_ }) (record { past = s.past; open_ = s.open_ });
  closing = λ _. record { a = a; b = b; by_first = ea; by_second = eb; is = e };
}
led-by rules one other d a b None sound_one sound_other ea eb e open_ more some high keeps =
    let long : is_step d.place ≡ false = close_of-none rules.ruling d.place a b e in
    let n : NoneOut (is_out rules.ruling d.place d.place.first a) (is_out rules.ruling d.place d.place.second b) = none-out rules.ruling d.place a b e in
    let k : IsNarrower d.place (kept (parts_of d.fan d.place) d.place (roots_of a) (roots_of b)) = kept-narrows d.fan d.place (roots_of a) (roots_of b) more long in
    record {
      more = more;
      some = k.some;
      high = omega (arith, k.high, high);
      keeps = λ f s.
          let ff : AllTrue one d.fan First d.past × IsTrueSettled one (kind_over d.fan d.place.lo d.place.hi) a = true-last one d.fan First d.past (record { lo = d.place.lo; hi = d.place.hi; first = a; second = b }) f.past in
          let ss : AllTrue other d.fan Second d.past × IsTrueSettled other (kind_over d.fan d.place.lo d.place.hi) b = true-last other d.fan Second d.past (record { lo = d.place.lo; hi = d.place.hi; first = a; second = b }) s.past in
          let was : IsApart one other d.place = keeps (record { past = ff.0; open_ = rw ea ff.1 }) (record { past = ss.0; open_ = rw eb ss.1 }) in
          record {
            first = kept-first one d.fan d.place a b more long some ff.1 was.first;
            second = kept-second other d.fan d.place a b more long some ss.1 was.second;
            differ = kept-apart rules.ruling d.fan d.place a b more long was.differ n.first n.second
                (true-fits rules.ruling one (kind_over d.fan d.place.lo d.place.hi) a sound_one ff.1) (true-fits rules.ruling other (kind_over d.fan d.place.lo d.place.hi) b sound_other ss.1);
          };
      closing = λ (shut : is_some d.close ≡ true). absurd (let still : is_some d.close ≡ false = rw open_ refl in cc);
    }

led-advanced : (rules : Rules) (one other : Truth) (d : Bisection) (a b : Option Settled) → rules.ruling.is_sound one.claim ≡ true → rules.ruling.is_sound other.claim ≡ true →
    d.by_first ≡ a → d.by_second ≡ b → d.close ≡ None → 1 < d.fan → d.place.lo < d.place.hi → d.place.hi ≤ rules.setup.bound →
    (IsTruthful one First d → IsTruthful other Second d → IsApart one other d.place) → IsLed rules one other (advanced rules.ruling d a b)
unfolding decided
led-advanced rules one other d (Some a) (Some b) sound_one sound_other ea eb open_ more some high keeps =
    led-by rules one other d a b (close_of rules.ruling d.place a b) sound_one sound_other ea eb refl open_ more some high keeps
led-advanced rules one other d (Some a) None sound_one sound_other ea eb open_ more some high keeps = record {
  more = more;
  some = some;
  high = high;
  keeps = keeps;
  closing = λ (shut : is_some d.close ≡ true). absurd (let still : is_some d.close ≡ false = rw open_ refl in cc);
}
led-advanced rules one other d None b sound_one sound_other ea eb open_ more some high keeps = record {
  more = more;
  some = some;
  high = high;
  keeps = keeps;
  closing = λ (shut : is_some d.close ≡ true). absurd (let still : is_some d.close ≡ false = rw open_ refl in cc);
}

led-side : (rules : Rules) (one other : Truth) (by : Side) (s : Settled) (d : Bisection) → rules.ruling.is_sound one.claim ≡ true → rules.ruling.is_sound other.claim ≡ true →
    asks by d ≡ true → IsLed rules one other d → IsLed rules one other (settle_side rules.ruling by s d)
unfolding settle_first settle_second
led-side rules one other First s d sound_one sound_other asked l =
    let a : (d.by_first ≡ None) × (is_some d.close ≡ false) = asks-first d.by_first d.close asked in
    led-advanced rules one other (record d { by_first = Some s }) (Some s) d.by_second sound_one sound_other refl refl (none-closed d.close a.1) l.more l.some l.high
    (λ f g. l.keeps (record { past = f.past; open_ = rw a.0 tt }) (record { past = g.past; open_ = g.open_ }))
led-side rules one other Second s d sound_one sound_other asked l =
    let a : (d.by_second ≡ None) × (is_some d.close ≡ false) = asks-first d.by_second d.close asked in
    led-advanced rules one other (record d { by_second = Some s }) d.by_first (Some s) sound_one sound_other refl refl (none-closed d.close a.1) l.more l.some l.high
    (λ f g. l.keeps (record { past = f.past; open_ = f.open_ }) (record { past = g.past; open_ = rw a.0 tt }))

led-all : (rules : Rules) (one other : Truth) (xs : List (Side × Settled)) (d : Bisection) → rules.ruling.is_sound one.claim ≡ true → rules.ruling.is_sound other.claim ≡ true →
    EachIsAsked rules.ruling xs d → IsLed rules one other d → IsLed rules one other (settled_one_by_one rules.ruling xs d)
led-all rules one other [] d sound_one sound_other asked l = l
led-all rules one other (x ∷ xs) d sound_one sound_other asked l =
    led-all rules one other xs (settle_side rules.ruling x.0 x.1 d) sound_one sound_other asked.1 (led-side rules one other x.0 x.1 d sound_one sound_other asked.0 l)

-- THE END: both gave the proof of the last step

record IsProof (t : Truth) (step : ℕ) (s : Settled) : Type 0 where
  is : s ≡ Given (answer.Step (t.proof step))

is-proof : (t : Truth) (fan : ℕ) (i : Interval) (s : Settled) → is_step i ≡ true → IsTrueSettled t (kind_over fan i.lo i.hi) s → s ≡ Given (answer.Step (t.proof i.lo))
is-proof t fan i s step is = by s (rw step at is)
  where
    by : (s : Settled) → IsTrueSettled t (kind.Proof i.lo) s → s ≡ Given (answer.Step (t.proof i.lo))
    by (Given (answer.Step p)) e = ap (λ (q : Proof). Given (answer.Step q)) e
    by (Given (answer.Claim c)) e = absurd e
    by (Given (answer.Root x)) e = absurd e
    by (Given (answer.Roots xs)) e = absurd e
    by (Faulty a) e = absurd e
    by Spent e = absurd e

-- given answers over more than a step close nothing
given-in : (t : Truth) (k : Kind) (s : Settled) → IsTrueSettled t k s → (a : Answer) × (s ≡ Given a)
given-in t k (Given a) is = (a, refl)
given-in t k (Faulty a) is = absurd is
given-in t k Spent is = absurd is

given-long : (ruling : Ruling) (i : Interval) (a b : Settled) → is_step i ≡ false → (x : Answer) × (a ≡ Given x) → (y : Answer) × (b ≡ Given y) → close_of ruling i a b ≡ None
unfolding close_of
given-long ruling i a b long (x, ea) (y, eb) = rw (ea, eb, long) refl

by-proofs : (x y : Bool) (m : Close) → (if not x || not y then Some (Out (not x) (not y)) else Some m) ≡ Some (if x && y then m else Out (not x) (not y))
by-proofs true true m = refl
by-proofs true false m = refl
by-proofs false true m = refl
by-proofs false false m = refl

closed-by-proofs : (ruling : Ruling) (one other : Truth) (i : Interval) → is_step i ≡ true → i.agreed ≡ one.root i.lo → i.agreed ≡ other.root i.lo →
    i.first ≡ one.root (i.lo + 1) → i.second ≡ other.root (i.lo + 1) →
    close_of ruling i (Given (answer.Step (one.proof i.lo))) (Given (answer.Step (other.proof i.lo))) ≡ Some (closed_by_proofs ruling one other i.lo)
unfolding close_of
closed-by-proofs ruling one other i step ea eb ef es =
    let f : is_out ruling i i.first (Given (answer.Step (one.proof i.lo))) ≡ not (proves ruling one i.lo) = rw (step, ea, ef) refl in
    let s : is_out ruling i i.second (Given (answer.Step (other.proof i.lo))) ≡ not (proves ruling other i.lo) = rw (step, eb, es) refl in
    let m : both_proved ruling i.agreed (Given (answer.Step (one.proof i.lo))) (Given (answer.Step (other.proof i.lo))) ≡ closed_by (ruling.step_collision (one.root i.lo) (one.proof i.lo) (other.proof i.lo)) =
    ap (λ (x : Digest32). closed_by (ruling.step_collision x (one.proof i.lo) (other.proof i.lo))) ea in
    rw (f, s, step, m) (by-proofs (proves ruling one i.lo) (proves ruling other i.lo) (closed_by (ruling.step_collision (one.root i.lo) (one.proof i.lo) (other.proof i.lo))))

ends-led : (rules : Rules) (one other : Truth) (d : Bisection) → IsLed rules one other d → IsTruthful one First d → IsTruthful other Second d → is_closed d ≡ true → EndsWhereTheyPart rules one other d
ends-led rules one other d l f s shut =
    let c : ClosedBy rules.ruling d = l.closing shut in
    let k : IsApart one other d.place = l.keeps f s in
    let fa : IsTrueSettled one (kind_over d.fan d.place.lo d.place.hi) c.a = rw c.by_first at f.open_ in
    let sb : IsTrueSettled other (kind_over d.fan d.place.lo d.place.hi) c.b = rw c.by_second at s.open_ in
    elim (cases_Bool (is_step d.place)) [
      | inl step ↦
          let hi : d.place.hi ≡ d.place.lo + 1 = (let some : d.place.lo < d.place.hi = l.some in grind (arith, nat_tests)) in
          let own : d.place.first ≡ one.root (d.place.lo + 1) = k.first.own ∙ ap one.root hi in
          let mine : d.place.second ≡ other.root (d.place.lo + 1) = k.second.own ∙ ap other.root hi in
          let ga : c.a ≡ Given (answer.Step (one.proof d.place.lo)) = is-proof one d.fan d.place c.a step fa in
          let gb : c.b ≡ Given (answer.Step (other.proof d.place.lo)) = is-proof other d.fan d.place c.b step sb in
          record {
            within = omega (arith, l.some, l.high);
            step = hi;
            same = sym k.first.agreed ∙ k.second.agreed;
            differ = λ same. k.differ (own ∙ same ∙ sym mine);
            close = sym c.is ∙ ap (λ (x : Settled). close_of rules.ruling d.place x c.b) ga ∙ ap (close_of rules.ruling d.place (Given (answer.Step (one.proof d.place.lo)))) gb
                ∙ closed-by-proofs rules.ruling one other d.place step k.first.agreed k.second.agreed own mine;
          }
      | inr long ↦
          let none : d.close ≡ None = sym c.is ∙ given-long rules.ruling d.place c.a c.b long (given-in one (kind_over d.fan d.place.lo d.place.hi) c.a fa) (given-in other (kind_over d.fan d.place.lo d.place.hi) c.b sb) in
          absurd (let still : is_some d.close ≡ false = rw none refl in cc)
    ]

pub runs-part-where-they-end : RunsPartWhereTheyEnd
runs-part-where-they-end rules one other x y stage number answers d playable b =
    let start : IsLed rules one other (dispute_of rules.setup stage number x y) = record {
      more = playable.parted;
      some = playable.steps;
      high = omega arith;
      keeps = λ f s. record {
        first = record { agreed = sym b.first.begins; own = b.first.ends };
        second = record { agreed = sym b.second.begins; own = b.second.ends };
        differ = b.differ;
      };
      closing = λ shut. absurd (cc);
    } in
    let led : IsLed rules one other d = rw b.after (led-all rules one other answers (dispute_of rules.setup stage number x y) b.first.sound b.second.sound b.asked start) in
    ends-led rules one other d led b.by_first b.by_second b.closed

-- A LIE AT ONE STEP

leads-proves : (ruling : Ruling) (run : Truth) (step : ℕ) → ruling.leads (run.root step) (run.proof step) ≡ Some (run.root (step + 1)) → proves ruling run step ≡ true
leads-proves ruling run step e = rw e (same-digests (run.root (step + 1)) (run.root (step + 1)) refl)

-- where it stands: at the step of the lie, or behind it
data Place (s i : ℕ) : Type 0 where
  At : i + 1 ≡ s → Place s i
  Behind : s ≤ i → Place s i

place-of : (rules : Rules) (truth lie : Truth) (s i : ℕ) → LeavesAt rules truth lie s → truth.root (i + 1) ≢ lie.root (i + 1) → Place s i
place-of rules truth lie s i l differ = elim (cases_Bool (nat_lt (i + 1) s)) [
  | inl early ↦ absurd (differ (sym (l.before (i + 1) (grind (arith, nat_tests)))))
  | inr e ↦ elim (cases_Bool (nat_lt i s)) [
    | inl now ↦ At (let a : s ≤ i + 1 = grind (arith, nat_tests) in let b : i < s = grind (arith, nat_tests) in omega (arith, a, b))
    | inr late ↦ Behind (grind (arith, nat_tests))
  ]
]

-- its proof of that step leads to the true root, and so not to its own
at-refuted : (rules : Rules) (truth lie : Truth) (s i : ℕ) → LeavesAt rules truth lie s → truth.root (i + 1) ≢ lie.root (i + 1) → i + 1 ≡ s → proves rules.ruling lie i ≡ false
at-refuted rules truth lie s i l differ now =
    let back : s - 1 ≡ i = omega (arith, now) in
    let from : lie.root i ≡ truth.root i = l.before i (omega (arith, now)) in
    let leads : rules.ruling.leads (truth.root i) (lie.proof i) ≡ Some (truth.root (i + 1)) = rw (now, ← back) l.at in
    elim (cases_Bool (same_digest (truth.root (i + 1)) (lie.root (i + 1)))) [
      | inl same ↦ absurd (differ (same-is (truth.root (i + 1)) (lie.root (i + 1)) same))
      | inr other ↦ rw (from, leads) other
    ]

has-collided : (rules : Rules) (one other : Truth) (d : Bisection) → IsFair rules.ruling → EndsWhereTheyPart rules one other d →
    rules.ruling.leads (one.root d.place.lo) (one.proof d.place.lo) ≡ Some (one.root (d.place.lo + 1)) →
    rules.ruling.leads (other.root d.place.lo) (other.proof d.place.lo) ≡ Some (other.root (d.place.lo + 1)) → HasCollided rules.ruling one other d
has-collided rules one other d fair e ea eb =
    let i = d.place.lo in
    let from : rules.ruling.leads (one.root i) (other.proof i) ≡ Some (other.root (i + 1)) = rw e.same eb in
    let m : (pair : List ℕ × List ℕ) × (rules.ruling.step_collision (one.root i) (one.proof i) (other.proof i) ≡ Some pair) =
    fair.steps_collide (one.root i) (one.proof i) (other.proof i) (one.root (i + 1)) (other.root (i + 1)) ea from e.differ in
    let x : proves rules.ruling one i ≡ true = leads-proves rules.ruling one i ea in
    let y : proves rules.ruling other i ≡ true = leads-proves rules.ruling other i eb in
    let closes : closed_by_proofs rules.ruling one other i ≡ Collision (m.0.0) (m.0.1) = rw (x, y, m.1) refl in
    record {
      pair = m.0;
      close = e.close ∙ ap Some closes;
      collision = fair.step_collisions (one.root i) (one.proof i) (other.proof i) (one.root (i + 1)) (other.root (i + 1)) m.0 ea from m.1;
    }

lie-second : (rules : Rules) (truth lie : Truth) (s : ℕ) (d : Bisection) → IsFair rules.ruling → IsRun rules truth → LeavesAt rules truth lie s →
    EndsWhereTheyPart rules truth lie d → IsRefutedAt s (Out false true) d ⊎ HasCollided rules.ruling truth lie d
lie-second rules truth lie s d fair run l e =
    by (place-of rules truth lie s d.place.lo l e.differ)
  where
    by : Place s d.place.lo → IsRefutedAt s (Out false true) d ⊎ HasCollided rules.ruling truth lie d
    by (At now) =
        let x : proves rules.ruling truth d.place.lo ≡ true = leads-proves rules.ruling truth d.place.lo (run.leads d.place.lo e.within) in
        let y : proves rules.ruling lie d.place.lo ≡ false = at-refuted rules truth lie s d.place.lo l e.differ now in
        inl (record { lo = omega (arith, now); hi = e.step ∙ now; out_ = e.close ∙ rw (x, y) refl })
    by (Behind late) =
        inr (has-collided rules truth lie d fair e (run.leads d.place.lo e.within) (l.after d.place.lo late e.within))

lie-first : (rules : Rules) (truth lie : Truth) (s : ℕ) (d : Bisection) → IsFair rules.ruling → IsRun rules truth → LeavesAt rules truth lie s →
    EndsWhereTheyPart rules lie truth d → IsRefutedAt s (Out true false) d ⊎ HasCollided rules.ruling lie truth d
lie-first rules truth lie s d fair run l e =
    by (place-of rules truth lie s d.place.lo l (λ same. e.differ (sym same)))
  where
    by : Place s d.place.lo → IsRefutedAt s (Out true false) d ⊎ HasCollided rules.ruling lie truth d
    by (At now) =
        let x : proves rules.ruling truth d.place.lo ≡ true = leads-proves rules.ruling truth d.place.lo (run.leads d.place.lo e.within) in
        let y : proves rules.ruling lie d.place.lo ≡ false = at-refuted rules truth lie s d.place.lo l (λ same. e.differ (sym same)) now in
        inl (record { lo = omega (arith, now); hi = e.step ∙ now; out_ = e.close ∙ rw (x, y) refl })
    by (Behind late) =
        inr (has-collided rules lie truth d fair e (l.after d.place.lo late e.within) (run.leads d.place.lo e.within))

pub lie-is-refuted-at-its-step : LieIsRefutedAtItsStep
lie-is-refuted-at-its-step = record { second = lie-second; first = lie-first }

-- A RUN THAT STOPS EARLY

-- what is known at the step where the dispute ends
record Stopped (rules : Rules) (truth stopped : Truth) (s i : ℕ) : Type 0 where
  late : s ≤ i
  back : truth.root i ≡ truth.root s
  leads : rules.ruling.leads (stopped.root i) (stopped.proof i) ≡ Some (truth.root (s + 1))

stopped-at : (rules : Rules) (truth stopped : Truth) (s i : ℕ) → IsRun rules truth → StandsFrom truth stopped s → i < rules.setup.bound → truth.root i ≡ stopped.root i → truth.root (i + 1) ≢ stopped.root (i + 1) →
    Stopped rules truth stopped s i
stopped-at rules truth stopped s i run e within same differ = by (place-by s i)
  where
    place-by : (s i : ℕ) → (s ≤ i) ⊎ (i < s)
    place-by s i = elim (cases_Bool (nat_lt i s)) [ inl less ↦ inr (grind (arith, nat_tests)) | inr more ↦ inl (grind (arith, nat_tests)) ]

    next-by : i < s → (i + 1 < s) ⊎ (i + 1 ≡ s)
    next-by less = elim (place-by (i + 1) s) [ inl le ↦ (elim (place-by s (i + 1)) [ inl same_ ↦ inr (omega (arith, le, same_)) | inr lt ↦ inl lt ]) | inr lt ↦ absurd (omega (arith, less, lt)) ]

    by : (s ≤ i) ⊎ (i < s) → Stopped rules truth stopped s i
    by (inl late) = record {
      late = late;
      back = same ∙ e.stands i late;
      leads = (let from : stopped.root i ≡ truth.root s = e.stands i late in let with_ : stopped.proof i ≡ truth.proof s = e.proofs i late in rw (from, with_) (run.leads s (omega (arith, late, within))));
    }
    by (inr less) = elim (next-by less) [
      | inl before ↦ absurd (differ (sym (e.before (i + 1) before)))
      | inr now ↦ absurd (differ (sym (e.stands (i + 1) (omega (arith, now)) ∙ ap truth.root (sym now))))
    ]

-- its proof leads to the root of step s + 1: not to its own root, unless the true run stands at step s, too
stopped-proves : (rules : Rules) (truth stopped : Truth) (s i : ℕ) → Stopped rules truth stopped s i → (proves rules.ruling stopped i ≡ false) ⊎ (rules.ruling.leads (stopped.root i) (stopped.proof i) ≡ Some (stopped.root (i + 1)))
stopped-proves rules truth stopped s i e = elim (cases_Bool (same_digest (truth.root (s + 1)) (stopped.root (i + 1)))) [
  | inl same ↦ inr (e.leads ∙ ap Some (same-is (truth.root (s + 1)) (stopped.root (i + 1)) same))
  | inr other ↦ (let leads : rules.ruling.leads (stopped.root i) (stopped.proof i) ≡ Some (truth.root (s + 1)) = e.leads in inl (rw leads other))
]

early-second : (rules : Rules) (truth stopped : Truth) (s : ℕ) (d : Bisection) → IsFair rules.ruling → IsRun rules truth → StandsFrom truth stopped s →
    EndsWhereTheyPart rules truth stopped d → IsRefutedFrom truth s (Out false true) d ⊎ HasCollided rules.ruling truth stopped d
early-second rules truth stopped s d fair run e w =
    let k : Stopped rules truth stopped s d.place.lo = stopped-at rules truth stopped s d.place.lo run e w.within w.same w.differ in
    let x : proves rules.ruling truth d.place.lo ≡ true = leads-proves rules.ruling truth d.place.lo (run.leads d.place.lo w.within) in
    elim (stopped-proves rules truth stopped s d.place.lo k) [
      | inl y ↦ inl (record { late = k.late; back = k.back; out_ = w.close ∙ rw (x, y) refl })
      | inr leads ↦ inr (has-collided rules truth stopped d fair w (run.leads d.place.lo w.within) leads)
    ]

early-first : (rules : Rules) (truth stopped : Truth) (s : ℕ) (d : Bisection) → IsFair rules.ruling → IsRun rules truth → StandsFrom truth stopped s →
    EndsWhereTheyPart rules stopped truth d → IsRefutedFrom truth s (Out true false) d ⊎ HasCollided rules.ruling stopped truth d
early-first rules truth stopped s d fair run e w =
    let k : Stopped rules truth stopped s d.place.lo = stopped-at rules truth stopped s d.place.lo run e w.within (sym w.same) (λ same. w.differ (sym same)) in
    let x : proves rules.ruling truth d.place.lo ≡ true = leads-proves rules.ruling truth d.place.lo (run.leads d.place.lo w.within) in
    elim (stopped-proves rules truth stopped s d.place.lo k) [
      | inl y ↦ inl (record { late = k.late; back = k.back; out_ = w.close ∙ rw (x, y) refl })
      | inr leads ↦ inr (has-collided rules stopped truth d fair w leads (run.leads d.place.lo w.within))
    ]

pub early-end-is-refuted : EarlyEndIsRefuted
early-end-is-refuted = record { second = early-second; first = early-first }
