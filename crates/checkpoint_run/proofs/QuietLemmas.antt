-- Stretches of a run in which nothing happens.
use Rattle.std.proofs.Common.{◌≡◌, ◌⊎◌, ℕ, ◌+◌, ◌-◌, ◌<◌, ◌≤◌, ltb, leb, cond, ◌&&◌, ◌||◌, true, false, Option, Some, None, inl, inr, refl, sym, ap, subst, ◌∙◌, ⊎_elim, arith}
use Rattle.std.proofs.lemmas.Bool.{cases_lt, ltb-true, leb-true, le-leb, lt-leb, lt-ltb, le-ltb, and_parts, and_from, and_left, and_right, or_left, or_right, or_from, not-true, not_from_false}
use Rattle.std.proofs.lemmas.Option.{none-some, same_Some}
use Rattle.rd_base.specs.Status.{is_running}
use Rattle.rd_base.specs.declared.tamper.Tamper.{Tamper}
use Rattle.rd_base.specs.declared.tamper.Tamper.TheVariants.{Untouched, Flip, Register, Early}
use Rattle.rv_step.specs.State.{State}
use Rattle.checkpoint_run.specs.TamperedRun.{run_from}
use Rattle.checkpoint_run.specs.AtRest.{has_stopped, rests, ended, to_come}
use Rattle.checkpoint_run.proofs.RunLemmas.{Stopping, run_rests, stays_stopped}

-- a tamper's step that is still to come
abbrev late : ℕ → ℕ → ℕ → Option ℕ
late at bound i = cond (ltb i at && leb at bound) (Some at) None

late_some : (at bound i n : ℕ) → late at bound i ≡ Some n → (at ≡ n) × (i < at) × (at ≤ bound)
late_some at bound i n is =
    elim (ltb i at && leb at bound) as (λ b. (ltb i at && leb at bound) ≡ b → cond b (Some at) None ≡ Some n → (at ≡ n) × (i < at) × (at ≤ bound)) [
      | true ↦ λ both some. let parts = and_parts (ltb i at) (leb at bound) both in (same_Some at n some, ltb-true i at parts.0, leb-true at bound parts.1)
      | false ↦ λ not none. absurd (none-some n none)
    ] refl is

late_none : (at bound i : ℕ) → late at bound i ≡ None → (at ≤ i) ⊎ (bound < at)
late_none at bound i is = ⊎_elim
    (λ before. ⊎_elim (λ beyond. inr beyond) (λ within. absurd (none-some at (sym is ∙ ap (λ b. cond b (Some at) None) (and_from (ltb i at) (leb at bound) (lt-ltb i at before) (le-leb at bound within))))) (cases_lt bound at))
    (λ past. inl past)
    (cases_lt i at)

-- a run that has ended, and with which nobody will tamper, rests
rests_none : (at bound i : ℕ) (s : State) → has_stopped s ≡ true → late at bound i ≡ None → (has_stopped s && (leb at i || ltb bound at)) ≡ true
rests_none at bound i s stopped is = and_from (has_stopped s) _ stopped (⊎_elim
    (λ past. or_left _ _ (le-leb at i past))
    (λ beyond. or_right _ _ (lt-ltb bound at beyond))
    (late_none at bound i is))

pub to_come_none : (t : Tamper) (bound i : ℕ) (s : State) → ended t i s ≡ true → to_come t bound i ≡ None → rests t bound i s ≡ true
to_come_none Untouched bound i s ends is = ends
to_come_none (Flip at addr mask) bound i s ends is = rests_none at bound i s ends is
to_come_none (Register at reg value) bound i s ends is = rests_none at bound i s ends is
to_come_none (Early steps) bound i s ends is = ends

-- what still moves doesn't rest
pub moves_on : (t : Tamper) (bound i : ℕ) (s : State) → ended t i s ≡ false → rests t bound i s ≡ false
moves_on Untouched bound i s moves = moves
moves_on (Flip at addr mask) bound i s moves = and_left _ _ moves
moves_on (Register at reg value) bound i s moves = and_left _ _ moves
moves_on (Early steps) bound i s moves = moves

-- what is to come is behind, and within the bound
pub to_come_within : (t : Tamper) (bound i n : ℕ) → to_come t bound i ≡ Some n → (i < n) × (n ≤ bound)
to_come_within Untouched bound i n is = absurd (none-some n is)
to_come_within (Flip at addr mask) bound i n is = let l = late_some at bound i n is in (subst (λ k. i < k) l.0 l.1, subst (λ k. k ≤ bound) l.0 l.2)
to_come_within (Register at reg value) bound i n is = let l = late_some at bound i n is in (subst (λ k. i < k) l.0 l.1, subst (λ k. k ≤ bound) l.0 l.2)
to_come_within (Early steps) bound i n is = absurd (none-some n is)

-- a run that has ended before it has stopped
pub to_come_stopped : (t : Tamper) (bound i n : ℕ) (s : State) → to_come t bound i ≡ Some n → ended t i s ≡ true → is_running s.status ≡ false
to_come_stopped Untouched bound i n s is ends = absurd (none-some n is)
to_come_stopped (Flip at addr mask) bound i n s is ends = not-true _ ends
to_come_stopped (Register at reg value) bound i n s is ends = not-true _ ends
to_come_stopped (Early steps) bound i n s is ends = absurd (none-some n is)

-- up to the step before it, nothing happens
rests_before : (at bound i n : ℕ) (s : State) → has_stopped s ≡ true → late at bound i ≡ Some n → (has_stopped s && (leb at i || ltb (n - 1) at)) ≡ true
rests_before at bound i n s stopped is = let l = late_some at bound i n is in let same = l.0 in let behind = l.1 in and_from (has_stopped s) _ stopped (or_right _ _ (lt-ltb (n - 1) at (omega arith)))

pub to_come_quiet : (t : Tamper) (bound i n : ℕ) (s : State) → to_come t bound i ≡ Some n → ended t i s ≡ true → rests t (n - 1) i s ≡ true
to_come_quiet Untouched bound i n s is ends = absurd (none-some n is)
to_come_quiet (Flip at addr mask) bound i n s is ends = rests_before at bound i n s ends is
to_come_quiet (Register at reg value) bound i n s is ends = rests_before at bound i n s ends is
to_come_quiet (Early steps) bound i n s is ends = absurd (none-some n is)

-- but before it the run isn't at rest, and there it is
wakes : (at bound i n k : ℕ) (s : State) → late at bound i ≡ Some n → k < n → (has_stopped s && (leb at k || ltb bound at)) ≡ false
wakes at bound i n k s is before = let l = late_some at bound i n is in let same = l.0 in let within = l.2 in and_right _ _ (or_from _ _ (lt-leb at k (omega arith)) (le-ltb bound at (omega arith)))

pub to_come_wakes : (t : Tamper) (bound i n k : ℕ) (s : State) → to_come t bound i ≡ Some n → k < n → rests t bound k s ≡ false
to_come_wakes Untouched bound i n k s is before = absurd (none-some n is)
to_come_wakes (Flip at addr mask) bound i n k s is before = wakes at bound i n k s is before
to_come_wakes (Register at reg value) bound i n k s is before = wakes at bound i n k s is before
to_come_wakes (Early steps) bound i n k s is before = absurd (none-some n is)

rests_there : (at bound i n : ℕ) (s : State) → has_stopped s ≡ true → late at bound i ≡ Some n → (has_stopped s && (leb at n || ltb bound at)) ≡ true
rests_there at bound i n s stopped is = let l = late_some at bound i n is in let same = l.0 in and_from (has_stopped s) _ stopped (or_left _ _ (le-leb at n (omega arith)))

pub to_come_rests : (t : Tamper) (bound i n : ℕ) (s : State) → to_come t bound i ≡ Some n → is_running s.status ≡ false → rests t bound n s ≡ true
to_come_rests Untouched bound i n s is stopped = absurd (none-some n is)
to_come_rests (Flip at addr mask) bound i n s is stopped = rests_there at bound i n s (not_from_false _ stopped) is
to_come_rests (Register at reg value) bound i n s is stopped = rests_there at bound i n s (not_from_false _ stopped) is
to_come_rests (Early steps) bound i n s is stopped = absurd (none-some n is)

-- the states of a stretch are the same
module _ (stopping : Stopping) (t : Tamper) (first : State) where
  pub quiet : (bound i j : ℕ) (s : State) → rests t bound i s ≡ true → i ≤ j → j ≤ bound → run_from t first i ≡ s → run_from t first j ≡ s
  quiet bound i j s rest after within here =
      let whole : i + (j - i) ≡ j = omega arith in
      let there : rests t bound i (run_from t first i) ≡ true = ap (rests t bound i) here ∙ rest in
      ap (run_from t first) (sym whole) ∙ ((run_rests stopping t first bound i (j - i) there (omega arith)).0 ∙ here)

  -- up to the step before a tamper that is still to come
  pub quiet_before : (bound i n j : ℕ) → to_come t bound i ≡ Some n → ended t i (run_from t first i) ≡ true → i ≤ j → j < n → run_from t first j ≡ run_from t first i
  quiet_before bound i n j is ends after before =
      quiet (n - 1) i j (run_from t first i) (to_come_quiet t bound i n (run_from t first i) is ends) after (omega arith) refl

  -- and at the tamper's step the run has stopped
  pub stopped_there : (bound i n : ℕ) → to_come t bound i ≡ Some n → ended t i (run_from t first i) ≡ true → is_running (run_from t first n).status ≡ false
  stopped_there bound i n is ends =
      let within = to_come_within t bound i n is in
      let whole : i + (n - i) ≡ n = omega (arith, within.0) in
      ap (λ k. is_running (run_from t first k).status) (sym whole) ∙ stays_stopped stopping t first i (n - i) (to_come_stopped t bound i n (run_from t first i) is ends)
