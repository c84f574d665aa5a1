-- A tampered run in the words of the machine's own, and from where on it stands still.
use Rattle.std.proofs.Common.{◌≡◌, ◌⊎◌, ℕ, zero, suc, ◌+◌, ◌-◌, ◌<◌, ◌≤◌, min, max, eqb, ltb, leb, cond, not, ◌&&◌, ◌||◌, Bool, true, false, inl, inr, refl, sym, ap, ◌∙◌, ⊎_elim, add-zero, add-suc, add-one, arith}
use Rattle.std.proofs.lemmas.Bool.{cases_eq, cases_lt, cases_order, ne_eqb, lt-ltb, le-ltb, le-leb, lt-leb, leb-true, both_ways, not-true, and_parts, or_cases, and_from, and_left, and_right, or_left, or_right, or_from, not_from_true, not_from_false}
use Rattle.rd_base.specs.Status.{is_running}
use Rattle.std.proofs.lemmas.Bool.Decides.{nat_tests}
use Rattle.rd_base.specs.declared.tamper.Tamper.{Tamper}
use Rattle.rd_base.specs.declared.tamper.Tamper.TheVariants.{Untouched, Flip, Register, Early}
use Rattle.rv_step.specs.State.{State}
use Rattle.rv_step.specs.Step.{step, state_at}
use Rattle.checkpoint_run.specs.TamperedRun.{tampered, followed, next_of, run_from, run_at, first_stop, still, later_of, flipped, with_value}
use Rattle.checkpoint_run.specs.AtRest.{rests}

-- a state that has stopped steps to itself
abbrev pub Stopping : Type 0
Stopping = (s : State) → is_running s.status ≡ false → step s ≡ s

-- before a byte is flipped, there, and from there on
module _ (at addr mask : ℕ) where
  pub flip_before : (s : State) (i : ℕ) → i < at → run_at (Flip at addr mask) s i ≡ state_at s i
  flip_before s zero before = rw (ne_eqb 0 at (λ same. absurd (omega arith))) refl
  flip_before s (suc i) before = rw (ne_eqb (i + 1) at (λ same. absurd (omega arith))) (ap step (flip_before s i (omega arith)))

  pub flip_after : (s : State) (k : ℕ) → run_at (Flip at addr mask) s (at + k) ≡ state_at (run_at (Flip at addr mask) s at) k
  flip_after s zero = ap (run_at (Flip at addr mask) s) (add-zero at)
  flip_after s (suc k) =
      ap (run_at (Flip at addr mask) s) (add-suc at k)
      ∙ rw (ne_eqb (at + k + 1) at (λ same. absurd (omega arith))) (ap step (flip_after s k))

pub flip_at : (at addr mask : ℕ) (s : State) → run_at (Flip at addr mask) s at ≡ tampered (Flip at addr mask) at (state_at s at)
flip_at zero addr mask s = refl
flip_at (suc i) addr mask s =
    ap (λ n. tampered (Flip (suc i) addr mask) n (step (run_at (Flip (suc i) addr mask) s i))) (add-one i)
    ∙ ap (λ x. tampered (Flip (suc i) addr mask) (suc i) (step x)) (flip_before (suc i) addr mask s i (omega arith))

-- before a register is set, there, and from there on
module _ (at reg value : ℕ) where
  pub register_before : (s : State) (i : ℕ) → i < at → run_at (Register at reg value) s i ≡ state_at s i
  register_before s zero before = rw (ne_eqb 0 at (λ same. absurd (omega arith))) refl
  register_before s (suc i) before = rw (ne_eqb (i + 1) at (λ same. absurd (omega arith))) (ap step (register_before s i (omega arith)))

  pub register_after : (s : State) (k : ℕ) → run_at (Register at reg value) s (at + k) ≡ state_at (run_at (Register at reg value) s at) k
  register_after s zero = ap (run_at (Register at reg value) s) (add-zero at)
  register_after s (suc k) =
      ap (run_at (Register at reg value) s) (add-suc at k)
      ∙ rw (ne_eqb (at + k + 1) at (λ same. absurd (omega arith))) (ap step (register_after s k))

pub register_at : (at reg value : ℕ) (s : State) → run_at (Register at reg value) s at ≡ tampered (Register at reg value) at (state_at s at)
register_at zero reg value s = refl
register_at (suc i) reg value s =
    ap (λ n. tampered (Register (suc i) reg value) n (step (run_at (Register (suc i) reg value) s i))) (add-one i)
    ∙ ap (λ x. tampered (Register (suc i) reg value) (suc i) (step x)) (register_before (suc i) reg value s i (omega arith))

-- an early end
pub early : (steps : ℕ) (s : State) (i : ℕ) → run_at (Early steps) s i ≡ state_at s (min i steps)
early steps s zero = let none : min 0 steps ≡ 0 = omega arith in rw none refl
early steps s (suc i) = ⊎_elim
    (λ before.
    let here : min i steps ≡ i = omega arith in
    let there : min (suc i) steps ≡ suc i = omega arith in
    rw (lt-ltb i steps before, there) (ap step (early steps s i ∙ ap (state_at s) here)))
    (λ after.
    let same : min i steps ≡ min (suc i) steps = omega arith in
    rw (le-ltb i steps after) (early steps s i ∙ ap (state_at s) same))
    (cases_lt i steps)

-- a run keeps the version and the input
abbrev pub KeepsInput : Type 0
KeepsInput = (s : State) → ((step s).version ≡ s.version) × ((step s).input ≡ s.input)

-- the law of one step, from that of so many
pub kept_by : ((s : State) (n : ℕ) → (state_at s n).version ≡ s.version) → ((s : State) (n : ℕ) → (state_at s n).input ≡ s.input) → KeepsInput
kept_by version input s = (version s 1, input s 1)

pub tampered_input : (t : Tamper) (i : ℕ) (s : State) → ((tampered t i s).version ≡ s.version) × ((tampered t i s).input ≡ s.input)
tampered_input Untouched i s = (refl, refl)
tampered_input (Flip at addr mask) i s = elim (eqb i at) as (λ b. ((cond b (flipped s addr mask) s).version ≡ s.version) × ((cond b (flipped s addr mask) s).input ≡ s.input)) [ true ↦ (refl, refl) | false ↦ (refl, refl) ]
tampered_input (Register at reg value) i s = elim (eqb i at) as (λ b. ((cond b (with_value s reg value) s).version ≡ s.version) × ((cond b (with_value s reg value) s).input ≡ s.input)) [ true ↦ (refl, refl) | false ↦ (refl, refl) ]
tampered_input (Early steps) i s = (refl, refl)

followed_input : KeepsInput → (t : Tamper) (i : ℕ) (s : State) → ((followed t i s).version ≡ s.version) × ((followed t i s).input ≡ s.input)
followed_input keeps Untouched i s = keeps s
followed_input keeps (Flip at addr mask) i s = keeps s
followed_input keeps (Register at reg value) i s = keeps s
followed_input keeps (Early steps) i s = elim (ltb i steps) as (λ b. ((cond b (step s) s).version ≡ s.version) × ((cond b (step s) s).input ≡ s.input)) [ true ↦ keeps s | false ↦ (refl, refl) ]

pub run_input : KeepsInput → (t : Tamper) (first : State) (i : ℕ) → ((run_from t first i).version ≡ first.version) × ((run_from t first i).input ≡ first.input)
run_input keeps t first zero = (refl, refl)
run_input keeps t first (suc i) =
    let before = run_input keeps t first i in
    let stepped = followed_input keeps t i (run_from t first i) in
    let here = tampered_input t (i + 1) (followed t i (run_from t first i)) in
    (here.0 ∙ (stepped.0 ∙ before.0), here.1 ∙ (stepped.1 ∙ before.1))

-- one more step keeps a stop
pub tampered_status : (t : Tamper) (i : ℕ) (s : State) → (tampered t i s).status ≡ s.status
tampered_status Untouched i s = refl
tampered_status (Flip at addr mask) i s = elim (eqb i at) as (λ b. (cond b (flipped s addr mask) s).status ≡ s.status) [ true ↦ refl | false ↦ refl ]
tampered_status (Register at reg value) i s = elim (eqb i at) as (λ b. (cond b (with_value s reg value) s).status ≡ s.status) [ true ↦ refl | false ↦ refl ]
tampered_status (Early steps) i s = refl

either_stopped : (b : Bool) (s : State) → Stopping → is_running s.status ≡ false → (cond b (step s) s).status ≡ s.status
either_stopped true s stopping stopped = ap (λ t. t.status) (stopping s stopped)
either_stopped false s stopping stopped = refl

followed_status : (t : Tamper) (i : ℕ) (s : State) → Stopping → is_running s.status ≡ false → (followed t i s).status ≡ s.status
followed_status Untouched i s stopping stopped = ap (λ x. x.status) (stopping s stopped)
followed_status (Flip at addr mask) i s stopping stopped = ap (λ x. x.status) (stopping s stopped)
followed_status (Register at reg value) i s stopping stopped = ap (λ x. x.status) (stopping s stopped)
followed_status (Early steps) i s stopping stopped = either_stopped (ltb i steps) s stopping stopped

-- a run that has stopped has stopped at each later step
pub stays_stopped : Stopping → (t : Tamper) (first : State) (i k : ℕ) → is_running (run_from t first i).status ≡ false → is_running (run_from t first (i + k)).status ≡ false
stays_stopped stopping t first i zero stopped = ap (λ n. is_running (run_from t first n).status) (add-zero i) ∙ stopped
stays_stopped stopping t first i (suc k) stopped =
    let before = stays_stopped stopping t first i k stopped in
    let x = run_from t first (i + k) in
    ap (λ n. is_running (run_from t first n).status) (add-suc i k)
    ∙ (ap is_running (tampered_status t (i + k + 1) (followed t (i + k) x) ∙ followed_status t (i + k) x stopping before) ∙ before)

-- what the first stop is
pub first_stop_most : (t : Tamper) (first : State) (n : ℕ) → first_stop t first n ≤ n
first_stop_most t first zero = omega arith
first_stop_most t first (suc n) =
    let before = first_stop_most t first n in
    elim (is_running (run_from t first (first_stop t first n)).status) as (λ b. cond b (suc n) (first_stop t first n) ≤ suc n) [ true ↦ omega arith | false ↦ omega arith ]

pub first_stop_stopped : (t : Tamper) (first : State) (n : ℕ) → first_stop t first n < n → is_running (run_from t first (first_stop t first n)).status ≡ false
first_stop_stopped t first zero early = absurd (omega arith)
first_stop_stopped t first (suc n) early =
    elim (is_running (run_from t first (first_stop t first n)).status) as (λ b. is_running (run_from t first (first_stop t first n)).status ≡ b → cond b (suc n) (first_stop t first n) < suc n → is_running (run_from t first (cond b (suc n) (first_stop t first n))).status ≡ false) [
      | true ↦ λ running less. absurd (omega arith)
      | false ↦ λ stopped less. stopped
    ] refl early

pub first_stop_running : (t : Tamper) (first : State) (n k : ℕ) → k < first_stop t first n → is_running (run_from t first k).status ≡ true
first_stop_running t first zero k before = absurd (omega arith)
first_stop_running t first (suc n) k before =
    elim (is_running (run_from t first (first_stop t first n)).status) as (λ b. is_running (run_from t first (first_stop t first n)).status ≡ b → k < cond b (suc n) (first_stop t first n) → is_running (run_from t first k).status ≡ true) [
      | true ↦ λ running less. ⊎_elim
          (λ same. ap (λ m. is_running (run_from t first m).status) same ∙ running)
          (λ apart. first_stop_running t first n k (further running less apart))
          (cases_eq k (first_stop t first n))
      | false ↦ λ stopped less. first_stop_running t first n k less
    ] refl before
  where
    further : is_running (run_from t first (first_stop t first n)).status ≡ true → k < suc n → (k ≡ first_stop t first n → ⊥) → k < first_stop t first n
    further running less apart = ⊎_elim
        (λ early. absurd (both_ways _ (first_stop_stopped t first n early) running))
        (λ late. let most = first_stop_most t first n in
        ⊎_elim (λ same. absurd (apart same)) (λ other. ⊎_elim (λ l. l) (λ g. absurd (omega arith)) other) (cases_order k (first_stop t first n)))
        (cases_lt (first_stop t first n) n)

-- at rest, nothing more happens
pub rests_on : Stopping → (t : Tamper) (bound i : ℕ) (s : State) → rests t bound i s ≡ true → i < bound → (next_of t i s ≡ s) × (rests t bound (i + 1) s ≡ true)
rests_on stopping Untouched bound i s rest before = (stopping s (not-true _ rest), rest)
rests_on stopping (Flip at addr mask) bound i s rest before = (rw (stopping s stopped, ne_eqb (i + 1) at other) refl, and_from _ _ parts.0 later)
  where
    parts : (not (is_running s.status) ≡ true) × ((leb at i || ltb bound at) ≡ true)
    parts = and_parts (not (is_running s.status)) (leb at i || ltb bound at) rest

    stopped : is_running s.status ≡ false
    stopped = not-true _ parts.0

    other : i + 1 ≡ at → ⊥
    other same = grind (arith, nat_tests)

    later : (leb at (i + 1) || ltb bound at) ≡ true
    later = grind (arith, nat_tests)
rests_on stopping (Register at reg value) bound i s rest before = (rw (stopping s stopped, ne_eqb (i + 1) at other) refl, and_from _ _ parts.0 later)
  where
    parts : (not (is_running s.status) ≡ true) × ((leb at i || ltb bound at) ≡ true)
    parts = and_parts (not (is_running s.status)) (leb at i || ltb bound at) rest

    stopped : is_running s.status ≡ false
    stopped = not-true _ parts.0

    other : i + 1 ≡ at → ⊥
    other same = grind (arith, nat_tests)

    later : (leb at (i + 1) || ltb bound at) ≡ true
    later = grind (arith, nat_tests)
rests_on stopping (Early steps) bound i s rest before = ⊎_elim
    (λ stopped. (either (ltb i steps) (stopping s (not-true _ stopped)), or_left _ _ stopped))
    (λ ended. let past = leb-true steps i ended in (rw (le-ltb i steps past) refl, or_right _ _ (le-leb steps (i + 1) (omega arith))))
    (or_cases (not (is_running s.status)) (leb steps i) rest)
  where
    either : (b : Bool) → step s ≡ s → cond b (step s) s ≡ s
    either true same = same
    either false same = refl

pub run_rests : Stopping → (t : Tamper) (first : State) (bound i k : ℕ) → rests t bound i (run_from t first i) ≡ true → i + k ≤ bound
    → (run_from t first (i + k) ≡ run_from t first i) × (rests t bound (i + k) (run_from t first i) ≡ true)
run_rests stopping t first bound i zero rest within = (ap (run_from t first) (add-zero i), ap (λ n. rests t bound n (run_from t first i)) (add-zero i) ∙ rest)
run_rests stopping t first bound i (suc k) rest within =
    let before = run_rests stopping t first bound i k rest (omega arith) in
    let on = rests_on stopping t bound (i + k) (run_from t first i) before.1 (omega arith) in (
      ap (run_from t first) (add-suc i k) ∙ (ap (next_of t (i + k)) before.0 ∙ on.0),
      ap (λ n. rests t bound n (run_from t first i)) (add-suc i k ∙ sym (add-one (i + k))) ∙ on.1,
    )

-- the run rests where it stands still, and not before
module _ (stopping : Stopping) (t : Tamper) (first : State) (bound : ℕ) where
  abbrev stop : ℕ
  stop = first_stop t first bound

  abbrev not_running : ℕ → Bool
  not_running i = not (is_running (run_from t first i).status)

  stopped_from : (i : ℕ) → stop < bound → stop ≤ i → not_running i ≡ true
  stopped_from i early after =
      let whole : stop + (i - stop) ≡ i = omega arith in
      not_from_false _ (ap (λ n. is_running (run_from t first n).status) (sym whole) ∙ stays_stopped stopping t first stop (i - stop) (first_stop_stopped t first bound early))

  running_before : (i : ℕ) → i < stop → not_running i ≡ false
  running_before i before = not_from_true _ (first_stop_running t first bound i before)

  stop_cases : (stop < bound) ⊎ (stop ≡ bound)
  stop_cases = let most = first_stop_most t first bound in ⊎_elim inl (λ late. inr (omega arith)) (cases_lt stop bound)

  -- of a tamper that changes the state of one step
  abbrev pub late : ℕ → ℕ
  late at = later_of at bound stop

  abbrev pub rests_late : ℕ → ℕ → Bool
  rests_late at i = not_running i && (leb at i || ltb bound at)

  pub late_rests : (at : ℕ) → (rests_late at (late at) ≡ true) ⊎ (late at ≡ bound)
  late_rests at = ⊎_elim
      (λ within. let l : late at ≡ max at stop = rw (le-leb at bound within) refl in
      ⊎_elim
      (λ early. inl (ap (rests_late at) l ∙ and_from _ _ (stopped_from (max at stop) early (omega arith)) (or_left _ _ (le-leb at (max at stop) (omega arith)))))
      (λ none. inr (l ∙ omega arith))
      stop_cases)
      (λ beyond. let l : late at ≡ stop = rw (lt-leb at bound beyond) refl in
      ⊎_elim
      (λ early. inl (ap (rests_late at) l ∙ and_from _ _ (stopped_from stop early (omega arith)) (or_right _ _ (lt-ltb bound at beyond))))
      (λ none. inr (l ∙ none))
      stop_cases)
      (order at)
    where
      order : (at : ℕ) → (at ≤ bound) ⊎ (bound < at)
      order at = ⊎_elim inr inl (cases_lt bound at)

  pub late_first : (at k : ℕ) → k < late at → rests_late at k ≡ false
  late_first at k before = ⊎_elim (λ early. and_left _ _ (running_before k early)) (λ past. after past) (cases_lt k stop)
    where
      after : stop ≤ k → rests_late at k ≡ false
      after past = ⊎_elim
          (λ beyond. let l : late at ≡ stop = rw (lt-leb at bound beyond) refl in absurd (omega arith))
          (λ within. let l : late at ≡ max at stop = rw (le-leb at bound within) refl in
          and_right _ _ (or_from _ _ (lt-leb at k (omega arith)) (le-ltb bound at within)))
          (cases_lt bound at)

  pub late_most : (at : ℕ) → late at ≤ bound
  late_most at = let most = first_stop_most t first bound in ⊎_elim
      (λ beyond. let l : late at ≡ stop = rw (lt-leb at bound beyond) refl in omega arith)
      (λ within. let l : late at ≡ max at stop = rw (le-leb at bound within) refl in omega arith)
      (cases_lt bound at)

pub still_most : Stopping → (t : Tamper) (first : State) (bound : ℕ) → still t first bound ≤ bound
still_most stopping Untouched first bound = first_stop_most Untouched first bound
still_most stopping (Flip at addr mask) first bound = late_most stopping (Flip at addr mask) first bound at
still_most stopping (Register at reg value) first bound = late_most stopping (Register at reg value) first bound at
still_most stopping (Early steps) first bound = let most = first_stop_most (Early steps) first bound in omega arith

pub still_rests : Stopping → (t : Tamper) (first : State) (bound : ℕ) → (rests t bound (still t first bound) (run_from t first (still t first bound)) ≡ true) ⊎ (still t first bound ≡ bound)
still_rests stopping Untouched first bound = ⊎_elim (λ early. inl (stopped_from stopping Untouched first bound (first_stop Untouched first bound) early (omega arith))) inr (stop_cases stopping Untouched first bound)
still_rests stopping (Flip at addr mask) first bound = late_rests stopping (Flip at addr mask) first bound at
still_rests stopping (Register at reg value) first bound = late_rests stopping (Register at reg value) first bound at
still_rests stopping (Early steps) first bound = ⊎_elim
    (λ ends. inl (or_right _ _ (le-leb steps (min steps (first_stop (Early steps) first bound)) (omega arith))))
    (λ stops. let here : min steps (first_stop (Early steps) first bound) ≡ first_stop (Early steps) first bound = omega arith in ⊎_elim
    (λ early. inl (or_left _ _ (ap (not_running stopping (Early steps) first bound) here ∙ stopped_from stopping (Early steps) first bound (first_stop (Early steps) first bound) early (omega arith))))
    (λ none. inr (here ∙ none))
    (stop_cases stopping (Early steps) first bound))
    (⊎_elim inr inl (cases_lt (first_stop (Early steps) first bound) steps))

pub still_first : Stopping → (t : Tamper) (first : State) (bound k : ℕ) → k < still t first bound → rests t bound k (run_from t first k) ≡ false
still_first stopping Untouched first bound k before = running_before stopping Untouched first bound k before
still_first stopping (Flip at addr mask) first bound k before = late_first stopping (Flip at addr mask) first bound at k before
still_first stopping (Register at reg value) first bound k before = late_first stopping (Register at reg value) first bound at k before
still_first stopping (Early steps) first bound k before = or_from _ _ (running_before stopping (Early steps) first bound k (omega arith)) (lt-leb steps k (omega arith))

-- from there on the run stands still
pub stands : Stopping → (t : Tamper) (first : State) (bound i : ℕ) → still t first bound ≤ i → i ≤ bound → run_from t first i ≡ run_from t first (still t first bound)
stands stopping t first bound i after within = ⊎_elim
    (λ rest.
    let whole : still t first bound + (i - still t first bound) ≡ i = omega arith in
    ap (run_from t first) (sym whole) ∙ (run_rests stopping t first bound (still t first bound) (i - still t first bound) rest (omega arith)).0)
    (λ last. ap (run_from t first) (omega arith))
    (still_rests stopping t first bound)

-- and where a run rests or ends for the first time is the step from which it stands still
pub still_found : Stopping → (t : Tamper) (first : State) (bound i : ℕ) → i ≤ bound → ((k : ℕ) → k < i → rests t bound k (run_from t first k) ≡ false) → (rests t bound i (run_from t first i) ≡ true) ⊎ (i ≡ bound) → still t first bound ≡ i
still_found stopping t first bound i within before ends = ⊎_elim
    (λ same. same)
    (λ other. ⊎_elim
    (λ less. ⊎_elim (λ rest. absurd (both_ways _ (before (still t first bound) less) rest)) (λ last. absurd (omega arith)) (still_rests stopping t first bound))
    (λ more. ⊎_elim (λ rest. absurd (both_ways _ (still_first stopping t first bound i more) rest)) (λ last. let most = still_most stopping t first bound in absurd (omega arith)) ends)
    other)
    (cases_order (still t first bound) i)
