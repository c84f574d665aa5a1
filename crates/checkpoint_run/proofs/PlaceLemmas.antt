-- Where the checkpoint with a number is found.
use Rattle.std.proofs.Common.{◌≡◌, ℕ, zero, suc, ◌+◌, ◌-◌, ◌*◌, ◌/◌, ◌%◌, ◌<◌, ◌≤◌, min, leb, cond, List, [], ◌∷◌, ◌++◌, length, slice_get, Some, refl, sym, ap, ◌∙◌, ⊎_elim, arith}
use Rattle.std.proofs.lemmas.Bool.{cases_lt, le-leb, lt-leb}
use Rattle.std.proofs.lemmas.List.{length-append}
use Rattle.std.proofs.Math.Nat.{lt_of_mul-lt-mul_right, mul-le-mul_right, le-div_iff_mul-le, div-add-mod'}
use Rattle.rv_step.specs.State.{State}
use Rattle.checkpoint_run.specs.Keeping.{step_at, found_at, IsFound, AreFound, NoneBeyond, IsPushed}
use Rattle.checkpoint_run.specs.declared.checkpoint.Checkpoint.{Checkpoint}

-- what stands at a place
pub there : (cs : List Checkpoint) (k : ℕ) → k < length cs → (x : Checkpoint) × (slice_get cs k ≡ Some x) × (x.step ≡ step_at cs k)
there [] k below = absurd (omega arith)
there (x ∷ cs) zero below = (x, refl, refl)
there (x ∷ cs) (suc k) below = there cs k (omega arith)

pub step_before : (cs ys : List Checkpoint) (k : ℕ) → k < length cs → step_at (cs ++ ys) k ≡ step_at cs k
step_before [] ys k below = absurd (omega arith)
step_before (x ∷ cs) ys zero below = refl
step_before (x ∷ cs) ys (suc k) below = step_before cs ys k (omega arith)

pub step_seam : (cs ys : List Checkpoint) (y : Checkpoint) → step_at (cs ++ y ∷ ys) (length cs) ≡ y.step
step_seam [] ys y = refl
step_seam (x ∷ cs) ys y = step_seam cs ys y

pub length_pushed : (cs new : List Checkpoint) (step : ℕ) → IsPushed cs new step → length new ≡ length cs + 1
length_pushed cs new step pushed = ap length pushed.pushed ∙ length-append cs (pushed.checkpoint ∷ [])

pub step_kept : (cs new : List Checkpoint) (step : ℕ) → IsPushed cs new step → (k : ℕ) → k < length cs → step_at new k ≡ step_at cs k
step_kept cs new step pushed k below = ap (λ xs. step_at xs k) pushed.pushed ∙ step_before cs (pushed.checkpoint ∷ []) k below

pub step_pushed : (cs new : List Checkpoint) (step : ℕ) → IsPushed cs new step → step_at new (length cs) ≡ step
step_pushed cs new step pushed = ap (λ xs. step_at xs (length cs)) pushed.pushed ∙ (step_seam cs [] pushed.checkpoint ∙ pushed.step_is)

-- one more at the next multiple
pub spaced_pushed : (every : ℕ) (cs new : List Checkpoint) (step : ℕ) → ((k : ℕ) → k < length cs → step_at cs k ≡ k * every) → IsPushed cs new step → step ≡ length cs * every → (k : ℕ) → k < length new → step_at new k ≡ k * every
spaced_pushed every cs new step spaced pushed next k below =
    let len = length_pushed cs new step pushed in
    ⊎_elim
    (λ before. step_kept cs new step pushed k before ∙ spaced k before)
    (λ past. let last : k ≡ length cs = omega arith in
    ap (step_at new) last ∙ (step_pushed cs new step pushed ∙ (next ∙ ap (λ n. n * every) (sym last))))
    (cases_lt k (length cs))

-- there is a checkpoint at each multiple up to the last one, and the run stands still from the last one up to a step
pub record Covers (every : ℕ) (step : ℕ) (run : ℕ → State) (cs : List Checkpoint) : Type 0 where
  pub some : 0 < length cs
  pub steps : (k : ℕ) → k < length cs → step_at cs k ≡ k * every
  pub below : (length cs - 1) * every < step
  pub last : (c : ℕ) → length cs - 1 ≤ c → c * every < step → run ((length cs - 1) * every) ≡ run (c * every)

-- a number below as many multiples as there are checkpoints
number_below : (c n every : ℕ) → c * every < n * every → c < n
number_below c n every less = lt_of_mul-lt-mul_right every less

-- where the next multiple isn't reached
pub covers_near : (every step : ℕ) (run : ℕ → State) (cs : List Checkpoint) → 0 < length cs → ((k : ℕ) → k < length cs → step_at cs k ≡ k * every) → step ≤ length cs * every → (length cs - 1) * every < step → Covers every step run cs
covers_near every step run cs some steps near below = record {
  some = some;
  steps = steps;
  below = below;
  last = λ c least below. let less = number_below c (length cs) every (omega arith) in ap (λ k. run (k * every)) (omega arith);
}

-- where the last one has the state of the whole stretch
pub covers_far : (every step at due : ℕ) (run : ℕ → State) (cs new : List Checkpoint) → ((k : ℕ) → k < length cs → step_at cs k ≡ k * every) → IsPushed cs new due → due ≡ length cs * every → at ≤ due
    → ((j : ℕ) → at ≤ j → j < step → run j ≡ run at) → due < step → Covers every step run new
covers_far every step at due run cs new steps pushed next after quiet before =
    let len = length_pushed cs new due pushed in
    let last : length new - 1 ≡ length cs = omega arith in
    record {
      some = omega arith;
      steps = spaced_pushed every cs new due steps pushed next;
      below = let here = ap (λ k. k * every) last in omega arith;
      last = λ c least below.
          let more = mul-le-mul_right every least in
          let here = ap (λ k. k * every) last in
          quiet ((length new - 1) * every) (omega arith) (omega arith) ∙ sym (quiet (c * every) (omega arith) below);
    }

-- a place whose checkpoint has the run's state
found_by : (cs : List Checkpoint) (every : ℕ) (run : ℕ → State) (c k : ℕ) → found_at cs every c ≡ k → k < length cs → run (step_at cs k) ≡ run (c * every) → IsFound cs every run c
found_by cs every run c k is below same =
    let x = there cs k below in
    record {
      found = x.0;
      there = ap (slice_get cs) is ∙ x.1;
      same = ap run x.2 ∙ same;
    }

-- the place is the last one up to the number if the step there isn't beyond, and else the one before
at_last : (cs : List Checkpoint) (every c k : ℕ) → min (length cs - 1) c ≡ k → step_at cs k ≤ c * every → found_at cs every c ≡ k
at_last cs every c k is low =
    ap (λ n. cond (leb (step_at cs n) (c * every)) n (n - 1)) is ∙ ap (λ b. cond b k (k - 1)) (le-leb (step_at cs k) (c * every) low)

before_last : (cs : List Checkpoint) (every c k : ℕ) → min (length cs - 1) c ≡ k → c * every < step_at cs k → found_at cs every c ≡ k - 1
before_last cs every c k is high =
    ap (λ n. cond (leb (step_at cs n) (c * every)) n (n - 1)) is ∙ ap (λ b. cond b k (k - 1)) (lt-leb (step_at cs k) (c * every) high)

-- each checkpoint before the step is found
pub found_before : (every step : ℕ) (run : ℕ → State) (cs : List Checkpoint) → Covers every step run cs → (c : ℕ) → c * every < step → IsFound cs every run c
found_before every step run cs covers c below =
    let some = covers.some in
    ⊎_elim
    (λ within.
    let here = covers.steps c within in
    found_by cs every run c c (at_last cs every c c (omega arith) (omega arith)) within (ap run here))
    (λ past.
    let place : length cs - 1 < length cs = omega arith in
    let here = covers.steps (length cs - 1) place in
    let least : length cs - 1 ≤ c = omega arith in
    let more = mul-le-mul_right every least in
    found_by cs every run c (length cs - 1) (at_last cs every c (length cs - 1) (omega arith) (omega arith)) place (ap run here ∙ covers.last c least below))
    (cases_lt c (length cs))

-- and if one more is added at the step, each up to the step
pub found_pushed : (every step : ℕ) (run : ℕ → State) (cs new : List Checkpoint) → Covers every step run cs → IsPushed cs new step → AreFound new every step run
found_pushed every step run cs new covers pushed c within =
    let some = covers.some in
    let beyond = covers.below in
    let len = length_pushed cs new step pushed in
    ⊎_elim
    (λ before.
    let here = step_kept cs new step pushed c before ∙ covers.steps c before in
    found_by new every run c c (at_last new every c c (omega arith) (omega arith)) (omega arith) (ap run here))
    (λ past.
    let end = step_pushed cs new step pushed in
    let last : min (length new - 1) c ≡ length cs = omega arith in
    ⊎_elim
    (λ earlier.
    let place : length cs - 1 < length cs = omega arith in
    let here = step_kept cs new step pushed (length cs - 1) place ∙ covers.steps (length cs - 1) place in
    found_by new every run c (length cs - 1) (before_last new every c (length cs) last (omega arith)) (omega arith) (ap run here ∙ covers.last c (omega arith) earlier))
    (λ late. found_by new every run c (length cs) (at_last new every c (length cs) last (omega arith)) (omega arith) (ap run (omega arith)))
    (cases_lt (c * every) step))
    (cases_lt c (length cs))

-- HOW MANY there are, and how far they go

-- of those at the multiples none is beyond a step that the last one isn't beyond
spaced_below : (every step : ℕ) (cs : List Checkpoint) → ((k : ℕ) → k < length cs → step_at cs k ≡ k * every) → (length cs - 1) * every ≤ step → NoneBeyond cs step
spaced_below every step cs steps low k within =
    let here = steps k within in
    let least : k ≤ length cs - 1 = omega arith in
    let more = mul-le-mul_right every least in
    omega arith

spaced_many : (every step n : ℕ) → 0 < every → (n - 1) * every ≤ step → n ≤ step / every + 1
spaced_many every step n spaced low =
    let few : n - 1 ≤ step / every = (le-div_iff_mul-le spaced).1 low in
    omega arith

pub below_covered : (every step : ℕ) (run : ℕ → State) (cs : List Checkpoint) → Covers every (step + 1) run cs → NoneBeyond cs step
below_covered every step run cs covers = spaced_below every step cs covers.steps (omega (arith, covers.below))

pub many_covered : (every step : ℕ) (run : ℕ → State) (cs : List Checkpoint) → 0 < every → Covers every (step + 1) run cs → length cs ≤ step / every + 1
many_covered every step run cs spaced covers = spaced_many every step (length cs) spaced (omega (arith, covers.below))

pub below_before : (every step : ℕ) (run : ℕ → State) (cs : List Checkpoint) → Covers every step run cs → NoneBeyond cs step
below_before every step run cs covers = spaced_below every step cs covers.steps (omega (arith, covers.below))

pub many_before : (every step : ℕ) (run : ℕ → State) (cs : List Checkpoint) → 0 < every → Covers every step run cs → length cs ≤ step / every + 1
many_before every step run cs spaced covers = spaced_many every step (length cs) spaced (omega (arith, covers.below))

-- and if one more is added at the step, a multiple
pub below_pushed : (every step : ℕ) (run : ℕ → State) (cs new : List Checkpoint) → Covers every step run cs → IsPushed cs new step → NoneBeyond new step
below_pushed every step run cs new covers pushed k within =
    let len = length_pushed cs new step pushed in
    ⊎_elim
    (λ before.
    let here = step_kept cs new step pushed k before in
    let low = below_before every step run cs covers k before in
    omega arith)
    (λ past.
    let last : k ≡ length cs = omega arith in
    let here = ap (step_at new) last ∙ step_pushed cs new step pushed in
    omega arith)
    (cases_lt k (length cs))

pub many_pushed : (every step : ℕ) (run : ℕ → State) (cs new : List Checkpoint) → Covers every step run cs → IsPushed cs new step → step % every ≡ 0 → length new ≤ step / every + 1
many_pushed every step run cs new covers pushed whole =
    let len = length_pushed cs new step pushed in
    let parts = div-add-mod' step every in
    let beyond = covers.below in
    let is : step ≡ step / every * every = omega arith in
    let few : length cs - 1 < step / every = number_below (length cs - 1) (step / every) every (omega arith) in
    omega arith
