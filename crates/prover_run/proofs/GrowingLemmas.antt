-- A run puts out one byte a step at most.
use Rattle.std.proofs.Common.{◌≡◌, ℕ, zero, suc, ◌+◌, ◌≤◌, List, [], ◌∷◌, length, Bool, true, false, Option, Some, None, refl, ap, arith, length-append}
use Rattle.std.specs.Prelude.{◌==◌, nat_lt, if◌then◌else◌}
use Rattle.rd_base.specs.declared.tamper.Tamper.{Tamper}
use Rattle.rd_base.specs.declared.tamper.Tamper.TheVariants.{Untouched, Flip, Register, Early}
use Rattle.rv_step.specs.State.{State}
use Rattle.rv_step.specs.NextEffect.{seen_of, next_effect}
use Rattle.rv_step.specs.Step.{step, output_after, after_next}
use Rattle.rv_step.specs.declared.effect.Effect.{Effect}
use Rattle.rv_step.specs.declared.effect.Effect.TheVariants.{Write, Jump, Branch, Store, Put, Exit, Trap, Next}
use Rattle.checkpoint_run.specs.TamperedRun.{tampered, followed, flipped, with_value, run_from}
use Rattle.prover_run.specs.Growing.{OutputGrowsSlowly}

effect_grows : (output : List ℕ) (e : Effect) → length (output_after output e) ≤ length output + 1
effect_grows output (Put byte) = let both = length-append output (byte ∷ []) in omega arith
effect_grows output (Write rd value) = omega arith
effect_grows output (Jump rd target) = omega arith
effect_grows output (Branch target) = omega arith
effect_grows output (Store addr width value) = omega arith
effect_grows output (Exit code) = omega arith
effect_grows output (Trap code) = omega arith
effect_grows output Next = omega arith

next_grows : (s : State) (next : Option Effect) → length (after_next s next).output ≤ length s.output + 1
next_grows s (Some e) = effect_grows s.output e
next_grows s None = omega arith

step_grows : (s : State) → length (step s).output ≤ length s.output + 1
unfolding step
step_grows s = next_grows s (next_effect (seen_of s))

followed_grows : (t : Tamper) (i : ℕ) (s : State) → length (followed t i s).output ≤ length s.output + 1
followed_grows Untouched i s = step_grows s
followed_grows (Flip at addr mask) i s = step_grows s
followed_grows (Register at reg value) i s = step_grows s
followed_grows (Early steps) i s = by_test (nat_lt i steps)
  where
    by_test : (b : Bool) → length (if b then step s else s).output ≤ length s.output + 1
    by_test true = step_grows s
    by_test false = omega arith

-- a tamper changes no output
tampered_keeps : (t : Tamper) (i : ℕ) (s : State) → (tampered t i s).output ≡ s.output
tampered_keeps Untouched i s = refl
tampered_keeps (Flip at addr mask) i s = by_test (i == at)
  where
    by_test : (b : Bool) → (if b then flipped s addr mask else s).output ≡ s.output
    by_test true = refl
    by_test false = refl
tampered_keeps (Register at reg value) i s = by_test (i == at)
  where
    by_test : (b : Bool) → (if b then with_value s reg value else s).output ≡ s.output
    by_test true = refl
    by_test false = refl
tampered_keeps (Early steps) i s = refl

run_grows : (t : Tamper) (first : State) (i : ℕ) → length (run_from t first i).output ≤ length first.output + i
run_grows t first zero = omega arith
run_grows t first (suc i) =
    let before = run_grows t first i in
    let stepped = followed_grows t i (run_from t first i) in
    let same = ap (length {A = ℕ}) (tampered_keeps t (i + 1) (followed t i (run_from t first i))) in
    omega arith

pub outputs_grow : OutputGrowsSlowly
outputs_grow t s i =
    let grown = run_grows t (tampered t 0 s) i in
    let same = ap (length {A = ℕ}) (tampered_keeps t 0 s) in
    omega arith
