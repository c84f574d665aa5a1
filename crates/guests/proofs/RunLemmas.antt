-- One step by the word at pc and its effect, and runs made of runs.
use Rattle.std.proofs.Common.{◌≡◌, ℕ, zero, suc, ◌+◌, ◌-◌, ◌%◌, ◌≤◌, Option, true, false, refl, sym, ap, ◌∙◌, add-zero, add-suc, arith}
use Rattle.std.proofs.lemmas.Bool.{eq-eqb}
use Rattle.rd_base.specs.Status.{is_running}
use Rattle.rv_decode.specs.Reading.{reading_of}
use Rattle.rv_decode.specs.declared.instr.Instr.{Instr}
use Rattle.mem_plain.specs.Contents.{number_at}
use Rattle.rv_step.specs.State.{State}
use Rattle.rv_step.specs.NextEffect.{seen_of, effect_of_word, next_effect}
use Rattle.rv_step.specs.Step.{step, state_at, after_effect}
use Rattle.rv_step.specs.declared.effect.Effect.{Effect}

-- the effect of what a word reads as
abbrev pub effect_of : State → Option Instr → Effect
effect_of s read = effect_of_word (seen_of s) read

-- THE STEP of a state that is running at an aligned pc, where memory has a word w, which has an effect e
pub stepped : (s : State) (w : ℕ) (e : Effect) → is_running s.status ≡ true → s.pc % 4 ≡ 0 → number_at s.memory s.pc 4 ≡ w
    → effect_of s (reading_of w) ≡ e → step s ≡ after_effect s e
unfolding step next_effect
stepped s w e running aligned fetched does =
    rw (running, eq-eqb (s.pc % 4) 0 aligned) (ap (λ v. after_effect s (effect_of s (reading_of v))) fetched ∙ ap (after_effect s) does)

-- a state that has stopped stays
stopped-step : (s : State) → is_running s.status ≡ false → step s ≡ s
unfolding step next_effect
stopped-step s stopped = rw stopped refl

-- A RUN, AND THEN A RUN. Nothing below looks into the step
pub runs_on : (s : State) (n k : ℕ) → state_at s (n + k) ≡ state_at (state_at s n) k
runs_on s n zero = ap (state_at s) (add-zero n)
runs_on s n (suc k) = ap (state_at s) (add-suc n k) ∙ ap step (runs_on s n k)

pub then_runs : (s t u : State) (n k j : ℕ) → n + k ≡ j → state_at s n ≡ t → state_at t k ≡ u → state_at s j ≡ u
then_runs s t u n k j sum first second =
    ap (state_at s) (sym sum) ∙ (runs_on s n k ∙ (ap (λ v. state_at v k) first ∙ second))

-- THE END of a run: where it has stopped it is from then on
stopped-stays : (s : State) (k : ℕ) → is_running s.status ≡ false → state_at s k ≡ s
stopped-stays s zero stopped = refl
stopped-stays s (suc k) stopped = ap step (stopped-stays s k stopped) ∙ stopped-step s stopped

pub stays : (s t : State) (n m : ℕ) → state_at s n ≡ t → is_running t.status ≡ false → n ≤ m → state_at s m ≡ t
stays s t n m is stopped later =
    then_runs s t t n (m - n) m (omega arith) is (stopped-stays t (m - n) stopped)
