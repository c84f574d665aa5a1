-- A block of instructions at once. A program is carried out on its own bytes, in place of memory, from a state whose registers may be
-- variables, so that it computes; that is the run, if memory has the program and nothing is stored on the way.
use Rattle.std.proofs.Common.{◌≡◌, ℕ, zero, suc, ◌+◌, ◌-◌, ◌%◌, ◌≤◌, List, length, eqb, Bool, true, false, ◌&&◌, nat_le, refl, sym, ap, subst, ◌∙◌, arith, true≢false}
use Rattle.std.proofs.lemmas.Bool.{and_parts}
use Rattle.std.proofs.lemmas.Bool.Decides.{nat_tests}
use Rattle.rd_base.specs.Status.{is_running}
use Rattle.rv_decode.specs.Reading.{reading_of}
use Rattle.mem_plain.specs.Contents.{Contents, number_at}
use Rattle.mem_plain.specs.Page.{number_in}
use Rattle.rv_step.specs.State.{State}
use Rattle.rv_step.specs.Step.{step, state_at, after_effect, memory_after}
use Rattle.rv_step.specs.declared.effect.Effect.{Effect}
use Rattle.rv_step.specs.declared.effect.Effect.TheVariants.{Write, Jump, Branch, Next, Store, Put, Exit, Trap}
use Rattle.guests.proofs.RunLemmas.{effect_of, stepped, runs_on}
use Rattle.guests.specs.Guest.{HasBytes}
use Rattle.guests.proofs.BytesLemmas.{number-there}

-- the effect of the word at pc, in a program that is at a base
abbrev pub effect_in : List ℕ → ℕ → State → Effect
effect_in bytes base s = effect_of s (reading_of (number_in bytes (s.pc - base) 4))

abbrev pub leaves_memory : Effect → Bool
leaves_memory (Store addr width value) = false
leaves_memory e = true

-- the state is running inside the program, and what it carries out stores nothing
abbrev pub is_quiet : List ℕ → ℕ → State → Bool
is_quiet bytes base s =
    is_running s.status && ((eqb (s.pc % 4) 0) && (nat_le base s.pc && (nat_le (s.pc + 4) (base + length bytes) && leaves_memory (effect_in bytes base s))))

-- so many instructions, and whether each is quiet
unfoldable pub carried : List ℕ → ℕ → State → ℕ → State
carried bytes base s zero = s
carried bytes base s (suc n) = carried bytes base (after_effect s (effect_in bytes base s)) n

unfoldable pub are_quiet : List ℕ → ℕ → State → ℕ → Bool
are_quiet bytes base s zero = true
are_quiet bytes base s (suc n) = is_quiet bytes base s && are_quiet bytes base (after_effect s (effect_in bytes base s)) n

memory-left : (m : Contents) (e : Effect) → leaves_memory e ≡ true → memory_after m e ≡ m
memory-left m (Write rd value) quiet = refl
memory-left m (Jump rd target) quiet = refl
memory-left m (Branch target) quiet = refl
memory-left m Next quiet = refl
memory-left m (Store addr width value) quiet = absurd (true≢false (sym quiet))
memory-left m (Put byte) quiet = refl
memory-left m (Exit code) quiet = refl
memory-left m (Trap code) quiet = refl

nat_le-holds : (a b : ℕ) → nat_le a b ≡ true → a ≤ b
nat_le-holds a b is = grind (arith, nat_tests)

eqb-holds : (a b : ℕ) → eqb a b ≡ true → a ≡ b
eqb-holds a b is = grind (arith, nat_tests)

one : (bytes : List ℕ) (base : ℕ) (s : State) → HasBytes s.memory base bytes → is_quiet bytes base s ≡ true
    → (step s ≡ after_effect s (effect_in bytes base s)) × (memory_after s.memory (effect_in bytes base s) ≡ s.memory)
one bytes base s has quiet =
    let kept = leaves_memory (effect_in bytes base s) in
    let to_test = nat_le (s.pc + 4) (base + length bytes) in
    let from_test = nat_le base s.pc in
    let aligned_test = eqb (s.pc % 4) 0 in
    let running = and_parts (is_running s.status) (aligned_test && (from_test && (to_test && kept))) quiet in
    let aligned = and_parts aligned_test (from_test && (to_test && kept)) running.1 in
    let from = and_parts from_test (to_test && kept) aligned.1 in
    let to = and_parts to_test kept from.1 in
    let at_least : base ≤ s.pc = nat_le-holds base s.pc from.0 in
    let at_most : s.pc + 4 ≤ base + length bytes = nat_le-holds (s.pc + 4) (base + length bytes) to.0 in
    let place : base + (s.pc - base) ≡ s.pc = omega arith in
    let fetched : number_at s.memory s.pc 4 ≡ number_in bytes (s.pc - base) 4 =
    ap (λ a. number_at s.memory a 4) (sym place) ∙ number-there s.memory base bytes (s.pc - base) 4 has (omega arith) in (
      stepped s (number_in bytes (s.pc - base) 4) (effect_in bytes base s) running.0 (eqb-holds (s.pc % 4) 0 aligned.0) fetched refl,
      memory-left s.memory (effect_in bytes base s) to.1,
    )

-- THE BLOCK: the run is what is carried out on the program's bytes
pub block : (bytes : List ℕ) (base : ℕ) (s : State) (n : ℕ) → HasBytes s.memory base bytes → are_quiet bytes base s n ≡ true → state_at s n ≡ carried bytes base s n
unfolding carried are_quiet
block bytes base s zero has quiet = refl
block bytes base s (suc n) has quiet =
    let parts = and_parts _ _ quiet in
    let here = one bytes base s has parts.0 in
    let next = after_effect s (effect_in bytes base s) in
    let first : suc n ≡ 1 + n = omega arith in
    ap (state_at s) first ∙ (runs_on s 1 n ∙ (ap (λ t. state_at t n) here.0
    ∙ block bytes base next n (subst (λ m. HasBytes m base bytes) (sym here.1) has) parts.1))
