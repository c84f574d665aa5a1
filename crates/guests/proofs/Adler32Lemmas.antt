-- The Adler-32 program: its blocks, the two branches on a byte, its loop and its two ends.
use Rattle.std.proofs.Common.{◌≡◌, ◌≢◌, ⊎_elim, ℕ, zero, suc, ◌+◌, ◌-◌, ◌*◌, ◌/◌, ◌%◌, ◌^◌, ◌<◌, ◌≤◌, List, [], ◌∷◌, length, slice_index, false, refl, sym, ap, subst, ◌∙◌, arith}
use Rattle.std.specs.Prelude.{bit_and, slice_index_or}
use Rattle.std.proofs.lemmas.Bool.{cases_eq}
use Rattle.std.proofs.lemmas.List.{get_or_default, get_or_past}
use Rattle.std.proofs.lemmas.Nat.{and_mask}
use Rattle.std.proofs.lemmas.Bool.Decides.{nat_tests}
use Rattle.std.proofs.lemmas.Int.{ints}
use Rattle.rd_base.specs.Regs.{no_registers_set}
use Rattle.rd_base.specs.declared.status.Status.TheVariants.{Running}
use Rattle.rv_decode.specs.Reading.{reading_of}
use Rattle.mem_plain.specs.Contents.{Contents, number_at}
use Rattle.mem_plain.specs.Page.{number_in}
use Rattle.rv_step.specs.State.{State}
use Rattle.rv_step.specs.Arithmetic.{is_less_signed}
use Rattle.rv_step.specs.Effect.{effect_with}
use Rattle.rv_step.specs.Loaded.{started}
use Rattle.rv_step.specs.Step.{step, state_at, after_effect}
use Rattle.rv_step.specs.declared.effect.Effect.TheVariants.{Branch, Next, Exit}
use Rattle.guests.proofs.RunLemmas.{stepped, then_runs, stays}
use Rattle.guests.specs.Guest.{HasBytes, HasPutOut}
use Rattle.guests.specs.Adler32.{low_after, high_after, adler32_of}
use Rattle.guests.specs.Adler32File.{adler32_program, ProgramComputesAdler32}
use Rattle.guests.proofs.BytesLemmas.{number-there}
use Rattle.guests.proofs.BlockLemmas.{block, carried, are_quiet}

-- the registers that the program uses, x10 to x15 and x17, in a file with the return address and the stack's end
abbrev pub registers : ℕ → ℕ → ℕ → ℕ → ℕ → ℕ → ℕ → List ℕ
registers a0 a1 a2 a3 a4 a5 a7 =
    0 ∷ 0x1000c ∷ 0x30000000 ∷ 0 ∷ 0 ∷ 0 ∷ 0 ∷ 0 ∷ 0 ∷ 0 ∷ a0 ∷ a1 ∷ a2 ∷ a3 ∷ a4 ∷ a5 ∷ 0 ∷ a7
    ∷ 0 ∷ 0 ∷ 0 ∷ 0 ∷ 0 ∷ 0 ∷ 0 ∷ 0 ∷ 0 ∷ 0 ∷ 0 ∷ 0 ∷ 0 ∷ 0 ∷ []

abbrev pub at : ℕ → List ℕ → Contents → List ℕ → List ℕ → State
at pc regs memory input output = record { regs = regs; pc = pc; memory = memory; status = Running; output = output; version = 3; input = input }

-- a remainder by 65521 as the program takes it, by a product and a shift
abbrev pub reduced : ℕ → ℕ
reduced n = (n + (2 ^ 32 - n * 2147975281 / 2 ^ 32 / 2 ^ 15 * 65521 % 2 ^ 32)) % 2 ^ 32

pub reduced_is : (n : ℕ) → n < 2 ^ 32 → reduced n ≡ n % 65521
reduced_is n small = omega arith

not-negative : (b : ℕ) → b < 256 → is_less_signed b 0 ≡ false
not-negative b small = grind (arith, nat_tests, ints)

module _ (m : Contents) (code : HasBytes m 0x10000 adler32_program) (input : List ℕ) where
  pub opening : state_at (at 0x10000 no_registers_set m input []) 6
      ≡ at 0x10020 (registers (slice_index_or input 0 4294967295) 0 0 0 0 0 2) m input []
  unfolding adler32_program reading_of effect_with carried are_quiet
  opening = block adler32_program 0x10000 (at 0x10000 no_registers_set m input []) 6 code refl

  pub setting : (b : ℕ) → state_at (at 0x10024 (registers b 0 0 0 0 0 2) m input []) 8 ≡ at 0x10044 (registers b 1 1 0 2147975281 65521 2) m input []
  unfolding adler32_program reading_of effect_with carried are_quiet
  setting b = block adler32_program 0x10000 (at 0x10024 (registers b 0 0 0 0 0 2) m input []) 8 code refl

  pub body : (b number low high : ℕ) → state_at (at 0x10044 (registers b number low high 2147975281 65521 2) m input []) 13
      ≡ at 0x10078 (registers (slice_index_or input ((number + 0) % 2 ^ 32) 4294967295) ((number + 1) % 2 ^ 32) (reduced ((b + low) % 2 ^ 32))
      (reduced ((reduced ((b + low) % 2 ^ 32) + high) % 2 ^ 32)) 2147975281 65521 2) m input []
  unfolding adler32_program reading_of effect_with carried are_quiet
  body b number low high = block adler32_program 0x10000 (at 0x10044 (registers b number low high 2147975281 65521 2) m input []) 13 code refl

  pub closing : (number low high : ℕ) → state_at (at 0x10078 (registers 4294967295 number low high 2147975281 65521 2) m input []) 18
      ≡ after_effect (at 0x10010 (registers 0 number low high 2147975281 65521 93) m input (high / 256 % 256 ∷ bit_and high 255 % 256 ∷ low / 256 % 256 ∷ bit_and low 255 % 256 ∷ [])) (Exit 0)
  unfolding adler32_program reading_of effect_with carried are_quiet
  closing number low high = block adler32_program 0x10000 (at 0x10078 (registers 4294967295 number low high 2147975281 65521 2) m input []) 18 code refl

  pub closing-empty : state_at (at 0x10020 (registers 4294967295 0 0 0 0 0 2) m input []) 19
      ≡ after_effect (at 0x10010 (registers 0 0 1 0 0 0 93) m input (0 ∷ 0 ∷ 0 ∷ 1 ∷ [])) (Exit 0)
  unfolding adler32_program reading_of effect_with carried are_quiet
  closing-empty = block adler32_program 0x10000 (at 0x10020 (registers 4294967295 0 0 0 0 0 2) m input []) 19 code refl

-- THE TWO BRANCHES ON A BYTE

length-is : length adler32_program ≡ 192
unfolding adler32_program
length-is = refl

word-is : (m : Contents) (i w : ℕ) → HasBytes m 0x10000 adler32_program → i + 4 ≤ 192 → number_in adler32_program i 4 ≡ w → number_at m (0x10000 + i) 4 ≡ w
word-is m i w code within is = number-there m 0x10000 adler32_program i 4 code (omega (arith, length-is, within)) ∙ is

module _ (m : Contents) (code : HasBytes m 0x10000 adler32_program) (input : List ℕ) (b : ℕ) (small : b < 256) where
  blt-on : step (at 0x10020 (registers b 0 0 0 0 0 2) m input []) ≡ at 0x10024 (registers b 0 0 0 0 0 2) m input []
  unfolding adler32_program reading_of effect_with
  blt-on = stepped (at 0x10020 (registers b 0 0 0 0 0 2) m input []) 0x06054063 Next refl refl (word-is m 32 0x06054063 code (omega arith) refl) (rw (not-negative b small) refl)

  bge-on : (number low high : ℕ) → step (at 0x10078 (registers b number low high 2147975281 65521 2) m input []) ≡ at 0x10044 (registers b number low high 2147975281 65521 2) m input []
  unfolding adler32_program reading_of effect_with
  bge-on number low high = stepped (at 0x10078 (registers b number low high 2147975281 65521 2) m input []) 0xfc0556e3 (Branch 0x10044) refl refl
      (word-is m 120 0xfc0556e3 code (omega arith) refl) (rw (not-negative b small) refl)

-- ONE TURN

low-below : (bytes : List ℕ) (k : ℕ) → low_after bytes k < 65521
unfolding low_after
low-below bytes zero = omega arith
low-below bytes (suc k) = omega arith

high-below : (bytes : List ℕ) (k : ℕ) → high_after bytes k < 65521
unfolding high_after
high-below bytes zero = omega arith
high-below bytes (suc k) = omega arith

-- at the head of the loop with byte k, and behind its call for byte k + 1
abbrev pub heading : List ℕ → Contents → ℕ → State
heading input m k = at 0x10044 (registers (slice_index input k) (suc k) (low_after input k) (high_after input k) 2147975281 65521 2) m input []

abbrev pub behind : List ℕ → Contents → ℕ → ℕ → State
behind input m k a0 = at 0x10078 (registers a0 (suc (suc k)) (low_after input (suc k)) (high_after input (suc k)) 2147975281 65521 2) m input []

same-registers : (m : Contents) (input : List ℕ) (a a_is n n_is l l_is h h_is : ℕ) → a ≡ a_is → n ≡ n_is → l ≡ l_is → h ≡ h_is
    → at 0x10078 (registers a n l h 2147975281 65521 2) m input [] ≡ at 0x10078 (registers a_is n_is l_is h_is 2147975281 65521 2) m input []
same-registers m input a a_is n n_is l l_is h h_is ea en el eh =
    ap (λ v. at 0x10078 (registers v n l h 2147975281 65521 2) m input []) ea
    ∙ (ap (λ v. at 0x10078 (registers a_is v l h 2147975281 65521 2) m input []) en
    ∙ (ap (λ v. at 0x10078 (registers a_is n_is v h 2147975281 65521 2) m input []) el
    ∙ ap (λ v. at 0x10078 (registers a_is n_is l_is v 2147975281 65521 2) m input []) eh))

low-next : (b low : ℕ) → b < 256 → low < 65521 → reduced ((b + low) % 2 ^ 32) ≡ (low + b) % 65521
low-next b low small below =
    let sum : (b + low) % 2 ^ 32 ≡ low + b = omega arith in
    ap reduced sum ∙ reduced_is (low + b) (omega arith)

high-next : (l low high : ℕ) → l ≡ low → low < 65521 → high < 65521 → reduced ((l + high) % 2 ^ 32) ≡ (high + low) % 65521
high-next l low high is below small =
    let sum : (low + high) % 2 ^ 32 ≡ high + low = omega arith in
    ap (λ v. reduced ((v + high) % 2 ^ 32)) is ∙ (ap reduced sum ∙ reduced_is (high + low) (omega arith))

turn : (m : Contents) → HasBytes m 0x10000 adler32_program → (input : List ℕ) (k : ℕ) → length input ≤ 1048576 → ((i : ℕ) → slice_index input i < 256) → k < length input
    → state_at (heading input m k) 13 ≡ behind input m k (slice_index_or input (suc k) 4294967295)
unfolding low_after high_after
turn m code input k short small within =
    let b = slice_index input k in
    let low = low_after input k in
    let high = high_after input k in
    let l_is = low-next b low (small k) (low-below input k) in
    let number : (suc k + 0) % 2 ^ 32 ≡ suc k = omega arith in
    let following : (suc k + 1) % 2 ^ 32 ≡ suc (suc k) = omega arith in
    body m code input b (suc k) low high
    ∙ same-registers m input _ _ _ _ _ _ _ _ (ap (λ i. slice_index_or input i 4294967295) number) following l_is
    (high-next _ _ high l_is (low-below input (suc k)) (high-below input k))

-- THE RUN

module _ (m : Contents) (code : HasBytes m 0x10000 adler32_program) (input : List ℕ) (short : length input ≤ 1048576) (small : (i : ℕ) → slice_index input i < 256) where
  heads : (k : ℕ) → k < length input → state_at (started 3 m 0x10000 input) (15 + 14 * k) ≡ heading input m k
  unfolding low_after high_after
  heads zero within =
      let b = slice_index input 0 in
      let first : slice_index_or input 0 4294967295 ≡ b = get_or_default input 0 4294967295 0 within in
      let opened = opening m code input ∙ ap (λ v. at 0x10020 (registers v 0 0 0 0 0 2) m input []) first in
      let seven = ap step opened ∙ blt-on m code input b (small 0) in
      then_runs (started 3 m 0x10000 input) (at 0x10024 (registers b 0 0 0 0 0 2) m input []) (heading input m 0) 7 8 15 refl seven (setting m code input b)
  heads (suc k) within =
      let b = slice_index input (suc k) in
      let next : slice_index_or input (suc k) 4294967295 ≡ b = get_or_default input (suc k) 4294967295 0 within in
      let turned = turn m code input k short small (omega arith) ∙ ap (behind input m k) next in
      let back = ap step turned ∙ bge-on m code input b (small (suc k)) (suc (suc k)) (low_after input (suc k)) (high_after input (suc k)) in
      then_runs (started 3 m 0x10000 input) (heading input m k) (heading input m (suc k)) (15 + 14 * k) 14 (15 + 14 * suc k) (omega arith) (heads k (omega arith)) back

-- THE END

written : (n : ℕ) → n < 65521 → (n / 256 % 256 ≡ n / 256) × (bit_and n 255 % 256 ≡ n % 256)
written n small =
    let masked : bit_and n 255 ≡ n % 256 = and_mask n 8 in
    (omega arith, ap (λ v. v % 256) masked ∙ omega arith)

-- the output of four bytes is that of the two sums
out-is : (low high : ℕ) → low < 65521 → high < 65521
    → high / 256 % 256 ∷ bit_and high 255 % 256 ∷ low / 256 % 256 ∷ bit_and low 255 % 256 ∷ [] ≡ high / 256 ∷ high % 256 ∷ low / 256 ∷ low % 256 ∷ []
out-is low high low_small high_small =
    let l = written low low_small in
    let h = written high high_small in
    rw (h.0, h.1, l.0, l.1) refl

ends-empty : (m : Contents) → HasBytes m 0x10000 adler32_program → (input : List ℕ) (steps : ℕ) → length input ≡ 0 → 25 ≤ steps → HasPutOut (adler32_of input) (state_at (started 3 m 0x10000 input) steps)
unfolding low_after high_after
ends-empty m code input steps empty enough =
    let none : slice_index_or input 0 4294967295 ≡ 4294967295 = get_or_past input 0 4294967295 (omega (arith, empty)) in
    let opened = opening m code input ∙ ap (λ v. at 0x10020 (registers v 0 0 0 0 0 2) m input []) none in
    let final = after_effect (at 0x10010 (registers 0 0 1 0 0 0 93) m input (0 ∷ 0 ∷ 0 ∷ 1 ∷ [])) (Exit 0) in
    let ran = then_runs (started 3 m 0x10000 input) (at 0x10020 (registers 4294967295 0 0 0 0 0 2) m input []) final 6 19 25 refl opened (closing-empty m code input) in
    let sums : HasPutOut (adler32_of input) final = record { exited = refl; output = rw empty refl } in
    subst (HasPutOut (adler32_of input)) (sym (stays (started 3 m 0x10000 input) final 25 steps ran refl enough)) sums

ends-full : (m : Contents) → HasBytes m 0x10000 adler32_program → (input : List ℕ) (steps : ℕ) → length input ≤ 1048576 → ((i : ℕ) → slice_index input i < 256) → (k : ℕ) → suc k ≡ length input → 32 + 14 * suc k ≤ steps
    → HasPutOut (adler32_of input) (state_at (started 3 m 0x10000 input) steps)
ends-full m code input steps short small k last enough =
    let low = low_after input (suc k) in
    let high = high_after input (suc k) in
    let none : slice_index_or input (suc k) 4294967295 ≡ 4294967295 = get_or_past input (suc k) 4294967295 (omega arith) in
    let out = high / 256 % 256 ∷ bit_and high 255 % 256 ∷ low / 256 % 256 ∷ bit_and low 255 % 256 ∷ [] in
    let final = after_effect (at 0x10010 (registers 0 (suc (suc k)) low high 2147975281 65521 93) m input out) (Exit 0) in
    let head = heads m code input short small k (omega arith) in
    let turned = turn m code input k short small (omega arith) ∙ ap (behind input m k) none in
    let before = then_runs (started 3 m 0x10000 input) (heading input m k) (behind input m k 4294967295) (15 + 14 * k) 13 (28 + 14 * k) (omega arith) head turned in
    let ran = then_runs (started 3 m 0x10000 input) (behind input m k 4294967295) final (28 + 14 * k) 18 (46 + 14 * k) (omega arith) before (closing m code input (suc (suc k)) low high) in
    let sums : HasPutOut (adler32_of input) final = record { exited = refl; output = rw (sym last) (out-is low high (low-below input (suc k)) (high-below input (suc k))) } in
    subst (HasPutOut (adler32_of input)) (sym (stays (started 3 m 0x10000 input) final (46 + 14 * k) steps ran refl (omega arith))) sums

-- THE LAW

pub program_computes : ProgramComputesAdler32
program_computes m input code short small steps enough = ⊎_elim none some (cases_eq (length input) 0)
  where
    none : length input ≡ 0 → HasPutOut (adler32_of input) (state_at (started 3 m 0x10000 input) steps)
    none empty = ends-empty m code input steps empty (omega arith)

    some : length input ≢ 0 → HasPutOut (adler32_of input) (state_at (started 3 m 0x10000 input) steps)
    some full = ends-full m code input steps short small (length input - 1) (omega arith) (omega arith)
