-- The program of the large workload: its blocks, its loop by induction, and its end. docs/GUESTS.md leads through this file.
use Rattle.std.proofs.Common.{◌≡◌, ◌≢◌, inl, inr, ℕ, zero, suc, ◌+◌, ◌-◌, ◌*◌, ◌/◌, ◌%◌, ◌^◌, ◌<◌, ◌≤◌, List, [], ◌∷◌, length, slice_index, refl, sym, ap, subst, ◌∙◌, arith}
use Rattle.std.proofs.lemmas.Bool.{eq-eqb, ne_eqb}
use Rattle.rd_base.specs.declared.status.Status.TheVariants.{Running}
use Rattle.rv_decode.specs.Reading.{reading_of}
use Rattle.mem_plain.specs.Contents.{Contents, no_bytes, byte_at, number_at, with_number, laid}
use Rattle.mem_plain.specs.Page.{number_in}
use Rattle.rv_step.specs.State.{State}
use Rattle.rv_step.specs.Loaded.{with_input}
use Rattle.rv_step.specs.Effect.{effect_with}
use Rattle.rv_step.specs.Step.{step, state_at, after_effect}
use Rattle.rv_step.specs.declared.effect.Effect.TheVariants.{Write, Next, Store, Exit}
use Rattle.workload.specs.Program.{program}
use Rattle.workload.specs.Workload.{input_of}
use Rattle.guests.specs.Guest.{HasBytes, HasPutOut}
use Rattle.guests.specs.Sum.{byte_total, summed_bytes, summing, InputsAreSummed, SeedsAreSummed}
use Rattle.guests.proofs.RunLemmas.{stepped, then_runs, stays}
use Rattle.guests.proofs.BytesLemmas.{StoredLaw, MemoryLaws, number-there, stored-keeps, laid-keeps, laid-there, laid-leaves, number-same}
use Rattle.guests.proofs.BlockLemmas.{block, carried, are_quiet}

-- the registers that the program uses, x5 to x8, x10 and x17, in a file of 32
abbrev pub registers : ℕ → ℕ → ℕ → ℕ → ℕ → ℕ → List ℕ
registers x5 x6 x7 x8 x10 x17 =
    0 ∷ 0 ∷ 0 ∷ 0 ∷ 0 ∷ x5 ∷ x6 ∷ x7 ∷ x8 ∷ 0 ∷ x10 ∷ 0 ∷ 0 ∷ 0 ∷ 0 ∷ 0 ∷ 0 ∷ x17
    ∷ 0 ∷ 0 ∷ 0 ∷ 0 ∷ 0 ∷ 0 ∷ 0 ∷ 0 ∷ 0 ∷ 0 ∷ 0 ∷ 0 ∷ 0 ∷ 0 ∷ []

-- it is running, about to carry out the instruction at pc
abbrev pub at : ℕ → List ℕ → Contents → List ℕ → State
at pc regs memory output = record { regs = regs; pc = pc; memory = memory; status = Running; output = output; version = 1; input = [] }

eighty : length program ≡ 80
unfolding program
eighty = refl

fetched : (m : Contents) (i w : ℕ) → HasBytes m 0x10000 program → i + 4 ≤ 80 → number_in program i 4 ≡ w → number_at m (0x10000 + i) 4 ≡ w
fetched m i w code within is = number-there m 0x10000 program i 4 code (omega (arith, eighty, within)) ∙ is

-- THE BLOCKS, AND BETWEEN THEM THE INSTRUCTIONS THAT TEST A VARIABLE: a branch on x6, a load and a store at an address in a register

module _ (m : Contents) (code : HasBytes m 0x10000 program) where
  opening : state_at (at 0x10000 (registers 0 0 0 0 0 0) m []) 5 ≡ at 0x10014 (registers 0x40000004 (number_at m 0x40000000 4 % 2 ^ 32) 0x20000 0 0 0) m []
  unfolding program reading_of effect_with carried are_quiet
  opening = block program 0x10000 (at 0x10000 (registers 0 0 0 0 0 0) m []) 5 code refl

  goes_on : (x5 x6 x7 x8 x10 : ℕ) → x6 ≢ 0 → step (at 0x10014 (registers x5 x6 x7 x8 x10 0) m []) ≡ at 0x10018 (registers x5 x6 x7 x8 x10 0) m []
  unfolding program reading_of effect_with
  goes_on x5 x6 x7 x8 x10 some = stepped (at 0x10014 (registers x5 x6 x7 x8 x10 0) m []) 0x02030063 Next refl refl (fetched m 20 0x02030063 code (omega arith) refl) (rw (ne_eqb x6 0 some) refl)

  loads_byte : (x5 x6 x7 x8 x10 b : ℕ) → x5 < 2 ^ 32 → byte_at m x5 ≡ b → b < 256 → step (at 0x10018 (registers x5 x6 x7 x8 x10 0) m []) ≡ at 0x1001c (registers x5 x6 x7 b x10 0) m []
  unfolding program reading_of effect_with
  loads_byte x5 x6 x7 x8 x10 b address is byte =
      let here : (x5 + 0) % 2 ^ 32 ≡ x5 = omega arith in
      let low : (b + 256 * 0) % 2 ^ 8 ≡ b = omega arith in
      stepped (at 0x10018 (registers x5 x6 x7 x8 x10 0) m []) 0x0002c403 (Write 8 b) refl refl (fetched m 24 0x0002c403 code (omega arith) refl)
      (rw (here, eq-eqb (x5 % 1) 0 (omega arith), is) (ap (Write 8) low))

  adds : (x5 x6 x7 x8 x10 : ℕ) → state_at (at 0x1001c (registers x5 x6 x7 x8 x10 0) m []) 1 ≡ at 0x10020 (registers x5 x6 x7 x8 ((x10 + x8) % 2 ^ 32) 0) m []
  unfolding program reading_of effect_with carried are_quiet
  adds x5 x6 x7 x8 x10 = block program 0x10000 (at 0x1001c (registers x5 x6 x7 x8 x10 0) m []) 1 code refl

  stores_sum : (x5 x6 x7 x8 x10 : ℕ) → x7 < 2 ^ 32 → x7 % 4 ≡ 0 → step (at 0x10020 (registers x5 x6 x7 x8 x10 0) m []) ≡ at 0x10024 (registers x5 x6 x7 x8 x10 0) (with_number m x7 4 x10) []
  unfolding program reading_of effect_with
  stores_sum x5 x6 x7 x8 x10 address aligned =
      let here : (x7 + 0) % 2 ^ 32 ≡ x7 = omega arith in
      stepped (at 0x10020 (registers x5 x6 x7 x8 x10 0) m []) 0x00a3a023 (Store x7 4 x10) refl refl (fetched m 32 0x00a3a023 code (omega arith) refl)
      (rw (here, eq-eqb (x7 % 4) 0 aligned) refl)

  turns_back : (x5 x6 x7 x8 x10 : ℕ) → state_at (at 0x10024 (registers x5 x6 x7 x8 x10 0) m []) 4
      ≡ at 0x10014 (registers ((x5 + 1) % 2 ^ 32) ((x6 + 4294967295) % 2 ^ 32) ((x7 + 4) % 2 ^ 32) x8 x10 0) m []
  unfolding program reading_of effect_with carried are_quiet
  turns_back x5 x6 x7 x8 x10 = block program 0x10000 (at 0x10024 (registers x5 x6 x7 x8 x10 0) m []) 4 code refl

  closing : (x5 x7 x8 sum : ℕ) → state_at (at 0x10014 (registers x5 0 x7 x8 sum 0) m []) 8
      ≡ after_effect (at 0x1004c (registers x5 0 x7 x8 0 93) m (sum % 256 ∷ sum / 256 % 256 ∷ [])) (Exit 0)
  unfolding program reading_of effect_with carried are_quiet
  closing x5 x7 x8 sum = block program 0x10000 (at 0x10014 (registers x5 0 x7 x8 sum 0) m []) 8 code refl

-- THE SUM SO FAR, of the first k bytes

pub so_far : List ℕ → ℕ → ℕ
so_far bytes zero = 0
so_far bytes (suc k) = so_far bytes k + slice_index bytes k

so_far-below : (bytes : List ℕ) (k : ℕ) → ((i : ℕ) → slice_index bytes i < 256) → so_far bytes k ≤ 255 * k
unfolding so_far
so_far-below bytes zero small = omega arith
so_far-below bytes (suc k) small =
    let before = so_far-below bytes k small in
    let byte = small k in
    omega arith

so_far-cons : (b : ℕ) (bytes : List ℕ) (k : ℕ) → so_far (b ∷ bytes) (suc k) ≡ b + so_far bytes k
unfolding so_far
so_far-cons b bytes zero = omega arith
so_far-cons b bytes (suc k) =
    let before = so_far-cons b bytes k in
    omega arith

so_far-total : (bytes : List ℕ) → so_far bytes (length bytes) ≡ byte_total bytes
unfolding so_far
so_far-total [] = refl
so_far-total (b ∷ bytes) = so_far-cons b bytes (length bytes) ∙ ap (λ n. b + n) (so_far-total bytes)

-- THE LOOP

-- before turn k: x5 is at byte k, x6 has how many are left, x7 is where the next sum goes, x8 has some byte, x10 has the sum so far
abbrev pub turning : List ℕ → Contents → ℕ → ℕ → State
turning input m k x8 = at 0x10014 (registers (0x40000004 + k) (length input - k) (0x20000 + 4 * k) x8 (so_far input k) 0) m []

-- program and input are where they were loaded
pub record Loaded (input : List ℕ) (m : Contents) : Type 0 where
  pub code : HasBytes m 0x10000 program
  pub bytes : HasBytes m 0x40000004 input

-- memory after turn k, which stores the next sum
abbrev pub with_sum : List ℕ → Contents → ℕ → Contents
with_sum input m k = with_number m (0x20000 + 4 * k) 4 (so_far input (suc k))

stays-loaded : StoredLaw → (input : List ℕ) (m : Contents) (k : ℕ) → length input ≤ 1048576 → k < length input → Loaded input m → Loaded input (with_sum input m k)
stays-loaded law input m k short left is = record {
  code = stored-keeps law m (0x20000 + 4 * k) 4 (so_far input (suc k)) 0x10000 program (inr (omega (arith, eighty))) is.code;
  bytes = stored-keeps law m (0x20000 + 4 * k) 4 (so_far input (suc k)) 0x40000004 input (inl (omega arith)) is.bytes;
}

-- four equations of registers are one of states
same-registers : (m : Contents) (x8 a a_is b b_is c c_is d d_is : ℕ) → a ≡ a_is → b ≡ b_is → c ≡ c_is → d ≡ d_is
    → at 0x10014 (registers a b c x8 d 0) m [] ≡ at 0x10014 (registers a_is b_is c_is x8 d_is 0) m []
same-registers m x8 a a_is b b_is c c_is d d_is ea eb ec ed =
    ap (λ v. at 0x10014 (registers v b c x8 d 0) m []) ea ∙ (ap (λ v. at 0x10014 (registers a_is v c x8 d 0) m []) eb
    ∙ (ap (λ v. at 0x10014 (registers a_is b_is v x8 d 0) m []) ec ∙ ap (λ v. at 0x10014 (registers a_is b_is c_is x8 v 0) m []) ed))

-- one turn is eight steps
turn : StoredLaw → (input : List ℕ) (m : Contents) (k x8 : ℕ) → length input ≤ 1048576 → ((i : ℕ) → slice_index input i < 256) → k < length input → Loaded input m
    → state_at (turning input m k x8) 8 ≡ turning input (with_sum input m k) (suc k) (slice_index input k)
unfolding so_far
turn law input m k x8 short small within is =
    let kept = stays-loaded law input m k short within is in
    let byte = small k in
    let bound = so_far-below input k small in
    let x5 = 0x40000004 + k in
    let x7 = 0x20000 + 4 * k in
    let b = slice_index input k in
    let sum = so_far input k in
    let next = so_far input (suc k) in
    let left = length input - k in
    let some : left ≢ 0 = (λ none. let no : ⊥ = omega arith in no) in
    let added : (sum + b) % 2 ^ 32 ≡ next = omega arith in
    let first = goes_on m is.code x5 left x7 x8 sum some in
    let second = ap step first ∙ loads_byte m is.code x5 left x7 x8 sum b (omega arith) (is.bytes k within) byte in
    let third = ap step second ∙ (adds m is.code x5 left x7 b sum ∙ ap (λ v. at 0x10020 (registers x5 left x7 b v 0) m []) added) in
    let fourth = ap step third ∙ stores_sum m is.code x5 left x7 b next (omega arith) (omega arith) in
    then_runs (turning input m k x8) (at 0x10024 (registers x5 left x7 b next 0) (with_sum input m k) []) (turning input (with_sum input m k) (suc k) b) 4 4 8 refl fourth
    (turns_back (with_sum input m k) kept.code x5 left x7 b next
    ∙ same-registers (with_sum input m k) b _ _ _ _ _ _ _ _ (omega arith) (omega arith) (omega arith) refl)

-- BEFORE THE LOOP

loaded_memory : List ℕ → Contents
loaded_memory input = with_input (laid no_bytes 0x10000 program) input

loaded : MemoryLaws → (input : List ℕ) → length input ≤ 1048576 → Loaded input (loaded_memory input)
unfolding loaded_memory
loaded laws input short =
    let m = with_number (laid no_bytes 0x10000 program) 0x40000000 4 (length input) in
    record {
      code = laid-keeps laws.laid m 0x40000004 input 0x10000 program (inr (omega (arith, eighty)))
          (stored-keeps laws.stored (laid no_bytes 0x10000 program) 0x40000000 4 (length input) 0x10000 program (inr (omega (arith, eighty))) (laid-there laws.laid no_bytes 0x10000 program));
      bytes = laid-there laws.laid m 0x40000004 input;
    }

counted : MemoryLaws → (input : List ℕ) → length input ≤ 1048576 → number_at (loaded_memory input) 0x40000000 4 ≡ length input
unfolding loaded_memory
counted laws input short =
    let m = with_number (laid no_bytes 0x10000 program) 0x40000000 4 (length input) in
    let back = laws.loaded_back (laid no_bytes 0x10000 program) 0x40000000 4 (length input) in
    number-same (loaded_memory input) m 0x40000000 4 (λ i below. laid-leaves laws.laid m 0x40000004 input 0x40000000 4 i (inr (omega arith)) below)
    ∙ back.whole (omega arith)

begins : MemoryLaws → (input : List ℕ) → length input ≤ 1048576 → state_at (summing input) 5 ≡ turning input (loaded_memory input) 0 0
unfolding loaded_memory so_far
begins laws input short =
    let m = loaded_memory input in
    let code = (loaded laws input short).code in
    let count = counted laws input short in
    let whole : number_at m 0x40000000 4 % 2 ^ 32 ≡ length input - 0 = rw count (omega arith) in
    opening m code ∙ ap (λ x6. at 0x10014 (registers 0x40000004 x6 0x20000 0 0 0) m []) whole

-- EVERY TURN

-- the state before turn k, with some memory that has program and input
pub record Turned (input : List ℕ) (k : ℕ) : Type 0 where
  pub memory : Contents
  pub x8 : ℕ
  pub is : state_at (summing input) (5 + 8 * k) ≡ turning input memory k x8
  pub has : Loaded input memory

turned : MemoryLaws → (input : List ℕ) → length input ≤ 1048576 → ((i : ℕ) → slice_index input i < 256) → (k : ℕ) → k ≤ length input → Turned input k
turned laws input short small zero within = record {
  memory = loaded_memory input;
  x8 = 0;
  is = begins laws input short;
  has = loaded laws input short;
}
turned laws input short small (suc k) within =
    let before = turned laws input short small k (omega arith) in
    let m = before.memory in record {
      memory = with_sum input m k;
      x8 = slice_index input k;
      is = then_runs (summing input) (turning input m k before.x8) (turning input (with_sum input m k) (suc k) (slice_index input k)) (5 + 8 * k) 8 (5 + 8 * suc k)
          (omega arith) before.is (turn laws.stored input m k before.x8 short small (omega arith) before.has);
      has = stays-loaded laws.stored input m k short (omega arith) before.has;
    }

-- BEHIND THE LOOP

abbrev ended : List ℕ → Contents → ℕ → State
ended input m x8 =
    let n = length input in
    let sum = so_far input n in
    after_effect (at 0x1004c (registers (0x40000004 + n) 0 (0x20000 + 4 * n) x8 0 93) m (sum % 256 ∷ sum / 256 % 256 ∷ [])) (Exit 0)

ends : (input : List ℕ) (m : Contents) (x8 : ℕ) → Loaded input m → state_at (turning input m (length input) x8) 8 ≡ ended input m x8
ends input m x8 is =
    let n = length input in
    let none : n - n ≡ 0 = omega arith in
    ap (λ x6. state_at (at 0x10014 (registers (0x40000004 + n) x6 (0x20000 + 4 * n) x8 (so_far input n) 0) m []) 8) none
    ∙ closing m is.code (0x40000004 + n) (0x20000 + 4 * n) x8 (so_far input n)

ended-sums : (input : List ℕ) (m : Contents) (x8 : ℕ) → HasPutOut (summed_bytes input) (ended input m x8)
ended-sums input m x8 = record {
  exited = refl;
  output = ap (λ sum. sum % 256 ∷ sum / 256 % 256 ∷ []) (so_far-total input);
}

-- THE LAWS

pub inputs_summed : MemoryLaws → InputsAreSummed
inputs_summed laws input short small steps enough =
    let n = length input in
    let last = turned laws input short small n (omega arith) in
    let final = ended input last.memory last.x8 in
    let there = then_runs (summing input) (turning input last.memory n last.x8) final (5 + 8 * n) 8 (13 + 8 * n) (omega arith) last.is (ends input last.memory last.x8 last.has) in
    subst (HasPutOut (summed_bytes input)) (sym (stays (summing input) final (13 + 8 * n) steps there refl enough)) (ended-sums input last.memory last.x8)

-- the input of a seed is short, and of bytes, as `workload` states it
pub seeds_summed : InputsAreSummed → ((seed : ℕ) → length (input_of seed) ≡ 4096) → ((seed k : ℕ) → slice_index (input_of seed) k < 256) → SeedsAreSummed
seeds_summed inputs size bytes seed steps enough =
    let is = size seed in
    inputs (input_of seed) (omega (arith, is)) (bytes seed) steps (omega (arith, is, enough))
