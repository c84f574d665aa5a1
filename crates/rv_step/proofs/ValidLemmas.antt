-- A step keeps valid states: what instructions compute from words are words.
use Rattle.std.proofs.Common.{◌≡◌, ℕ, zero, suc, ◌+◌, ◌-◌, ◌*◌, ◌/◌, ◌%◌, ◌^◌, ◌<◌, ◌≤◌, ℤ, pos, negsuc, neg_ℤ, ◌*ℤ◌, ◌≤ℤ◌, List, [], ◌∷◌, ◌++◌, Option, Some, None, length, set, slice_index, eqb, cond, Bool, true, false, sym, ap, ◌∙◌, ⊎_elim, arith, get_or-set_same, get_or-set_other}
use Rattle.std.specs.Prelude.{unsigned_abs, int_div, int_rem, bit_and}
use Rattle.std.proofs.Math.ListN.{length-set}
use Rattle.std.proofs.Math.Nat.{div-le_self, mod-le, mul-le-mul}
use Rattle.std.proofs.lemmas.Bool.{cases_eq, cases_lt, eq-eqb, ne_eqb}
use Rattle.std.proofs.lemmas.Bool.Decides.{nat_tests}
use Rattle.std.proofs.lemmas.Int.{ints, unsigned_abs-mul}
use Rattle.std.proofs.lemmas.List.{set_past}
use Rattle.std.proofs.lemmas.Nat.{and_le_l, or_of_32, xor_of_32}
use Rattle.rd_base.specs.Scheme.{scheme_of}
use Rattle.rd_base.specs.declared.scheme.InputScheme.{InputScheme}
use Rattle.rd_base.specs.declared.scheme.InputScheme.TheVariants.{InMemory, Tree}
use Rattle.rd_base.specs.Regs.{with_register}
use Rattle.rd_base.specs.declared.status.Status.{Status}
use Rattle.rv_decode.specs.declared.instr.IType.{IType}
use Rattle.rv_decode.specs.declared.instr.ShiftType.{ShiftType}
use Rattle.rv_decode.specs.declared.instr.BType.{BType}
use Rattle.rv_decode.specs.declared.instr.SType.{SType}
use Rattle.rv_decode.specs.declared.instr.Instr.{Instr}
use Rattle.rv_decode.specs.declared.instr.Instr.TheVariants.{Lui, Auipc, Jal, Jalr, Beq, Bne, Blt, Bge, Bltu, Bgeu, Lb, Lh, Lw, Lbu, Lhu, Sb, Sh, Sw, Addi, Slti, Sltiu, Xori, Ori, Andi, Slli, Srli, Srai, Add, Sub, Sll, Slt, Sltu, Xor, Srl, Sra, Or, And, Mul, Mulh, Mulhsu, Mulhu, Div, Divu, Rem, Remu, Fence, Ecall, Ebreak}
use Rattle.mem_plain.specs.Contents.{Contents, number_at, with_number}
use Rattle.mem_plain.specs.Memory.{IsMemory}
use Rattle.rv_step.specs.Arithmetic.{signed, word, plus, flag, rounded_down, is_equal, is_different, is_less_signed, is_at_least_signed, is_less_unsigned, is_at_least_unsigned, by_low_five, shifted_left, shifted_right, shifted_right_signed, zero_extended, sign_extended, minus, product_high, product_high_signed_unsigned, product_high_unsigned, quotient, quotient_unsigned, remainder, remainder_unsigned, overflows}
use Rattle.rv_step.specs.Effect.{effect_with, jumps, branches, loads, stores, gives, calls, at_offset, x}
use Rattle.rv_step.specs.Offer.{byte_or_ones, offered}
use Rattle.rv_step.specs.State.{State}
use Rattle.rv_step.specs.Parts.{IsAccess}
use Rattle.rv_step.specs.Step.{step, regs_after, pc_after, memory_after, status_after, output_after, after_effect, following}
use Rattle.rv_step.specs.NextEffect.{effect_at}
use Rattle.rd_base.specs.Status.{HasWordCode}
use Rattle.rv_step.specs.Valid.{IsRegisterFile, IsValid}
use Rattle.rv_step.specs.declared.effect.Effect.{Effect}
use Rattle.rv_step.specs.declared.effect.Effect.TheVariants.{Write, Jump, Branch, Next, Store, Put, Exit, Trap}
use Rattle.rv_step.specs.Stores.{StoresAligned}
use Rattle.rv_step.proofs.PartsLemmas.{effect_aligned}
use Rattle.rv_step.proofs.StepLemmas.{by_effect}

abbrev pub IsWord : ℕ → Type 0
IsWord n = n < 2 ^ 32

-- a function of two words gives a word
abbrev GivesWords : (ℕ → ℕ → ℕ) → Type 0
GivesWords f = (a b : ℕ) → IsWord a → IsWord b → IsWord (f a b)

low_word : (n : ℕ) → IsWord (n % 2 ^ 32)
low_word n = omega arith

either_word : (b : Bool) (m n : ℕ) → IsWord m → IsWord n → IsWord (cond b m n)
either_word true m n first last = first
either_word false m n first last = last

-- the words of signed numbers that aren't too large
word_of_small : (z : ℤ) → unsigned_abs z < 2 ^ 32 → IsWord (word z)
word_of_small (pos n) small = small
word_of_small (negsuc n) small = omega arith

word_of_most : (z : ℤ) (most : ℕ) → z ≤ℤ pos most → most < 2 ^ 32 → IsWord (word z)
word_of_most (pos n) most at_most small = let below : n ≤ most = grind (arith, nat_tests, ints) in omega arith
word_of_most (negsuc n) most at_most small = omega arith

signed_small : (a : ℕ) → IsWord a → unsigned_abs (signed a) ≤ 2 ^ 31
signed_small a small = grind (arith, nat_tests)

rounded_small : (z : ℤ) (divisor : ℕ) → unsigned_abs (rounded_down z divisor) ≤ unsigned_abs z
rounded_small (pos n) divisor = div-le_self n divisor
rounded_small (negsuc n) divisor = omega (arith, div-le_self n divisor)

high_word_of : (z : ℤ) → unsigned_abs z < 2 ^ 64 → IsWord (word (rounded_down z (2 ^ 32)))
high_word_of (pos n) small = omega arith
high_word_of (negsuc n) small = omega arith

product_small : (y z : ℤ) → unsigned_abs y ≤ 2 ^ 31 → unsigned_abs z ≤ 2 ^ 32 → unsigned_abs (y *ℤ z) < 2 ^ 64
product_small y z first last =
    let bound : unsigned_abs y * unsigned_abs z ≤ 2 ^ 31 * 2 ^ 32 = mul-le-mul first last in
    omega (arith, unsigned_abs-mul y z, bound)

negated_small : (n : ℕ) → unsigned_abs (neg_ℤ (pos n)) ≤ n
negated_small zero = omega arith
negated_small (suc n) = omega arith

quotient_small : (y z : ℤ) → unsigned_abs (int_div y z) ≤ unsigned_abs y
quotient_small (pos a) (pos b) = div-le_self a b
quotient_small (pos a) (negsuc b) = omega (arith, negated_small (a / suc b), div-le_self a (suc b))
quotient_small (negsuc a) (pos b) = omega (arith, negated_small (suc a / b), div-le_self (suc a) b)
quotient_small (negsuc a) (negsuc b) = div-le_self (suc a) (suc b)

remainder_small : (y z : ℤ) → unsigned_abs (int_rem y z) ≤ unsigned_abs y
remainder_small (pos a) (pos b) = mod-le a b
remainder_small (pos a) (negsuc b) = mod-le a (suc b)
remainder_small (negsuc a) (pos b) = omega (arith, negated_small (suc a % b), mod-le (suc a) b)
remainder_small (negsuc a) (negsuc b) = omega (arith, negated_small (suc a % suc b), mod-le (suc a) (suc b))

-- each operation gives words
plus_word : GivesWords plus
plus_word a b first last = low_word (a + b)

minus_word : GivesWords minus
minus_word a b first last = low_word (a + (2 ^ 32 - b))

flag_word : (holds : Bool) → IsWord (flag holds)
flag_word true = omega arith
flag_word false = omega arith

shifted_left_word : GivesWords shifted_left
shifted_left_word a places first last = low_word (a * 2 ^ places)

shifted_right_word : GivesWords shifted_right
shifted_right_word a places first last = omega (arith, div-le_self a (2 ^ places))

shifted_right_signed_word : GivesWords shifted_right_signed
shifted_right_signed_word a places first last =
    word_of_small (rounded_down (signed a) (2 ^ places)) (omega (arith, rounded_small (signed a) (2 ^ places), signed_small a first))

by_low_five_word : (f : ℕ → ℕ → ℕ) → GivesWords f → GivesWords (by_low_five f)
by_low_five_word f words a b first last = words a (b % 32) first (omega arith)

and_word : GivesWords bit_and
and_word a b first last = omega (arith, and_le_l a b)

product_high_word : GivesWords product_high
product_high_word a b first last =
    high_word_of (signed a *ℤ signed b) (product_small (signed a) (signed b) (signed_small a first) (omega (arith, signed_small b last)))

product_high_signed_unsigned_word : GivesWords product_high_signed_unsigned
product_high_signed_unsigned_word a b first last =
    high_word_of (signed a *ℤ pos b) (product_small (signed a) (pos b) (signed_small a first) (omega arith))

product_high_unsigned_word : GivesWords product_high_unsigned
product_high_unsigned_word a b first last =
    let least : a ≤ 2 ^ 32 - 1 = omega arith in
    let other : b ≤ 2 ^ 32 - 1 = omega arith in
    let bound : a * b ≤ (2 ^ 32 - 1) * (2 ^ 32 - 1) = mul-le-mul least other in
    omega (arith, bound)

quotient_word : GivesWords quotient
quotient_word a b first last =
    either_word (eqb b 0) (2 ^ 32 - 1) _ (omega arith) (either_word (overflows a b) a _ first
    (word_of_small (int_div (signed a) (signed b)) (omega (arith, quotient_small (signed a) (signed b), signed_small a first))))

remainder_word : GivesWords remainder
remainder_word a b first last =
    either_word (eqb b 0) a _ first (either_word (overflows a b) 0 _ (omega arith)
    (word_of_small (int_rem (signed a) (signed b)) (omega (arith, remainder_small (signed a) (signed b), signed_small a first))))

quotient_unsigned_word : GivesWords quotient_unsigned
quotient_unsigned_word a b first last = either_word (eqb b 0) (2 ^ 32 - 1) (a / b) (omega arith) (omega (arith, div-le_self a b))

remainder_unsigned_word : GivesWords remainder_unsigned
remainder_unsigned_word a b first last = either_word (eqb b 0) a (a % b) first (omega (arith, mod-le a b))

sign_extended_byte : (n : ℕ) → IsWord (sign_extended 1 n)
sign_extended_byte n = grind (arith, nat_tests)

sign_extended_half : (n : ℕ) → IsWord (sign_extended 2 n)
sign_extended_half n = grind (arith, nat_tests)

-- what an effect hands on is a word, a byte or an access
abbrev pub Fits : Effect → Type 0
Fits (Write rd value) = IsWord value
Fits (Jump rd target) = IsWord target
Fits (Branch target) = IsWord target
Fits (Put byte) = byte < 256
Fits (Exit code) = IsWord code
Fits (Trap code) = IsWord code
Fits e = StoresAligned e

either_fits : (b : Bool) (e f : Effect) → Fits e → Fits f → Fits (cond b e f)
either_fits true e f first last = first
either_fits false e f first last = last

jumps_fit : (rd target : ℕ) → IsWord target → Fits (jumps rd target)
jumps_fit rd target small = either_fits (eqb (target % 4) 0) (Jump rd target) (Trap 0) small (omega arith)

branches_fit : (xs : List ℕ) (pc : ℕ) (b : BType) (holds : ℕ → ℕ → Bool) → Fits (branches xs pc b holds)
branches_fit xs pc b holds =
    let target = at_offset pc b.imm in
    either_fits (holds (x xs b.rs1) (x xs b.rs2)) _ Next (either_fits (eqb (target % 4) 0) (Branch target) (Trap 0) (omega arith) (omega arith)) tt

loads_fit : (xs : List ℕ) (read : ℕ → ℕ → ℕ) (width : ℕ) (i : IType) (extended : ℕ → ℕ) → ((n : ℕ) → IsWord (extended n)) → Fits (loads xs read width i extended)
loads_fit xs read width i extended words =
    let addr = at_offset (x xs i.rs1) i.imm in
    either_fits (eqb (addr % width) 0) (Write i.rd (extended (read addr width))) (Trap 4) (words (read addr width)) (omega arith)

-- what is offered are words
abbrev pub OffersWords : Option (ℕ → ℕ) → Type 0
OffersWords (Some byte) = (k : ℕ) → IsWord (byte k)
OffersWords None = Unit {0}

gives_fit : (offer : Option (ℕ → ℕ)) (argument : ℕ) → OffersWords offer → Fits (gives offer argument)
gives_fit (Some byte) argument words = words argument
gives_fit None argument words = omega arith

calls_fit : (offer : Option (ℕ → ℕ)) (number argument : ℕ) → OffersWords offer → IsWord argument → Fits (calls offer number argument)
calls_fit offer number argument words small =
    either_fits (eqb number 93) (Exit argument) _ small (either_fits (eqb number 1) (Put (argument % 256)) _ (omega arith)
    (either_fits (eqb number 2) (gives offer argument) (Trap 8) (gives_fit offer argument words) (omega arith)))

-- a store or a trap fits where the store is an access
stored_fits : (xs : List ℕ) (width : ℕ) (s : SType) → StoresAligned (stores xs width s) → Fits (stores xs width s)
stored_fits xs width s =
    let addr = at_offset (x xs s.rs1) s.imm in
    elim (eqb (addr % width) 0) as (λ aligned. StoresAligned (cond aligned (Store addr width (x xs s.rs2)) (Trap 6)) → Fits (cond aligned (Store addr width (x xs s.rs2)) (Trap 6))) [
      | true ↦ λ access. access
      | false ↦ λ _. omega arith
    ]

module _ (xs : List ℕ) (words : (r : ℕ) → slice_index xs r < 2 ^ 32) where
  of_imm : (i : IType) → IsWord (word i.imm)
  of_imm i = word_of_most i.imm 2047 i.imm_to (omega arith)

  of_shift : (i : ShiftType) → IsWord (word i.imm)
  of_shift i = word_of_most i.imm 31 i.imm_to (omega arith)

  pub effect_fits : (offer : Option (ℕ → ℕ)) → OffersWords offer → (pc : ℕ) (read : ℕ → ℕ → ℕ) (i : Instr) → StoresAligned (effect_with offer xs pc read i) → Fits (effect_with offer xs pc read i)
  unfolding effect_with
  effect_fits offer given pc read (Lui u) access = word_of_most u.imm 2147479552 u.imm_to (omega arith)
  effect_fits offer given pc read (Auipc u) access = low_word _
  effect_fits offer given pc read (Jal j) access = jumps_fit j.rd _ (low_word _)
  effect_fits offer given pc read (Jalr i) access = jumps_fit i.rd _ (omega arith)
  effect_fits offer given pc read (Beq b) access = branches_fit xs pc b is_equal
  effect_fits offer given pc read (Bne b) access = branches_fit xs pc b is_different
  effect_fits offer given pc read (Blt b) access = branches_fit xs pc b is_less_signed
  effect_fits offer given pc read (Bge b) access = branches_fit xs pc b is_at_least_signed
  effect_fits offer given pc read (Bltu b) access = branches_fit xs pc b is_less_unsigned
  effect_fits offer given pc read (Bgeu b) access = branches_fit xs pc b is_at_least_unsigned
  effect_fits offer given pc read (Lb i) access = loads_fit xs read 1 i (sign_extended 1) sign_extended_byte
  effect_fits offer given pc read (Lh i) access = loads_fit xs read 2 i (sign_extended 2) sign_extended_half
  effect_fits offer given pc read (Lw i) access = loads_fit xs read 4 i (zero_extended 4) (λ n. low_word n)
  effect_fits offer given pc read (Lbu i) access = loads_fit xs read 1 i (zero_extended 1) (λ n. omega arith)
  effect_fits offer given pc read (Lhu i) access = loads_fit xs read 2 i (zero_extended 2) (λ n. omega arith)
  effect_fits offer given pc read (Sb s) access = stored_fits xs 1 s access
  effect_fits offer given pc read (Sh s) access = stored_fits xs 2 s access
  effect_fits offer given pc read (Sw s) access = stored_fits xs 4 s access
  effect_fits offer given pc read (Addi i) access = plus_word _ _ (words i.rs1) (of_imm i)
  effect_fits offer given pc read (Slti i) access = flag_word (is_less_signed (x xs i.rs1) (word i.imm))
  effect_fits offer given pc read (Sltiu i) access = flag_word (is_less_unsigned (x xs i.rs1) (word i.imm))
  effect_fits offer given pc read (Xori i) access = xor_of_32 _ _ (words i.rs1) (of_imm i)
  effect_fits offer given pc read (Ori i) access = or_of_32 _ _ (words i.rs1) (of_imm i)
  effect_fits offer given pc read (Andi i) access = and_word _ _ (words i.rs1) (of_imm i)
  effect_fits offer given pc read (Slli i) access = shifted_left_word _ _ (words i.rs1) (of_shift i)
  effect_fits offer given pc read (Srli i) access = shifted_right_word _ _ (words i.rs1) (of_shift i)
  effect_fits offer given pc read (Srai i) access = shifted_right_signed_word _ _ (words i.rs1) (of_shift i)
  effect_fits offer given pc read (Add r) access = plus_word _ _ (words r.rs1) (words r.rs2)
  effect_fits offer given pc read (Sub r) access = minus_word _ _ (words r.rs1) (words r.rs2)
  effect_fits offer given pc read (Sll r) access = by_low_five_word shifted_left shifted_left_word _ _ (words r.rs1) (words r.rs2)
  effect_fits offer given pc read (Slt r) access = flag_word (is_less_signed (x xs r.rs1) (x xs r.rs2))
  effect_fits offer given pc read (Sltu r) access = flag_word (is_less_unsigned (x xs r.rs1) (x xs r.rs2))
  effect_fits offer given pc read (Xor r) access = xor_of_32 _ _ (words r.rs1) (words r.rs2)
  effect_fits offer given pc read (Srl r) access = by_low_five_word shifted_right shifted_right_word _ _ (words r.rs1) (words r.rs2)
  effect_fits offer given pc read (Sra r) access = by_low_five_word shifted_right_signed shifted_right_signed_word _ _ (words r.rs1) (words r.rs2)
  effect_fits offer given pc read (Or r) access = or_of_32 _ _ (words r.rs1) (words r.rs2)
  effect_fits offer given pc read (And r) access = and_word _ _ (words r.rs1) (words r.rs2)
  effect_fits offer given pc read (Mul r) access = low_word _
  effect_fits offer given pc read (Mulh r) access = product_high_word _ _ (words r.rs1) (words r.rs2)
  effect_fits offer given pc read (Mulhsu r) access = product_high_signed_unsigned_word _ _ (words r.rs1) (words r.rs2)
  effect_fits offer given pc read (Mulhu r) access = product_high_unsigned_word _ _ (words r.rs1) (words r.rs2)
  effect_fits offer given pc read (Div r) access = quotient_word _ _ (words r.rs1) (words r.rs2)
  effect_fits offer given pc read (Divu r) access = quotient_unsigned_word _ _ (words r.rs1) (words r.rs2)
  effect_fits offer given pc read (Rem r) access = remainder_word _ _ (words r.rs1) (words r.rs2)
  effect_fits offer given pc read (Remu r) access = remainder_unsigned_word _ _ (words r.rs1) (words r.rs2)
  effect_fits offer given pc read (Fence f) access = tt
  effect_fits offer given pc read Ecall access = calls_fit offer (x xs 17) (x xs 10) given (words 10)
  effect_fits offer given pc read Ebreak access = omega arith

-- a register file stays one
written_word : (xs : List ℕ) (r value k : ℕ) → ((k : ℕ) → IsWord (slice_index xs k)) → IsWord value → IsWord (slice_index (set xs r value) k)
written_word xs r value k words small = ⊎_elim
    (λ inside. ⊎_elim
    (λ same. omega (arith, ap (slice_index (set xs r value)) same ∙ get_or-set_same xs r value 0 inside))
    (λ apart. omega (arith, get_or-set_other xs r k value 0 apart, words k))
    (cases_eq k r))
    (λ outside. omega (arith, ap (λ ys. slice_index ys k) (set_past xs r value outside), words k))
    (cases_lt r (length xs))

written_file : (xs : List ℕ) (r value : ℕ) → IsRegisterFile xs → IsWord value → IsRegisterFile (with_register xs r value)
written_file xs r value file small = ⊎_elim
    (λ first. rw (eq-eqb r 0 first) file)
    (λ other. rw (ne_eqb r 0 other) (record {
      thirty_two = length-set xs r value ∙ file.thirty_two;
      words = λ k. written_word xs r value k file.words small;
      zero_first = get_or-set_other xs r 0 value 0 (λ same. other (sym same)) ∙ file.zero_first;
    }))
    (cases_eq r 0)

regs_valid : (xs : List ℕ) (pc : ℕ) (e : Effect) → IsRegisterFile xs → Fits e → IsRegisterFile (regs_after xs pc e)
regs_valid xs pc (Write rd value) file fits = written_file xs rd value file fits
regs_valid xs pc (Jump rd target) file fits = written_file xs rd (following pc) file (low_word _)
regs_valid xs pc e file fits = file

pc_valid : (pc : ℕ) (e : Effect) → IsWord pc → Fits e → IsWord (pc_after pc e)
pc_valid pc (Jump rd target) small fits = fits
pc_valid pc (Branch target) small fits = fits
pc_valid pc (Exit code) small fits = small
pc_valid pc (Trap code) small fits = small
pc_valid pc e small fits = low_word _

status_valid : (status : Status) (e : Effect) → HasWordCode status → Fits e → HasWordCode (status_after status e)
status_valid status (Exit code) word_code fits = fits
status_valid status (Trap code) word_code fits = fits
status_valid status e word_code fits = word_code

one_more_fits : (output : List ℕ) (byte : ℕ) → ((k : ℕ) → slice_index output k < 256) → byte < 256 → (k : ℕ) → slice_index (output ++ byte ∷ []) k < 256
one_more_fits [] byte bytes fits zero = fits
one_more_fits [] byte bytes fits (suc k) = omega arith
one_more_fits (b ∷ output) byte bytes fits zero = bytes 0
one_more_fits (b ∷ output) byte bytes fits (suc k) = one_more_fits output byte (λ j. bytes (suc j)) fits k

output_valid : (output : List ℕ) (e : Effect) → ((k : ℕ) → slice_index output k < 256) → Fits e → (k : ℕ) → slice_index (output_after output e) k < 256
output_valid output (Put byte) bytes fits k = one_more_fits output byte bytes fits k
output_valid output e bytes fits k = bytes k

-- what a stored number leaves a memory
abbrev pub StaysMemory : Type 0
StaysMemory = (m : Contents) (a width value : ℕ) → IsMemory m → a + width ≤ 2 ^ 32 → IsMemory (with_number m a width value)

access_ends : (addr width : ℕ) → IsAccess addr width → addr + width ≤ 2 ^ 32
access_ends addr width access = ⊎_elim
    (λ one. omega (arith, one, access.2))
    (λ more. ⊎_elim
    (λ two. let even : addr % 2 ≡ 0 = ap (λ w. addr % w) (sym two) ∙ access.1 in omega (arith, two, even, access.2))
    (λ four. let even : addr % 4 ≡ 0 = ap (λ w. addr % w) (sym four) ∙ access.1 in omega (arith, four, even, access.2))
    more)
    access.0

memory_valid : StaysMemory → (m : Contents) (e : Effect) → IsMemory m → Fits e → IsMemory (memory_after m e)
memory_valid stays m (Store addr width value) memory fits = stays m addr width value memory (access_ends addr width fits)
memory_valid stays m e memory fits = memory

after_valid : StaysMemory → (s : State) (e : Effect) → IsValid s → Fits e → IsValid (after_effect s e)
after_valid stays s e valid fits = record {
  regs = regs_valid s.regs s.pc e valid.regs fits;
  pc = pc_valid s.pc e valid.pc fits;
  memory = memory_valid stays s.memory e valid.memory fits;
  status = status_valid s.status e valid.status fits;
  output = output_valid s.output e valid.output fits;
  version = valid.version;
  input = valid.input;
  short = valid.short;
}

-- the bytes of an input, and all ones behind them, are words
input_words : (input : List ℕ) → ((k : ℕ) → slice_index input k < 256) → (k : ℕ) → IsWord (byte_or_ones input k)
input_words [] bytes k = omega arith
input_words (b ∷ input) bytes zero = omega (arith, bytes 0)
input_words (b ∷ input) bytes (suc k) = input_words input (λ j. bytes (suc j)) k

offered_words : (input : InputScheme) (byte : ℕ → ℕ) → ((k : ℕ) → IsWord (byte k)) → OffersWords (offered input byte)
offered_words Tree byte words = words
offered_words InMemory byte words = tt

pub step_valid : StaysMemory → (s : State) → IsValid s → IsValid (step s)
step_valid stays s valid = by_effect (λ t _. IsValid t) s
    (λ i.
    let read = λ (addr width : ℕ). number_at s.memory addr width in
    let given = offered_words (scheme_of s.version).input (byte_or_ones s.input) (input_words s.input valid.input) in
    after_valid stays s (effect_at s i) valid (effect_fits s.regs valid.regs.words (offered (scheme_of s.version).input (byte_or_ones s.input)) given s.pc read i (effect_aligned s i)))
    (λ code small. after_valid stays s (Trap code) valid small)
    valid
