-- What an instruction reads and writes of the registers.
use Rattle.std.proofs.Common.{◌≡◌, ℕ, ◌-◌, ◌%◌, ◌<◌, List, ◌++◌, map, Option, Some, None, eqb, cond, Bool, true, false, true≢false, not, ◌&&◌, refl, sym, ap, ◌∙◌, arith, ⊎_elim}
use Rattle.std.specs.Prelude.{bit_and, bit_or, bit_xor}
use Rattle.std.proofs.lemmas.Bool.{cases_eq, ne_eqb}
use Rattle.rd_base.specs.declared.scheme.InputScheme.{InputScheme}
use Rattle.rv_decode.specs.declared.instr.RType.{RType}
use Rattle.rv_decode.specs.declared.instr.IType.{IType}
use Rattle.rv_decode.specs.declared.instr.ShiftType.{ShiftType}
use Rattle.rv_decode.specs.declared.instr.BType.{BType}
use Rattle.rv_decode.specs.declared.instr.SType.{SType}
use Rattle.rv_decode.specs.Fields.{fields_of}
use Rattle.rv_decode.specs.declared.fields.Fields.{Fields}
use Rattle.rv_decode.specs.declared.fields.Fields.TheVariants as fields
use Rattle.rv_decode.specs.declared.instr.Instr.{Instr}
use Rattle.rv_decode.specs.declared.instr.Instr.TheVariants.{Jal, Jalr, Beq, Bne, Blt, Bge, Bltu, Bgeu, Lb, Lh, Lw, Lbu, Lhu, Sb, Sh, Sw, Addi, Slti, Sltiu, Xori, Ori, Andi, Slli, Srli, Srai, Add, Sub, Sll, Slt, Sltu, Xor, Srl, Sra, Or, And, Mul, Mulh, Mulhsu, Mulhu, Div, Divu, Rem, Remu, Fence, Ecall, Ebreak}
use Rattle.rv_step.specs.Arithmetic.{word, plus, minus, is_equal, is_different, is_less_signed, is_at_least_signed, is_less_unsigned, is_at_least_unsigned, set_less_signed, set_less_unsigned, by_low_five, shifted_left, shifted_right, shifted_right_signed, zero_extended, sign_extended, product_low, product_high, product_high_signed_unsigned, product_high_unsigned, quotient, quotient_unsigned, remainder, remainder_unsigned}
use Rattle.rv_step.specs.Effect.{effect_with, jumps, branches_to, branches, loads, stores, of_number, of_places, of_two, gives, calls, at_offset, x}
use Rattle.rv_step.specs.Parts.{needed_in, load_needed, store_needed, call_needed}
use Rattle.rv_step.specs.declared.asked.Need.TheVariants as need
use Rattle.rv_step.specs.declared.effect.Effect.{Effect}
use Rattle.rv_step.specs.declared.effect.Effect.TheVariants.{Write, Jump, Branch, Next, Store, Put, Exit, Trap}
use Rattle.rv_step.specs.Named.{first_in, second_in, written_in, first_source, second_source, destination, if_named, once, named, named_by, AreRegisters, WritesOnly}

-- two register files in which the registers that an instruction reads hold the same: by the shapes of instructions
module _ (offer : Option (ℕ → ℕ)) (xs ys : List ℕ) (pc : ℕ) (read : ℕ → ℕ → ℕ) where
  two-same : (r : RType) (f : ℕ → ℕ → ℕ) → x xs r.rs1 ≡ x ys r.rs1 → x xs r.rs2 ≡ x ys r.rs2 → of_two xs r f ≡ of_two ys r f
  two-same r f first second = ap (λ a. Write r.rd (f a (x xs r.rs2))) first ∙ ap (λ b. Write r.rd (f (x ys r.rs1) b)) second

  number-same : (i : IType) (f : ℕ → ℕ → ℕ) → x xs i.rs1 ≡ x ys i.rs1 → of_number xs i f ≡ of_number ys i f
  number-same i f first = ap (λ a. Write i.rd (f a (word i.imm))) first

  places-same : (i : ShiftType) (f : ℕ → ℕ → ℕ) → x xs i.rs1 ≡ x ys i.rs1 → of_places xs i f ≡ of_places ys i f
  places-same i f first = ap (λ a. Write i.rd (f a (word i.imm))) first

  branch-same : (b : BType) (holds : ℕ → ℕ → Bool) → x xs b.rs1 ≡ x ys b.rs1 → x xs b.rs2 ≡ x ys b.rs2 → branches xs pc b holds ≡ branches ys pc b holds
  branch-same b holds first second =
      ap (λ a. branches_to (at_offset pc b.imm) (holds a (x xs b.rs2))) first ∙ ap (λ c. branches_to (at_offset pc b.imm) (holds (x ys b.rs1) c)) second

  load-same : (width : ℕ) (i : IType) (extended : ℕ → ℕ) → x xs i.rs1 ≡ x ys i.rs1 → loads xs read width i extended ≡ loads ys read width i extended
  load-same width i extended first =
      ap (λ a. cond (eqb (at_offset a i.imm % width) 0) (Write i.rd (extended (read (at_offset a i.imm) width))) (Trap 4)) first

  store-same : (width : ℕ) (s : SType) → x xs s.rs1 ≡ x ys s.rs1 → x xs s.rs2 ≡ x ys s.rs2 → stores xs width s ≡ stores ys width s
  store-same width s first second =
      ap (λ a. cond (eqb (at_offset a s.imm % width) 0) (Store (at_offset a s.imm) width (x xs s.rs2)) (Trap 6)) first
      ∙ ap (λ b. cond (eqb (at_offset (x ys s.rs1) s.imm % width) 0) (Store (at_offset (x ys s.rs1) s.imm) width b) (Trap 6)) second

  pub effect-reads : (i : Instr) → x xs (first_source i) ≡ x ys (first_source i) → x xs (second_source i) ≡ x ys (second_source i) → effect_with offer xs pc read i ≡ effect_with offer ys pc read i
  unfolding effect_with fields_of first_source second_source
  effect-reads (Jalr i) first second = ap (λ a. jumps i.rd (at_offset a i.imm - at_offset a i.imm % 2)) first
  effect-reads (Beq b) first second = branch-same b is_equal first second
  effect-reads (Bne b) first second = branch-same b is_different first second
  effect-reads (Blt b) first second = branch-same b is_less_signed first second
  effect-reads (Bge b) first second = branch-same b is_at_least_signed first second
  effect-reads (Bltu b) first second = branch-same b is_less_unsigned first second
  effect-reads (Bgeu b) first second = branch-same b is_at_least_unsigned first second
  effect-reads (Lb i) first second = load-same 1 i (sign_extended 1) first
  effect-reads (Lh i) first second = load-same 2 i (sign_extended 2) first
  effect-reads (Lw i) first second = load-same 4 i (zero_extended 4) first
  effect-reads (Lbu i) first second = load-same 1 i (zero_extended 1) first
  effect-reads (Lhu i) first second = load-same 2 i (zero_extended 2) first
  effect-reads (Sb s) first second = store-same 1 s first second
  effect-reads (Sh s) first second = store-same 2 s first second
  effect-reads (Sw s) first second = store-same 4 s first second
  effect-reads (Addi i) first second = number-same i plus first
  effect-reads (Slti i) first second = number-same i set_less_signed first
  effect-reads (Sltiu i) first second = number-same i set_less_unsigned first
  effect-reads (Xori i) first second = number-same i bit_xor first
  effect-reads (Ori i) first second = number-same i bit_or first
  effect-reads (Andi i) first second = number-same i bit_and first
  effect-reads (Slli i) first second = places-same i shifted_left first
  effect-reads (Srli i) first second = places-same i shifted_right first
  effect-reads (Srai i) first second = places-same i shifted_right_signed first
  effect-reads (Add r) first second = two-same r plus first second
  effect-reads (Sub r) first second = two-same r minus first second
  effect-reads (Sll r) first second = two-same r (by_low_five shifted_left) first second
  effect-reads (Slt r) first second = two-same r set_less_signed first second
  effect-reads (Sltu r) first second = two-same r set_less_unsigned first second
  effect-reads (Xor r) first second = two-same r bit_xor first second
  effect-reads (Srl r) first second = two-same r (by_low_five shifted_right) first second
  effect-reads (Sra r) first second = two-same r (by_low_five shifted_right_signed) first second
  effect-reads (Or r) first second = two-same r bit_or first second
  effect-reads (And r) first second = two-same r bit_and first second
  effect-reads (Mul r) first second = two-same r product_low first second
  effect-reads (Mulh r) first second = two-same r product_high first second
  effect-reads (Mulhsu r) first second = two-same r product_high_signed_unsigned first second
  effect-reads (Mulhu r) first second = two-same r product_high_unsigned first second
  effect-reads (Div r) first second = two-same r quotient first second
  effect-reads (Divu r) first second = two-same r quotient_unsigned first second
  effect-reads (Rem r) first second = two-same r remainder first second
  effect-reads (Remu r) first second = two-same r remainder_unsigned first second
  effect-reads Ecall first second = ap (λ number. calls offer number (x xs 10)) first ∙ ap (calls offer (x ys 17)) second
  effect-reads i first second = refl

  load_need-same : (width : ℕ) (i : IType) → x xs i.rs1 ≡ x ys i.rs1 → load_needed xs width i ≡ load_needed ys width i
  load_need-same width i first = ap (λ a. cond (eqb (at_offset a i.imm % width) 0) (need.Load (at_offset a i.imm) width) (need.Trap 4)) first

  store_need-same : (width : ℕ) (s : SType) → x xs s.rs1 ≡ x ys s.rs1 → x xs s.rs2 ≡ x ys s.rs2 → store_needed xs width s ≡ store_needed ys width s
  store_need-same width s first second =
      ap (λ a. cond (eqb (at_offset a s.imm % width) 0) (need.Store (at_offset a s.imm) width (x xs s.rs2)) (need.Trap 6)) first
      ∙ ap (λ b. cond (eqb (at_offset (x ys s.rs1) s.imm % width) 0) (need.Store (at_offset (x ys s.rs1) s.imm) width b) (need.Trap 6)) second

  pub needed-reads : (input : InputScheme) (i : Instr) → x xs (first_source i) ≡ x ys (first_source i) → x xs (second_source i) ≡ x ys (second_source i) → needed_in input xs i ≡ needed_in input ys i
  unfolding needed_in fields_of first_source second_source
  needed-reads input (Lb i) first second = load_need-same 1 i first
  needed-reads input (Lh i) first second = load_need-same 2 i first
  needed-reads input (Lw i) first second = load_need-same 4 i first
  needed-reads input (Lbu i) first second = load_need-same 1 i first
  needed-reads input (Lhu i) first second = load_need-same 2 i first
  needed-reads input (Sb s) first second = store_need-same 1 s first second
  needed-reads input (Sh s) first second = store_need-same 2 s first second
  needed-reads input (Sw s) first second = store_need-same 4 s first second
  needed-reads input Ecall first second = ap (λ number. call_needed input number (x xs 10)) first ∙ ap (call_needed input (x ys 17)) second
  needed-reads input i first second = refl

-- three registers without x0, each at its first place
module _ (f g : ℕ → ℕ) (zeros : f 0 ≡ g 0) where
  part : (t : Bool) (r : ℕ) (rest : List ℕ) → map f (if_named t r ++ rest) ≡ map g (if_named t r ++ rest) → (t ≡ true → f r ≡ g r) × (map f rest ≡ map g rest)
  part true r rest same = (λ _. cc, cc)
  part false r rest same = (λ test. absurd (true≢false (sym test)), same)

  last : (t : Bool) (r : ℕ) → map f (if_named t r) ≡ map g (if_named t r) → t ≡ true → f r ≡ g r
  last true r same test = cc
  last false r same test = absurd (true≢false (sym test))

  at-zero : (r : ℕ) → r ≡ 0 → f r ≡ g r
  at-zero r is = ap f is ∙ (zeros ∙ ap g (sym is))

  at-same : (r q : ℕ) → r ≡ q → f q ≡ g q → f r ≡ g r
  at-same r q same e = ap f same ∙ (e ∙ ap g (sym same))

  pub once-same : (a b c : ℕ) → map f (once a b c) ≡ map g (once a b c) → (f a ≡ g a) × (f b ≡ g b) × (f c ≡ g c)
  once-same a b c same =
      let first = part (not (eqb a 0)) a (if_named (not (eqb b 0) && not (eqb b a)) b ++ if_named (not (eqb c 0) && not (eqb c a) && not (eqb c b)) c) same in
      let second = part (not (eqb b 0) && not (eqb b a)) b (if_named (not (eqb c 0) && not (eqb c a) && not (eqb c b)) c) first.1 in
      let third = last (not (eqb c 0) && not (eqb c a) && not (eqb c b)) c second.1 in
      let fa : f a ≡ g a = ⊎_elim (at-zero a) (λ n. first.0 (rw (ne_eqb a 0 n) refl)) (cases_eq a 0) in
      let fb : f b ≡ g b = ⊎_elim (at-zero b) (λ n. ⊎_elim (λ e. at-same b a e fa) (λ m. second.0 (rw (ne_eqb b 0 n, ne_eqb b a m) refl)) (cases_eq b a)) (cases_eq b 0) in
      let fc : f c ≡ g c = ⊎_elim (at-zero c) (λ n. ⊎_elim (λ e. at-same c a e fa) (λ m. ⊎_elim (λ e. at-same c b e fb)
      (λ k. third (rw (ne_eqb c 0 n, ne_eqb c a m, ne_eqb c b k) refl)) (cases_eq c b)) (cases_eq c a)) (cases_eq c 0) in
      (fa, fb, fc)

module _ (xs ys : List ℕ) (zeros : x xs 0 ≡ x ys 0) where
  pub named-effect : (offer : Option (ℕ → ℕ)) (pc : ℕ) (read : ℕ → ℕ → ℕ) (i : Instr) → map (x xs) (named i) ≡ map (x ys) (named i) → effect_with offer xs pc read i ≡ effect_with offer ys pc read i
  unfolding named
  named-effect offer pc read i same =
      let all = once-same (x xs) (x ys) zeros (first_source i) (second_source i) (destination i) same in
      effect-reads offer xs ys pc read i all.0 all.1

  pub named-needed : (input : InputScheme) (i : Instr) → map (x xs) (named i) ≡ map (x ys) (named i) → needed_in input xs i ≡ needed_in input ys i
  unfolding named
  named-needed input i same =
      let all = once-same (x xs) (x ys) zeros (first_source i) (second_source i) (destination i) same in
      needed-reads None xs ys 0 (λ _ _. 0) input i all.0 all.1

-- what is written
either-writes : (r : ℕ) (b : Bool) (p q : Effect) → WritesOnly r p → WritesOnly r q → WritesOnly r (cond b p q)
either-writes r true p q first last = first
either-writes r false p q first last = last

gives-write : (offer : Option (ℕ → ℕ)) (argument : ℕ) → WritesOnly 10 (gives offer argument)
gives-write (Some byte) argument = refl
gives-write None argument = tt

jumps-write : (rd target : ℕ) → WritesOnly rd (jumps rd target)
jumps-write rd target = either-writes rd (eqb (target % 4) 0) (Jump rd target) (Trap 0) refl tt

module _ (offer : Option (ℕ → ℕ)) (xs : List ℕ) (pc : ℕ) (read : ℕ → ℕ → ℕ) where
  branches-write : (r : ℕ) (b : BType) (holds : ℕ → ℕ → Bool) → WritesOnly r (branches xs pc b holds)
  branches-write r b holds =
      let target = at_offset pc b.imm in
      either-writes r (holds (x xs b.rs1) (x xs b.rs2)) _ Next (either-writes r (eqb (target % 4) 0) (Branch target) (Trap 0) tt tt) tt

  loads-write : (width : ℕ) (i : IType) (extended : ℕ → ℕ) → WritesOnly i.rd (loads xs read width i extended)
  loads-write width i extended =
      let addr = at_offset (x xs i.rs1) i.imm in
      either-writes i.rd (eqb (addr % width) 0) (Write i.rd (extended (read addr width))) (Trap 4) refl tt

  stores-write : (r width : ℕ) (s : SType) → WritesOnly r (stores xs width s)
  stores-write r width s =
      let addr = at_offset (x xs s.rs1) s.imm in
      either-writes r (eqb (addr % width) 0) (Store addr width (x xs s.rs2)) (Trap 6) tt tt

  calls-write : (number argument : ℕ) → WritesOnly 10 (calls offer number argument)
  calls-write number argument =
      either-writes 10 (eqb number 93) (Exit argument) _ tt (either-writes 10 (eqb number 1) (Put (argument % 256)) _ tt (either-writes 10 (eqb number 2) (gives offer argument) (Trap 8) (gives-write offer argument) tt))

  pub effect-writes : (i : Instr) → WritesOnly (destination i) (effect_with offer xs pc read i)
  unfolding effect_with fields_of destination
  effect-writes (Jal i) = jumps-write i.rd _
  effect-writes (Jalr i) = jumps-write i.rd _
  effect-writes (Beq b) = branches-write 0 b is_equal
  effect-writes (Bne b) = branches-write 0 b is_different
  effect-writes (Blt b) = branches-write 0 b is_less_signed
  effect-writes (Bge b) = branches-write 0 b is_at_least_signed
  effect-writes (Bltu b) = branches-write 0 b is_less_unsigned
  effect-writes (Bgeu b) = branches-write 0 b is_at_least_unsigned
  effect-writes (Lb i) = loads-write 1 i (sign_extended 1)
  effect-writes (Lh i) = loads-write 2 i (sign_extended 2)
  effect-writes (Lw i) = loads-write 4 i (zero_extended 4)
  effect-writes (Lbu i) = loads-write 1 i (zero_extended 1)
  effect-writes (Lhu i) = loads-write 2 i (zero_extended 2)
  effect-writes (Sb s) = stores-write 0 1 s
  effect-writes (Sh s) = stores-write 0 2 s
  effect-writes (Sw s) = stores-write 0 4 s
  effect-writes (Fence f) = tt
  effect-writes Ecall = calls-write (x xs 17) (x xs 10)
  effect-writes Ebreak = tt
  effect-writes i = refl

-- each field names a register
first_in-below : (fields : Fields) → first_in fields < 32
first_in-below (fields.R i) = i.rs1_is_register
first_in-below (fields.I i) = i.rs1_is_register
first_in-below (fields.Shift i) = i.rs1_is_register
first_in-below (fields.S i) = i.rs1_is_register
first_in-below (fields.B i) = i.rs1_is_register
first_in-below fields.Call = omega arith
first_in-below fields = omega arith

second_in-below : (fields : Fields) → second_in fields < 32
second_in-below (fields.R i) = i.rs2_is_register
second_in-below (fields.S i) = i.rs2_is_register
second_in-below (fields.B i) = i.rs2_is_register
second_in-below fields.Call = omega arith
second_in-below fields = omega arith

written_in-below : (fields : Fields) → written_in fields < 32
written_in-below (fields.R i) = i.rd_is_register
written_in-below (fields.I i) = i.rd_is_register
written_in-below (fields.Shift i) = i.rd_is_register
written_in-below (fields.U i) = i.rd_is_register
written_in-below (fields.J i) = i.rd_is_register
written_in-below fields.Call = omega arith
written_in-below fields = omega arith

pub first-below : (i : Instr) → first_source i < 32
unfolding first_source
first-below i = first_in-below (fields_of i)

pub second-below : (i : Instr) → second_source i < 32
unfolding second_source
second-below i = second_in-below (fields_of i)

pub last-below : (i : Instr) → destination i < 32
unfolding destination
last-below i = written_in-below (fields_of i)

registers-after : (t : Bool) (r : ℕ) (rest : List ℕ) → r < 32 → AreRegisters rest → AreRegisters (if_named t r ++ rest)
registers-after true r rest low others = (low, others)
registers-after false r rest low others = others

registers-alone : (t : Bool) (r : ℕ) → r < 32 → AreRegisters (if_named t r)
registers-alone true r low = (low, tt)
registers-alone false r low = tt

once-registers : (a b c : ℕ) → a < 32 → b < 32 → c < 32 → AreRegisters (once a b c)
once-registers a b c first second last =
    let t = not (eqb c 0) && not (eqb c a) && not (eqb c b) in
    let u = not (eqb b 0) && not (eqb b a) in
    registers-after (not (eqb a 0)) a (if_named u b ++ if_named t c) first (registers-after u b (if_named t c) second (registers-alone t c last))

pub names-below : (o : Option Instr) → AreRegisters (named_by o)
unfolding named
names-below None = tt
names-below (Some i) = once-registers (first_source i) (second_source i) (destination i) (first-below i) (second-below i) (last-below i)
