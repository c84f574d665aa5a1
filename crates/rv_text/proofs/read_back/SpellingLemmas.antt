-- How each instruction is written: its mnemonic has a row of its form, its values fit, and the row makes its word of them. A line for
-- each instruction stands here, in the definitions and in `InstructionLemmas`, and nowhere else.
use Rattle.std.proofs.Common.{◌≡◌, ℕ, suc, ◌+◌, ◌-◌, ◌*◌, ◌/◌, ◌%◌, ◌^◌, ◌<◌, ◌==◌, ◌&&◌, Bool, true, false, List, [], ◌∷◌, refl, arith, pos, negsuc, ◌≤ℤ◌, ℤ, unsigned_abs, Some}
use Rattle.std.specs.List.{list_all}
use Rattle.std.proofs.lemmas.Bool.{and_from, eqb-true}
use Rattle.std.proofs.lemmas.Bool.Decides.{nat_tests}
use Rattle.std.proofs.lemmas.Int.{ints}
use Rattle.std.specs.Prelude.{codes, if◌then◌else◌}
use Rattle.rv_decode.specs.Bits.{bits, twos_complement}
use Rattle.rv_decode.specs.Word.{r_word, i_word, shift_word, s_word, b_word, u_word, j_word, word_of, placed}
use Rattle.rv_text.specs.Characters.{is_of_mnemonic, begins}
use Rattle.rv_text.specs.Fields.{within, is_even, is_in}
use Rattle.rv_text.specs.Operands.{slots_of}
use Rattle.rv_text.specs.Rows.{row_named, placed_in}
use Rattle.rv_text.specs.Spelling.{Spelling, spelled_registers, spelled_immediate, spelled_shifted, spelled_based, spelled_stored, spelled_branch, spelled_jump, spelled_upper, spelled_alone, raw, spelling_of}
use Rattle.rv_text.specs.declared.form.Form.TheVariants.{Registers, Immediate, Shift, Based, Store, Branch, Jump, Upper, Alone}
use Rattle.rv_text.specs.declared.form.Slot.{Slot}
use Rattle.rv_text.specs.declared.form.Slot.TheVariants.{Last, UpTo}
use Rattle.rv_decode.specs.declared.instr.RType.{RType}
use Rattle.rv_decode.specs.declared.instr.IType.{IType}
use Rattle.rv_decode.specs.declared.instr.ShiftType.{ShiftType}
use Rattle.rv_decode.specs.declared.instr.SType.{SType}
use Rattle.rv_decode.specs.declared.instr.BType.{BType}
use Rattle.rv_decode.specs.declared.instr.UType.{UType}
use Rattle.rv_decode.specs.declared.instr.JType.{JType}
use Rattle.rv_decode.specs.declared.instr.FenceType.{FenceType}
use Rattle.rv_decode.specs.declared.instr.Instr.{Instr}
use Rattle.rv_decode.specs.declared.instr.Instr.TheVariants.{Lui, Auipc, Jal, Jalr, Beq, Bne, Blt, Bge, Bltu, Bgeu, Lb, Lh, Lw, Lbu, Lhu, Sb, Sh, Sw, Addi, Slti, Sltiu, Xori, Ori, Andi, Slli, Srli, Srai, Add, Sub, Sll, Slt, Sltu, Xor, Srl, Sra, Or, And, Mul, Mulh, Mulhsu, Mulhu, Div, Divu, Rem, Remu, Fence, Ecall, Ebreak}
use Rattle.rv_text.proofs.RowLemmas.{row_by}

abbrev pub is_mnemonic : List ℕ → Bool
is_mnemonic name = begins is_of_mnemonic name && list_all is_of_mnemonic name

-- one value in its range for each slot, and no slot behind the last one
abbrev pub fit : List Slot → List ℤ → Bool
fit [] [] = true
fit (Last f ∷ []) (z ∷ []) = is_in f z
fit (UpTo f mark ∷ slots) (z ∷ zs) = is_in f z && fit slots zs
fit _ _ = false

-- what is written so has this word
pub record IsSpelled (s : Spelling) (w : ℕ) : Type 0 where
  pub base : ℕ
  pub is_a_mnemonic : is_mnemonic s.name ≡ true
  pub is_named : row_named s.name ≡ Some (row_by s.form base)
  pub is_fit : fit (slots_of s.form) s.values ≡ true
  pub is_word : base + placed_in (slots_of s.form) s.values ≡ w

-- ---- values fit
in-range : (low high z : ℤ) → low ≤ℤ z → z ≤ℤ high → within low high z ≡ true
in-range low high z a b = grind (arith, nat_tests)

even-there : (z : ℤ) → unsigned_abs z % 2 ≡ 0 → is_even z ≡ true
even-there z a = grind (arith, nat_tests)

register-fits : (n : ℕ) → n < 32 → within (pos 0) (pos 31) (pos n) ≡ true
register-fits n h = in-range (pos 0) (pos 31) (pos n) (omega (arith, ints)) (omega (arith, ints))

three : (a b c : Bool) → a ≡ true → b ≡ true → c ≡ true → a && (b && c) ≡ true
three a b c h k l = and_from _ _ h (and_from _ _ k l)

-- ---- numbers in the word
small-12 : (z : ℤ) → negsuc 2047 ≤ℤ z → z ≤ℤ pos 2047 → twos_complement 12 z < 2 ^ 12
small-12 (pos n) f t = omega (arith, ints)
small-12 (negsuc n) f t = omega (arith, ints)

i-bits : (n : ℕ) → n < 2 ^ 12 → n * 2 ^ 20 ≡ bits n 4 0 * 2 ^ 20 + bits n 11 5 * 2 ^ 25
i-bits n h = omega arith

shift-bits : (z : ℤ) → pos 0 ≤ℤ z → unsigned_abs z ≡ twos_complement 5 z
shift-bits (pos n) f = refl
shift-bits (negsuc n) f = let never : ⊥ = omega (arith, ints) in elim never [ ]

j-bits : (n : ℕ) → bits n 19 12 * 2 ^ 12 + bits n 11 11 * 2 ^ 20 + bits n 10 1 * 2 ^ 21 + bits n 20 20 * 2 ^ 31
    ≡ bits n 14 12 * 2 ^ 12 + bits n 19 15 * 2 ^ 15 + (bits n 4 1 * 2 + bits n 11 11) * 2 ^ 20 + (bits n 20 20 * 2 ^ 6 + bits n 10 5) * 2 ^ 25
j-bits n = omega arith

record UpperIs (z : ℤ) : Type 0 where
  is_placed : twos_complement 32 z / 2 ^ 12 * 2 ^ 12 ≡ bits (twos_complement 32 z) 14 12 * 2 ^ 12 + bits (twos_complement 32 z) 19 15 * 2 ^ 15 + bits (twos_complement 32 z) 24 20 * 2 ^ 20 + bits (twos_complement 32 z) 31 25 * 2 ^ 25
  is_small : pos (twos_complement 32 z / 2 ^ 12) ≤ℤ pos 1048575

upper-placed : (n : ℕ) → n < 2 ^ 32 → n / 2 ^ 12 * 2 ^ 12 ≡ bits n 14 12 * 2 ^ 12 + bits n 19 15 * 2 ^ 15 + bits n 24 20 * 2 ^ 20 + bits n 31 25 * 2 ^ 25
upper-placed n h = omega arith

upper-is : (z : ℤ) → negsuc 2147483647 ≤ℤ z → z ≤ℤ pos 2147479552 → UpperIs z
upper-is (pos n) f t = record { is_placed = upper-placed n (omega (arith, ints)); is_small = omega (arith, ints) }
upper-is (negsuc n) f t = record { is_placed = upper-placed (2 ^ 32 - suc n) (omega (arith, ints)); is_small = omega (arith, ints) }

-- ---- the law of each form
pub registers-law : (name : List ℕ) (base opcode funct3 funct7 : ℕ) → is_mnemonic name ≡ true → row_named name ≡ Some (row_by Registers base) → base ≡ opcode + funct3 * 2 ^ 12 + funct7 * 2 ^ 25 → (r : RType) → IsSpelled (spelled_registers name r) (r_word opcode funct3 funct7 r)
unfolding placed
registers-law name base opcode funct3 funct7 m n e r = record {
  base = base;
  is_a_mnemonic = m;
  is_named = n;
  is_fit = three _ _ _ (register-fits r.rd r.rd_is_register) (register-fits r.rs1 r.rs1_is_register) (register-fits r.rs2 r.rs2_is_register);
  is_word = omega arith;
}

pub immediate-law : (name : List ℕ) (base opcode funct3 : ℕ) → is_mnemonic name ≡ true → row_named name ≡ Some (row_by Immediate base) → base ≡ opcode + funct3 * 2 ^ 12 → (i : IType) → IsSpelled (spelled_immediate name i) (i_word opcode funct3 i)
unfolding placed
immediate-law name base opcode funct3 m n e i =
    let same = i-bits (twos_complement 12 i.imm) (small-12 i.imm i.imm_from i.imm_to) in
    record {
      base = base;
      is_a_mnemonic = m;
      is_named = n;
      is_fit = three _ _ _ (register-fits i.rd i.rd_is_register) (register-fits i.rs1 i.rs1_is_register) (in-range (negsuc 2047) (pos 2047) i.imm i.imm_from i.imm_to);
      is_word = omega arith;
    }

pub shifted-law : (name : List ℕ) (base opcode funct3 funct7 : ℕ) → is_mnemonic name ≡ true → row_named name ≡ Some (row_by Shift base) → base ≡ opcode + funct3 * 2 ^ 12 + funct7 * 2 ^ 25 → (s : ShiftType) → IsSpelled (spelled_shifted name s) (shift_word opcode funct3 funct7 s)
unfolding placed
shifted-law name base opcode funct3 funct7 m n e s =
    let same = shift-bits s.imm s.imm_from in
    record {
      base = base;
      is_a_mnemonic = m;
      is_named = n;
      is_fit = three _ _ _ (register-fits s.rd s.rd_is_register) (register-fits s.rs1 s.rs1_is_register) (in-range (pos 0) (pos 31) s.imm s.imm_from s.imm_to);
      is_word = omega arith;
    }

pub based-law : (name : List ℕ) (base opcode funct3 : ℕ) → is_mnemonic name ≡ true → row_named name ≡ Some (row_by Based base) → base ≡ opcode + funct3 * 2 ^ 12 → (i : IType) → IsSpelled (spelled_based name i) (i_word opcode funct3 i)
unfolding placed
based-law name base opcode funct3 m n e i =
    let same = i-bits (twos_complement 12 i.imm) (small-12 i.imm i.imm_from i.imm_to) in
    record {
      base = base;
      is_a_mnemonic = m;
      is_named = n;
      is_fit = three _ _ _ (register-fits i.rd i.rd_is_register) (in-range (negsuc 2047) (pos 2047) i.imm i.imm_from i.imm_to) (and_from _ _ (register-fits i.rs1 i.rs1_is_register) refl);
      is_word = omega arith;
    }

pub stored-law : (name : List ℕ) (base opcode funct3 : ℕ) → is_mnemonic name ≡ true → row_named name ≡ Some (row_by Store base) → base ≡ opcode + funct3 * 2 ^ 12 → (s : SType) → IsSpelled (spelled_stored name s) (s_word opcode funct3 s)
unfolding placed
stored-law name base opcode funct3 m n e s = record {
  base = base;
  is_a_mnemonic = m;
  is_named = n;
  is_fit = three _ _ _ (register-fits s.rs2 s.rs2_is_register) (in-range (negsuc 2047) (pos 2047) s.imm s.imm_from s.imm_to) (and_from _ _ (register-fits s.rs1 s.rs1_is_register) refl);
  is_word = omega arith;
}

pub branch-law : (name : List ℕ) (base opcode funct3 : ℕ) → is_mnemonic name ≡ true → row_named name ≡ Some (row_by Branch base) → base ≡ opcode + funct3 * 2 ^ 12 → (b : BType) → IsSpelled (spelled_branch name b) (b_word opcode funct3 b)
unfolding placed
branch-law name base opcode funct3 m n e b = record {
  base = base;
  is_a_mnemonic = m;
  is_named = n;
  is_fit = three _ _ _ (register-fits b.rs1 b.rs1_is_register) (register-fits b.rs2 b.rs2_is_register) (and_from _ _ (in-range (negsuc 4095) (pos 4094) b.imm b.imm_from b.imm_to) (even-there b.imm b.imm_is_even));
  is_word = omega arith;
}

pub jump-law : (name : List ℕ) (base opcode : ℕ) → is_mnemonic name ≡ true → row_named name ≡ Some (row_by Jump base) → base ≡ opcode → (j : JType) → IsSpelled (spelled_jump name j) (j_word opcode j)
unfolding placed
jump-law name base opcode m n e j =
    let same = j-bits (twos_complement 21 j.imm) in
    record {
      base = base;
      is_a_mnemonic = m;
      is_named = n;
      is_fit = and_from _ _ (register-fits j.rd j.rd_is_register) (and_from _ _ (in-range (negsuc 1048575) (pos 1048574) j.imm j.imm_from j.imm_to) (even-there j.imm j.imm_is_even));
      is_word = omega arith;
    }

pub upper-law : (name : List ℕ) (base opcode : ℕ) → is_mnemonic name ≡ true → row_named name ≡ Some (row_by Upper base) → base ≡ opcode → (u : UType) → IsSpelled (spelled_upper name u) (u_word opcode u)
unfolding placed
upper-law name base opcode m n e u =
    let fine = upper-is u.imm u.imm_from u.imm_to in
    let same = fine.is_placed in
    record {
      base = base;
      is_a_mnemonic = m;
      is_named = n;
      is_fit = and_from _ _ (register-fits u.rd u.rd_is_register) (in-range (pos 0) (pos 1048575) (pos (twos_complement 32 u.imm / 2 ^ 12)) (omega (arith, ints)) fine.is_small);
      is_word = omega arith;
    }

pub alone-law : (name : List ℕ) (base w : ℕ) → is_mnemonic name ≡ true → row_named name ≡ Some (row_by Alone base) → base ≡ w → IsSpelled (spelled_alone name) w
alone-law name base w m n e = record { base = base; is_a_mnemonic = m; is_named = n; is_fit = refl; is_word = omega arith }

pub raw-law : (w : ℕ) → w < 2 ^ 32 → IsSpelled (raw w) w
unfolding row_named
raw-law w h = record {
  base = 0;
  is_a_mnemonic = refl;
  is_named = refl;
  is_fit = in-range (pos 0) (pos 4294967295) (pos w) (omega (arith, ints)) (omega (arith, ints));
  is_word = omega arith;
}

fence-word : (n : ℕ) → n ≡ 0x0ff00000 → 0x0ff0000f ≡ 0b0001111 + 0b000 * 2 ^ 12 + n
fence-word n e = omega arith

-- the one fence that has a mnemonic
fence-law : (f : FenceType) → word_of (Fence f) < 2 ^ 32 → IsSpelled (spelling_of (Fence f)) (word_of (Fence f))
unfolding spelling_of word_of row_named
fence-law f h = elim (f.fields == 0x0ff00000) as (λ b. (f.fields == 0x0ff00000) ≡ b → IsSpelled (if b then spelled_alone (codes "fence") else raw (word_of (Fence f))) (word_of (Fence f))) [
  | true ↦ λ e. alone-law (codes "fence") 0x0ff0000f _ refl refl (fence-word f.fields (eqb-true f.fields 0x0ff00000 e))
  | false ↦ λ e. raw-law (word_of (Fence f)) h
] refl

-- ---- the law of each instruction
pub spellings : (i : Instr) → word_of i < 2 ^ 32 → IsSpelled (spelling_of i) (word_of i)
unfolding spelling_of word_of row_named
spellings (Lui t) h = upper-law (codes "lui") 0x00000037 0b0110111 refl refl refl t
spellings (Auipc t) h = upper-law (codes "auipc") 0x00000017 0b0010111 refl refl refl t
spellings (Jal t) h = jump-law (codes "jal") 0x0000006f 0b1101111 refl refl refl t
spellings (Jalr t) h = based-law (codes "jalr") 0x00000067 0b1100111 0b000 refl refl refl t
spellings (Beq t) h = branch-law (codes "beq") 0x00000063 0b1100011 0b000 refl refl refl t
spellings (Bne t) h = branch-law (codes "bne") 0x00001063 0b1100011 0b001 refl refl refl t
spellings (Blt t) h = branch-law (codes "blt") 0x00004063 0b1100011 0b100 refl refl refl t
spellings (Bge t) h = branch-law (codes "bge") 0x00005063 0b1100011 0b101 refl refl refl t
spellings (Bltu t) h = branch-law (codes "bltu") 0x00006063 0b1100011 0b110 refl refl refl t
spellings (Bgeu t) h = branch-law (codes "bgeu") 0x00007063 0b1100011 0b111 refl refl refl t
spellings (Lb t) h = based-law (codes "lb") 0x00000003 0b0000011 0b000 refl refl refl t
spellings (Lh t) h = based-law (codes "lh") 0x00001003 0b0000011 0b001 refl refl refl t
spellings (Lw t) h = based-law (codes "lw") 0x00002003 0b0000011 0b010 refl refl refl t
spellings (Lbu t) h = based-law (codes "lbu") 0x00004003 0b0000011 0b100 refl refl refl t
spellings (Lhu t) h = based-law (codes "lhu") 0x00005003 0b0000011 0b101 refl refl refl t
spellings (Sb t) h = stored-law (codes "sb") 0x00000023 0b0100011 0b000 refl refl refl t
spellings (Sh t) h = stored-law (codes "sh") 0x00001023 0b0100011 0b001 refl refl refl t
spellings (Sw t) h = stored-law (codes "sw") 0x00002023 0b0100011 0b010 refl refl refl t
spellings (Addi t) h = immediate-law (codes "addi") 0x00000013 0b0010011 0b000 refl refl refl t
spellings (Slti t) h = immediate-law (codes "slti") 0x00002013 0b0010011 0b010 refl refl refl t
spellings (Sltiu t) h = immediate-law (codes "sltiu") 0x00003013 0b0010011 0b011 refl refl refl t
spellings (Xori t) h = immediate-law (codes "xori") 0x00004013 0b0010011 0b100 refl refl refl t
spellings (Ori t) h = immediate-law (codes "ori") 0x00006013 0b0010011 0b110 refl refl refl t
spellings (Andi t) h = immediate-law (codes "andi") 0x00007013 0b0010011 0b111 refl refl refl t
spellings (Slli t) h = shifted-law (codes "slli") 0x00001013 0b0010011 0b001 0b0000000 refl refl refl t
spellings (Srli t) h = shifted-law (codes "srli") 0x00005013 0b0010011 0b101 0b0000000 refl refl refl t
spellings (Srai t) h = shifted-law (codes "srai") 0x40005013 0b0010011 0b101 0b0100000 refl refl refl t
spellings (Add t) h = registers-law (codes "add") 0x00000033 0b0110011 0b000 0b0000000 refl refl refl t
spellings (Sub t) h = registers-law (codes "sub") 0x40000033 0b0110011 0b000 0b0100000 refl refl refl t
spellings (Sll t) h = registers-law (codes "sll") 0x00001033 0b0110011 0b001 0b0000000 refl refl refl t
spellings (Slt t) h = registers-law (codes "slt") 0x00002033 0b0110011 0b010 0b0000000 refl refl refl t
spellings (Sltu t) h = registers-law (codes "sltu") 0x00003033 0b0110011 0b011 0b0000000 refl refl refl t
spellings (Xor t) h = registers-law (codes "xor") 0x00004033 0b0110011 0b100 0b0000000 refl refl refl t
spellings (Srl t) h = registers-law (codes "srl") 0x00005033 0b0110011 0b101 0b0000000 refl refl refl t
spellings (Sra t) h = registers-law (codes "sra") 0x40005033 0b0110011 0b101 0b0100000 refl refl refl t
spellings (Or t) h = registers-law (codes "or") 0x00006033 0b0110011 0b110 0b0000000 refl refl refl t
spellings (And t) h = registers-law (codes "and") 0x00007033 0b0110011 0b111 0b0000000 refl refl refl t
spellings (Mul t) h = registers-law (codes "mul") 0x02000033 0b0110011 0b000 0b0000001 refl refl refl t
spellings (Mulh t) h = registers-law (codes "mulh") 0x02001033 0b0110011 0b001 0b0000001 refl refl refl t
spellings (Mulhsu t) h = registers-law (codes "mulhsu") 0x02002033 0b0110011 0b010 0b0000001 refl refl refl t
spellings (Mulhu t) h = registers-law (codes "mulhu") 0x02003033 0b0110011 0b011 0b0000001 refl refl refl t
spellings (Div t) h = registers-law (codes "div") 0x02004033 0b0110011 0b100 0b0000001 refl refl refl t
spellings (Divu t) h = registers-law (codes "divu") 0x02005033 0b0110011 0b101 0b0000001 refl refl refl t
spellings (Rem t) h = registers-law (codes "rem") 0x02006033 0b0110011 0b110 0b0000001 refl refl refl t
spellings (Remu t) h = registers-law (codes "remu") 0x02007033 0b0110011 0b111 0b0000001 refl refl refl t
spellings (Fence f) h = fence-law f h
spellings Ecall h = alone-law (codes "ecall") 0x00000073 _ refl refl refl
spellings Ebreak h = alone-law (codes "ebreak") 0x00100073 _ refl refl refl
