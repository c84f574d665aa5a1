-- To believe: how an instruction is written, its mnemonic and the values of its operands in the order of its form.
use Rattle.std.specs.Prelude.{ℕ, ◌/◌, ◌^◌, ◌==◌, Bool, true, false, if◌then◌else◌, List, [], ◌∷◌, ℤ, pos, codes}
use Rattle.std.specs.Option.{option_map_or}
use Rattle.rv_decode.specs.Bits.{twos_complement}
use Rattle.rv_decode.specs.Word.{word_of}
use Rattle.rv_decode.specs.Reading.{reading_of}
use Rattle.rv_text.specs.declared.form.Form.{Form}
use Rattle.rv_text.specs.declared.form.Form.TheVariants.{Registers, Immediate, Shift, Based, Store, Branch, Jump, Upper, Alone, Word}
use Rattle.rv_decode.specs.declared.instr.RType.{RType}
use Rattle.rv_decode.specs.declared.instr.IType.{IType}
use Rattle.rv_decode.specs.declared.instr.ShiftType.{ShiftType}
use Rattle.rv_decode.specs.declared.instr.SType.{SType}
use Rattle.rv_decode.specs.declared.instr.BType.{BType}
use Rattle.rv_decode.specs.declared.instr.UType.{UType}
use Rattle.rv_decode.specs.declared.instr.JType.{JType}
use Rattle.rv_decode.specs.declared.instr.Instr.{Instr}
use Rattle.rv_decode.specs.declared.instr.Instr.TheVariants.{Lui, Auipc, Jal, Jalr, Beq, Bne, Blt, Bge, Bltu, Bgeu, Lb, Lh, Lw, Lbu, Lhu, Sb, Sh, Sw, Addi, Slti, Sltiu, Xori, Ori, Andi, Slli, Srli, Srai, Add, Sub, Sll, Slt, Sltu, Xor, Srl, Sra, Or, And, Mul, Mulh, Mulhsu, Mulhu, Div, Divu, Rem, Remu, Fence, Ecall, Ebreak}

-- a mnemonic, the form of its operands, and their values
pub record Spelling : Type 0 where
  pub name : List ℕ
  pub form : Form
  pub values : List ℤ

abbrev pub spelled : List ℕ → Form → List ℤ → Spelling
spelled name form values = record { name = name; form = form; values = values }

-- `rd, rs1, rs2`
abbrev pub spelled_registers : List ℕ → RType → Spelling
spelled_registers name r = spelled name Registers (pos r.rd ∷ pos r.rs1 ∷ pos r.rs2 ∷ [])

-- `rd, rs1, imm`
abbrev pub spelled_immediate : List ℕ → IType → Spelling
spelled_immediate name i = spelled name Immediate (pos i.rd ∷ pos i.rs1 ∷ i.imm ∷ [])

-- `rd, rs1, shamt`
abbrev pub spelled_shifted : List ℕ → ShiftType → Spelling
spelled_shifted name s = spelled name Shift (pos s.rd ∷ pos s.rs1 ∷ s.imm ∷ [])

-- `rd, imm(rs1)`
abbrev pub spelled_based : List ℕ → IType → Spelling
spelled_based name i = spelled name Based (pos i.rd ∷ i.imm ∷ pos i.rs1 ∷ [])

-- `rs2, imm(rs1)`
abbrev pub spelled_stored : List ℕ → SType → Spelling
spelled_stored name s = spelled name Store (pos s.rs2 ∷ s.imm ∷ pos s.rs1 ∷ [])

-- `rs1, rs2, target`, the target as an offset
abbrev pub spelled_branch : List ℕ → BType → Spelling
spelled_branch name b = spelled name Branch (pos b.rs1 ∷ pos b.rs2 ∷ b.imm ∷ [])

-- `rd, target`
abbrev pub spelled_jump : List ℕ → JType → Spelling
spelled_jump name j = spelled name Jump (pos j.rd ∷ j.imm ∷ [])

-- `rd, imm`, the upper twenty bits as a number that isn't negative
abbrev pub spelled_upper : List ℕ → UType → Spelling
spelled_upper name u = spelled name Upper (pos u.rd ∷ pos (twos_complement 32 u.imm / 2 ^ 12) ∷ [])

-- a mnemonic without operands
abbrev pub spelled_alone : List ℕ → Spelling
spelled_alone name = spelled name Alone []

-- a word that is written as such
abbrev pub raw : ℕ → Spelling
raw w = spelled (codes ".word") Word (pos w ∷ [])

-- by instruction; of the fences only the one that orders everything has a mnemonic
unfoldable pub spelling_of : Instr → Spelling
spelling_of (Lui u) = spelled_upper (codes "lui") u
spelling_of (Auipc u) = spelled_upper (codes "auipc") u
spelling_of (Jal j) = spelled_jump (codes "jal") j
spelling_of (Jalr i) = spelled_based (codes "jalr") i
spelling_of (Beq b) = spelled_branch (codes "beq") b
spelling_of (Bne b) = spelled_branch (codes "bne") b
spelling_of (Blt b) = spelled_branch (codes "blt") b
spelling_of (Bge b) = spelled_branch (codes "bge") b
spelling_of (Bltu b) = spelled_branch (codes "bltu") b
spelling_of (Bgeu b) = spelled_branch (codes "bgeu") b
spelling_of (Lb i) = spelled_based (codes "lb") i
spelling_of (Lh i) = spelled_based (codes "lh") i
spelling_of (Lw i) = spelled_based (codes "lw") i
spelling_of (Lbu i) = spelled_based (codes "lbu") i
spelling_of (Lhu i) = spelled_based (codes "lhu") i
spelling_of (Sb s) = spelled_stored (codes "sb") s
spelling_of (Sh s) = spelled_stored (codes "sh") s
spelling_of (Sw s) = spelled_stored (codes "sw") s
spelling_of (Addi i) = spelled_immediate (codes "addi") i
spelling_of (Slti i) = spelled_immediate (codes "slti") i
spelling_of (Sltiu i) = spelled_immediate (codes "sltiu") i
spelling_of (Xori i) = spelled_immediate (codes "xori") i
spelling_of (Ori i) = spelled_immediate (codes "ori") i
spelling_of (Andi i) = spelled_immediate (codes "andi") i
spelling_of (Slli s) = spelled_shifted (codes "slli") s
spelling_of (Srli s) = spelled_shifted (codes "srli") s
spelling_of (Srai s) = spelled_shifted (codes "srai") s
spelling_of (Add r) = spelled_registers (codes "add") r
spelling_of (Sub r) = spelled_registers (codes "sub") r
spelling_of (Sll r) = spelled_registers (codes "sll") r
spelling_of (Slt r) = spelled_registers (codes "slt") r
spelling_of (Sltu r) = spelled_registers (codes "sltu") r
spelling_of (Xor r) = spelled_registers (codes "xor") r
spelling_of (Srl r) = spelled_registers (codes "srl") r
spelling_of (Sra r) = spelled_registers (codes "sra") r
spelling_of (Or r) = spelled_registers (codes "or") r
spelling_of (And r) = spelled_registers (codes "and") r
spelling_of (Mul r) = spelled_registers (codes "mul") r
spelling_of (Mulh r) = spelled_registers (codes "mulh") r
spelling_of (Mulhsu r) = spelled_registers (codes "mulhsu") r
spelling_of (Mulhu r) = spelled_registers (codes "mulhu") r
spelling_of (Div r) = spelled_registers (codes "div") r
spelling_of (Divu r) = spelled_registers (codes "divu") r
spelling_of (Rem r) = spelled_registers (codes "rem") r
spelling_of (Remu r) = spelled_registers (codes "remu") r
spelling_of (Fence f) = if f.fields == 0x0ff00000 then spelled_alone (codes "fence") else raw (word_of (Fence f))
spelling_of Ecall = spelled_alone (codes "ecall")
spelling_of Ebreak = spelled_alone (codes "ebreak")

abbrev pub is_fence : Instr → Bool
is_fence (Fence f) = true
is_fence _ = false

-- how a word is written, by what it reads as
abbrev pub spelling_in : ℕ → Spelling
spelling_in w = option_map_or spelling_of (reading_of w) (raw w)
