-- To believe: the mnemonics, one row for each with the form of its operands. Derived: the word of a row without operands, tied to the
-- words of the instructions by the law `each_word_is_said`.
use Rattle.std.specs.Prelude.{ℕ, ◌+◌, if◌then◌else◌, List, [], ◌∷◌, ℤ, Option, Some, None, codes, bytes_eq}
use Rattle.std.specs.Option.{option_or}
use Rattle.rv_text.specs.Fields.{placed_at, most_at}
use Rattle.rv_text.specs.Operands.{slots_of, field_of}
use Rattle.rv_text.specs.declared.form.Form.{Form}
use Rattle.rv_text.specs.declared.form.Form.TheVariants.{Registers, Immediate, Shift, Based, Store, Branch, Jump, Upper, Alone, Word}
use Rattle.rv_text.specs.declared.form.Slot.{Slot}
use Rattle.rv_text.specs.declared.row.Row.{Row}

-- a mnemonic with its row
pub record Named : Type 0 where
  pub name : List ℕ
  pub row : Row

abbrev pub row : List ℕ → Form → ℕ → Named
row name form base = record { name = name; row = record { form = form; base = base } }

-- RV32I: integer register-register operations (2.4)
abbrev pub register_rows : List Named
register_rows =
    row (codes "add") Registers 0x00000033 ∷ row (codes "sub") Registers 0x40000033 ∷ row (codes "sll") Registers 0x00001033
    ∷ row (codes "slt") Registers 0x00002033 ∷ row (codes "sltu") Registers 0x00003033 ∷ row (codes "xor") Registers 0x00004033
    ∷ row (codes "srl") Registers 0x00005033 ∷ row (codes "sra") Registers 0x40005033 ∷ row (codes "or") Registers 0x00006033
    ∷ row (codes "and") Registers 0x00007033 ∷ []

-- RV32M (7.1 and 7.2)
abbrev pub multiply_rows : List Named
multiply_rows =
    row (codes "mul") Registers 0x02000033 ∷ row (codes "mulh") Registers 0x02001033 ∷ row (codes "mulhsu") Registers 0x02002033
    ∷ row (codes "mulhu") Registers 0x02003033 ∷ row (codes "div") Registers 0x02004033 ∷ row (codes "divu") Registers 0x02005033
    ∷ row (codes "rem") Registers 0x02006033 ∷ row (codes "remu") Registers 0x02007033 ∷ []

-- integer register-immediate instructions (2.4)
abbrev pub immediate_rows : List Named
immediate_rows =
    row (codes "addi") Immediate 0x00000013 ∷ row (codes "slti") Immediate 0x00002013 ∷ row (codes "sltiu") Immediate 0x00003013
    ∷ row (codes "xori") Immediate 0x00004013 ∷ row (codes "ori") Immediate 0x00006013 ∷ row (codes "andi") Immediate 0x00007013
    ∷ row (codes "slli") Shift 0x00001013 ∷ row (codes "srli") Shift 0x00005013 ∷ row (codes "srai") Shift 0x40005013 ∷ []

-- loads, stores (2.6) and the jump to a register (2.5)
abbrev pub memory_rows : List Named
memory_rows =
    row (codes "lb") Based 0x00000003 ∷ row (codes "lh") Based 0x00001003 ∷ row (codes "lw") Based 0x00002003
    ∷ row (codes "lbu") Based 0x00004003 ∷ row (codes "lhu") Based 0x00005003 ∷ row (codes "jalr") Based 0x00000067
    ∷ row (codes "sb") Store 0x00000023 ∷ row (codes "sh") Store 0x00001023 ∷ row (codes "sw") Store 0x00002023 ∷ []

-- jumps and branches (2.5)
abbrev pub branch_rows : List Named
branch_rows =
    row (codes "jal") Jump 0x0000006f ∷ row (codes "beq") Branch 0x00000063 ∷ row (codes "bne") Branch 0x00001063
    ∷ row (codes "blt") Branch 0x00004063 ∷ row (codes "bge") Branch 0x00005063 ∷ row (codes "bltu") Branch 0x00006063
    ∷ row (codes "bgeu") Branch 0x00007063 ∷ []

-- upper immediates (2.4), the fence that orders everything (2.7), calls (2.8), and a word that is written as such
abbrev pub other_rows : List Named
other_rows =
    row (codes "lui") Upper 0x00000037 ∷ row (codes "auipc") Upper 0x00000017 ∷ row (codes "fence") Alone 0x0ff0000f
    ∷ row (codes "ecall") Alone 0x00000073 ∷ row (codes "ebreak") Alone 0x00100073 ∷ row (codes ".word") Word 0x00000000 ∷ []

-- the row of a name among these
abbrev pub row_in : List ℕ → List Named → Option Row
row_in name [] = None
row_in name (n ∷ ns) = if bytes_eq name n.name then Some n.row else row_in name ns

-- the row of a mnemonic
unfoldable pub row_named : List ℕ → Option Row
row_named name =
    option_or (row_in name immediate_rows) (option_or (row_in name register_rows) (option_or (row_in name memory_rows)
    (option_or (row_in name branch_rows) (option_or (row_in name other_rows) (row_in name multiply_rows)))))

-- the bits of all operands in the word
abbrev pub placed_in : List Slot → List ℤ → ℕ
placed_in (s ∷ slots) (z ∷ zs) = placed_at (field_of s) z + placed_in slots zs
placed_in _ _ = 0

-- the word of a row with the values of its operands
abbrev pub word_by : Row → List ℤ → ℕ
word_by r zs = r.base + placed_in (slots_of r.form) zs

-- the most that the bits of operands add up to
abbrev pub most_in : List Slot → ℕ
most_in [] = 0
most_in (s ∷ slots) = most_at (field_of s) + most_in slots
