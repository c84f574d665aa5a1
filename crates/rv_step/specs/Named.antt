-- To believe: the registers that an instruction names, in the order of its fields: what it reads first, and last what it writes
-- (RISC-V Unprivileged ISA 20191213, 2.2). x0 stands for a field that an instruction doesn't have: it is 0, and is never named.
use Rattle.std.specs.Prelude.{◌≡◌, ◌<◌, ℕ, ◌==◌, ◌&&◌, not, Bool, List, [], ◌∷◌, ◌++◌, Option, Some, None, if◌then◌else◌}
use Rattle.rv_decode.specs.declared.instr.Instr.{Instr}
use Rattle.rv_decode.specs.declared.fields.Fields.{Fields}
use Rattle.rv_decode.specs.declared.fields.Fields.TheVariants.{R, I, Shift, S, B, U, J, Call}
use Rattle.rv_decode.specs.Fields.{fields_of}
use Rattle.rv_step.specs.Codes.{call_register, argument_register}
use Rattle.rv_step.specs.declared.effect.Effect.{Effect}
use Rattle.rv_step.specs.declared.effect.Effect.TheVariants.{Write, Jump}

-- the first register that is read
abbrev pub first_in : Fields → ℕ
first_in (R i) = i.rs1
first_in (I i) = i.rs1
first_in (Shift i) = i.rs1
first_in (S i) = i.rs1
first_in (B i) = i.rs1
first_in Call = call_register
first_in fields = 0

-- the second register that is read
abbrev pub second_in : Fields → ℕ
second_in (R i) = i.rs2
second_in (S i) = i.rs2
second_in (B i) = i.rs2
second_in Call = argument_register
second_in fields = 0

-- the register that is written
abbrev pub written_in : Fields → ℕ
written_in (R i) = i.rd
written_in (I i) = i.rd
written_in (Shift i) = i.rd
written_in (U i) = i.rd
written_in (J i) = i.rd
written_in Call = argument_register
written_in fields = 0

-- the same of an instruction
unfoldable pub first_source : Instr → ℕ
first_source i = first_in (fields_of i)

unfoldable pub second_source : Instr → ℕ
second_source i = second_in (fields_of i)

unfoldable pub destination : Instr → ℕ
destination i = written_in (fields_of i)

-- a register, if a test says so
abbrev pub if_named : Bool → ℕ → List ℕ
if_named test r = if test then r ∷ [] else []

-- three registers without x0, each at its first place
abbrev pub once : ℕ → ℕ → ℕ → List ℕ
once a b c =
    if_named (not (a == 0)) a
    ++ (if_named (not (b == 0) && not (b == a)) b
    ++ if_named (not (c == 0) && not (c == a) && not (c == b)) c)

unfoldable pub named : Instr → List ℕ
named i = once (first_source i) (second_source i) (destination i)

-- those of a word; a word that is no instruction names none
abbrev pub named_by : Option Instr → List ℕ
named_by (Some i) = named i
named_by None = []

-- each is one of x0 to x31
abbrev pub AreRegisters : List ℕ → Type 0
AreRegisters [] = Unit {0}
AreRegisters (r ∷ rs) = (r < 32) × AreRegisters rs

-- an effect writes no register but this one
abbrev pub WritesOnly : ℕ → Effect → Type 0
WritesOnly r (Write rd value) = rd ≡ r
WritesOnly r (Jump rd target) = rd ≡ r
WritesOnly r e = Unit {0}
