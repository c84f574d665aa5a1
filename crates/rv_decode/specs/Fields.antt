-- To believe: the fields of an instruction, by the form of its word (RISC-V Unprivileged ISA 20191213, 2.2 and 2.3). A shift by a number
-- (2.4) has a form of its own here. `fence`, `ecall` and `ebreak` have none, though their words are of the form I (2.7, 2.8).
use Rattle.rv_decode.specs.declared.fields.Fields.{Fields}
use Rattle.rv_decode.specs.declared.fields.Fields.TheVariants as fields
use Rattle.rv_decode.specs.declared.instr.Instr.{Instr}
use Rattle.rv_decode.specs.declared.instr.Instr.TheVariants.{Lui, Auipc, Jal, Jalr, Beq, Bne, Blt, Bge, Bltu, Bgeu, Lb, Lh, Lw, Lbu, Lhu, Sb, Sh, Sw, Addi, Slti, Sltiu, Xori, Ori, Andi, Slli, Srli, Srai, Add, Sub, Sll, Slt, Sltu, Xor, Srl, Sra, Or, And, Mul, Mulh, Mulhsu, Mulhu, Div, Divu, Rem, Remu, Fence, Ecall, Ebreak}

-- an `ecall` has no fields; the bits of a fence, which a machine of one thread ignores, and those of an `ebreak` name no register and no
-- number
unfoldable pub fields_of : Instr → Fields
fields_of (Lui i) = fields.U i
fields_of (Auipc i) = fields.U i
fields_of (Jal i) = fields.J i
fields_of (Jalr i) = fields.I i
fields_of (Beq i) = fields.B i
fields_of (Bne i) = fields.B i
fields_of (Blt i) = fields.B i
fields_of (Bge i) = fields.B i
fields_of (Bltu i) = fields.B i
fields_of (Bgeu i) = fields.B i
fields_of (Lb i) = fields.I i
fields_of (Lh i) = fields.I i
fields_of (Lw i) = fields.I i
fields_of (Lbu i) = fields.I i
fields_of (Lhu i) = fields.I i
fields_of (Sb i) = fields.S i
fields_of (Sh i) = fields.S i
fields_of (Sw i) = fields.S i
fields_of (Addi i) = fields.I i
fields_of (Slti i) = fields.I i
fields_of (Sltiu i) = fields.I i
fields_of (Xori i) = fields.I i
fields_of (Ori i) = fields.I i
fields_of (Andi i) = fields.I i
fields_of (Slli i) = fields.Shift i
fields_of (Srli i) = fields.Shift i
fields_of (Srai i) = fields.Shift i
fields_of (Add i) = fields.R i
fields_of (Sub i) = fields.R i
fields_of (Sll i) = fields.R i
fields_of (Slt i) = fields.R i
fields_of (Sltu i) = fields.R i
fields_of (Xor i) = fields.R i
fields_of (Srl i) = fields.R i
fields_of (Sra i) = fields.R i
fields_of (Or i) = fields.R i
fields_of (And i) = fields.R i
fields_of (Mul i) = fields.R i
fields_of (Mulh i) = fields.R i
fields_of (Mulhsu i) = fields.R i
fields_of (Mulhu i) = fields.R i
fields_of (Div i) = fields.R i
fields_of (Divu i) = fields.R i
fields_of (Rem i) = fields.R i
fields_of (Remu i) = fields.R i
fields_of (Fence _) = fields.Nothing
fields_of Ecall = fields.Call
fields_of Ebreak = fields.Nothing
