-- To believe: what an operand is, and the numbers that it may be. Derived: where its bits are in the word (RISC-V Unprivileged ISA
-- 20191213, 2.2 and 2.3), tied to `word_of` by the law `each_word_is_said`.
use Rattle.std.specs.Prelude.{ℕ, ◌+◌, ◌*◌, ◌%◌, ◌^◌, ◌==◌, ◌&&◌, Bool, true, false, ℤ, pos, negsuc, unsigned_abs, int_le}
use Rattle.rv_decode.specs.Bits.{bits, twos_complement}
use Rattle.rv_text.specs.declared.field.Field.{Field}
use Rattle.rv_text.specs.declared.field.Field.TheVariants.{Rd, Rs1, Rs2, Immediate, Shift, StoreOffset, BranchTarget, JumpTarget, Upper, Word}

-- from low to high
abbrev pub within : ℤ → ℤ → ℤ → Bool
within low high z = int_le low z && int_le z high

-- a multiple of 2
abbrev pub is_even : ℤ → Bool
is_even z = unsigned_abs z % 2 == 0

-- the numbers that the operand may be
abbrev pub is_in : Field → ℤ → Bool
is_in Rd z = within (pos 0) (pos 31) z
is_in Rs1 z = within (pos 0) (pos 31) z
is_in Rs2 z = within (pos 0) (pos 31) z
is_in Immediate z = within (negsuc 2047) (pos 2047) z
is_in Shift z = within (pos 0) (pos 31) z
is_in StoreOffset z = within (negsuc 2047) (pos 2047) z
is_in BranchTarget z = within (negsuc 4095) (pos 4094) z && is_even z
is_in JumpTarget z = within (negsuc 1048575) (pos 1048574) z && is_even z
is_in Upper z = within (pos 0) (pos 1048575) z
is_in Word z = within (pos 0) (pos 4294967295) z

-- a register, `x0` to `x31`
abbrev pub is_register : Field → Bool
is_register Rd = true
is_register Rs1 = true
is_register Rs2 = true
is_register _ = false

-- an offset in bytes, or a name that stands for it
abbrev pub is_target : Field → Bool
is_target BranchTarget = true
is_target JumpTarget = true
is_target _ = false

-- imm[4:0] and imm[11:5] of the S-type
abbrev pub store_bits : ℕ → ℕ
store_bits n = bits n 4 0 * 2 ^ 7 + bits n 11 5 * 2 ^ 25

-- imm[11], imm[4:1], imm[10:5] and imm[12] of the B-type
abbrev pub branch_bits : ℕ → ℕ
branch_bits n = bits n 11 11 * 2 ^ 7 + bits n 4 1 * 2 ^ 8 + bits n 10 5 * 2 ^ 25 + bits n 12 12 * 2 ^ 31

-- imm[19:12], imm[11], imm[10:1] and imm[20] of the J-type
abbrev pub jump_bits : ℕ → ℕ
jump_bits n = bits n 19 12 * 2 ^ 12 + bits n 11 11 * 2 ^ 20 + bits n 10 1 * 2 ^ 21 + bits n 20 20 * 2 ^ 31

-- the bits of a value in the word
abbrev pub placed_at : Field → ℤ → ℕ
placed_at Rd z = unsigned_abs z * 2 ^ 7
placed_at Rs1 z = unsigned_abs z * 2 ^ 15
placed_at Rs2 z = unsigned_abs z * 2 ^ 20
placed_at Immediate z = twos_complement 12 z * 2 ^ 20
placed_at Shift z = unsigned_abs z * 2 ^ 20
placed_at StoreOffset z = store_bits (twos_complement 12 z)
placed_at BranchTarget z = branch_bits (twos_complement 13 z)
placed_at JumpTarget z = jump_bits (twos_complement 21 z)
placed_at Upper z = unsigned_abs z * 2 ^ 12
placed_at Word z = unsigned_abs z

-- the largest of these numbers
abbrev pub most_at : Field → ℕ
most_at Rd = 0x00000f80
most_at Rs1 = 0x000f8000
most_at Rs2 = 0x01f00000
most_at Immediate = 0xfff00000
most_at Shift = 0x01f00000
most_at StoreOffset = 0xfe000f80
most_at BranchTarget = 0xfe000f80
most_at JumpTarget = 0xfffff000
most_at Upper = 0xfffff000
most_at Word = 0xffffffff
