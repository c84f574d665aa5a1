-- To believe: what is offered of a machine's input, byte by byte: of an input that is a tree its bytes, to a call, and of one in memory
-- nothing.
use Rattle.std.specs.Prelude.{ℕ, ◌-◌, ◌^◌, List, slice_index_or, Option, Some, None}
use Rattle.rd_base.specs.declared.scheme.InputScheme.{InputScheme}
use Rattle.rd_base.specs.declared.scheme.InputScheme.TheVariants.{InMemory, Tree}

-- a byte of an input by its number, and ffffffff if it has no such byte
abbrev pub byte_or_ones : List ℕ → ℕ → ℕ
byte_or_ones input k = slice_index_or input k (2 ^ 32 - 1)

-- what is offered, by how the input is held
abbrev pub offered : InputScheme → (ℕ → ℕ) → Option (ℕ → ℕ)
offered Tree byte = Some byte
offered InMemory byte = None
