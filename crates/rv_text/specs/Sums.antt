-- Derived: the words of operands, which the code adds up as it reads them.
use Rattle.std.specs.Prelude.{ℕ, List, ℤ, Result, Ok}
use Rattle.rd_base.specs.Results.{◌>>=◌}
use Rattle.rv_text.specs.Fields.{placed_at}
use Rattle.rv_text.specs.Rows.{placed_in}
use Rattle.rv_text.specs.declared.field.Field.{Field}
use Rattle.rv_text.specs.declared.form.Slot.{Slot}
use Rattle.rv_text.specs.declared.fault.FaultKind.{FaultKind}

-- the bits of an operand
abbrev pub bits_of : Field → Result ℤ FaultKind → Result ℕ FaultKind
bits_of f r = r >>= λ z. Ok (placed_at f z)

-- the bits of operands
abbrev pub sum_of : List Slot → Result (List ℤ) FaultKind → Result ℕ FaultKind
sum_of slots r = r >>= λ zs. Ok (placed_in slots zs)
