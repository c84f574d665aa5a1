-- To believe: for which chunk of memory an instruction's data call.
use Rattle.std.specs.Prelude.{ℕ, Option, Some, None}
use Rattle.rv_step.specs.declared.asked.Need.{Need}
use Rattle.rv_step.specs.declared.asked.Need.TheVariants as need

-- the address that an instruction reads or writes: that of an aligned load or store
abbrev pub address_needed : Need → Option ℕ
address_needed (need.Load addr width) = Some addr
address_needed (need.Store addr width value) = Some addr
address_needed n = None
