-- To believe: the faults of a line, by number. Within a pass, of several faults of one line the one with the least number counts; the first
-- pass finds 1, 2, 3, 4 and 6, the second 5 and the 4 of a name.
use Rattle.std.specs.Prelude.{ℕ, if◌then◌else◌, nat_lt}
use Rattle.rv_text.specs.declared.fault.FaultKind.{FaultKind}
use Rattle.rv_text.specs.declared.fault.FaultKind.TheVariants.{OtherForm, UnknownMnemonic, NoRegister, OutOfRange, Undefined, DefinedTwice}
use Rattle.rv_text.specs.declared.fault.AsmFault.{AsmFault}

-- the number of a kind
abbrev pub number_of_kind : FaultKind → ℕ
number_of_kind OtherForm = 1
number_of_kind UnknownMnemonic = 2
number_of_kind NoRegister = 3
number_of_kind OutOfRange = 4
number_of_kind Undefined = 5
number_of_kind DefinedTwice = 6

-- of two faults the one that counts
abbrev pub earlier : FaultKind → FaultKind → FaultKind
earlier j k = if nat_lt (number_of_kind k) (number_of_kind j) then k else j

-- a fault in a line
abbrev pub fault : ℕ → FaultKind → AsmFault
fault line kind = record { kind = kind; line = line }
