-- To believe: the operands of a form, how they are read, and how they are written.
use Rattle.std.specs.Prelude.{ℕ, zero, suc, ◌+◌, ◌/◌, ◌%◌, ◌==◌, ◌&&◌, ◌||◌, if◌then◌else◌, List, [], ◌∷◌, ◌++◌, ℤ, unsigned_abs, Option, Some, None, Result, Ok, Err, nat_lt, decimal}
use Rattle.std.specs.Option.{ok_or}
use Rattle.std.specs.Fmt.{signed_decimal}
use Rattle.rd_base.specs.Results.{◌>>=◌}
use Rattle.rv_text.specs.Characters.{is_blank, is_of_operand, run, behind, skip, is_empty, begins, is_name}
use Rattle.rv_text.specs.Numbers.{number_of_text, register_of_text}
use Rattle.rv_text.specs.Fields.{is_in, is_register, is_target}
use Rattle.rv_text.specs.Faults.{earlier}
use Rattle.rv_text.specs.declared.field.Field.{Field}
use Rattle.rv_text.specs.declared.field.Field.TheVariants.{Rd, Rs1, Rs2, Immediate, Shift, StoreOffset, BranchTarget, JumpTarget, Upper, Word}
use Rattle.rv_text.specs.declared.form.Form.{Form}
use Rattle.rv_text.specs.declared.form.Form.TheVariants as form
use Rattle.rv_text.specs.declared.form.Mark.{Mark}
use Rattle.rv_text.specs.declared.form.Mark.TheVariants.{Comma, Open, Close}
use Rattle.rv_text.specs.declared.form.Slot.{Slot}
use Rattle.rv_text.specs.declared.form.Slot.TheVariants.{Last, UpTo}
use Rattle.rv_text.specs.declared.fault.FaultKind.{FaultKind}
use Rattle.rv_text.specs.declared.fault.FaultKind.TheVariants.{OtherForm, NoRegister, OutOfRange, Undefined}

-- the operands of a form, each with the mark that follows it
abbrev pub slots_of : Form → List Slot
slots_of form.Registers = UpTo Rd Comma ∷ UpTo Rs1 Comma ∷ Last Rs2 ∷ []
slots_of form.Immediate = UpTo Rd Comma ∷ UpTo Rs1 Comma ∷ Last Immediate ∷ []
slots_of form.Shift = UpTo Rd Comma ∷ UpTo Rs1 Comma ∷ Last Shift ∷ []
slots_of form.Based = UpTo Rd Comma ∷ UpTo Immediate Open ∷ UpTo Rs1 Close ∷ []
slots_of form.Store = UpTo Rs2 Comma ∷ UpTo StoreOffset Open ∷ UpTo Rs1 Close ∷ []
slots_of form.Branch = UpTo Rs1 Comma ∷ UpTo Rs2 Comma ∷ Last BranchTarget ∷ []
slots_of form.Jump = UpTo Rd Comma ∷ Last JumpTarget ∷ []
slots_of form.Upper = UpTo Rd Comma ∷ Last Upper ∷ []
slots_of form.Alone = []
slots_of form.Word = Last Word ∷ []

abbrev pub field_of : Slot → Field
field_of (Last f) = f
field_of (UpTo f mark) = f

abbrev pub character : Mark → ℕ
character Comma = 44
character Open = 40
character Close = 41

-- READING

-- how far names are from a word, in bytes
abbrev pub Distances : Type 0
Distances = List ℕ → Option ℤ

-- a number that must be in its range
abbrev pub ranged : Field → ℤ → Result ℤ FaultKind
ranged f z = if is_in f z then Ok z else Err OutOfRange

-- one that is there, or else this fault
abbrev pub ranged_or : FaultKind → Field → Option ℤ → Result ℤ FaultKind
ranged_or missing f o = ok_or o missing >>= ranged f

-- any name may be in a register's place, and is a fault of its own if it is no register
abbrev pub registered_in : List ℕ → Result ℤ FaultKind
registered_in text = if is_name text then ok_or (register_of_text text) NoRegister else Err OtherForm

-- the value of an operand
abbrev pub operand_in : Distances → Field → List ℕ → Result ℤ FaultKind
operand_in distances f text =
    if is_register f then registered_in text
    else if is_target f && is_name text then ranged_or Undefined f (distances text)
    else ranged_or OtherForm f (number_of_text text)

-- what two values come to, or the fault that counts
abbrev pub both : {A B C : Type 0} → (A → B → C) → Result A FaultKind → Result B FaultKind → Result C FaultKind
both f (Ok x) (Ok y) = Ok (f x y)
both f (Ok x) (Err k) = Err k
both f (Err j) (Ok y) = Err j
both f (Err j) (Err k) = Err (earlier j k)

-- what follows a mark, if the mark comes next
abbrev pub after_mark : Mark → List ℕ → Option (List ℕ)
after_mark mark [] = None
after_mark mark (c ∷ cs) = if c == character mark then Some cs else None

-- what follows a slot's mark, if it has one
abbrev pub after_slot : Slot → List ℕ → Option (List ℕ)
after_slot (Last f) text = Some text
after_slot (UpTo f mark) text = after_mark mark text

-- the characters of the next operand, and what follows them
abbrev pub next_operand : List ℕ → List ℕ
next_operand text = run is_of_operand (skip text)

abbrev pub after_operand : List ℕ → List ℕ
after_operand text = skip (behind is_of_operand (skip text))

-- the values of all operands
abbrev pub operands_in : Distances → List Slot → List ℕ → Result (List ℤ) FaultKind
operands_in distances [] text = if is_empty (skip text) then Ok [] else Err OtherForm
operands_in distances (s ∷ slots) text =
    both ◌∷◌ (operand_in distances (field_of s) (next_operand text)) (ok_or (after_slot s (after_operand text)) OtherForm >>= λ rest. operands_in distances slots rest)

-- a blank comes before the operands, if there are any
abbrev pub operands_of : Distances → List Slot → List ℕ → Result (List ℤ) FaultKind
operands_of distances slots text = if is_empty slots || begins is_blank text then operands_in distances slots text else Err OtherForm

-- WRITING

-- a hexadecimal digit in lower case
abbrev pub hex_digit : ℕ → ℕ
hex_digit d = if nat_lt d 10 then d + 48 else d + 87

-- this many hexadecimal digits
unfoldable pub hex_digits : ℕ → ℕ → List ℕ
hex_digits zero n = []
hex_digits (suc k) n = hex_digits k (n / 16) ++ hex_digit (n % 16) ∷ []

-- a register after `x`, a word with eight hexadecimal digits, other numbers in decimal
abbrev pub operand_text : Field → ℤ → List ℕ
operand_text Rd z = 120 ∷ decimal (unsigned_abs z)
operand_text Rs1 z = 120 ∷ decimal (unsigned_abs z)
operand_text Rs2 z = 120 ∷ decimal (unsigned_abs z)
operand_text Word z = 48 ∷ 120 ∷ hex_digits 8 (unsigned_abs z)
operand_text _ z = signed_decimal z

-- a space after a comma
abbrev pub mark_text : Mark → List ℕ
mark_text Comma = 44 ∷ 32 ∷ []
mark_text Open = 40 ∷ []
mark_text Close = 41 ∷ []

abbrev pub operands_text : List Slot → List ℤ → List ℕ
operands_text (Last f ∷ slots) (z ∷ zs) = operand_text f z
operands_text (UpTo f mark ∷ slots) (z ∷ zs) = operand_text f z ++ (mark_text mark ++ operands_text slots zs)
operands_text _ _ = []
