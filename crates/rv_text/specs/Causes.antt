-- To believe: which faults a statement has. It may have several: the law `least_fault_counts` says that the one with the least number is
-- the fault of its line.
use Rattle.std.specs.Prelude.{◌≡◌, ◌≤◌, ◌⊎◌, ℕ, Bool, true, false, ◌&&◌, ◌||◌, if◌then◌else◌, List, [], ◌∷◌, ℤ, Option, Some, None, is_some}
use Rattle.rv_text.specs.Characters.{is_blank, skip, is_empty, begins, is_name}
use Rattle.rv_text.specs.Numbers.{number_of_text, register_of_text}
use Rattle.rv_text.specs.Fields.{is_in, is_register, is_target}
use Rattle.rv_text.specs.Faults.{number_of_kind}
use Rattle.rv_text.specs.Operands.{Distances, slots_of, field_of, after_slot, next_operand, after_operand}
use Rattle.rv_text.specs.Rows.{row_named}
use Rattle.rv_text.specs.Lines.{first_word, after_first_word}
use Rattle.rv_text.specs.declared.row.Row.{Row}
use Rattle.rv_text.specs.declared.field.Field.{Field}
use Rattle.rv_text.specs.declared.form.Slot.{Slot}
use Rattle.rv_text.specs.declared.fault.FaultKind.{FaultKind}
use Rattle.rv_text.specs.declared.fault.FaultKind.TheVariants.{OtherForm, UnknownMnemonic, NoRegister, OutOfRange, Undefined, DefinedTwice}

-- ONE OPERAND

-- whether a text may stand as an operand: a name as a register, a name or a number as a target, and else a number
abbrev pub may_stand : Field → List ℕ → Bool
may_stand f operand = if is_register f then is_name operand else ((is_target f && is_name operand) || is_some (number_of_text operand))

-- the number that an operand which is no register stands for: a name in a target's place for its distance
abbrev pub stands_for : Distances → Field → List ℕ → Option ℤ
stands_for distances f operand = if is_target f && is_name operand then distances operand else number_of_text operand

-- a name in a register's place that is none of `x0` to `x31`
pub record IsUnknownRegister (f : Field) (operand : List ℕ) : Type 0 where
  pub of_register : is_register f ≡ true
  pub is_a_name : is_name operand ≡ true
  pub is_unknown : register_of_text operand ≡ None

-- a number, or a name's distance, out of the range of its operand
pub record IsOutside (distances : Distances) (f : Field) (operand : List ℕ) : Type 0 where
  pub of_number : is_register f ≡ false
  pub number : ℤ
  pub stands : stands_for distances f operand ≡ Some number
  pub is_outside : is_in f number ≡ false

-- a name in a target's place that no line defines
pub record IsUndefined (distances : Distances) (f : Field) (operand : List ℕ) : Type 0 where
  pub of_target : is_target f ≡ true
  pub is_a_name : is_name operand ≡ true
  pub is_undefined : distances operand ≡ None

-- a name in a target's place whose distance is out of range
pub record IsFar (distances : Distances) (f : Field) (operand : List ℕ) : Type 0 where
  pub of_target : is_target f ≡ true
  pub is_a_name : is_name operand ≡ true
  pub distance : ℤ
  pub is_distance : distances operand ≡ Some distance
  pub is_far : is_in f distance ≡ false

-- ALL OPERANDS

-- what follows a mark is such, and the mark comes next
abbrev pub Follows : Option (List ℕ) → (List ℕ → Type 0) → Type 0
Follows (Some rest) is_such = is_such rest
Follows None is_such = ⊥

-- some operand of a text, in the place of its field, is such
abbrev pub SomeOperand : (Field → List ℕ → Type 0) → List Slot → List ℕ → Type 0
SomeOperand is_such [] text = ⊥
SomeOperand is_such (s ∷ slots) text = is_such (field_of s) (next_operand text) ⊎ Follows (after_slot s (after_operand text)) (λ rest. SomeOperand is_such slots rest)

-- a mark is missing, or what follows it is such
abbrev pub MissingOr : Option (List ℕ) → (List ℕ → Type 0) → Type 0
MissingOr (Some rest) is_such = is_such rest
MissingOr None is_such = Unit {0}

-- the operands have another form: one may not stand in its place, a mark is missing, or something is behind the last one
abbrev pub HasOtherOperands : List Slot → List ℕ → Type 0
HasOtherOperands [] text = is_empty (skip text) ≡ false
HasOtherOperands (s ∷ slots) text = (may_stand (field_of s) (next_operand text) ≡ false) ⊎ MissingOr (after_slot s (after_operand text)) (λ rest. HasOtherOperands slots rest)

-- A STATEMENT

-- it begins with the mnemonic of this row
pub record HasMnemonic (text : List ℕ) (row : Row) : Type 0 where
  pub is_there : is_empty (first_word text) ≡ false
  pub is_row : row_named (first_word text) ≡ Some row

-- one of its operands is at fault
pub record HasFaultyOperand (is_faulty : Field → List ℕ → Type 0) (text : List ℕ) : Type 0 where
  pub row : Row
  pub has_mnemonic : HasMnemonic text row
  pub operand : SomeOperand is_faulty (slots_of row.form) (after_first_word text)

-- it begins with a run of letters, digits, `.` and `_` that is no mnemonic
pub record HasUnknownMnemonic (text : List ℕ) : Type 0 where
  pub is_there : is_empty (first_word text) ≡ false
  pub is_unknown : row_named (first_word text) ≡ None

-- it begins with no run of letters, digits, `.` and `_`, or no blank follows a mnemonic that takes operands, or these have another form
pub data HasOtherForm (text : List ℕ) : Type 0 where
  no_word : is_empty text ≡ false → is_empty (first_word text) ≡ true → HasOtherForm text
  no_blank : (row : Row) → HasMnemonic text row → (is_empty (slots_of row.form) || begins is_blank (after_first_word text)) ≡ false → HasOtherForm text
  other_operands : (row : Row) → HasMnemonic text row → HasOtherOperands (slots_of row.form) (after_first_word text) → HasOtherForm text

-- a statement has this fault, perhaps beside others; that a name is defined twice is a fault of its label
abbrev pub HasFault : Distances → List ℕ → FaultKind → Type 0
HasFault distances text OtherForm = HasOtherForm text
HasFault distances text UnknownMnemonic = HasUnknownMnemonic text
HasFault distances text NoRegister = HasFaultyOperand IsUnknownRegister text
HasFault distances text OutOfRange = HasFaultyOperand (IsOutside distances) text
HasFault distances text Undefined = HasFaultyOperand (IsUndefined distances) text
HasFault distances text DefinedTwice = ⊥

-- of the faults that there are, the one with the least number
pub record IsLeast (has_fault : FaultKind → Type 0) (k : FaultKind) : Type 0 where
  pub is_there : has_fault k
  pub is_least : (j : FaultKind) → has_fault j → number_of_kind k ≤ number_of_kind j
