-- To believe: the parts of a line, an optional label and then an optional statement.
use Rattle.std.specs.Prelude.{ℕ, Bool, if◌then◌else◌, ◌&&◌, List, drop, Option, Some, None, Result, Ok, Err}
use Rattle.rd_base.specs.Results.{◌>>=◌}
use Rattle.rv_text.specs.Characters.{is_of_mnemonic, is_of_code, is_colon, run, behind, skip, is_empty, begins, is_name}
use Rattle.rv_text.specs.Operands.{Distances, slots_of, operands_of}
use Rattle.rv_text.specs.Rows.{row_named, word_by}
use Rattle.rv_text.specs.declared.row.Row.{Row}
use Rattle.rv_text.specs.declared.fault.FaultKind.{FaultKind}
use Rattle.rv_text.specs.declared.fault.FaultKind.TheVariants.{OtherForm, UnknownMnemonic}

-- a line without its comment and the blanks at its head
abbrev pub code_in : List ℕ → List ℕ
code_in line = skip (run is_of_code line)

-- a mnemonic or a label, and what is behind it
abbrev pub first_word : List ℕ → List ℕ
first_word code = run is_of_mnemonic code

abbrev pub after_first_word : List ℕ → List ℕ
after_first_word code = behind is_of_mnemonic code

-- a name before a colon is a label
abbrev pub has_label : List ℕ → Bool
has_label code = is_name (first_word code) && begins is_colon (skip (after_first_word code))

abbrev pub label_in : List ℕ → Option (List ℕ)
label_in code = if has_label code then Some (first_word code) else None

-- what is behind the label
abbrev pub statement_in : List ℕ → List ℕ
statement_in code = if has_label code then skip (drop 1 (skip (after_first_word code))) else code

-- the word of a row with the operands of a text
abbrev pub word_of_row : Distances → Option Row → List ℕ → Result ℕ FaultKind
word_of_row distances (Some r) text = operands_of distances (slots_of r.form) text >>= λ zs. Ok (word_by r zs)
word_of_row distances None text = Err UnknownMnemonic

-- the word of a statement: a mnemonic and its operands
abbrev pub word_of_statement : Distances → List ℕ → Result ℕ FaultKind
word_of_statement distances text = if is_empty (first_word text) then Err OtherForm else word_of_row distances (row_named (first_word text)) (after_first_word text)

-- the word of a line, if it has one
unfoldable pub word_in : Distances → List ℕ → Result (Option ℕ) FaultKind
word_in distances text = if is_empty text then Ok None else (word_of_statement distances text >>= λ w. Ok (Some w))
