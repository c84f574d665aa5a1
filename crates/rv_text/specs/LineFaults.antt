-- To believe: the lines of a text by number, from 0 on, which faults each has in either pass, and which words they stand for.
use Rattle.std.specs.Prelude.{◌≡◌, ◌↔◌, ℕ, ◌+◌, ◌*◌, ◌<◌, true, List, [], length, take, get_or, slice_index, Option, Some}
use Rattle.rv_text.specs.Lines.{code_in, label_in, statement_in}
use Rattle.rv_text.specs.Operands.{Distances}
use Rattle.rv_text.specs.Assembly.{Names, near, distances_from}
use Rattle.rv_text.specs.Labels.{has_statement, word_count, IsPlace}
use Rattle.rv_text.specs.Meaning.{StandsForWord}
use Rattle.rv_text.specs.Causes.{HasFault, IsLeast}
use Rattle.rv_text.specs.declared.fault.FaultKind.{FaultKind}
use Rattle.rv_text.specs.declared.fault.FaultKind.TheVariants.{DefinedTwice}
use Rattle.rv_text.specs.declared.fault.AsmFault.{AsmFault}

-- the line with a number, and what it says
abbrev pub line_at : List (List ℕ) → ℕ → List ℕ
line_at lines i = get_or lines i []

abbrev pub label_at : List (List ℕ) → ℕ → Option (List ℕ)
label_at lines i = label_in (code_in (line_at lines i))

abbrev pub statement_at : List (List ℕ) → ℕ → List ℕ
statement_at lines i = statement_in (code_in (line_at lines i))

-- how many words the lines before a line have
abbrev pub words_before : List (List ℕ) → ℕ → ℕ
words_before lines i = word_count (take i lines)

-- a line before this one has this label
pub record IsLabelledBefore (lines : List (List ℕ)) (i : ℕ) (name : List ℕ) : Type 0 where
  pub index : ℕ
  pub is_before : index < i
  pub is_label : label_at lines index ≡ Some name

-- a line has the label of a line before it
pub record IsDefinedTwice (lines : List (List ℕ)) (i : ℕ) : Type 0 where
  pub name : List ℕ
  pub is_label : label_at lines i ≡ Some name
  pub is_earlier : IsLabelledBefore lines i name

-- the faults that a line has before places are known: those of its statement, and that its label is defined twice
abbrev pub HasLineFault : List (List ℕ) → ℕ → FaultKind → Type 0
HasLineFault lines i DefinedTwice = IsDefinedTwice lines i
HasLineFault lines i k = HasFault near (statement_at lines i) k

-- how far names are from the word of a line, by the places of names: this word has the place of four bytes for each word before it
abbrev pub distances_at : Names → List (List ℕ) → ℕ → Distances
distances_at names lines i = distances_from names (4 * words_before lines i)

-- the faults that a line has once the places of names are known
abbrev pub HasLaterFault : Names → List (List ℕ) → ℕ → FaultKind → Type 0
HasLaterFault names lines i k = HasFault (distances_at names lines i) (statement_at lines i) k

-- no line has a fault
abbrev pub AreFaultless : (ℕ → FaultKind → Type 0) → List (List ℕ) → Type 0
AreFaultless has_fault lines = (i : ℕ) → i < length lines → (k : FaultKind) → has_fault i k → ⊥

-- the fault of the first line that has one; of several in that line the one with the least number. Lines are numbered from 1 on in faults
pub record IsFirstFault (has_fault : ℕ → FaultKind → Type 0) (lines : List (List ℕ)) (f : AsmFault) : Type 0 where
  pub index : ℕ
  pub is_line : index < length lines
  pub is_number : f.line ≡ 1 + index
  pub is_fault : IsLeast (has_fault index) f.kind
  pub is_first : (i : ℕ) → i < index → (k : FaultKind) → has_fault i k → ⊥

-- words are those of the lines that have statements, one for each in their order: that of a line is behind those of the lines before it,
-- and the names in its statement stand for the distances from its place
pub record AreWordsOf (names : Names) (lines : List (List ℕ)) (words : List ℕ) : Type 0 where
  pub count : length words ≡ word_count lines
  pub each : (i : ℕ) → i < length lines → has_statement (line_at lines i) ≡ true → StandsForWord (distances_at names lines i) (statement_at lines i) (slice_index words (words_before lines i))

-- names stand for the places of the labels of lines
abbrev pub AreNamesOf : Names → List (List ℕ) → Type 0
AreNamesOf names lines = (name : List ℕ) (place : ℕ) → (names name ≡ Some place) ↔ IsPlace lines name place

-- the words of a text: no line has a fault, and each word is that of a statement
pub record IsAssembled (lines : List (List ℕ)) (words : List ℕ) : Type 0 where
  pub names : Names
  pub are_places : AreNamesOf names lines
  pub are_words : AreWordsOf names lines words
  pub faultless : AreFaultless (HasLineFault lines) lines
  pub faultless_later : AreFaultless (HasLaterFault names lines) lines

-- the fault of a text: the first one that a line has before places are known, or, if none has one, the first one later
pub data IsFaultOf (lines : List (List ℕ)) (f : AsmFault) : Type 0 where
  at_first : IsFirstFault (HasLineFault lines) lines f → IsFaultOf lines f
  later : (names : Names) → AreNamesOf names lines → AreFaultless (HasLineFault lines) lines → IsFirstFault (HasLaterFault names lines) lines f → IsFaultOf lines f
