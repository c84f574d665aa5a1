-- To believe: which place a label stands for, by the lines before it.
use Rattle.std.specs.Prelude.{◌≡◌, ℕ, ◌+◌, ◌*◌, Bool, not, if◌then◌else◌, List, [], ◌∷◌, ◌++◌, Some}
use Rattle.rv_text.specs.Characters.{is_empty}
use Rattle.rv_text.specs.Lines.{code_in, label_in, statement_in}

-- whether a line has a statement
abbrev pub has_statement : List ℕ → Bool
has_statement line = not (is_empty (statement_in (code_in line)))

-- how many words lines have
abbrev pub word_count : List (List ℕ) → ℕ
word_count [] = 0
word_count (l ∷ ls) = (if has_statement l then 1 else 0) + word_count ls

-- one of these lines has this label, and the place is four bytes for each word of the lines before it, from a start
pub record IsPlaceFrom (start : ℕ) (lines : List (List ℕ)) (name : List ℕ) (place : ℕ) : Type 0 where
  pub before : List (List ℕ)
  pub line : List ℕ
  pub behind : List (List ℕ)
  pub are_lines : lines ≡ before ++ (line ∷ behind)
  pub is_label : label_in (code_in line) ≡ Some name
  pub is_place : place ≡ start + 4 * word_count before

-- the same in a text, whose first word has the place 0
abbrev pub IsPlace : List (List ℕ) → List ℕ → ℕ → Type 0
IsPlace = IsPlaceFrom 0
