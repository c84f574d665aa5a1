-- To believe: characters of a text and runs of them, names, and lines.
use Rattle.std.specs.Prelude.{ℕ, ◌==◌, ◌&&◌, ◌||◌, Bool, true, false, if◌then◌else◌, List, [], ◌∷◌}
use Rattle.std.specs.List.{list_all}
use Rattle.std.specs.Char.{is_ascii_alphabetic, is_ascii_alphanumeric}

-- space and tab
abbrev pub is_blank : ℕ → Bool
is_blank c = (c == 32) || (c == 9)

-- the characters of a name: letters, digits and `_`
abbrev pub is_of_name : ℕ → Bool
is_of_name c = is_ascii_alphanumeric c || (c == 95)

-- those of a mnemonic: also `.`
abbrev pub is_of_mnemonic : ℕ → Bool
is_of_mnemonic c = is_of_name c || (c == 46)

-- those of an operand: also `-`
abbrev pub is_of_operand : ℕ → Bool
is_of_operand c = is_of_mnemonic c || (c == 45)

-- those before a comment: all but `#`
abbrev pub is_of_code : ℕ → Bool
is_of_code c = if c == 35 then false else true

-- those of a line: all but the line feed
abbrev pub is_of_line : ℕ → Bool
is_of_line c = if c == 10 then false else true

abbrev pub is_colon : ℕ → Bool
is_colon c = c == 58

-- the longest run of such characters that a text begins with
abbrev pub run : (ℕ → Bool) → List ℕ → List ℕ
run p [] = []
run p (c ∷ cs) = if p c then c ∷ run p cs else []

-- what comes behind it
abbrev pub behind : (ℕ → Bool) → List ℕ → List ℕ
behind p [] = []
behind p (c ∷ cs) = if p c then behind p cs else c ∷ cs

-- the text without the blanks that it begins with
abbrev pub skip : List ℕ → List ℕ
skip text = behind is_blank text

-- whether a list has no elements, as a text no characters
abbrev pub is_empty : {A : Type 0} → List A → Bool
is_empty [] = true
is_empty (x ∷ xs) = false

-- whether the first character is such
abbrev pub begins : (ℕ → Bool) → List ℕ → Bool
begins p [] = false
begins p (c ∷ cs) = p c

-- a name: a letter or `_`, then letters, digits and `_`
abbrev pub is_name : List ℕ → Bool
is_name [] = false
is_name (c ∷ cs) = (is_ascii_alphabetic c || (c == 95)) && list_all is_of_name cs

-- a character more in the first of these lines
abbrev pub in_first : ℕ → List (List ℕ) → List (List ℕ)
in_first c [] = (c ∷ []) ∷ []
in_first c (l ∷ ls) = (c ∷ l) ∷ ls

-- the lines of a text: each ends at a line feed or at the end of the text
abbrev pub source_lines : List ℕ → List (List ℕ)
source_lines [] = [] ∷ []
source_lines (c ∷ cs) = if c == 10 then [] ∷ source_lines cs else in_first c (source_lines cs)
