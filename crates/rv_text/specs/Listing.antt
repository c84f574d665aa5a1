-- To believe: the listing, one line a word.
use Rattle.std.specs.Prelude.{ℕ, List, [], ◌∷◌, ◌++◌, ℤ}
use Rattle.rv_text.specs.Operands.{slots_of, operands_text}
use Rattle.rv_text.specs.Spelling.{Spelling, spelling_in}
use Rattle.rv_text.specs.declared.form.Slot.{Slot}

-- a space before the operands, if there are any
abbrev pub spaced : List Slot → List ℤ → List ℕ
spaced [] zs = []
spaced (s ∷ slots) zs = 32 ∷ operands_text (s ∷ slots) zs

-- a mnemonic and its operands
abbrev pub spelling_text : Spelling → List ℕ
spelling_text s = s.name ++ spaced (slots_of s.form) s.values

-- the line of a word, without its line feed
abbrev pub line_of : ℕ → List ℕ
line_of w = spelling_text (spelling_in w)

abbrev pub listing : List ℕ → List ℕ
listing [] = []
listing (w ∷ ws) = line_of w ++ (10 ∷ listing ws)
