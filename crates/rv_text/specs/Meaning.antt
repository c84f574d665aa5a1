-- To believe: which word a written instruction stands for, by the words of the instructions.
use Rattle.std.specs.Prelude.{◌≡◌, ℕ, List, Ok}
use Rattle.rv_decode.specs.Word.{word_of}
use Rattle.rv_decode.specs.declared.instr.Instr.{Instr}
use Rattle.rv_text.specs.Operands.{Distances, slots_of, operands_of}
use Rattle.rv_text.specs.Lines.{first_word, after_first_word}
use Rattle.rv_text.specs.Spelling.{Spelling, spelling_of, raw}

-- a text that begins with this mnemonic, and has operands of its form with these values
pub record IsSpelledBy (distances : Distances) (text : List ℕ) (s : Spelling) : Type 0 where
  pub mnemonic : first_word text ≡ s.name
  pub operands : operands_of distances (slots_of s.form) (after_first_word text) ≡ Ok s.values

-- the word of an instruction, or a word as such
pub data IsWordOf (s : Spelling) (w : ℕ) : Type 0 where
  of_instruction : (i : Instr) → s ≡ spelling_of i → word_of i ≡ w → IsWordOf s w
  of_itself : s ≡ raw w → IsWordOf s w

-- a text stands for this word
pub record StandsForWord (distances : Distances) (text : List ℕ) (w : ℕ) : Type 0 where
  pub spelling : Spelling
  pub is_spelled : IsSpelledBy distances text spelling
  pub is_word : IsWordOf spelling w
