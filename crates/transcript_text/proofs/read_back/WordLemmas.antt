-- What stands behind a word.
use Rattle.std.proofs.Common.{◌≡◌, ℕ, zero, suc, ◌<◌, List, [], ◌∷◌, length, drop, None, refl, arith}
use Rattle.transcript_text.specs.reader.Fields.{behind_word}

-- no bytes begin with a word of which a letter is left
pub behind_no_bytes : (word bytes : List ℕ) (i : ℕ) → i < length word → length bytes < 1 → behind_word (drop i word) bytes ≡ None
behind_no_bytes [] bytes i within none = absurd (omega arith)
behind_no_bytes (w ∷ ws) [] zero within none = refl
behind_no_bytes (w ∷ ws) [] (suc i) within none = behind_no_bytes ws [] i (omega arith) (omega arith)
behind_no_bytes (w ∷ ws) (b ∷ bs) i within none = absurd (omega arith)
