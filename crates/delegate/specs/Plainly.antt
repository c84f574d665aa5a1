-- To believe. THE SENTENCE IN SHORT, said plainly: of the words that a user types, `PROGRAM judge` with its options or `PROGRAM run`, and of
-- images that are files of bytes. It names no rule of `clap` and no grammar of an assembly text. What follows from `InShort` by how these
-- words are taken (`options_are_taken`, `plain_words`).
use Rattle.std.specs.Prelude.{◌≡◌, ℕ, List, [], ◌∷◌, codes}
use Rattle.digest_core.specs.declared.name.DigestName.{DigestName}
use Rattle.command_line.specs.Options.{Given, ArePlain, words_of, digest_asked}
use Rattle.delegate.specs.InShort.{IsBinaryImageOf, Sentence}

-- `PROGRAM judge` with options, each at most once and its number in decimal. They ask for a digest, or for SHA-256
pub record AreWordsOfJudge (words : List (List ℕ)) (name : DigestName) : Type 0 where
  pub program : List ℕ
  pub given : List Given
  pub plain : ArePlain given
  pub are : words ≡ program ∷ codes "judge" ∷ words_of given
  pub asked : name ≡ digest_asked given

-- `PROGRAM run`
pub record AreWordsOfRun (words : List (List ℕ)) : Type 0 where
  pub program : List ℕ
  pub are : words ≡ program ∷ codes "run" ∷ []

abbrev pub SaysPlainly : List (List ℕ) → List ℕ → ℕ → List ℕ → Type 0
SaysPlainly words bytes status text = Sentence IsBinaryImageOf (AreWordsOfJudge words) (AreWordsOfRun words) bytes status text
