-- To believe, for the laws `options_are_taken`, `plain_options_are_taken` and `help_is_refused`. The options of `judge` and of `big` as they
-- are written, and which lists of them are taken; and words that ask for help.
use Rattle.std.specs.Prelude.{◌≡◌, ◌≤◌, ℕ, ◌&&◌, List, [], ◌∷◌, ◌++◌, All, map, Bool, true, false, not, codes, decimal, find, is_none, is_some, nat_le, Option, Some, if◌then◌else◌}
use Rattle.std.specs.List.{IsDistinct}
use Rattle.std.specs.Str.{bytes_eq}
use Rattle.clap.specs.ValueTests.{is_unsigned_in}
use Rattle.digest_core.specs.Name.{digest_text}
use Rattle.digest_core.specs.declared.name.DigestName.{DigestName}
use Rattle.digest_core.specs.declared.name.DigestName.TheVariants.{Sha256}
use Rattle.command_line.specs.declared.request.MatchText.{MatchText}
use Rattle.command_line.specs.declared.request.MatchText.TheVariants.{Report, Full}
use Rattle.command_line.specs.declared.request.Command.{Command}
use Rattle.command_line.specs.declared.request.Command.TheVariants.{Judge}
use Rattle.command_line.specs.Words.{chosen}

-- an option with a number
pub data OptionName : Type 0 where
  workers : OptionName
  posters : OptionName
  every : OptionName

-- an option as it was given
pub data Given : Type 0 where
  -- one with its number's word
  number : OptionName → List ℕ → Given
  -- `--full`
  full : Given
  -- `--digest` with the name of a digest
  digest : DigestName → Given

-- its name
abbrev pub name_text : OptionName → List ℕ
name_text workers = codes "workers"
name_text posters = codes "posters"
name_text every = codes "every"

abbrev pub name_of : Given → List ℕ
name_of (number o text) = name_text o
name_of full = codes "full"
name_of (digest name) = codes "digest"

-- the largest number of an option
abbrev pub most_of : OptionName → ℕ
most_of workers = 64
most_of posters = 16
most_of every = 65536

-- the name with its hyphens
abbrev pub option_word : OptionName → List ℕ
option_word o = codes "--" ++ name_text o

-- the words of options one after another
abbrev pub words_of : List Given → List (List ℕ)
words_of [] = []
words_of (number o text ∷ gs) = option_word o ∷ text ∷ words_of gs
words_of (full ∷ gs) = codes "--full" ∷ words_of gs
words_of (digest name ∷ gs) = codes "--digest" ∷ digest_text name ∷ words_of gs

abbrev pub begins_with_digit : List ℕ → Bool
begins_with_digit [] = false
begins_with_digit (x ∷ xs) = nat_le 48 x && nat_le x 57

-- an option as it is plainly written: a number is decimal, and in its option's range
pub record IsPlainNumber (o : OptionName) (text : List ℕ) : Type 0 where
  pub number : ℕ
  pub least : 1 ≤ number
  pub most : number ≤ most_of o
  pub written : text ≡ decimal number

abbrev pub IsPlain : Given → Type 0
IsPlain (number o text) = IsPlainNumber o text
IsPlain other = Unit {0}

-- options that are plainly written, none of them twice
pub record ArePlain (given : List Given) : Type 0 where
  pub each : All IsPlain given
  pub once : IsDistinct bytes_eq (map name_of given)

-- an option of `judge`: a number's word begins with a decimal digit
abbrev pub IsOfJudge : Given → Type 0
IsOfJudge (number o text) = begins_with_digit text ≡ true
IsOfJudge other = Unit {0}

-- an option of `big`: one with a number, whose word begins with a decimal digit
abbrev pub IsOfBig : Given → Type 0
IsOfBig (number o text) = begins_with_digit text ≡ true
IsOfBig other = ⊥

-- a number is in its option's range
abbrev pub is_fine : Given → Bool
is_fine (number o text) = is_unsigned_in 1 (most_of o) text
is_fine other = true

-- the first option of this name
abbrev pub given_by : List ℕ → List Given → Option Given
given_by name gs = find (λ g. bytes_eq (name_of g) name) gs

-- each number is in its option's range, and no option is given twice, nor one that is among those before
abbrev pub are_taken_after : List Given → List Given → Bool
are_taken_after before [] = true
are_taken_after before (g ∷ gs) = not (is_some (given_by (name_of g) before)) && (is_fine g && are_taken_after (before ++ g ∷ []) gs)

abbrev pub are_taken : List Given → Bool
are_taken gs = are_taken_after [] gs

-- the full text is asked for by `--full`, and else the report
abbrev pub text_asked : List Given → MatchText
text_asked gs = if is_some (given_by (codes "full") gs) then Full else Report

abbrev pub digest_or : Option Given → DigestName
digest_or (Some (digest name)) = name
digest_or other = Sha256

-- the digest is that of the name, and SHA-256 if none is given
abbrev pub digest_asked : List Given → DigestName
digest_asked gs = digest_or (given_by (codes "digest") gs)

-- `judge` with these options
abbrev pub judge_of : List Given → Command
judge_of gs = Judge (text_asked gs) (digest_asked gs)

-- HELP AND VERSION: the words by which programs are asked for them
abbrev pub help_words : List (List ℕ)
help_words = codes "--help" ∷ codes "-h" ∷ codes "help" ∷ codes "--version" ∷ codes "-V" ∷ []

-- each command with what has to be given to it
abbrev pub plain_commands : List (List (List ℕ))
plain_commands =
    (codes "judge" ∷ []) ∷ (codes "run" ∷ []) ∷ (codes "roots" ∷ []) ∷ (codes "audit" ∷ []) ∷ (codes "list" ∷ []) ∷ (codes "big" ∷ codes "0" ∷ []) ∷ []

-- the words behind a program's name name no command
abbrev pub is_refused : List ℕ → List (List ℕ) → Bool
is_refused program words = is_none (chosen (program ∷ words))
