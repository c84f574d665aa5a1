-- To believe. THE SENTENCE OF TWO GUESTS, which names no machine: the line of `big` accepts the sum of its input's bytes, and the last line
-- of a case of guest/adler32/program.elf accepts the Adler-32 of the input; or two different strings of one digest are shown.
use Rattle.std.specs.Prelude.{◌≡◌, ◌⊎◌, ℕ, ◌+◌, ◌*◌, ◌≤◌, List, ◌++◌, Some, Contains, length, codes}
use Rattle.hex.specs.Hex.{encode_lower}
use Rattle.digest_core.specs.declared.name.DigestName.{DigestName}
use Rattle.digest_core.specs.declared.name.DigestName.TheVariants.{Sha256}
use Rattle.case_reader.specs.Case.{CaseData}
use Rattle.case_reader.specs.declared.case.Format.TheVariants.{Elf}
use Rattle.workload.specs.Workload.{input_of}
use Rattle.guests.specs.Sum.{summed_bytes}
use Rattle.guests.specs.Adler32.{adler32_of}
use Rattle.guests.specs.Adler32File.{adler32_file}
use Rattle.command_line.specs.Words.{chosen}
use Rattle.command_line.specs.declared.request.Command.TheVariants.{Big}
use Rattle.delegate.specs.InShort.{ImageRule, honest, HasLastLine, ShowsTwoStrings, TasksEnd, EndsWith, Collides, IsImageOf, IsBinaryImageOf, IsCaseOf, AreTasksOf, AskForTheMatch, AskForTheRun, SaysInShort}
use Rattle.delegate.specs.Plainly.{AreWordsOfJudge, AreWordsOfRun, SaysPlainly}

-- a run has exited with 0, and its output is these bytes
abbrev pub exited_with : List ℕ → List ℕ
exited_with output = codes "exited 0 output " ++ encode_lower output

-- `big`: the status is 0, and its line ends by accepting the sum of the input's bytes, or by two strings of one digest
abbrev pub SaysTheSum : List (List ℕ) → ℕ → List ℕ → Type 0
SaysTheSum words status text = (seed : ℕ) → chosen words ≡ Some (Big seed) →
    (status ≡ 0) × (EndsWith (codes "accept " ++ exited_with (summed_bytes (input_of seed))) text ⊎ ShowsTwoStrings EndsWith Sha256 text)

-- a case of the file, with any input and any provers, and with a bound that the run doesn't reach
pub record IsChecksumCase (c : CaseData) : Type 0 where
  pub format : c.format ≡ Elf
  pub image : c.image ≡ adler32_file
  pub version : c.version ≡ 3
  pub enough : 32 + 14 * length c.input ≤ c.bound

-- the line that accepts the checksum of a case
abbrev pub accepting_checksum : CaseData → List ℕ
accepting_checksum c = codes "accept " ++ exited_with (adler32_of c.input)

-- the last line of the text of a task, if it is of such a case and has a prover `{}`, accepts the checksum, or shows two strings of one digest
abbrev pub ChecksumEnds : DigestName → CaseData × List ℕ → Type 0
ChecksumEnds name task = IsChecksumCase task.0 → Contains task.0.provers honest → HasLastLine (accepting_checksum task.0) task.1 ⊎ ShowsTwoStrings HasLastLine name task.1

-- of what is asked for, bytes, status and text: of such a case `judge` ends so if one prover is `{}`, whatever the others say, and so does the
-- text of each such task; and `run` answers with the checksum
pub record SaysTheChecksum (IsImage : ImageRule) (judges : DigestName → Type 0) (runs : Type 0) (bytes : List ℕ) (status : ℕ) (text : List ℕ) : Type 0 where
  pub judge : (name : DigestName) (c : CaseData) → judges name → IsCaseOf bytes c → IsChecksumCase c → Contains c.provers honest →
      ((status ≡ 0) × HasLastLine (accepting_checksum c) text) ⊎ Collides name status text
  pub judge_tasks : (name : DigestName) (cs : List CaseData) → judges name → AreTasksOf IsImage bytes cs → TasksEnd (ChecksumEnds name) cs text
  pub run : (c : CaseData) → runs → IsCaseOf bytes c → IsChecksumCase c →
      (status ≡ 0) × (text ≡ codes "answer " ++ (exited_with (adler32_of c.input) ++ codes "\n"))

-- the law: what says the sentence in short says so, and what says it plainly
abbrev pub ChecksumsAreAccepted : Type 0
ChecksumsAreAccepted = (words : List (List ℕ)) (bytes : List ℕ) (status : ℕ) (text : List ℕ) →
    SaysInShort words bytes status text → SaysTheChecksum IsImageOf (AskForTheMatch words) (AskForTheRun words) bytes status text

abbrev pub ChecksumsAreAcceptedPlainly : Type 0
ChecksumsAreAcceptedPlainly = (words : List (List ℕ)) (bytes : List ℕ) (status : ℕ) (text : List ℕ) →
    SaysPlainly words bytes status text → SaysTheChecksum IsBinaryImageOf (AreWordsOfJudge words) (AreWordsOfRun words) bytes status text
