-- To believe. THE SENTENCE IN SHORT: if a prover of the case is `{}`, the last line that is written accepts what the machine's definition
-- computes, or shows two different strings of one digest; of tasks, the text of each that has such a prover. What is named is how
-- arguments, a case and its image are read, the machine, and two lines of text: of the provers only that one of them is `{}`, and nothing
-- of how a match is played, committed or judged.
use Rattle.std.specs.Prelude.{◌≡◌, ◌≢◌, ◌≤◌, ◌⊎◌, ℕ, List, Contains, All, length, zip, codes, ◌++◌, Option, option_map, Some, Ok}
use Rattle.std.specs.Io.KnownBytes.{Appends}
use Rattle.hex.specs.Hex.{encode_lower}
use Rattle.rd_base.specs.declared.script.Script.{Script}
use Rattle.rd_base.specs.declared.script.Manner.TheVariants.{Plain}
use Rattle.rd_base.specs.declared.tamper.Tamper.TheVariants.{Untouched}
use Rattle.mem_plain.specs.Contents.{no_bytes, laid}
use Rattle.rv_step.specs.State.{State}
use Rattle.rv_step.specs.Step.{state_at}
use Rattle.rv_step.specs.Loaded.{started}
use Rattle.case_reader.specs.Case.{CaseData, tree_of, case_at}
use Rattle.case_reader.specs.Tasks.{Many, many_of}
use Rattle.case_reader.specs.declared.case.Format.{Format}
use Rattle.case_reader.specs.declared.case.Format.TheVariants.{Flat, Elf, Asm}
use Rattle.image_reader.specs.Image.{Image, flat_at}
use Rattle.image_reader.specs.Elf.{elf_at}
use Rattle.delegate.specs.AsmImage.{asm_at}
use Rattle.digest_core.specs.declared.name.DigestName.{DigestName}
use Rattle.digest_core.specs.declared.name.DigestName.TheVariants.{Sha256}
use Rattle.transcript_text.specs.Report.{answer_text}
use Rattle.transcript_text.specs.reader.InLimits.{AreBytes}
use Rattle.workload.specs.Workload.{input_of}
use Rattle.workload.specs.Program.{program}
use Rattle.command_line.specs.Words.{chosen}
use Rattle.command_line.specs.declared.request.MatchText.{MatchText}
use Rattle.command_line.specs.declared.request.Command.TheVariants.{Judge, Run, Big}
use Rattle.digest_core.specs.Name.{digest_of}
use Rattle.transcript_text.specs.TaskParts.{IsTaskPart}
use Rattle.delegate.specs.Decided.{texts_under}
use Rattle.delegate.specs.declared.response.Subject.TheVariants.{Task}

-- THE CASE

-- how the image of a file is read, by its format
abbrev pub ImageRule : Type 1
ImageRule = Format → List ℕ → Image → Type 0

-- files of bytes, as they are in memory or as ELF; no text of instructions
abbrev pub IsBinaryImageOf : ImageRule
IsBinaryImageOf Flat file image = flat_at file ≡ Ok image
IsBinaryImageOf Elf file image = elf_at file ≡ Ok image
IsBinaryImageOf Asm text image = ⊥

-- files of each format
abbrev pub IsImageOf : ImageRule
IsImageOf Asm text image = asm_at text ≡ Ok image
IsImageOf format file image = IsBinaryImageOf format file image

-- the run of a case starts in this state, its image being read so
pub record IsStartOf (IsImage : ImageRule) (c : CaseData) (start : State) : Type 0 where
  pub image : Image
  pub loads : IsImage c.format c.image image
  pub is : start ≡ started c.version image.memory image.entry c.input

-- the bytes are not too many, and they are this case
pub record IsCaseOf (bytes : List ℕ) (c : CaseData) : Type 0 where
  pub short : length bytes ≤ 16777216
  pub reads : case_at bytes ≡ Ok c

-- the bytes are not too many, and they are these tasks, 1 to 8 cases under the key `tasks`, whose images load
pub record AreTasksOf (IsImage : ImageRule) (bytes : List ℕ) (cs : List CaseData) : Type 0 where
  pub short : length bytes ≤ 16777216
  pub reads : option_map many_of (tree_of bytes) ≡ Some (Ok (Many cs))
  pub load : All (λ (c : CaseData). (start : State) × IsStartOf IsImage c start) cs

-- the script `{}`, of a prover whose run is untouched and that answers at once
abbrev pub honest : Script
honest = record { tamper = Untouched; manner = Plain }

-- THE LAST LINE

-- a line before it ends, and it is the last one
pub record HasLastLine (line text : List ℕ) : Type 0 where
  pub before : List ℕ
  pub whole : text ≡ before ++ (codes "\n" ++ (line ++ codes "\n"))

abbrev pub accepting : State → List ℕ
accepting final = codes "accept " ++ answer_text final.status final.output

abbrev pub colliding : List ℕ → List ℕ → List ℕ
colliding x y = codes "collision " ++ (encode_lower x ++ (codes " " ++ encode_lower y))

-- two different strings of bytes with one digest
pub record AreOfOneDigest (name : DigestName) (x y : List ℕ) : Type 0 where
  pub first : AreBytes x
  pub second : AreBytes y
  pub differ : x ≢ y
  pub one_digest : digest_of name x ≡ digest_of name y

-- EITHER the status is 0, and the last line accepts the status and the output in this state
pub record Accepts (final : State) (status : ℕ) (text : List ℕ) : Type 0 where
  pub done : status ≡ 0
  pub last : HasLastLine (accepting final) text

-- two different strings with one digest are shown where the text ends: by its last line, say
pub record ShowsTwoStrings (Ends : List ℕ → List ℕ → Type 0) (name : DigestName) (text : List ℕ) : Type 0 where
  pub x : List ℕ
  pub y : List ℕ
  pub strings : AreOfOneDigest name x y
  pub last : Ends (colliding x y) text

-- OR the status is 11, and the last line shows such strings
pub record Collides (name : DigestName) (status : ℕ) (text : List ℕ) : Type 0 where
  pub collision : status ≡ 11
  pub shows : ShowsTwoStrings HasLastLine name text

-- `run`: the status is 0, and the one line answers with the status and the output in this state
pub record AnswersWith (final : State) (status : ℕ) (text : List ℕ) : Type 0 where
  pub done : status ≡ 0
  pub line : text ≡ codes "answer " ++ (answer_text final.status final.output ++ codes "\n")

abbrev pub AcceptsOrCollides : DigestName → State → ℕ → List ℕ → Type 0
AcceptsOrCollides name final status text = Accepts final status text ⊎ Collides name status text

-- TASKS

-- the text under the line of a task ends so by its last line, if one prover of its case is `{}`
abbrev pub TaskEnds : ImageRule → DigestName → CaseData × List ℕ → Type 0
TaskEnds IsImage name task = (start : State) → IsStartOf IsImage task.0 start → Contains task.0.provers honest →
    HasLastLine (accepting (state_at start task.0.bound)) task.1 ⊎ ShowsTwoStrings HasLastLine name task.1

-- there is a text for each task, they stand each under its line and are all that is written, and each ends so. No line of theirs begins
-- with `task `: what is written is cut where a line begins so
pub record TasksEnd (Ends : CaseData × List ℕ → Type 0) (cs : List CaseData) (text : List ℕ) : Type 0 where
  pub parts : List (List ℕ)
  pub count : length parts ≡ length cs
  pub apart : All IsTaskPart parts
  pub whole : text ≡ texts_under (Task 1) parts
  pub each : All Ends (zip cs parts)

-- THE SENTENCE, of what is asked for, bytes, status and text: if the arguments ask for the match by a digest, `judge` ends so if one prover
-- is `{}`, whatever the others say, and so does the text of each task that has such a prover; and if they ask for the run, it is answered
pub record Sentence (IsImage : ImageRule) (judges : DigestName → Type 0) (runs : Type 0) (bytes : List ℕ) (status : ℕ) (text : List ℕ) : Type 0 where
  pub judge : (name : DigestName) (c : CaseData) (start : State) → judges name → IsCaseOf bytes c → IsStartOf IsImage c start → Contains c.provers honest →
      AcceptsOrCollides name (state_at start c.bound) status text
  pub judge_tasks : (name : DigestName) (cs : List CaseData) → judges name → AreTasksOf IsImage bytes cs → TasksEnd (TaskEnds IsImage name) cs text
  pub run : (c : CaseData) (start : State) → runs → IsCaseOf bytes c → IsStartOf IsImage c start → AnswersWith (state_at start c.bound) status text

-- the arguments, as `clap` takes them, ask for the match by a digest, and for either of its texts
pub record AskForTheMatch (words : List (List ℕ)) (name : DigestName) : Type 0 where
  pub text : MatchText
  pub chosen_is : chosen words ≡ Some (Judge text name)

abbrev pub AskForTheRun : List (List ℕ) → Type 0
AskForTheRun words = chosen words ≡ Some Run

-- of all arguments, and of images of each format
abbrev pub SaysInShort : List (List ℕ) → List ℕ → ℕ → List ℕ → Type 0
SaysInShort words bytes status text = Sentence IsImageOf (AskForTheMatch words) (AskForTheRun words) bytes status text

-- and of `big`, whose case always has such a prover: its line ends so
abbrev pub big_start : ℕ → State
big_start seed = started 1 (laid no_bytes 0x10000 program) 0x10000 (input_of seed)

-- its bound, a definition of its own so that nothing computes with the number of steps
unfoldable pub big_bound : ℕ
big_bound = 65536

pub record EndsWith (last text : List ℕ) : Type 0 where
  pub before : List ℕ
  pub whole : text ≡ before ++ (codes " " ++ (last ++ codes "\n"))

abbrev pub SaysOfBig : List (List ℕ) → ℕ → List ℕ → Type 0
SaysOfBig words status text = (seed : ℕ) → chosen words ≡ Some (Big seed) →
    (status ≡ 0) × (EndsWith (accepting (state_at (big_start seed) big_bound)) text ⊎ ShowsTwoStrings EndsWith Sha256 text)

-- WHAT WAS WRITTEN, of bytes that the source may have had: a text, whole, of which P holds
pub record IsWrittenOf (P : List ℕ → Type 0) (before now : Option (List ℕ)) : Type 0 where
  pub text : List ℕ
  pub written : Appends before now text
  pub says : P text
