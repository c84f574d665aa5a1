-- What a guest puts out stands in the lines that are written of its run.
use Rattle.std.proofs.Common.{◌≡◌, ◌⊎◌, inl, inr, ℕ, ◌/◌, ◌%◌, ◌≤◌, ◌++◌, List, [], ◌∷◌, codes, Option, Ok, refl, sym, ap, subst, ◌∙◌, arith}
use Rattle.std.specs.Fmt.{digits}
use Rattle.std.specs.Prelude.{All, zip}
use Rattle.std.proofs.lemmas.List.Elements.{All-nil, All-cons, All-head, All-tail}
use Rattle.rd_base.specs.declared.status.Status.{Status}
use Rattle.rd_base.specs.declared.status.Status.TheVariants.{Exited}
use Rattle.rv_step.specs.State.{State}
use Rattle.rv_step.specs.Step.{state_at}
use Rattle.rv_step.specs.Loaded.{started}
use Rattle.case_reader.specs.Case.{CaseData}
use Rattle.case_reader.specs.ReadInputs.{IsReadInput, InputsAreRead, InputsOfTasksAreRead}
use Rattle.case_reader.specs.declared.case.Format.{Format}
use Rattle.case_reader.specs.declared.case.Format.TheVariants.{Elf}
use Rattle.image_reader.specs.Image.{Image}
use Rattle.image_reader.specs.Elf.{elf_at}
use Rattle.transcript_text.specs.Report.{answer_text}
use Rattle.digest_core.specs.declared.name.DigestName.{DigestName}
use Rattle.digest_core.specs.declared.name.DigestName.TheVariants.{Sha256}
use Rattle.workload.specs.Workload.{input_of}
use Rattle.guests.specs.Guest.{HasPutOut}
use Rattle.guests.specs.Sum.{byte_total, summed_bytes, SeedsAreSummed}
use Rattle.guests.specs.Adler32.{adler32_of}
use Rattle.guests.specs.Adler32File.{adler32_file, FileLoads, FileComputesAdler32}
use Rattle.delegate.specs.InShort.{ImageRule, accepting, HasLastLine, ShowsTwoStrings, Accepts, AnswersWith, Collides, TaskEnds, EndsWith, IsStartOf, Sentence, big_start, big_bound, SaysOfBig, IsWrittenOf}
use Rattle.delegate.specs.Guests.{exited_with, SaysTheSum, IsChecksumCase, ChecksumEnds, SaysTheChecksum}

-- what is said of a run that has put out some bytes
put-out-text : (status : Status) (output : List ℕ) (b : ℕ) (bytes : List ℕ) → status ≡ Exited 0 → output ≡ b ∷ bytes → answer_text status output ≡ exited_with (b ∷ bytes)
unfolding digits
put-out-text status output b bytes exited puts = ap (λ (s : Status). answer_text s output) exited ∙ ap (answer_text (Exited 0)) puts

-- THE SUM

long-enough : 32781 ≤ big_bound
unfolding big_bound
long-enough = omega arith

pub accepts-sum : SeedsAreSummed → (seed : ℕ) → accepting (state_at (big_start seed) big_bound) ≡ codes "accept " ++ exited_with (summed_bytes (input_of seed))
accepts-sum law seed =
    let summed = law seed big_bound long-enough in
    ap (λ (text : List ℕ). codes "accept " ++ text) (put-out-text _ _ (byte_total (input_of seed) % 256) (byte_total (input_of seed) / 256 % 256 ∷ []) summed.exited summed.output)

abbrev pub AcceptsSum : Type 0
AcceptsSum = (seed : ℕ) → accepting (state_at (big_start seed) big_bound) ≡ codes "accept " ++ exited_with (summed_bytes (input_of seed))

says-sum : AcceptsSum → (words : List (List ℕ)) (status : ℕ) (text : List ℕ) → SaysOfBig words status text → SaysTheSum words status text
says-sum law words status text says seed chosen_is =
    let said = says seed chosen_is in
    subst (λ line. (status ≡ 0) × (EndsWith line text ⊎ ShowsTwoStrings EndsWith Sha256 text)) (law seed) said

pub sum_written : AcceptsSum → (words : List (List ℕ)) (status : ℕ) (before now : Option (List ℕ))
    → IsWrittenOf (SaysOfBig words status) before now → IsWrittenOf (SaysTheSum words status) before now
sum_written law words status before now is = record { text = is.text; written = is.written; says = says-sum law words status is.text is.says }

pub sum-by : (words other : List (List ℕ)) (number status : ℕ) (before now : Option (List ℕ)) → words ≡ other → status ≡ number
    → IsWrittenOf (SaysTheSum words number) before now → IsWrittenOf (SaysTheSum other status) before now
sum-by words other number status before now same is said =
    subst (λ (n : ℕ). IsWrittenOf (SaysTheSum other n) before now) (sym is) (subst (λ (ws : List (List ℕ)). IsWrittenOf (SaysTheSum ws number) before now) same said)

-- THE CHECKSUM

-- a rule of images that reads an ELF file as such
abbrev pub ReadsElf : ImageRule → Type 0
ReadsElf IsImage = (file : List ℕ) (image : Image) → elf_at file ≡ Ok image → IsImage Elf file image

start-of : CaseData → Image → State
start-of c image = started c.version image.memory image.entry c.input

checksum-start : (IsImage : ImageRule) → ReadsElf IsImage → (c : CaseData) (image : Image) → elf_at adler32_file ≡ Ok image → IsChecksumCase c → IsStartOf IsImage c (start-of c image)
unfolding start-of
checksum-start IsImage elf c image loads is = record {
  image = image;
  loads = subst (λ (f : Format). IsImage f c.image image) (sym is.format) (elf c.image image (ap elf_at is.image ∙ loads));
  is = refl;
}

puts-checksum : FileComputesAdler32 → (c : CaseData) (image : Image) → elf_at adler32_file ≡ Ok image → IsReadInput c.input → IsChecksumCase c
    → HasPutOut (adler32_of c.input) (state_at (start-of c image) c.bound)
unfolding start-of
puts-checksum law c image loads range is =
    subst (λ v. HasPutOut (adler32_of c.input) (state_at (started v image.memory image.entry c.input) c.bound)) (sym is.version)
    (law image c.input loads range.short range.bytes c.bound is.enough)

-- what is said of the end of its run
checksum-text : FileComputesAdler32 → (c : CaseData) (image : Image) → elf_at adler32_file ≡ Ok image → IsReadInput c.input → IsChecksumCase c
    → answer_text (state_at (start-of c image) c.bound).status (state_at (start-of c image) c.bound).output ≡ exited_with (adler32_of c.input)
checksum-text law c image loads range is =
    let has = puts-checksum law c image loads range is in
    put-out-text (state_at (start-of c image) c.bound).status (state_at (start-of c image) c.bound).output _ _ has.exited has.output

accepts-or-collides : (name : DigestName) (line : List ℕ) (final : State) (status : ℕ) (text : List ℕ) → answer_text final.status final.output ≡ line → Accepts final status text ⊎ Collides name status text
    → ((status ≡ 0) × HasLastLine (codes "accept " ++ line) text) ⊎ Collides name status text
accepts-or-collides name line final status text is (inl accepts) = inl (accepts.done, subst (λ l. HasLastLine (codes "accept " ++ l) text) is accepts.last)
accepts-or-collides name line final status text is (inr collides) = inr collides

accepts-or-shows : (name : DigestName) (line : List ℕ) (final : State) (text : List ℕ) → answer_text final.status final.output ≡ line
    → HasLastLine (accepting final) text ⊎ ShowsTwoStrings HasLastLine name text → HasLastLine (codes "accept " ++ line) text ⊎ ShowsTwoStrings HasLastLine name text
accepts-or-shows name line final text is (inl accepts) = inl (subst (λ l. HasLastLine (codes "accept " ++ l) text) is accepts)
accepts-or-shows name line final text is (inr shows) = inr shows

answers-so : (line : List ℕ) (final : State) (status : ℕ) (text : List ℕ) → answer_text final.status final.output ≡ line → AnswersWith final status text
    → (status ≡ 0) × (text ≡ codes "answer " ++ (line ++ codes "\n"))
answers-so line final status text is answers = (answers.done, answers.line ∙ ap (λ l. codes "answer " ++ (l ++ codes "\n")) is)

-- of a task
task-so : (IsImage : ImageRule) → ReadsElf IsImage → FileLoads → FileComputesAdler32 → (name : DigestName) (c : CaseData) (text : List ℕ) → IsReadInput c.input
    → TaskEnds IsImage name (c, text) → ChecksumEnds name (c, text)
task-so IsImage elf loads law name c text range ends is plays =
    let start = start-of c loads.0 in
    accepts-or-shows name (exited_with (adler32_of c.input)) (state_at start c.bound) text (checksum-text law c loads.0 loads.1 range is)
    (ends start (checksum-start IsImage elf c loads.0 loads.1 is) plays)

tasks-so : (IsImage : ImageRule) → ReadsElf IsImage → FileLoads → FileComputesAdler32 → (name : DigestName) (cs : List CaseData) (texts : List (List ℕ))
    → All (λ (c : CaseData). IsReadInput c.input) cs → All (TaskEnds IsImage name) (zip cs texts) → All (ChecksumEnds name) (zip cs texts)
tasks-so IsImage elf loads law name [] texts ranges ends = All-nil (ChecksumEnds name)
tasks-so IsImage elf loads law name (c ∷ cs) [] ranges ends = All-nil (ChecksumEnds name)
tasks-so IsImage elf loads law name (c ∷ cs) (text ∷ texts) ranges ends =
    All-cons (ChecksumEnds name) (c, text) (zip cs texts)
    (task-so IsImage elf loads law name c text (All-head (λ (d : CaseData). IsReadInput d.input) c cs ranges) (All-head (TaskEnds IsImage name) (c, text) (zip cs texts) ends))
    (tasks-so IsImage elf loads law name cs texts (All-tail (λ (d : CaseData). IsReadInput d.input) c cs ranges) (All-tail (TaskEnds IsImage name) (c, text) (zip cs texts) ends))

pub checksums-accepted : (IsImage : ImageRule) → ReadsElf IsImage → InputsAreRead → InputsOfTasksAreRead → FileLoads → FileComputesAdler32
    → (judges : DigestName → Type 0) (runs : Type 0) (bytes : List ℕ) (status : ℕ) (text : List ℕ) → Sentence IsImage judges runs bytes status text
    → SaysTheChecksum IsImage judges runs bytes status text
checksums-accepted IsImage elf inputs task_inputs loads law judges runs bytes status text says = record {
  judge = λ name c asked reads is plays.
      let start = start-of c loads.0 in
      accepts-or-collides name (exited_with (adler32_of c.input)) (state_at start c.bound) status text (checksum-text law c loads.0 loads.1 (inputs bytes c reads.reads) is)
      (says.judge name c start asked reads (checksum-start IsImage elf c loads.0 loads.1 is) plays);
  judge_tasks = λ name cs asked are.
      let end = says.judge_tasks name cs asked are in record {
        parts = end.parts;
        count = end.count;
        apart = end.apart;
        whole = end.whole;
        each = tasks-so IsImage elf loads law name cs end.parts (task_inputs bytes cs are.reads) end.each;
      };
  run = λ c asked reads is.
      let start = start-of c loads.0 in
      answers-so (exited_with (adler32_of c.input)) (state_at start c.bound) status text (checksum-text law c loads.0 loads.1 (inputs bytes c reads.reads) is)
      (says.run c start asked reads (checksum-start IsImage elf c loads.0 loads.1 is));
}
