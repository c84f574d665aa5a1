-- Each refusal says why: no rule of a case, of an image or of a full text is that memory ran out.
use Rattle.std.proofs.Common.{◌≡◌, ◌≢◌, ℕ, List, [], length, nat_lt, Result, Ok, Err, Option, Some, None, Bool, true, false, cond, refl, sym, ap, subst, ◌∙◌}
use Rattle.rd_base.specs.Results.{◌>>=◌, map_fault}
use Rattle.case_reader.specs.Case.{case_at}
use Rattle.case_reader.specs.Tasks.{tasks_at}
use Rattle.case_reader.specs.declared.fault.TaskFault.{TaskFault}
use Rattle.case_reader.specs.declared.fault.TaskFault.TheVariants as tasks
use Rattle.case_reader.specs.declared.fault.CaseFault.{CaseFault}
use Rattle.case_reader.specs.declared.fault.CaseFault.TheVariants as cases
use Rattle.image_reader.specs.Image.{Image, too_large, flat_at}
use Rattle.image_reader.specs.Elf.{header_in, loads_in, checked_in, elf_at}
use Rattle.image_reader.specs.declared.fault.ImageFault.{ImageFault}
use Rattle.image_reader.specs.declared.fault.ImageFault.TheVariants as images
use Rattle.rv_text.specs.declared.fault.AsmFault.{AsmFault}
use Rattle.rv_text.specs.Assembly.{assembled}
use Rattle.delegate.specs.AsmImage.{bytes_of, words_at, asm_words, asm_at}
use Rattle.delegate.specs.declared.loading.AsmImageFault.{AsmImageFault}
use Rattle.delegate.specs.declared.loading.AsmImageFault.TheVariants as asm
use Rattle.transcript_text.specs.declared.text.Stated.{Stated}
use Rattle.transcript_text.specs.declared.reader.fault.TextFault.{TextFault}
use Rattle.transcript_text.specs.declared.reader.fault.TextFault.TheVariants as texts
use Rattle.transcript_text.specs.reader.ReadText.{read_text}
use Rattle.audit.specs.declared.finding.Audit.{Audit}
use Rattle.audit.specs.declared.finding.Audit.TheVariants.{Confirmed, Refused}
use Rattle.command_line.specs.Words.{chosen}
use Rattle.command_line.specs.declared.request.Command.{Command}
use Rattle.command_line.specs.declared.request.Command.TheVariants.{Judge, Run, Roots, Listing, Big, Audit as AuditOf}
use Rattle.delegate.specs.Answered.{is_refusal}
use Rattle.delegate.specs.Refusal.{case_fault_text, task_refusal, rule_text, asm_fault_text}
use Rattle.delegate.specs.Loading.{LoadedData}
use Rattle.delegate.specs.Decided.{Deciding, gravest, responses_to_cases}
use Rattle.delegate.specs.commands.Judge.{judging}
use Rattle.delegate.specs.commands.Big.{summing_up}
use Rattle.delegate.specs.commands.Audit.{text_fault_text, response_to_finding}
use Rattle.delegate.specs.Outcome.{outcome}
use Rattle.delegate.specs.Answering.{EachRefusalSaysWhy}
use Rattle.delegate.specs.declared.response.Subject.{Subject}
use Rattle.delegate.specs.declared.response.Subject.TheVariants.{Whole, Task}
use Rattle.delegate.specs.declared.response.Response.{Response}
use Rattle.delegate.proofs.OutcomeLemmas.{of_command, outcome-of}
use Rattle.delegate.proofs.KindLemmas.{untaken}
use Rattle.delegate.proofs.TaskLemmas.{gravest-is}
use Rattle.delegate.proofs.ResponseLemmas.{OfCases, OfTexts, OfCommand, command-of}
use Rattle.image_reader.specs.Fault.{image_rule}

abbrev SaysWhy : Response → Type 0
SaysWhy r = is_refusal r.answered ≡ true → r.text ≢ []

-- no rule of a case, of tasks or of a full text is that memory ran out
pub record NoneIsMemory : Type 0 where
  pub case_ : (bytes : List ℕ) → ¬ (case_at bytes ≡ Err cases.Memory)
  pub none : (bytes : List ℕ) → ¬ (tasks_at bytes ≡ Err tasks.Memory)
  pub whole : (bytes : List ℕ) → ¬ (tasks_at bytes ≡ Err (tasks.Whole cases.Memory))
  pub task : (bytes : List ℕ) (number : ℕ) → ¬ (tasks_at bytes ≡ Err (tasks.Task number cases.Memory))
  pub text : (bytes : List ℕ) → ¬ (read_text bytes ≡ Err texts.Memory)

case-why : (subject : Subject) (fault : CaseFault) → fault ≢ cases.Memory → case_fault_text subject fault ≢ []
case-why subject cases.NotJson other = λ e. cc e
case-why subject cases.NotObject other = λ e. cc e
case-why subject (cases.Missing key) other = λ e. cc e
case-why subject (cases.WrongType key) other = λ e. cc e
case-why subject (cases.BadHex key) other = λ e. cc e
case-why subject (cases.OutOfRange key) other = λ e. cc e
case-why subject (cases.BadProver number) other = λ e. cc e
case-why subject cases.Memory other = λ e. other refl

task-why : NoneIsMemory → (bytes : List ℕ) (fault : TaskFault) → tasks_at bytes ≡ Err fault → (task_refusal fault).text ≢ []
task-why law bytes (tasks.Whole fault) is = case-why Whole fault (λ e. law.whole bytes (is ∙ ap (λ (f : CaseFault). Err (tasks.Whole f)) e))
task-why law bytes (tasks.Task t fault) is = case-why (Task t) fault (λ e. law.task bytes t (is ∙ ap (λ (f : CaseFault). Err (tasks.Task t f)) e))
task-why law bytes tasks.Memory is = absurd (law.none bytes is)

-- a reading whose fault isn't out of memory
abbrev IsFree : {A : Type 0} → Result A ImageFault → Type 0
IsFree r = ¬ (r ≡ Err images.Memory)

ok-free : {A : Type 0} (x : A) → IsFree (Ok x)
ok-free x = λ e. cc e

test-free : {A : Type 0} (b : Bool) (fault : ImageFault) (rest : Result A ImageFault) → fault ≢ images.Memory → IsFree rest → IsFree (cond b (Err fault) rest)
test-free true fault rest other free = λ e. other (cc e)
test-free false fault rest other free = free

then-free : {A B : Type 0} (r : Result A ImageFault) (f : A → Result B ImageFault) → IsFree r → ((x : A) → IsFree (f x)) → IsFree (r >>= f)
then-free (Ok x) f free further = further x
then-free (Err fault) f free further = λ e. free (ap Err (cc e))

flat-free : (file : List ℕ) → IsFree (flat_at file)
unfolding flat_at
flat-free file = test-free (too_large file) images.ImageTooLarge _ (λ e. cc e) (ok-free _)

either-free : {A : Type 0} (b : Bool) (x : A) (rest : Result A ImageFault) → IsFree rest → IsFree (cond b (Ok x) rest)
either-free true x rest free = ok-free x
either-free false x rest free = free

header-free : (file : List ℕ) → IsFree (header_in file)
unfolding header_in
header-free file =
    test-free _ images.ImageTooLarge _ (λ e. cc e)
    (test-free _ images.Short _ (λ e. cc e)
    (test-free _ images.NotElf32Le _ (λ e. cc e)
    (test-free _ images.NotExecutable _ (λ e. cc e)
    (test-free _ images.NotRiscv _ (λ e. cc e) (ok-free _)))))

elf-free : (file : List ℕ) → IsFree (elf_at file)
unfolding elf_at loads_in checked_in
elf-free file =
    then-free (header_in file) _ (header-free file)
    (λ header. then-free (loads_in file header) _
    (either-free _ [] _ (test-free _ images.BadTable _ (λ e. cc e) (ok-free _)))
    (λ loads. then-free (checked_in (length file) loads) _
    (test-free _ images.SegmentOutsideFile _ (λ e. cc e)
    (test-free _ images.FileLargerThanMemory _ (λ e. cc e)
    (test-free _ images.SegmentPastEnd _ (λ e. cc e)
    (test-free _ images.SegmentsOverlap _ (λ e. cc e) (ok-free tt)))))
    (λ checked. test-free _ images.EntryMisaligned _ (λ e. cc e) (ok-free _))))

rule-why : (subject : Subject) (fault : ImageFault) → fault ≢ images.Memory → rule_text subject (image_rule fault) ≢ []
rule-why subject images.Short other = λ e. cc e
rule-why subject images.NotElf32Le other = λ e. cc e
rule-why subject images.NotExecutable other = λ e. cc e
rule-why subject images.NotRiscv other = λ e. cc e
rule-why subject images.BadTable other = λ e. cc e
rule-why subject images.SegmentOutsideFile other = λ e. cc e
rule-why subject images.FileLargerThanMemory other = λ e. cc e
rule-why subject images.SegmentPastEnd other = λ e. cc e
rule-why subject images.SegmentsOverlap other = λ e. cc e
rule-why subject images.EntryMisaligned other = λ e. cc e
rule-why subject images.ImageTooLarge other = λ e. cc e
rule-why subject images.Memory other = λ e. other refl

-- an assembly text

abbrev AsmWhy : Subject → Result Image AsmImageFault → Type 0
AsmWhy subject (Ok image) = Unit {0}
AsmWhy subject (Err fault) = asm_fault_text subject fault ≢ []

words-why : (subject : Subject) (words : List ℕ) → AsmWhy subject (words_at words)
words-why subject words = by (flat_at (bytes_of words)) (flat-free (bytes_of words))
  where
    by : (r : Result Image ImageFault) → IsFree r → AsmWhy subject (map_fault asm.Image r)
    by (Ok image) free = tt
    by (Err fault) free = rule-why subject fault (λ e. free (ap Err e))

text-why : (subject : Subject) (text : List ℕ) → AsmWhy subject (asm_at text)
unfolding asm_at asm_words
text-why subject text = by (nat_lt 16777216 (length text))
  where
    of-words : (r : Result (List ℕ) AsmFault) → AsmWhy subject (map_fault asm.Text r >>= words_at)
    of-words (Ok words) = words-why subject words
    of-words (Err fault) = λ e. cc e

    by : (many : Bool) → AsmWhy subject (cond many (Err (asm.Image images.ImageTooLarge)) (map_fault asm.Text (assembled text)) >>= words_at)
    by true = λ e. cc e
    by false = of-words (assembled text)

-- the commands

of-cases : NoneIsMemory → OfCases SaysWhy
of-cases law = record {
  long = λ refused e. cc e;
  unread = λ bytes fault is refused. case-why Whole fault (λ e. law.case_ bytes (is ∙ ap Err e));
  ranged = λ k refused e. cc e;
  flat = λ subject file fault is refused. rule-why subject fault (λ e. flat-free file (is ∙ ap Err e));
  elf = λ subject file fault is refused. rule-why subject fault (λ e. elf-free file (is ∙ ap Err e));
  text = λ subject text fault is refused. subst (AsmWhy subject) is (text-why subject text);
  done = λ text refused. absurd (cc refused);
}

fault-why : (fault : TextFault) → fault ≢ texts.Memory → text_fault_text fault ≢ []
fault-why texts.BadHead other = λ e. cc e
fault-why (texts.BadLine line) other = λ e. cc e
fault-why texts.Truncated other = λ e. cc e
fault-why (texts.OutOfRange line) other = λ e. cc e
fault-why texts.Memory other = λ e. other refl

of-texts : NoneIsMemory → OfTexts SaysWhy
of-texts law = record {
  long = λ refused e. cc e;
  unread = λ bytes fault is refused. fault-why fault (λ e. law.text bytes (is ∙ ap Err e));
  finding = by;
}
  where
    by : (stated : Stated) (finding : Audit) → SaysWhy (response_to_finding stated finding)
    by stated (Confirmed verdict) = λ refused. absurd (cc refused)
    by stated (Refused line cause) = λ refused e. cc e

no-refusal : {X : Type 0} (m : Deciding) (loads : List LoadedData) → is_refusal (gravest (responses_to_cases m loads)) ≡ true → X
no-refusal m loads refused = (let both = sym refused ∙ gravest-is is_refusal false refl refl refl (responses_to_cases m loads) in absurd (cc both))

parts : NoneIsMemory → (command : Command) → OfCommand SaysWhy command
parts none (Judge text name) = record {
  of_cases = of-cases none;
  untold = λ bytes fault is refused. task-why none bytes fault is;
  decided = λ subject loads refused. no-refusal (judging text name) loads refused;
}
parts none Run = of-cases none
parts none Roots = of-cases none
parts none Listing = of-cases none
parts none AuditOf = of-texts none
parts none (Big seed) = λ subject loads refused. no-refusal (summing_up seed) loads refused

pub refusals-say-why : NoneIsMemory → EachRefusalSaysWhy
refusals-say-why none words bytes = by (chosen words) refl
  where
    by : (command : Option Command) → chosen words ≡ command → SaysWhy (outcome words bytes)
    by None is = subst SaysWhy (sym (untaken words bytes is)) (λ refused e. cc e)
    by (Some command) is = subst SaysWhy (sym (outcome-of words bytes _ (of_command words bytes command is))) (command-of SaysWhy command (parts none command) bytes)
