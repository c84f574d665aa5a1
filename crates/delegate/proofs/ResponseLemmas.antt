-- What holds of each response that a command can come to holds of every outcome.
use Rattle.std.proofs.Common.{◌≡◌, ℕ, List, [], ◌∷◌, length, Result, Ok, Err, Bool, true, false, cond, nat_lt, refl, ap}
use Rattle.rd_base.specs.Results.{◌>>=◌}
use Rattle.rv_step.specs.State.{State}
use Rattle.rv_step.specs.Loaded.{started}
use Rattle.case_reader.specs.Case.{CaseData, case_at}
use Rattle.case_reader.specs.Tasks.{TasksData, tasks_at}
use Rattle.case_reader.specs.declared.fault.TaskFault.{TaskFault}
use Rattle.case_reader.specs.declared.fault.CaseFault.{CaseFault}
use Rattle.case_reader.specs.declared.fault.CaseFault.TheVariants.{OutOfRange}
use Rattle.case_reader.specs.declared.fault.Key.{Key}
use Rattle.case_reader.specs.declared.fault.Key.TheVariants as key
use Rattle.case_reader.specs.declared.case.Format.{Format}
use Rattle.case_reader.specs.declared.case.Format.TheVariants.{Flat, Elf, Asm}
use Rattle.image_reader.specs.Image.{Image, flat_at}
use Rattle.image_reader.specs.Elf.{elf_at}
use Rattle.image_reader.specs.declared.fault.ImageFault.{ImageFault}
use Rattle.delegate.specs.AsmImage.{words_at, asm_words, asm_at}
use Rattle.delegate.specs.declared.loading.AsmImageFault.{AsmImageFault}
use Rattle.digest_core.specs.declared.name.DigestName.{DigestName}
use Rattle.digest_core.specs.declared.name.DigestName.TheVariants.{Sha256}
use Rattle.transcript_text.specs.declared.text.FullText.{FullText}
use Rattle.transcript_text.specs.declared.text.Stated.{Stated}
use Rattle.transcript_text.specs.declared.reader.fault.TextFault.{TextFault}
use Rattle.transcript_text.specs.reader.ReadText.{read_text}
use Rattle.audit.specs.declared.finding.Audit.{Audit}
use Rattle.audit.specs.LineByLine.{audited}
use Rattle.workload.specs.Program.{program}
use Rattle.workload.specs.Workload.{big_data}
use Rattle.command_line.specs.declared.request.MatchText.{MatchText}
use Rattle.command_line.specs.declared.request.Command.{Command}
use Rattle.command_line.specs.declared.request.Command.TheVariants.{Judge, Run, Roots, Listing, Big, Audit as AuditOf}
use Rattle.delegate.specs.Refusal.{too_long, case_refusal, task_refusal, image_refusal, asm_refusal, or_refusal}
use Rattle.digest_core.specs.Name.{digest_of}
use Rattle.delegate.specs.Decided.{Deciding, together, responses_to_cases}
use Rattle.delegate.specs.Loading.{within_limit, case_or_refusal, image_by, LoadedData, next_subject, start_or_refusal, cases_of_tasks, first_subject, loads_or_refusal, of_case, every_case}
use Rattle.delegate.specs.commands.Judge.{judging, response_to_tasks, judge_response}
use Rattle.delegate.specs.OfCase.{root_of_start, start_response, response_by, may_ask, or_usage, answer_response, has_steps, roots_of_steps, roots_at_response}
use Rattle.delegate.specs.OfCase as questions
use Rattle.bisect_game.specs.declared.settled.Kind.{Kind}
use Rattle.delegate.specs.Refusal.{usage}
use Rattle.delegate.specs.commands.Run.{answer_of_run, run_response}
use Rattle.delegate.specs.commands.Roots.{within_bound, roots_of_run, roots_response}
use Rattle.delegate.specs.commands.Audit.{text_refusal, ruling_of_text, response_to_finding, audit_response}
use Rattle.delegate.specs.commands.List.{words_in_file, words_by, list_response}
use Rattle.delegate.specs.commands.Big.{summing_up, big_response}
use Rattle.delegate.specs.Outcome.{bytes_for, carried_out, either_way}
use Rattle.delegate.specs.declared.response.Subject.{Subject}
use Rattle.delegate.specs.declared.response.Subject.TheVariants.{Whole}
use Rattle.delegate.specs.declared.response.Response.{Response}
use Rattle.delegate.specs.declared.response.Answered.TheVariants.{Done}

abbrev pub Of : (Response → Type 0) → Result Response Response → Type 0
Of P r = P (either_way r)

-- P of what is written of a case, and of what a case, its image or its key is refused for
pub record OfCases (P : Response → Type 0) : Type 0 where
  pub long : P too_long
  pub unread : (bytes : List ℕ) (fault : CaseFault) → case_at bytes ≡ Err fault → P (case_refusal Whole fault)
  pub ranged : (k : Key) → P (case_refusal Whole (OutOfRange k))
  pub flat : (subject : Subject) (file : List ℕ) (fault : ImageFault) → flat_at file ≡ Err fault → P (image_refusal subject fault)
  pub elf : (subject : Subject) (file : List ℕ) (fault : ImageFault) → elf_at file ≡ Err fault → P (image_refusal subject fault)
  pub text : (subject : Subject) (text : List ℕ) (fault : AsmImageFault) → asm_at text ≡ Err fault → P (asm_refusal subject fault)
  pub done : (text : List ℕ) → P (record { answered = Done; text = text })

-- P of matches that are decided
abbrev pub OfMatches : (Response → Type 0) → Deciding → Type 0
OfMatches P m = (subject : Subject) (loads : List LoadedData) → P (together subject (responses_to_cases m loads))

-- P of what is written of one case or of tasks, and of what they are refused for
pub record OfTasks (P : Response → Type 0) (m : Deciding) : Type 0 where
  pub of_cases : OfCases P
  pub untold : (bytes : List ℕ) (fault : TaskFault) → tasks_at bytes ≡ Err fault → P (task_refusal fault)
  pub decided : OfMatches P m

-- P of what is found of a text
pub record OfTexts (P : Response → Type 0) : Type 0 where
  pub long : P too_long
  pub unread : (bytes : List ℕ) (fault : TextFault) → read_text bytes ≡ Err fault → P (text_refusal fault)
  pub finding : (stated : Stated) (finding : Audit) → P (response_to_finding stated finding)

-- P of what a command comes to
abbrev pub OfCommand : (Response → Type 0) → Command → Type 0
OfCommand P (Judge text name) = OfTasks P (judging text name)
OfCommand P Run = OfCases P
OfCommand P Roots = OfCases P
OfCommand P AuditOf = OfTexts P
OfCommand P Listing = OfCases P
OfCommand P (Big seed) = OfMatches P (summing_up seed)

-- a case that is read, and its image

case-then : (P : Response → Type 0) → OfCases P → (bytes : List ℕ) (next : CaseData → Result Response Response) → ((c : CaseData) → Of P (next c)) → Of P (case_or_refusal bytes >>= next)
case-then P of bytes next further = by (case_at bytes) refl
  where
    by : (r : Result CaseData CaseFault) → case_at bytes ≡ r → Of P (or_refusal (case_refusal Whole) r >>= next)
    by (Ok c) is = further c
    by (Err fault) is = of.unread bytes fault is

-- what was read, or P of what it is refused for
abbrev IsFit : {A : Type 0} → (Response → Type 0) → Result A Response → Type 0
IsFit P (Ok x) = Unit {0}
IsFit P (Err response) = P response

ok-fit : {A : Type 0} (P : Response → Type 0) (x : A) → IsFit P (Ok x)
ok-fit P x = tt

fit-then : {A : Type 0} (P : Response → Type 0) (r : Result A Response) (next : A → Result Response Response) → IsFit P r → ((x : A) → Of P (next x)) → Of P (r >>= next)
fit-then P (Ok x) next fit further = further x
fit-then P (Err response) next fit further = fit

fit-both : {A B : Type 0} (P : Response → Type 0) (r : Result A Response) (next : A → Result B Response) → IsFit P r → ((x : A) → IsFit P (next x)) → IsFit P (r >>= next)
fit-both P (Ok x) next fit further = further x
fit-both P (Err response) next fit further = fit

image-fit : (P : Response → Type 0) → OfCases P → (subject : Subject) (format : Format) (file : List ℕ) → IsFit P (image_by subject format file)
image-fit P of subject Flat file = by (flat_at file) refl
  where
    by : (r : Result Image ImageFault) → flat_at file ≡ r → IsFit P (or_refusal (image_refusal subject) r)
    by (Ok image) is = tt
    by (Err fault) is = of.flat subject file fault is
image-fit P of subject Elf file = by (elf_at file) refl
  where
    by : (r : Result Image ImageFault) → elf_at file ≡ r → IsFit P (or_refusal (image_refusal subject) r)
    by (Ok image) is = tt
    by (Err fault) is = of.elf subject file fault is
image-fit P of subject Asm text = by (asm_at text) refl
  where
    by : (r : Result Image AsmImageFault) → asm_at text ≡ r → IsFit P (or_refusal (asm_refusal subject) r)
    by (Ok image) is = tt
    by (Err fault) is = of.text subject text fault is

start-fit : (P : Response → Type 0) → OfCases P → (subject : Subject) (c : CaseData) → IsFit P (start_or_refusal subject c)
unfolding start_or_refusal
start-fit P of subject c =
    fit-both P (image_by subject c.format c.image) (λ image. Ok (started c.version image.memory image.entry c.input)) (image-fit P of subject c.format c.image)
    (λ image. ok-fit P (started c.version image.memory image.entry c.input))

loads-fit : (P : Response → Type 0) → OfCases P → (subject : Subject) (cs : List CaseData) → IsFit P (loads_or_refusal subject cs)
unfolding loads_or_refusal
loads-fit P of subject [] = tt
loads-fit P of subject (c ∷ cs) =
    fit-both P (start_or_refusal subject c) (λ start. loads_or_refusal (next_subject subject) cs >>= (λ loads. Ok (record { case = c; start = start } ∷ loads))) (start-fit P of subject c)
    (λ start. fit-both P (loads_or_refusal (next_subject subject) cs) (λ loads. Ok (record { case = c; start = start } ∷ loads)) (loads-fit P of (next_subject subject) cs)
    (λ loads. ok-fit P (record { case = c; start = start } ∷ loads)))

-- a text whose words aren't loaded has no image, for the same fault

asm-stops : (text : List ℕ) (fault : AsmImageFault) → asm_words text ≡ Err fault → asm_at text ≡ Err fault
unfolding asm_at
asm-stops text fault is = ap (λ r. r >>= words_at) is

asm-goes_on : (text words : List ℕ) → asm_words text ≡ Ok words → asm_at text ≡ words_at words
unfolding asm_at
asm-goes_on text words is = ap (λ r. r >>= words_at) is

words-fit : (P : Response → Type 0) → OfCases P → (format : Format) (file : List ℕ) → IsFit P (words_by format file)
words-fit P of Flat file = fit-both P (image_by Whole Flat file) (λ image. Ok (words_in_file file)) (image-fit P of Whole Flat file) (λ image. ok-fit P (words_in_file file))
words-fit P of Elf file = of.ranged key.Format
words-fit P of Asm text = by (asm_words text) (asm-stops text) (asm-goes_on text)
  where
    loaded : (words : List ℕ) (r : Result Image AsmImageFault) → asm_at text ≡ r → IsFit P (or_refusal (asm_refusal Whole) (r >>= (λ image. Ok words)))
    loaded words (Ok image) is = tt
    loaded words (Err fault) is = of.text Whole text fault is

    by : (r : Result (List ℕ) AsmImageFault) → ((fault : AsmImageFault) → r ≡ Err fault → asm_at text ≡ Err fault) → ((words : List ℕ) → r ≡ Ok words → asm_at text ≡ words_at words)
        → IsFit P (or_refusal (asm_refusal Whole) (r >>= (λ words. words_at words >>= (λ image. Ok words))))
    by (Ok words) stops goes = loaded words (words_at words) (goes words refl)
    by (Err fault) stops goes = of.text Whole text fault (stops fault refl)

-- the commands

judged-of : (P : Response → Type 0) (m : Deciding) → OfTasks P m → (tasks : TasksData) → Of P (response_to_tasks m tasks)
unfolding response_to_tasks
judged-of P m of tasks =
    fit-then P (loads_or_refusal (first_subject tasks) (cases_of_tasks tasks)) _ (loads-fit P of.of_cases (first_subject tasks) (cases_of_tasks tasks)) (λ loads. of.decided (first_subject tasks) loads)

judge-of : (P : Response → Type 0) (text : MatchText) (name : DigestName) → OfTasks P (judging text name) → (bytes : List ℕ) → Of P (judge_response text name bytes)
unfolding judge_response
judge-of P text name of bytes = by (tasks_at bytes) refl
  where
    by : (r : Result TasksData TaskFault) → tasks_at bytes ≡ r → Of P (or_refusal task_refusal r >>= response_to_tasks (judging text name))
    by (Ok tasks) is = judged-of P (judging text name) of tasks
    by (Err fault) is = of.untold bytes fault is

case-of : (P : Response → Type 0) → OfCases P → (test : CaseData → Result (Unit {0}) Response) (answer : CaseData → State → Response) → ((c : CaseData) → IsFit P (test c))
    → ((c : CaseData) (start : State) → P (answer c start)) → (bytes : List ℕ) → Of P (of_case test answer bytes)
unfolding of_case
case-of P of test answer fit answers bytes =
    case-then P of bytes _ (λ c. fit-then P (test c) _ (fit c) (λ passed. fit-then P (start_or_refusal Whole c) _ (start-fit P of Whole c) (λ start. answers c start)))

-- a test, and a limit, that refuse so

abbrev tested : Response → Bool → Result (Unit {0}) Response
tested refusal passed = cond passed (Ok tt) (Err refusal)

abbrev limited : Response → Bool → Result (Unit {0}) Response
limited refusal many = cond many (Err refusal) (Ok tt)

test-fit : (P : Response → Type 0) (refusal : Response) → P refusal → (passed : Bool) → IsFit P (tested refusal passed)
test-fit P refusal refused true = tt
test-fit P refusal refused false = refused

limit-fit : (P : Response → Type 0) (refusal : Response) → P refusal → (many : Bool) → IsFit P (limited refusal many)
limit-fit P refusal refused true = refused
limit-fit P refusal refused false = tt

ran-of : (P : Response → Type 0) → OfCases P → (bytes : List ℕ) → Of P (run_response bytes)
ran-of P of bytes = case-of P of every_case answer_of_run (λ c. tt) (λ c start. of.done (answer_of_run c start).text) bytes

pub start-of : (P : Response → Type 0) → OfCases P → (bytes : List ℕ) → Of P (start_response bytes)
start-of P of bytes = case-of P of every_case (λ c start. root_of_start start) (λ c. tt) (λ c start. of.done (root_of_start start).text) bytes

pub answer-of : (P : Response → Type 0) → OfCases P → P usage → (k : Kind) (bytes : List ℕ) → Of P (answer_response k bytes)
answer-of P of unasked k bytes = case-of P of (λ c. or_usage (may_ask c.bound k)) (questions.answer_of_run k) (λ c. test-fit P usage unasked (may_ask c.bound k)) (λ c start. of.done (questions.answer_of_run k c start).text) bytes

pub roots-of : (P : Response → Type 0) → OfCases P → P usage → (steps bytes : List ℕ) → Of P (roots_at_response steps bytes)
roots-of P of none steps bytes = case-of P of (λ c. or_usage (has_steps c.bound steps)) (roots_of_steps steps) (λ c. test-fit P usage none (has_steps c.bound steps)) (λ c start. of.done (roots_of_steps steps c start).text) bytes

rooted-of : (P : Response → Type 0) → OfCases P → (bytes : List ℕ) → Of P (roots_response bytes)
rooted-of P of bytes =
    case-of P of within_bound (roots_of_run (digest_of Sha256)) (λ c. limit-fit P (case_refusal Whole (OutOfRange key.Bound)) (of.ranged key.Bound) (nat_lt 4096 c.bound))
    (λ c start. of.done (roots_of_run (digest_of Sha256) c start).text) bytes

-- what is answered to bytes that are not too many, to all
pub response-of : (P : Response → Type 0) → P too_long → (answer : List ℕ → Result Response Response) → ((bytes : List ℕ) → Of P (answer bytes)) → (bytes : List ℕ) → P (response_by answer bytes)
response-of P long answer of bytes = by (nat_lt 16777216 (length bytes))
  where
    by : (many : Bool) → Of P (cond many (Err too_long) (Ok bytes) >>= answer)
    by true = long
    by false = of bytes

listed-of : (P : Response → Type 0) → OfCases P → (bytes : List ℕ) → Of P (list_response bytes)
unfolding list_response
listed-of P of bytes = case-then P of bytes _ (λ c. fit-then P (words_by c.format c.image) _ (words-fit P of c.format c.image) (λ words. of.done _))

checked-of : (P : Response → Type 0) → OfTexts P → (bytes : List ℕ) → Of P (audit_response bytes)
unfolding audit_response
checked-of P of bytes = by (read_text bytes) refl
  where
    by : (r : Result FullText TextFault) → read_text bytes ≡ r → Of P (or_refusal text_refusal r >>= (λ text. Ok (response_to_finding text.stated (audited (ruling_of_text text) text))))
    by (Ok text) is = of.finding text.stated (audited (ruling_of_text text) text)
    by (Err fault) is = of.unread bytes fault is

-- the large workload loads
big-fit : (P : Response → Type 0) (seed : ℕ) → IsFit P (loads_or_refusal Whole (big_data seed ∷ []))
unfolding loads_or_refusal start_or_refusal big_data program flat_at
big-fit P seed = tt

summed_up-of : (P : Response → Type 0) (seed : ℕ) → OfMatches P (summing_up seed) → Of P (big_response seed)
unfolding response_to_tasks
summed_up-of P seed matches = fit-then P (loads_or_refusal Whole (big_data seed ∷ [])) _ (big-fit P seed) (λ loads. matches Whole loads)

limit-then : (P : Response → Type 0) (bytes : List ℕ) (next : List ℕ → Result Response Response) → P too_long → ((given : List ℕ) → Of P (next given)) → Of P (within_limit bytes >>= next)
limit-then P bytes next long further = by (nat_lt 16777216 (length bytes))
  where
    by : (many : Bool) → Of P (cond many (Err too_long) (Ok bytes) >>= next)
    by true = long
    by false = further bytes

pub command-of : (P : Response → Type 0) (command : Command) → OfCommand P command → (bytes : List ℕ) → Of P (bytes_for command bytes >>= (λ given. carried_out command given))
command-of P (Judge text name) of bytes = limit-then P bytes _ of.of_cases.long (judge-of P text name of)
command-of P Run of bytes = limit-then P bytes _ of.long (ran-of P of)
command-of P Roots of bytes = limit-then P bytes _ of.long (rooted-of P of)
command-of P AuditOf of bytes = limit-then P bytes _ of.long (checked-of P of)
command-of P Listing of bytes = limit-then P bytes _ of.long (listed-of P of)
command-of P (Big seed) of bytes = summed_up-of P seed of
