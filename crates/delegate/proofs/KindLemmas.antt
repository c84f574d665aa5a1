-- What every outcome is: an answer of the command that the arguments name.
use Rattle.std.proofs.Common.{◌≡◌, ℕ, List, [], ◌∷◌, Option, Some, None, Bool, true, false, codes, refl, sym, ap, subst, ◌∙◌, ◌↔◌}
use Rattle.std.proofs.lemmas.Bool.{false≢true}
use Rattle.case_reader.specs.declared.fault.TaskFault.{TaskFault}
use Rattle.case_reader.specs.declared.fault.TaskFault.TheVariants as faults
use Rattle.transcript_text.specs.declared.text.Stated.{Stated}
use Rattle.audit.specs.declared.finding.Audit.{Audit}
use Rattle.audit.specs.declared.finding.Audit.TheVariants.{Confirmed, Refused}
use Rattle.command_line.specs.Words.{chosen}
use Rattle.command_line.specs.declared.request.Command.{Command}
use Rattle.command_line.specs.declared.request.Command.TheVariants.{Judge, Run, Roots, Listing, Big, Audit as AuditOf}
use Rattle.delegate.specs.Answered.{is_outcome, is_of_case, is_of_match, is_of_text, is_done, is_answer_of, is_answer_to}
use Rattle.delegate.specs.Refusal.{usage, task_refusal}
use Rattle.delegate.specs.Loading.{LoadedData}
use Rattle.delegate.specs.Decided.{gravest, responses_to_cases}
use Rattle.delegate.specs.commands.Judge.{judging}
use Rattle.delegate.specs.commands.Big.{summing_up}
use Rattle.delegate.specs.commands.Audit.{response_to_finding}
use Rattle.delegate.specs.Outcome.{outcome}
use Rattle.delegate.specs.Answering.{EachCommandHasItsAnswers}
use Rattle.delegate.specs.Writing.{ForItsBytes}
use Rattle.delegate.specs.declared.response.Response.{Response}
use Rattle.delegate.specs.declared.response.Answered.{Answered}
use Rattle.delegate.specs.declared.response.Answered.TheVariants.{Done, Usage, Case, Image, ReadFault, WriteFault, AuditRefused, Memory, NoneLeft as NobodyLeft, Collision, TooLong}
use Rattle.delegate.proofs.OutcomeLemmas.{no_command, of_command, outcome-of}
use Rattle.delegate.proofs.TaskLemmas.{gravest-is}
use Rattle.delegate.specs.OfCase.{start_response, response_by, answer_response, roots_at_response}
use Rattle.bisect_game.specs.declared.settled.Kind.{Kind}
use Rattle.delegate.proofs.ResponseLemmas.{OfCases, OfCommand, command-of, start-of, answer-of, roots-of, response-of}

-- the answers of each command

abbrev Answers : (Answered → Bool) → Response → Type 0
Answers is r = is r.answered ≡ true

case-kind : (is : Answered → Bool) → is Done ≡ true → is Case ≡ true → is Image ≡ true → is TooLong ≡ true → OfCases (Answers is)
case-kind is done unread unloaded long = record {
  long = long;
  unread = λ bytes fault e. unread;
  ranged = λ k. unread;
  flat = λ subject file fault e. unloaded;
  elf = λ subject file fault e. unloaded;
  text = λ subject text fault e. unloaded;
  done = λ text. done;
}

task-kind : (fault : TaskFault) → Answers is_of_match (task_refusal fault)
task-kind (faults.Whole fault) = refl
task-kind (faults.Task t fault) = refl
task-kind faults.Memory = refl

found-kind : (stated : Stated) (finding : Audit) → Answers is_of_text (response_to_finding stated finding)
found-kind stated (Confirmed verdict) = refl
found-kind stated (Refused line cause) = refl

-- all is done with summaries
summaries-done : (seed : ℕ) (loads : List LoadedData) → is_done (gravest (responses_to_cases (summing_up seed) loads)) ≡ true
summaries-done seed [] = refl
summaries-done seed (l ∷ loads) = summaries-done seed loads

parts : (command : Command) → OfCommand (Answers (is_answer_of command)) command
parts (Judge text name) = record {
  of_cases = case-kind (is_answer_of (Judge text name)) refl refl refl refl;
  untold = λ bytes fault e. task-kind fault;
  decided = λ subject loads. gravest-is is_of_match true refl refl refl (responses_to_cases (judging text name) loads);
}
parts Run = case-kind (is_answer_of Run) refl refl refl refl
parts Roots = case-kind (is_answer_of Roots) refl refl refl refl
parts Listing = case-kind (is_answer_of Listing) refl refl refl refl
parts AuditOf = record { long = refl; unread = λ bytes fault e. refl; finding = found-kind }
parts (Big seed) = λ subject loads. summaries-done seed loads

pub start-kind : (bytes : List ℕ) → Answers is_of_case (response_by start_response bytes)
start-kind bytes = response-of (Answers is_of_case) refl start_response (start-of (Answers is_of_case) (case-kind is_of_case refl refl refl refl)) bytes

abbrev IsNoMemory : Response → Type 0
IsNoMemory r = r.answered ≡ Memory → ⊥

no-memory : OfCases IsNoMemory
no-memory = record {
  long = λ e. cc e;
  unread = λ bytes fault is e. cc e;
  ranged = λ k e. cc e;
  flat = λ subject file fault is e. cc e;
  elf = λ subject file fault is e. cc e;
  text = λ subject text fault is e. cc e;
  done = λ text e. cc e;
}

pub answer-kind : (k : Kind) (bytes : List ℕ) → IsNoMemory (response_by (answer_response k) bytes)
answer-kind k bytes = response-of IsNoMemory (λ e. cc e) (answer_response k) (answer-of IsNoMemory no-memory (λ e. cc e) k) bytes

pub roots-kind : (steps bytes : List ℕ) → IsNoMemory (response_by (roots_at_response steps) bytes)
roots-kind steps bytes = response-of IsNoMemory (λ e. cc e) (roots_at_response steps) (roots-of IsNoMemory no-memory (λ e. cc e) steps) bytes

taken-kind : (words : List (List ℕ)) (bytes : List ℕ) (command : Command) → chosen words ≡ Some command → is_answer_of command (outcome words bytes).answered ≡ true
taken-kind words bytes command is =
    subst (λ response. is_answer_of command response.answered ≡ true) (sym (outcome-of words bytes _ (of_command words bytes command is)))
    (command-of (Answers (is_answer_of command)) command (parts command) bytes)

pub untaken : (words : List (List ℕ)) (bytes : List ℕ) → chosen words ≡ None → outcome words bytes ≡ usage
untaken words bytes none = outcome-of words bytes _ (no_command words bytes none)

pub outcome-own : EachCommandHasItsAnswers
outcome-own words bytes = by (chosen words) refl
  where
    by : (command : Option Command) → chosen words ≡ command → is_answer_to (chosen words) (outcome words bytes).answered ≡ true
    by None none =
        subst (λ (o : Option Command). is_answer_to o (outcome words bytes).answered ≡ true) (sym none) (ap (λ (response : Response). is_answer_to None response.answered) (untaken words bytes none))
    by (Some command) some = subst (λ (o : Option Command). is_answer_to o (outcome words bytes).answered ≡ true) (sym some) (taken-kind words bytes command some)

-- no outcome is a fault, and usage is that of arguments that name no command alone

of-match : (answered : Answered) → is_of_match answered ≡ true → (is_outcome answered ≡ true) × (answered ≡ Usage → ⊥)
of-match Done is = (refl, λ e. cc e)
of-match Usage is = absurd (cc is)
of-match Case is = (refl, λ e. cc e)
of-match Image is = (refl, λ e. cc e)
of-match ReadFault is = absurd (cc is)
of-match WriteFault is = absurd (cc is)
of-match AuditRefused is = absurd (cc is)
of-match Memory is = absurd (cc is)
of-match NobodyLeft is = (refl, λ e. cc e)
of-match Collision is = (refl, λ e. cc e)
of-match TooLong is = (refl, λ e. cc e)

of-case : (answered : Answered) → is_of_case answered ≡ true → is_of_match answered ≡ true
of-case Done is = refl
of-case Usage is = is
of-case Case is = refl
of-case Image is = refl
of-case ReadFault is = is
of-case WriteFault is = is
of-case AuditRefused is = is
of-case Memory is = is
of-case NobodyLeft is = refl
of-case Collision is = refl
of-case TooLong is = refl

of-text : (answered : Answered) → is_of_text answered ≡ true → (is_outcome answered ≡ true) × (answered ≡ Usage → ⊥)
of-text Done is = (refl, λ e. cc e)
of-text AuditRefused is = (refl, λ e. cc e)
of-text TooLong is = (refl, λ e. cc e)
of-text Usage is = absurd (cc is)
of-text Case is = absurd (cc is)
of-text Image is = absurd (cc is)
of-text ReadFault is = absurd (cc is)
of-text WriteFault is = absurd (cc is)
of-text Memory is = absurd (cc is)
of-text NobodyLeft is = absurd (cc is)
of-text Collision is = absurd (cc is)

of-done : (answered : Answered) → is_done answered ≡ true → is_of_case answered ≡ true
of-done Done is = refl
of-done Usage is = absurd (cc is)
of-done Case is = absurd (cc is)
of-done Image is = absurd (cc is)
of-done ReadFault is = absurd (cc is)
of-done WriteFault is = absurd (cc is)
of-done AuditRefused is = absurd (cc is)
of-done Memory is = absurd (cc is)
of-done NobodyLeft is = absurd (cc is)
of-done Collision is = absurd (cc is)
of-done TooLong is = absurd (cc is)

of-kind : (command : Command) (answered : Answered) → is_answer_of command answered ≡ true → (is_outcome answered ≡ true) × (answered ≡ Usage → ⊥)
of-kind (Judge text name) answered is = of-match answered is
of-kind Run answered is = of-match answered (of-case answered is)
of-kind Roots answered is = of-match answered (of-case answered is)
of-kind Listing answered is = of-match answered (of-case answered is)
of-kind AuditOf answered is = of-text answered is
of-kind (Big seed) answered is = of-match answered (of-case answered (of-done answered is))

outcome-kind : (words : List (List ℕ)) (bytes : List ℕ) → is_outcome (outcome words bytes).answered ≡ true
outcome-kind words bytes = by (chosen words) refl
  where
    by : (command : Option Command) → chosen words ≡ command → is_outcome (outcome words bytes).answered ≡ true
    by None none = ap (λ response. is_outcome response.answered) (untaken words bytes none)
    by (Some command) some = (of-kind command (outcome words bytes).answered (taken-kind words bytes command some)).0

outcome-usage : (words : List (List ℕ)) (bytes : List ℕ) → (outcome words bytes).answered ≡ Usage → chosen words ≡ None
outcome-usage words bytes is = by (chosen words) refl
  where
    by : (command : Option Command) → chosen words ≡ command → chosen words ≡ None
    by None none = none
    by (Some command) some = absurd ((of-kind command (outcome words bytes).answered (taken-kind words bytes command some)).1 is)

-- what holds of a response that is an outcome of some bytes

abbrev pub IsItsOutcome : Option (List ℕ) → List (List ℕ) → (List ℕ → Type 0) → Response → Type 0
IsItsOutcome left words More response = ForItsBytes left (λ bytes. (response ≡ outcome words bytes) × More bytes)

pub response-kind : (left : Option (List ℕ)) (words : List (List ℕ)) (More : List ℕ → Type 0) (response : Response) → IsItsOutcome left words More response → is_outcome response.answered ≡ true
response-kind left words More response its = subst (λ r. is_outcome r.answered ≡ true) (sym its.2.0) (outcome-kind words its.0)

pub response-own : (left : Option (List ℕ)) (words : List (List ℕ)) (More : List ℕ → Type 0) (response : Response) → IsItsOutcome left words More response
    → is_answer_to (chosen words) response.answered ≡ true
response-own left words More response its = subst (λ (r : Response). is_answer_to (chosen words) r.answered ≡ true) (sym its.2.0) (outcome-own words its.0)

pub response-usage : (left : Option (List ℕ)) (words : List (List ℕ)) (More : List ℕ → Type 0) (response : Response) → IsItsOutcome left words More response
    → (response.answered ≡ Usage) ↔ (chosen words ≡ None)
response-usage left words More response its = (
  λ is. outcome-usage words its.0 (sym (ap (λ r. r.answered) its.2.0) ∙ is),
  λ none. ap (λ r. r.answered) (its.2.0 ∙ untaken words its.0 none),
)

pub response-usage_text : (left : Option (List ℕ)) (words : List (List ℕ)) (More : List ℕ → Type 0) (response : Response) → IsItsOutcome left words More response
    → response.answered ≡ Usage → response.text ≡ codes "fault usage\n"
response-usage_text left words More response its is =
    ap (λ r. r.text) (its.2.0 ∙ untaken words its.0 (outcome-usage words its.0 (sym (ap (λ r. r.answered) its.2.0) ∙ is)))

-- an outcome is no fault of a device, and memory didn't run out
pub no-fault : (answered fault : Answered) → is_outcome answered ≡ true → is_outcome fault ≡ false → answered ≡ fault → ⊥
no-fault answered fault outcome_ fault_ is = false≢true (sym fault_ ∙ (sym (ap is_outcome is) ∙ outcome_))
