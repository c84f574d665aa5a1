-- Arguments and bytes that are a case or tasks: what the program answers, and that each case is in range.
use Rattle.std.proofs.Common.{◌≡◌, ℕ, ◌-◌, List, [], All, length, nat_lt, Option, Some, None, Result, Ok, Err, Bool, true, false, cond, refl, sym, ap, subst, ◌∙◌, slice_get, IfOk}
use Rattle.std.specs.Option.{option_and_then}
use Rattle.std.proofs.lemmas.List.Elements.{All-head}
use Rattle.rd_base.specs.Results.{◌>>=◌}
use Rattle.rv_step.specs.State.{State}
use Rattle.case_reader.specs.Case.{CaseData, case_at}
use Rattle.case_reader.specs.Tasks.{TasksData, One, Many, CasesAreTasks}
use Rattle.case_reader.specs.declared.fault.CaseFault.{CaseFault}
use Rattle.workload.specs.Workload.{big_data}
use Rattle.digest_core.specs.declared.name.DigestName.{DigestName}
use Rattle.command_line.specs.Words.{chosen}
use Rattle.command_line.specs.declared.request.MatchText.{MatchText}
use Rattle.command_line.specs.declared.request.MatchText.TheVariants.{Report, Full}
use Rattle.command_line.specs.declared.request.Command.{Command}
use Rattle.command_line.specs.declared.request.Command.TheVariants.{Judge, Run, Roots, Audit, Listing, Big}
use Rattle.delegate.specs.Refusal.{too_long, case_refusal, task_refusal, or_refusal}
use Rattle.delegate.specs.Loading.{within_limit, case_or_refusal, tasks_or_refusal, LoadedData, start_or_refusal, cases_of_tasks, first_subject, loads_or_refusal}
use Rattle.delegate.specs.Decided.{WhichText, report, full, summary, Deciding, written_as, case_for, tasks_for, response_to_case, together, responses_to_cases, StandsUnder}
use Rattle.delegate.specs.commands.Judge.{judging, response_to_tasks, judge_response}
use Rattle.delegate.specs.commands.Big.{summing_up, big_response}
use Rattle.delegate.specs.Outcome.{bytes_for, carried_out, decides, response_to, outcome}
use Rattle.delegate.specs.Headline.{Headline, HeadlineOfCases, AnswersTheCase, KeepsTheTruthful, AnswersTheTasks, AreTasks, KeepsTheTruthfulOfTasks}
use Rattle.delegate.specs.Standing.{IsPlayed, AreInRangeOnceLoaded, AreInRangeIfThere, DecidesInRange, Stands, IsEitherWay}
use Rattle.delegate.specs.declared.response.Subject.TheVariants.{Whole}
use Rattle.delegate.specs.declared.response.Response.{Response}
use Rattle.delegate.specs.declared.response.Stop.{Stop}
use Rattle.delegate.proofs.OutcomeLemmas.{goes_on, both_steps, of_command, outcome-of}
use Rattle.delegate.proofs.TaskLemmas.{one-together, one-loaded, all-at, decided-stands}

-- a command that decides answers by what it reads

judged-tasks : (text : MatchText) (name : DigestName) (tasks : TasksData) (read : Result (List ℕ) Response) → (read >>= tasks_or_refusal) ≡ Ok tasks
    → (read >>= judge_response text name) ≡ response_to_tasks (judging text name) tasks
unfolding judge_response
judged-tasks text name tasks (Ok given) reads = goes_on _ _ _ reads
judged-tasks text name tasks (Err e) reads = absurd (cc reads)

-- whichever text is asked for, the tasks are those of the bytes
pub tasks-read : (text : MatchText) (bytes : List ℕ) → tasks_for (written_as text) bytes ≡ (within_limit bytes >>= tasks_or_refusal)
unfolding tasks_for
tasks-read Report bytes = refl
tasks-read Full bytes = refl

abbrev Answered : Command → List ℕ → Deciding → TasksData → Type 0
Answered command bytes m tasks = (bytes_for command bytes >>= (λ given. carried_out command given)) ≡ response_to_tasks m tasks

command-tasks : (command : Command) (bytes : List ℕ) (m : Deciding) (tasks : TasksData) → decides command ≡ Some m → tasks_for m.written bytes ≡ Ok tasks → Answered command bytes m tasks
unfolding tasks_for
command-tasks (Judge text name) bytes m tasks is reads =
    let m_is : judging text name ≡ m = cc is in
    let own : tasks_for (written_as text) bytes ≡ Ok tasks = subst (λ (x : Deciding). tasks_for x.written bytes ≡ Ok tasks) (sym m_is) reads in
    subst (λ (x : Deciding). Answered (Judge text name) bytes x tasks) m_is
    (judged-tasks text name tasks (within_limit bytes) (sym (tasks-read text bytes) ∙ own))
command-tasks (Big seed) bytes m tasks is reads =
    let m_is : summing_up seed ≡ m = cc is in
    let own : tasks_for (summing_up seed).written bytes ≡ Ok tasks = subst (λ (x : Deciding). tasks_for x.written bytes ≡ Ok tasks) (sym m_is) reads in
    let tasks_are : One (big_data seed) ≡ tasks = cc own in
    subst (λ (x : Deciding). Answered (Big seed) bytes x tasks) m_is
    (subst (λ (x : TasksData). Answered (Big seed) bytes (summing_up seed) x) tasks_are refl)
command-tasks Run bytes m tasks is reads = absurd (cc is)
command-tasks Roots bytes m tasks is reads = absurd (cc is)
command-tasks Audit bytes m tasks is reads = absurd (cc is)
command-tasks Listing bytes m tasks is reads = absurd (cc is)

tasks-steps : (words : List (List ℕ)) (bytes : List ℕ) (m : Deciding) (tasks : TasksData) → option_and_then decides (chosen words) ≡ Some m → tasks_for m.written bytes ≡ Ok tasks
    → response_to words bytes ≡ response_to_tasks m tasks
tasks-steps words bytes m tasks is reads = by (chosen words) refl
  where
    by : (o : Option Command) → chosen words ≡ o → response_to words bytes ≡ response_to_tasks m tasks
    by None none = (let asked = sym (ap (option_and_then decides) none) ∙ is in absurd (cc asked))
    by (Some command) some =
        let asked : decides command ≡ Some m = sym (ap (option_and_then decides) some) ∙ is in
        of_command words bytes command some ∙ command-tasks command bytes m tasks asked reads

pub all-judged : (m : Deciding) (tasks : TasksData) (ls : List LoadedData) → loads_or_refusal (first_subject tasks) (cases_of_tasks tasks) ≡ Ok ls
    → response_to_tasks m tasks ≡ Ok (together (first_subject tasks) (responses_to_cases m ls))
unfolding response_to_tasks
all-judged m tasks ls loads = goes_on _ _ _ loads

one-judged : (m : Deciding) (c : CaseData) (start : State) → start_or_refusal Whole c ≡ Ok start → response_to_tasks m (One c) ≡ Ok (response_to_case m c start)
one-judged m c start loads = all-judged m (One c) _ (one-loaded c start loads) ∙ ap Ok (one-together m c start)

-- a case is read as one task

case-ok : (r : Result CaseData CaseFault) (c : CaseData) → or_refusal (case_refusal Whole) r ≡ Ok c → r ≡ Ok c
case-ok (Ok x) c is = ap Ok (cc is)
case-ok (Err fault) c is = absurd (cc is)

bytes-one : CasesAreTasks → (bytes : List ℕ) (c : CaseData) (many : Bool) → (cond many (Err too_long) (Ok bytes) >>= case_or_refusal) ≡ Ok c
    → (cond many (Err too_long) (Ok bytes) >>= tasks_or_refusal) ≡ Ok (One c)
bytes-one law bytes c true is = absurd (cc is)
bytes-one law bytes c false is = ap (or_refusal task_refusal) ((law.same bytes c).1 (case-ok (case_at bytes) c is))

pub one-case : CasesAreTasks → (written : WhichText) (bytes : List ℕ) (c : CaseData) → case_for written bytes ≡ Ok c → tasks_for written bytes ≡ Ok (One c)
unfolding case_for tasks_for
one-case law (summary seed) bytes c is = ap (λ (x : CaseData). Ok (One x)) (cc is)
one-case law report bytes c is = bytes-one law bytes c (nat_lt 16777216 (length bytes)) is
one-case law full bytes c is = bytes-one law bytes c (nat_lt 16777216 (length bytes)) is

-- completeness

pub outcome-case : CasesAreTasks → (words : List (List ℕ)) (bytes : List ℕ) → AnswersTheCase words bytes (outcome words bytes)
outcome-case law words bytes m c start is =
    outcome-of words bytes _ (tasks-steps words bytes m (One c) is.asked (one-case law m.written bytes c is.reads) ∙ one-judged m c start is.loads)

pub outcome-tasks : (words : List (List ℕ)) (bytes : List ℕ) → AnswersTheTasks words bytes (outcome words bytes)
outcome-tasks words bytes m tasks is = outcome-of words bytes _ (tasks-steps words bytes m (Many is.cases) is.asked is.reads ∙ all-judged m (Many is.cases) tasks is.loads)

-- the headline, of cases that are in range

-- a case that is loaded was played as it is
pub one-played : (m : Deciding) (c : CaseData) (start : State) → start_or_refusal Whole c ≡ Ok start → AreInRangeOnceLoaded m (One c) → IsPlayed m (record { case = c; start = start })
one-played m c start loads all = All-head (IsPlayed m) (record { case = c; start = start }) [] (all _ (one-loaded c start loads))

pub outcome-headline : CasesAreTasks → HeadlineOfCases → (words : List (List ℕ)) (bytes : List ℕ) → DecidesInRange (chosen words) bytes → KeepsTheTruthful words bytes (outcome words bytes)
outcome-headline law headline words bytes in_range m c start p is truthful =
    subst (λ response. Headline m response c start p) (sym (outcome-case law words bytes m c start is))
    (let played = one-played m c start is.loads (in_range m is.asked (One c) (one-case law m.written bytes c is.reads)) in
    headline m c start p played.range played.shown.strings truthful)

-- the text of a task stands under its line, and what its run shows

pub task-stands : (words : List (List ℕ)) (bytes : List ℕ) (m : Deciding) (tasks : List LoadedData) (t : ℕ) (task : LoadedData) → AreTasks words bytes m tasks
    → slice_get tasks (t - 1) ≡ Some task → StandsUnder (length tasks) t (response_to_case m task.case task.start).text (outcome words bytes).text
task-stands words bytes m tasks t task is at =
    subst (λ (r : Response). StandsUnder (length tasks) t (response_to_case m task.case task.start).text r.text) (sym (outcome-tasks words bytes m tasks is)) (decided-stands m tasks t task at)

pub task-played : (words : List (List ℕ)) (bytes : List ℕ) → DecidesInRange (chosen words) bytes → (m : Deciding) (tasks : List LoadedData) (t : ℕ) (task : LoadedData)
    → AreTasks words bytes m tasks → slice_get tasks (t - 1) ≡ Some task → IsPlayed m task
task-played words bytes in_range m tasks t task is at = all-at (IsPlayed m) tasks (t - 1) task (in_range m is.asked (Many is.cases) is.reads tasks is.loads) at

pub outcome-task-headline : HeadlineOfCases → (words : List (List ℕ)) (bytes : List ℕ) → DecidesInRange (chosen words) bytes → KeepsTheTruthfulOfTasks words bytes (outcome words bytes)
outcome-task-headline headline words bytes in_range m tasks t task p is some at truthful =
    let played = task-played words bytes in_range m tasks t task is at in
    record {
      part = response_to_case m task.case task.start;
      stands = task-stands words bytes m tasks t task is at;
      keeps = headline m task.case task.start p played.range played.shown.strings truthful;
    }

-- what was read for a command is what is read of the bytes

limited : (bytes given : List ℕ) → within_limit bytes ≡ Ok given → bytes ≡ given
limited bytes given is = by (nat_lt 16777216 (length bytes)) is
  where
    by : (many : Bool) → cond many (Err too_long) (Ok bytes) ≡ Ok given → bytes ≡ given
    by true e = absurd (cc e)
    by false e = cc e

same-tasks : (command : Command) (bytes given : List ℕ) (m : Deciding) (tasks : TasksData) → decides command ≡ Some m → bytes_for command bytes ≡ Ok given → tasks_for m.written bytes ≡ Ok tasks
    → tasks_for m.written given ≡ Ok tasks
unfolding tasks_for
same-tasks (Judge text name) bytes given m tasks is read reads = subst (λ bs. tasks_for m.written bs ≡ Ok tasks) (limited bytes given read) reads
same-tasks (Big seed) bytes given m tasks is read reads =
    let m_is : summing_up seed ≡ m = cc is in
    subst (λ (x : Deciding). tasks_for x.written given ≡ Ok tasks) m_is (subst (λ (x : Deciding). tasks_for x.written bytes ≡ Ok tasks) (sym m_is) reads)
same-tasks Run bytes given m tasks is read reads = absurd (cc is)
same-tasks Roots bytes given m tasks is read reads = absurd (cc is)
same-tasks Audit bytes given m tasks is read reads = absurd (cc is)
same-tasks Listing bytes given m tasks is read reads = absurd (cc is)

in-range : (words : List (List ℕ)) (bytes given : List ℕ) (command : Command) → chosen words ≡ Some command → bytes_for command bytes ≡ Ok given → DecidesInRange (Some command) given
    → DecidesInRange (chosen words) bytes
in-range words bytes given command taken read decided_in_range m is tasks reads =
    let asked : decides command ≡ Some m = sym (ap (option_and_then decides) taken) ∙ is in
    decided_in_range m asked tasks (same-tasks command bytes given m tasks asked read reads)

-- what is refused isn't loaded
refused-in-range : (words : List (List ℕ)) (bytes : List ℕ) (response : Response) → response_to words bytes ≡ Err response → DecidesInRange (chosen words) bytes
refused-in-range words bytes response refused m is tasks reads = λ loads are.
    let both = sym refused ∙ (tasks-steps words bytes m tasks is reads ∙ all-judged m tasks loads are) in
    absurd (cc both)

-- the response in each of its cases

abbrev pub IsIt : List (List ℕ) → List ℕ → Response → Type 0
IsIt words bytes response = (response ≡ outcome words bytes) × DecidesInRange (chosen words) bytes

pub refused-is-it : (words : List (List ℕ)) (bytes : List ℕ) (response : Response) → response_to words bytes ≡ Err response → IsIt words bytes response
refused-is-it words bytes response is = (sym (outcome-of words bytes _ is), refused-in-range words bytes response is)

carried-is-it : (words : List (List ℕ)) (bytes given : List ℕ) (command : Command) (response : Response) → chosen words ≡ Some command → bytes_for command bytes ≡ Ok given
    → carried_out command given ≡ Ok response → DecidesInRange (Some command) given → IsIt words bytes response
carried-is-it words bytes given command response taken read is decided_in_range =
    (sym (outcome-of words bytes _ (both_steps words bytes given command taken read ∙ is)), in-range words bytes given command taken read decided_in_range)

pub ended-is-it : (words : List (List ℕ)) (bytes given : List ℕ) (command : Command) (carried : Result Response Stop) (response : Response) → chosen words ≡ Some command
    → bytes_for command bytes ≡ Ok given → Stands (λ (done : Response). done) carried (carried_out command given) → IfOk carried (λ done. DecidesInRange (Some command) given)
    → IsEitherWay carried response → IsIt words bytes response
ended-is-it words bytes given command (Ok done) response taken read stands decided_in_range is =
    subst (IsIt words bytes) (sym is) (carried-is-it words bytes given command done taken read stands decided_in_range)
ended-is-it words bytes given command (Err stop) response taken read stands decided_in_range is =
    refused-is-it words bytes response (both_steps words bytes given command taken read ∙ stands response is)

-- what was read, whose machines were made, is in range wherever it is read

pub same-ok : {X E : Type 0} (r : Result X E) (x y : X) → r ≡ Ok x → r ≡ Ok y → x ≡ y
same-ok r x y one other = (let both = sym one ∙ other in cc both)

pub loads-in-range : (m : Deciding) (tasks : TasksData) (loads : List LoadedData) → loads_or_refusal (first_subject tasks) (cases_of_tasks tasks) ≡ Ok loads → All (IsPlayed m) loads
    → AreInRangeOnceLoaded m tasks
loads-in-range m tasks loads are played other is = subst (All (IsPlayed m)) (same-ok (loads_or_refusal (first_subject tasks) (cases_of_tasks tasks)) loads other are is) played

pub judged-in-range : (text : MatchText) (name : DigestName) (bytes : List ℕ) (tasks : TasksData) → tasks_or_refusal bytes ≡ Ok tasks → AreInRangeOnceLoaded (judging text name) tasks
    → AreInRangeIfThere (judging text name) (tasks_for (written_as text) bytes)
judged-in-range text name bytes tasks reads range other is =
    subst (AreInRangeOnceLoaded (judging text name)) (same-ok (tasks_or_refusal bytes) tasks other reads (by (nat_lt 16777216 (length bytes)) (sym (tasks-read text bytes) ∙ is))) range
  where
    by : (many : Bool) → (cond many (Err too_long) (Ok bytes) >>= tasks_or_refusal) ≡ Ok other → tasks_or_refusal bytes ≡ Ok other
    by true e = absurd (cc e)
    by false e = e

pub summary-in-range : (seed : ℕ) (bytes : List ℕ) (m : Deciding) (tasks : TasksData) → m ≡ summing_up seed → tasks ≡ One (big_data seed) → AreInRangeOnceLoaded m tasks
    → AreInRangeIfThere (summing_up seed) (tasks_for (summary seed) bytes)
unfolding tasks_for
summary-in-range seed bytes m tasks m_is tasks_are range other is =
    let both : tasks ≡ other = cc (tasks_are, is) in
    subst (λ (x : Deciding). AreInRangeOnceLoaded x other) m_is (subst (AreInRangeOnceLoaded m) both range)

pub big-stands : (seed : ℕ) (m : Deciding) (tasks : TasksData) (r : Result Response Stop) → m ≡ summing_up seed → tasks ≡ One (big_data seed)
    → Stands (λ (done : Response). done) r (response_to_tasks m tasks) → Stands (λ (done : Response). done) r (big_response seed)
big-stands seed m tasks r m_is tasks_are stands =
    subst (λ (x : TasksData). Stands (λ (done : Response). done) r (response_to_tasks (summing_up seed) x)) tasks_are
    (subst (λ (x : Deciding). Stands (λ (done : Response). done) r (response_to_tasks x tasks)) m_is stands)

-- of a command

pub judge-in-range : (command : Command) (text : MatchText) (name : DigestName) (bytes : List ℕ) → command ≡ Judge text name → AreInRangeIfThere (judging text name) (tasks_for (written_as text) bytes) → DecidesInRange (Some command) bytes
judge-in-range command text name bytes is range m asked =
    let both : Some (judging text name) ≡ Some m = sym (ap decides is) ∙ asked in
    let m_is : judging text name ≡ m = cc both in
    subst (λ (x : Deciding). AreInRangeIfThere x (tasks_for x.written bytes)) m_is range

pub big-in-range : (command : Command) (seed : ℕ) (bytes : List ℕ) → command ≡ Big seed → AreInRangeIfThere (summing_up seed) (tasks_for (summary seed) bytes) → DecidesInRange (Some command) bytes
big-in-range command seed bytes is range m asked =
    let both : Some (summing_up seed) ≡ Some m = sym (ap decides is) ∙ asked in
    let m_is : summing_up seed ≡ m = cc both in
    subst (λ (x : Deciding). AreInRangeIfThere x (tasks_for x.written bytes)) m_is range
