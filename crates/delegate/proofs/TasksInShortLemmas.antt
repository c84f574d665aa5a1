-- The sentence in short, of tasks.
use Rattle.std.proofs.Common.{◌≡◌, ℕ, List, [], ◌∷◌, ◌⊎◌, inl, inr, Option, Some, None, Result, Ok, Bool, true, refl, sym, ap, subst, ◌∙◌}
use Rattle.std.specs.Prelude.{All, zip, option_map, is_some, if◌then◌else◌}
use Rattle.std.specs.Option.{ok_or, option_and_then}
use Rattle.std.proofs.lemmas.List.Elements.{All-head, All-tail, All-nil, All-cons}
use Rattle.rd_base.specs.Results.{◌>>=◌, map_fault}
use Rattle.rv_step.specs.State.{State}
use Rattle.rv_step.specs.Step.{state_at}
use Rattle.case_reader.specs.Case.{CaseData, tree_of}
use Rattle.image_reader.specs.Image.{Image}
use Rattle.case_reader.specs.declared.case.Format.{Format}
use Rattle.case_reader.specs.declared.case.Format.TheVariants.{Flat, Elf, Asm}
use Rattle.case_reader.specs.Fields.{has_tasks, array_field}
use Rattle.case_reader.specs.Tasks.{TasksData, Many, tasks_in, many_of, one_of, tasks_at}
use Rattle.case_reader.specs.declared.fault.CaseFault.TheVariants.{NotJson}
use Rattle.case_reader.specs.declared.fault.TaskFault.{TaskFault}
use Rattle.case_reader.specs.declared.fault.TaskFault.TheVariants as fault
use Rattle.digest_core.specs.declared.name.DigestName.{DigestName}
use Rattle.command_line.specs.declared.request.MatchText.{MatchText}
use Rattle.command_line.specs.declared.request.MatchText.TheVariants.{Report, Full}
use Rattle.transcript_text.specs.TaskParts.{IsTaskPart, TextsAreTaskParts}
use Rattle.digest_core.specs.Name.{digest_of}
use Rattle.command_line.specs.Words.{chosen}
use Rattle.delegate.specs.Answered.{status_number}
use Rattle.case_match.specs.Match.{start_root, record_of_case, verdict_of_record}
use Rattle.delegate.specs.Decided.{written_as, tasks_for, match_head, balances_in, response_to_case, responses_to_cases}
use Rattle.delegate.specs.Loading.{LoadedData, next_subject, image_by, start_or_refusal, loads_or_refusal}
use Rattle.delegate.specs.Refusal.{or_refusal, task_refusal, image_refusal, asm_refusal}
use Rattle.delegate.specs.commands.Judge.{judging}
use Rattle.delegate.specs.Headline.{AreTasks}
use Rattle.delegate.specs.InShort.{IsImageOf, IsStartOf, AreTasksOf, HasLastLine, accepting, ShowsTwoStrings, AcceptsOrCollides, TaskEnds, TasksEnd, AskForTheMatch}
use Rattle.delegate.specs.InShortLaw.{HeadlineInShort}
use Rattle.delegate.specs.Outcome.{decides, outcome}
use Rattle.delegate.specs.Standing.{IsPlayed, DecidesInRange}
use Rattle.delegate.specs.declared.response.Response.{Response}
use Rattle.delegate.specs.declared.response.Subject.{Subject}
use Rattle.delegate.specs.declared.response.Subject.TheVariants.{Task}
use Rattle.delegate.proofs.OutcomeLemmas.{goes_on, under_limit}
use Rattle.delegate.proofs.TaskLemmas.{texts_in, texts-count, first-loads, loads-count}
use Rattle.delegate.proofs.CaseLemmas.{tasks-read, same-ok, outcome-tasks}

-- THE IMAGE OF A CASE IS LOADED

image-is : (subject : Subject) (f : Format) (file : List ℕ) (image : Image) → IsImageOf f file image → image_by subject f file ≡ Ok image
image-is subject Flat file image is = ap (or_refusal (image_refusal subject)) is
image-is subject Elf file image is = ap (or_refusal (image_refusal subject)) is
image-is subject Asm file image is = ap (or_refusal (asm_refusal subject)) is

pub start-is : (subject : Subject) (c : CaseData) (start : State) → IsStartOf IsImageOf c start → start_or_refusal subject c ≡ Ok start
unfolding start_or_refusal
start-is subject c start is = goes_on _ _ _ (image-is subject c.format c.image is.image is.loads) ∙ ap Ok (sym is.is)

-- TASKS OF THE BYTES ARE THOSE THAT ARE ASKED FOR

-- what is read behind a key, the key is there
there : {X Y Z E F : Type 0} (o : Option X) (e : E) (f : X → Result Y E) (g : Y → Result Y E) (w : E → F) (h : Y → Result Z F) (z : Z)
    → (map_fault w ((ok_or o e >>= f) >>= g) >>= h) ≡ Ok z → is_some o ≡ true
there (Some x) e f g w h z is = refl
there None e f g w h z is = absurd (cc is)

-- a tree that reads as tasks has their key
tree-tasks : {D : Type 0} (many one : D → Result TasksData TaskFault) (has : D → Bool) (cs : List CaseData) → ((d : D) → many d ≡ Ok (Many cs) → has d ≡ true) → (o : Option D)
    → option_map many o ≡ Some (Ok (Many cs)) → (map_fault fault.Whole (ok_or o NotJson) >>= (λ (d : D). if has d then many d else one d)) ≡ Ok (Many cs)
tree-tasks many one has cs key None is = absurd (cc is)
tree-tasks many one has cs key (Some d) is =
    let reads : many d ≡ Ok (Many cs) = cc is in
    ap (λ (b : Bool). if b then many d else one d) (key d reads) ∙ reads

tasks-at : (bytes : List ℕ) (cs : List CaseData) → option_map many_of (tree_of bytes) ≡ Some (Ok (Many cs)) → tasks_at bytes ≡ Ok (Many cs)
unfolding tasks_at many_of tasks_in array_field
tasks-at bytes cs is = tree-tasks many_of one_of has_tasks cs (λ d reads. there _ _ _ _ _ _ _ reads) (tree_of bytes) is

tasks-are : (asked : MatchText) (bytes : List ℕ) (cs : List CaseData) → AreTasksOf IsImageOf bytes cs → tasks_for (written_as asked) bytes ≡ Ok (Many cs)
tasks-are asked bytes cs are = tasks-read asked bytes ∙ (goes_on _ _ _ (under_limit bytes are.short) ∙ ap (or_refusal task_refusal) (tasks-at bytes cs are.reads))

abbrev Loads : CaseData → Type 0
Loads c = (start : State) × IsStartOf IsImageOf c start

-- their images load, so that their runs start
pub record AllLoad (subject : Subject) (cs : List CaseData) : Type 0 where
  pub loads : List LoadedData
  pub are : loads_or_refusal subject cs ≡ Ok loads

loads-are : (subject : Subject) (cs : List CaseData) → All Loads cs → AllLoad subject cs
unfolding loads_or_refusal
loads-are subject [] load = record { loads = []; are = refl }
loads-are subject (c ∷ cs) load =
    let one : Loads c = All-head Loads c cs load in
    let more = loads-are (next_subject subject) cs (All-tail Loads c cs load) in
    record { loads = record { case = c; start = one.0 } ∷ more.loads; are = goes_on _ _ _ (start-is subject c one.0 one.1) ∙ goes_on _ _ _ more.are }

-- THE TEXT UNDER THE LINE OF A TASK

part-ends : (name : DigestName) (final : State) (status : ℕ) (text : List ℕ) → AcceptsOrCollides name final status text → HasLastLine (accepting final) text ⊎ ShowsTwoStrings HasLastLine name text
part-ends name final status text (inl accepts) = inl accepts.last
part-ends name final status text (inr collides) = inr collides.shows

-- that of one task, whose run starts in the state that was loaded
one-ends : HeadlineInShort → (asked : MatchText) (name : DigestName) (subject : Subject) (c : CaseData) (s : State) → start_or_refusal subject c ≡ Ok s → IsPlayed (judging asked name) (record { case = c; start = s })
    → TaskEnds IsImageOf name (c, (response_to_case (judging asked name) c s).text)
one-ends short asked name subject c s loads played start starts contains =
    let same : s ≡ start = same-ok (start_or_refusal subject c) s start loads (start-is subject c start starts) in
    subst (λ (x : State). HasLastLine (accepting (state_at x c.bound)) (response_to_case (judging asked name) c s).text ⊎ ShowsTwoStrings HasLastLine name (response_to_case (judging asked name) c s).text) same
    (part-ends name (state_at s c.bound) (status_number (response_to_case (judging asked name) c s).answered) (response_to_case (judging asked name) c s).text
    (short asked name c s played.range played.shown.strings contains))

all-end : HeadlineInShort → (asked : MatchText) (name : DigestName) (subject : Subject) (cs : List CaseData) (ls : List LoadedData) → loads_or_refusal subject cs ≡ Ok ls
    → All (IsPlayed (judging asked name)) ls → All (TaskEnds IsImageOf name) (zip cs (texts_in (responses_to_cases (judging asked name) ls)))
all-end short asked name subject [] ls loads played = All-nil (TaskEnds IsImageOf name)
all-end short asked name subject (c ∷ cs) ls loads played =
    let all = first-loads subject c cs ls loads in
    let m = judging asked name in
    let own : LoadedData = record { case = c; start = all.first } in
    subst (λ (ks : List LoadedData). All (TaskEnds IsImageOf name) (zip (c ∷ cs) (texts_in (responses_to_cases m ks)))) (sym all.are)
    (let here : All (IsPlayed m) (own ∷ all.later) = subst (All (IsPlayed m)) all.are played in
    All-cons (TaskEnds IsImageOf name) (c, (response_to_case m c all.first).text) (zip cs (texts_in (responses_to_cases m all.later)))
    (one-ends short asked name subject c all.first all.loads (All-head (IsPlayed m) own all.later here))
    (all-end short asked name (next_subject subject) cs all.later all.loads_later (All-tail (IsPlayed m) own all.later here)))

-- no line of such a text is like that of a task

one-apart : TextsAreTaskParts → (asked : MatchText) (name : DigestName) (c : CaseData) (s : State) → IsTaskPart (response_to_case (judging asked name) c s).text
one-apart law Report name c s =
    let digest = digest_of name in
    let settled = record_of_case digest c s in
    law.report (match_head name c (start_root digest s)) settled (verdict_of_record digest c s settled) (balances_in c settled)
one-apart law Full name c s =
    let digest = digest_of name in
    let settled = record_of_case digest c s in
    law.full (match_head name c (start_root digest s)) settled (verdict_of_record digest c s settled)

all-apart : TextsAreTaskParts → (asked : MatchText) (name : DigestName) (ls : List LoadedData) → All IsTaskPart (texts_in (responses_to_cases (judging asked name) ls))
all-apart law asked name [] = All-nil IsTaskPart
all-apart law asked name (l ∷ ls) =
    All-cons IsTaskPart (response_to_case (judging asked name) l.case l.start).text (texts_in (responses_to_cases (judging asked name) ls)) (one-apart law asked name l.case l.start)
    (all-apart law asked name ls)

pub tasks-in-short : TextsAreTaskParts → HeadlineInShort → (words : List (List ℕ)) (bytes : List ℕ) → DecidesInRange (chosen words) bytes → (name : DigestName) (cs : List CaseData)
    → AskForTheMatch words name → AreTasksOf IsImageOf bytes cs → TasksEnd (TaskEnds IsImageOf name) cs (outcome words bytes).text
tasks-in-short law short words bytes in_range name cs asks are =
    let m = judging asks.text name in
    let all = loads-are (Task 1) cs are.load in
    let is : AreTasks words bytes m all.loads = record { asked = ap (option_and_then decides) asks.chosen_is; cases = cs; reads = tasks-are asks.text bytes cs are; loads = all.are } in
    record {
      parts = texts_in (responses_to_cases m all.loads);
      count = texts-count m all.loads ∙ loads-count (Task 1) cs all.loads all.are;
      apart = all-apart law asks.text name all.loads;
      whole = ap (λ (r : Response). r.text) (outcome-tasks words bytes m all.loads is);
      each = all-end short asks.text name (Task 1) cs all.loads all.are (in_range m is.asked (Many cs) is.reads all.loads is.loads);
    }
