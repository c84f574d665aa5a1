-- The sentence in short, of the headline and of a prover whose script is `{}`.
use Rattle.std.proofs.Common.{◌≡◌, ℕ, suc, ◌-◌, ◌⊎◌, inl, inr, ◌++◌, List, [], ◌∷◌, length, codes, decimal, Option, Some, None, Ok, true, false, slice_get, refl, sym, ap, subst, ◌∙◌, arith, append_assoc}
use Rattle.std.specs.Prelude.{Contains}
use Rattle.std.specs.Option.{option_and_then}
use Rattle.std.specs.Io.KnownBytes.{Appends}
use Rattle.std.proofs.lemmas.Option.{slice_get_read}
use Rattle.hex.specs.Hex.{encode_lower}
use Rattle.rd_base.specs.declared.script.Manner.TheVariants.{Plain}
use Rattle.rv_step.specs.State.{State}
use Rattle.rv_step.specs.Step.{state_at}
use Rattle.case_reader.specs.Case.{CaseData, case_at}
use Rattle.case_reader.specs.Tasks.{One, CasesAreTasks}
use Rattle.digest_core.specs.declared.name.DigestName.{DigestName}
use Rattle.transcript_text.specs.declared.text.Head.{Head}
use Rattle.transcript_text.specs.declared.text.TextMove.{TextMove}
use Rattle.transcript_text.specs.MoveLists.{moves_of}
use Rattle.tournament.specs.Bracket.{Record}
use Rattle.tournament.specs.declared.reading.Verdict.TheVariants as verdict
use Rattle.deposits.specs.declared.amounts.Balances.{Balances}
use Rattle.transcript_text.specs.Words.{word_text}
use Rattle.transcript_text.specs.Lines.{Said, Line, claim_line, out_line, stage_line, dispute_line, compared_line, round_line, kept_line, parts_line, step_line, balance_line, pool_line, accept_line, none_left_line, collision_line, lines_of_record, lines_of_balances}
use Rattle.transcript_text.specs.Report.{answer_text, numbers_text, said_text, round_text, parted_text, line_text, lines_text}
use Rattle.transcript_text.specs.FullLines.{refereed_text, move_text, moves_text}
use Rattle.command_line.specs.Words.{chosen}
use Rattle.command_line.specs.declared.request.MatchText.{MatchText}
use Rattle.command_line.specs.declared.request.MatchText.TheVariants.{Report, Full}
use Rattle.command_line.specs.declared.request.Command.TheVariants.{Run}
use Rattle.case_match.specs.Match.{start_root, record_of_case}
use Rattle.case_match.specs.TruthfulInCase.{IsInRange, IsTruthfulInCase}
use Rattle.case_match.specs.HonestScripts.{UntouchedProversAreTruthful}
use Rattle.delegate.specs.Answered.{status_number}
use Rattle.digest_core.specs.Name.{digest_of}
use Rattle.delegate.specs.Decided.{written_as, before_verdict, answered_for, match_head, balances_in, response_to_case, case_for}
use Rattle.delegate.specs.Loading.{start_or_refusal, of_case}
use Rattle.delegate.specs.Refusal.{or_refusal, case_refusal}
use Rattle.delegate.specs.commands.Judge.{judging}
use Rattle.delegate.specs.commands.Run.{run_response, answer_of_run}
use Rattle.delegate.specs.Headline.{HeadlineOfCases, AcceptsTheRun, ShowsCollision, IsCase}
use Rattle.transcript_text.specs.TaskParts.{TextsAreTaskParts}
use Rattle.delegate.specs.InShort.{AskForTheMatch, AskForTheRun, IsImageOf, IsStartOf, IsCaseOf, honest, HasLastLine, accepting, colliding, Collides, AcceptsOrCollides, AnswersWith, SaysInShort, IsWrittenOf}
use Rattle.delegate.specs.InShortLaw.{HeadlineInShort, JudgeAcceptsWhatRunPrints}
use Rattle.delegate.specs.Outcome.{decides, outcome}
use Rattle.delegate.specs.Standing.{DecidesInRange}
use Rattle.delegate.specs.Writing.{ForItsBytes}
use Rattle.delegate.specs.declared.response.Subject.TheVariants.{Whole}
use Rattle.delegate.specs.declared.response.Response.{Response}
use Rattle.delegate.proofs.OutcomeLemmas.{goes_on, under_limit, of_command, outcome-of, for_its_bytes}
use Rattle.delegate.proofs.CaseLemmas.{outcome-case, one-case, one-played}
use Rattle.delegate.proofs.TasksInShortLemmas.{start-is, tasks-in-short}

-- TEXTS THAT END A LINE

pub record Ends (xs : List ℕ) : Type 0 where
  pub before : List ℕ
  pub is : xs ≡ before ++ codes "\n"

put : (a : List ℕ) {xs : List ℕ} → Ends xs → Ends (a ++ xs)
put a {xs} e = record { before = a ++ e.before; is = ap (λ l. a ++ l) e.is ∙ sym (append_assoc a e.before (codes "\n")) }

feed : Ends (codes "\n")
feed = record { before = []; is = refl }

said-ends : (said : Said) → Ends (said_text said)
said-ends said = put (codes " p") (put (decimal said.first) (put (codes " ") (put (word_text said.of_first) (put (codes " p") (put (decimal said.second) (put (codes " ") (put (word_text said.of_second) feed)))))))

pub line-ends : (l : Line) → Ends (line_text l)
line-ends (claim_line p status output) = put (codes "p") (put (decimal p) (put (codes " claims ") (put (answer_text status output) feed)))
line-ends (out_line p word) = put (codes "out p") (put (decimal p) (put (codes " ") (put (word_text word) feed)))
line-ends (stage_line stage) = put (codes "stage ") (put (decimal stage) feed)
line-ends (dispute_line number first second) = put (codes "dispute ") (put (decimal number) (put (codes " p") (put (decimal first) (put (codes " p") (put (decimal second) feed)))))
line-ends (compared_line number mid true) = put (round_text number mid) (put (codes " same") feed)
line-ends (compared_line number mid false) = put (round_text number mid) (put (codes " differ") feed)
line-ends (round_line number mid said) = put (round_text number mid) (said-ends said)
line-ends (kept_line r part) = put (parted_text r) (put (codes " keep ") (put (decimal part) feed))
line-ends (parts_line r said) = put (parted_text r) (said-ends said)
line-ends (step_line lo said) = put (codes "step ") (put (decimal lo) (said-ends said))
line-ends (balance_line p has) = put (codes "balance p") (put (decimal p) (put (codes " ") (put (decimal has) feed)))
line-ends (pool_line has) = put (codes "pool ") (put (decimal has) feed)
line-ends (accept_line status output) = put (codes "accept ") (put (answer_text status output) feed)
line-ends none_left_line = put (codes "none left") feed
line-ends (collision_line x y) = put (codes "collision ") (put (encode_lower x) (put (codes " ") (put (encode_lower y) feed)))

-- behind a line's end all lines end as lines do

lines-end : (ls : List (Option Line)) → Ends (codes "\n" ++ lines_text ls)
lines-end [] = feed
lines-end (None ∷ ls) = lines-end ls
lines-end (Some l ∷ ls) =
    let line = line-ends l in
    let more = put (codes "\n" ++ line.before) (lines-end ls) in
    record {
      before = more.before;
      is = ap (λ t. codes "\n" ++ (t ++ lines_text ls)) line.is
          ∙ (ap (λ t. codes "\n" ++ t) (append_assoc line.before (codes "\n") (lines_text ls))
          ∙ more.is);
    }

moves-end : (ms : List TextMove) → Ends (codes "\n" ++ moves_text ms)
moves-end [] = feed
moves-end (m ∷ ms) = put (codes "\n" ++ move_text m) (moves-end ms)

-- what stands behind an ended line is the last line, if it ends as one
last-behind : (first : List ℕ) (xs : List ℕ) (line text : List ℕ) → Ends xs → text ≡ first ++ (xs ++ (line ++ codes "\n")) → HasLastLine line text
last-behind first xs line text e is = record {
  before = first ++ e.before;
  whole = is
      ∙ (ap (λ t. first ++ (t ++ (line ++ codes "\n"))) e.is
      ∙ (ap (λ t. first ++ t) (append_assoc e.before (codes "\n") (line ++ codes "\n"))
      ∙ sym (append_assoc first e.before (codes "\n" ++ (line ++ codes "\n")))));
}

-- the verdict's line is the last one of a report and of a full text
pub last-of : (asked : MatchText) (head : Head) (settled : Record) (balances : Option Balances) (line text : List ℕ)
    → text ≡ before_verdict (written_as asked) head settled balances (line ++ codes "\n") → HasLastLine line text
last-of Report head settled balances line text is =
    let first = lines-end (lines_of_record settled) in
    let ls = lines_text (lines_of_record settled) in
    let bs = lines_text (lines_of_balances balances) in
    let numbers = numbers_text (codes "match") head in
    let more : Ends (codes "\n" ++ (ls ++ bs)) =
    let behind = put first.before (lines-end (lines_of_balances balances)) in
    record {
      before = behind.before;
      is = sym (append_assoc (codes "\n") ls bs) ∙ (ap (λ t. t ++ bs) first.is ∙ (append_assoc first.before (codes "\n") bs ∙ behind.is));
    } in
    last-behind numbers (codes "\n" ++ (ls ++ bs)) line text more
    (is ∙ (append_assoc numbers (codes "\n") (ls ++ (bs ++ (line ++ codes "\n"))) ∙ ap (λ t. numbers ++ (codes "\n" ++ t)) (sym (append_assoc ls bs (line ++ codes "\n")))))
last-of Full head settled balances line text is =
    last-behind (refereed_text head) (codes "\n" ++ moves_text (moves_of settled)) line text (moves-end (moves_of settled)) is

pub colliding-line : (x y : List ℕ) → line_text (collision_line x y) ≡ colliding x y ++ codes "\n"
colliding-line x y =
    ap (λ t. codes "collision " ++ t)
    (ap (λ t. encode_lower x ++ t) refl ∙ sym (append_assoc (encode_lower x) (codes " " ++ encode_lower y) (codes "\n")))

-- A PROVER WHOSE SCRIPT IS `{}`

pub honest-truthful : (digest : List ℕ → List ℕ) → UntouchedProversAreTruthful digest → (c : CaseData) (start : State) → IsInRange c start → Contains c.provers honest
    → (p : ℕ) × IsTruthfulInCase digest c start p
honest-truthful digest law c start range contains =
    let k = contains.0 in
    let place : suc k - 1 ≡ k = omega arith in
    let there : slice_get c.provers k ≡ Some honest = slice_get_read c.provers (length c.provers) k honest refl contains.1 (sym contains.2) in
    (suc k, law c start (suc k) Plain range (omega arith) (subst (λ i. slice_get c.provers i ≡ Some honest) (sym place) there) tt)

-- THE LAW

collided : (asked : MatchText) (x y : List ℕ) → status_number (answered_for (written_as asked) (verdict.Collision x y)) ≡ 11
collided Report x y = refl
collided Full x y = refl

pub in_short : HeadlineOfCases → ((digest : List ℕ → List ℕ) → UntouchedProversAreTruthful digest) → HeadlineInShort
in_short headline untouched asked name c start range bytes contains =
    let p = honest-truthful (digest_of name) (untouched (digest_of name)) c start range contains in
    let m = judging asked name in
    by (headline m c start p.0 range bytes p.1).ends
  where
    by : AcceptsTheRun (judging asked name) (response_to_case (judging asked name) c start) c start ⊎ ShowsCollision (judging asked name) (response_to_case (judging asked name) c start) c start
        → AcceptsOrCollides name (state_at start c.bound) (status_number (response_to_case (judging asked name) c start).answered) (response_to_case (judging asked name) c start).text
    by (inl accepts) = inl (record { done = ap status_number accepts.done; last = last-of asked _ _ _ (accepting (state_at start c.bound)) _ accepts.text })
    by (inr shows) = inr (let digest = digest_of name in let settled = record_of_case digest c start in record {
      collision = ap status_number shows.answered ∙ collided asked shows.pair.0 shows.pair.1;
      shows = record {
        x = shows.pair.0;
        y = shows.pair.1;
        strings = record { first = shows.of_bytes.0; second = shows.of_bytes.1; differ = shows.collision.collision.differ; one_digest = shows.collision.collision.one_digest };
        last = last-of asked _ _ _ (colliding shows.pair.0 shows.pair.1) _ (shows.text ∙ ap (before_verdict (written_as asked) (match_head name c (start_root digest start)) settled (balances_in c settled)) (colliding-line shows.pair.0 shows.pair.1));
      };
    })

-- A CASE OF THE BYTES IS ONE THAT IS ASKED FOR

case-is : (asked : MatchText) (bytes : List ℕ) (c : CaseData) → IsCaseOf bytes c → case_for (written_as asked) bytes ≡ Ok c
unfolding case_for
case-is Report bytes c is = goes_on _ _ _ (under_limit bytes is.short) ∙ ap (or_refusal (case_refusal Whole)) is.reads
case-is Full bytes c is = goes_on _ _ _ (under_limit bytes is.short) ∙ ap (or_refusal (case_refusal Whole)) is.reads

asked-is : (words : List (List ℕ)) (bytes : List ℕ) (name : DigestName) (c : CaseData) (start : State) → (asks : AskForTheMatch words name)
    → IsCaseOf bytes c → IsStartOf IsImageOf c start → IsCase words bytes (judging asks.text name) c start
asked-is words bytes name c start asks reads starts =
    record { asked = ap (option_and_then decides) asks.chosen_is; reads = case-is asks.text bytes c reads; loads = start-is Whole c start starts }

judge-in-short : CasesAreTasks → HeadlineInShort → (words : List (List ℕ)) (bytes : List ℕ) → DecidesInRange (chosen words) bytes → (name : DigestName) (c : CaseData) (start : State)
    → AskForTheMatch words name → IsCaseOf bytes c → IsStartOf IsImageOf c start → Contains c.provers honest
    → AcceptsOrCollides name (state_at start c.bound) (status_number (outcome words bytes).answered) (outcome words bytes).text
judge-in-short law short words bytes in_range name c start asks reads starts contains =
    let m = judging asks.text name in
    let is = asked-is words bytes name c start asks reads starts in
    let played = one-played m c start is.loads (in_range m is.asked (One c) (one-case law (written_as asks.text) bytes c is.reads)) in
    subst (λ (r : Response). AcceptsOrCollides name (state_at start c.bound) (status_number r.answered) r.text) (sym (outcome-case law words bytes m c start is))
    (short asks.text name c start played.range played.shown.strings contains)

run-is : (bytes : List ℕ) (c : CaseData) (start : State) → case_at bytes ≡ Ok c → start_or_refusal Whole c ≡ Ok start → run_response bytes ≡ Ok (answer_of_run c start)
unfolding of_case
run-is bytes c start reads loads = goes_on _ _ _ (ap (or_refusal (case_refusal Whole)) reads) ∙ goes_on _ _ _ loads

run-in-short : (words : List (List ℕ)) (bytes : List ℕ) (c : CaseData) (start : State) → AskForTheRun words → IsCaseOf bytes c → IsStartOf IsImageOf c start
    → AnswersWith (state_at start c.bound) (status_number (outcome words bytes).answered) (outcome words bytes).text
run-in-short words bytes c start chosen_is reads starts =
    let is : outcome words bytes ≡ answer_of_run c start = outcome-of words bytes _ (of_command words bytes Run chosen_is ∙ (goes_on _ _ _ (under_limit bytes reads.short) ∙ run-is bytes c start reads.reads (start-is Whole c start starts))) in
    subst (λ (r : Response). AnswersWith (state_at start c.bound) (status_number r.answered) r.text) (sym is) (record { done = refl; line = refl })

pub outcome-in-short : CasesAreTasks → TextsAreTaskParts → HeadlineInShort → (words : List (List ℕ)) (bytes : List ℕ) → DecidesInRange (chosen words) bytes
    → SaysInShort words bytes (status_number (outcome words bytes).answered) (outcome words bytes).text
outcome-in-short law parts short words bytes in_range =
    record { judge = judge-in-short law short words bytes in_range; judge_tasks = tasks-in-short parts short words bytes in_range; run = run-in-short words bytes }

pub judge_accepts : JudgeAcceptsWhatRunPrints
judge_accepts judging running bytes judge_status judge_text run_status run_text judged ran name c start asks runs_it reads starts contains =
    let final = state_at start c.bound in
    let runs = ran.run c start runs_it reads starts in
    record {
      answer = answer_text final.status final.output;
      run_done = runs.done;
      printed = runs.line;
      judged = by (judged.judge name c start asks reads starts contains);
    }
  where
    by : AcceptsOrCollides name (state_at start c.bound) judge_status judge_text
        → ((judge_status ≡ 0) × HasLastLine (codes "accept " ++ answer_text (state_at start c.bound).status (state_at start c.bound).output) judge_text) ⊎ Collides name judge_status judge_text
    by (inl accepts) = inl (accepts.done, accepts.last)
    by (inr shows) = inr shows

-- WHAT WAS WRITTEN

pub written-of : (left : Option (List ℕ)) (words : List (List ℕ)) (response : Response) (before now : Option (List ℕ)) (P : List ℕ → ℕ → List ℕ → Type 0)
    → Appends before now response.text → ((bytes : List ℕ) → DecidesInRange (chosen words) bytes → P bytes (status_number (outcome words bytes).answered) (outcome words bytes).text)
    → ForItsBytes left (λ bytes. (response ≡ outcome words bytes) × DecidesInRange (chosen words) bytes)
    → ForItsBytes left (λ bytes. IsWrittenOf (P bytes (status_number response.answered)) before now)
written-of left words response before now P appended holds read =
    for_its_bytes left _ _
    (λ bytes its. record {
      text = response.text;
      written = appended;
      says = subst (λ (r : Response). P bytes (status_number r.answered) r.text) (sym its.0) (holds bytes its.1);
    }) read

pub short_written : CasesAreTasks → TextsAreTaskParts → HeadlineInShort → (left : Option (List ℕ)) (words : List (List ℕ)) (response : Response) (before now : Option (List ℕ))
    → Appends before now response.text → ForItsBytes left (λ bytes. (response ≡ outcome words bytes) × DecidesInRange (chosen words) bytes)
    → ForItsBytes left (λ bytes. IsWrittenOf (SaysInShort words bytes (status_number response.answered)) before now)
short_written law parts short left words response before now appended read =
    written-of left words response before now (SaysInShort words) appended (outcome-in-short law parts short words) read

-- the same of a process: its words as they were given, and its status
pub short-by : (left : Option (List ℕ)) (P : List (List ℕ) → List ℕ → ℕ → List ℕ → Type 0) (words other : List (List ℕ)) (number status : ℕ) (before now : Option (List ℕ))
    → words ≡ other → status ≡ number
    → ForItsBytes left (λ bytes. IsWrittenOf (P words bytes number) before now)
    → ForItsBytes left (λ bytes. IsWrittenOf (P other bytes status) before now)
short-by left P words other number status before now same is said =
    subst (λ (n : ℕ). ForItsBytes left (λ bytes. IsWrittenOf (P other bytes n) before now)) (sym is)
    (subst (λ (ws : List (List ℕ)). ForItsBytes left (λ bytes. IsWrittenOf (P ws bytes number) before now)) same said)
