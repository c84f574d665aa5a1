-- To believe. What is written of a match that is decided: by `judge` its report or its full text, and by `big` a summary in one line; and
-- of many tasks: under the line of each its text, as it has it alone.
use Rattle.std.specs.Prelude.{ℕ, List, ◌++◌, length, codes, Option, Some, option_map, Result, Ok, ◌≡◌, ◌-◌, [], ◌∷◌, decimal, map, slice_get}
use Rattle.rd_base.specs.Results.{◌>>=◌}
use Rattle.rd_base.specs.declared.digest.Digest32.{Digest32}
use Rattle.rv_step.specs.State.{State}
use Rattle.tournament.specs.declared.reading.Verdict.{Verdict}
use Rattle.tournament.specs.declared.reading.Verdict.TheVariants.{Accept, NoneLeft, Collision}
use Rattle.tournament.specs.Bracket.{Record}
use Rattle.deposits.specs.declared.amounts.Balances.{Balances}
use Rattle.deposits.specs.Balances.{balances_of}
use Rattle.case_reader.specs.Case.{CaseData}
use Rattle.case_reader.specs.Tasks.{TasksData, One}
use Rattle.transcript_text.specs.declared.text.Head.{Head}
use Rattle.digest_core.specs.declared.name.DigestName.{DigestName}
use Rattle.transcript_text.specs.MoveLists.{moves_of}
use Rattle.transcript_text.specs.Lines.{lines_of_record, lines_of_balances}
use Rattle.transcript_text.specs.Report.{report_text, head_line, lines_text}
use Rattle.transcript_text.specs.FullLines.{full_text, refereed_text, moves_text}
use Rattle.transcript_text.specs.Summary.{summary_text, rounds_in, workload_text, counts_text}
use Rattle.workload.specs.Workload.{big_data}
use Rattle.command_line.specs.declared.request.MatchText.{MatchText}
use Rattle.command_line.specs.declared.request.MatchText.TheVariants.{Report, Full}
use Rattle.case_match.specs.declared.referee.Ended.{Ended}
use Rattle.case_match.specs.Match.{ended_case}
use Rattle.delegate.specs.Loading.{LoadedData, next_subject, within_limit, case_or_refusal, tasks_or_refusal}
pub use Rattle.delegate.specs.declared.commands.judge.WhichText.{WhichText}
pub use Rattle.delegate.specs.declared.commands.judge.WhichText.TheVariants.{Report as report, Full as full, Summary as summary}
pub use Rattle.delegate.specs.declared.commands.judge.Deciding.{Deciding}
use Rattle.delegate.specs.declared.response.Subject.{Subject}
use Rattle.delegate.specs.declared.response.Subject.TheVariants.{Whole, Task}
use Rattle.delegate.specs.declared.response.Response.{Response}
use Rattle.delegate.specs.declared.response.Answered.{Answered}
use Rattle.delegate.specs.declared.response.Answered.TheVariants as answered
use Rattle.digest_core.specs.Name.{digest_of}
use Rattle.delegate.specs.Answered.{graver}

-- which text is written by `judge`
abbrev pub written_as : MatchText → WhichText
written_as Report = report
written_as Full = full

-- the case of the match: that of the bytes, which are not too many, or the large workload of a seed, for which nothing is read
unfoldable pub case_for : WhichText → List ℕ → Result CaseData Response
case_for (summary seed) bytes = Ok (big_data seed)
case_for _ bytes = within_limit bytes >>= case_or_refusal

-- what the bytes hold, one case or tasks, or that workload
unfoldable pub tasks_for : WhichText → List ℕ → Result TasksData Response
tasks_for (summary seed) bytes = Ok (One (big_data seed))
tasks_for _ bytes = within_limit bytes >>= tasks_or_refusal

-- what the match is played over, from the root of the state in which the run starts
abbrev pub match_head : DigestName → CaseData → Digest32 → Head
match_head name c root = record { provers = length c.provers; bound = c.bound; patience = c.patience; version = c.version; fan = c.fan; digest = name; start = root }

-- a report and a full text answer by the verdict, and a summary always with its line
abbrev pub answered_for : WhichText → Verdict → Answered
answered_for (summary seed) verdict = answered.Done
answered_for _ (Accept number) = answered.Done
answered_for _ NoneLeft = answered.NoneLeft
answered_for _ (Collision x y) = answered.Collision

-- what each prover has once the match has ended, and what is in the pool, if the case has deposits
abbrev pub balances_in : CaseData → Record → Option Balances
balances_in c settled = option_map (λ stake. balances_of stake (length c.provers) settled) c.stake

-- the text of a match's head, record, balances and verdict. The balances are in the report alone.
abbrev pub match_text : WhichText → Head → Record → Option Balances → Verdict → List ℕ
match_text (summary seed) head settled balances verdict = summary_text seed settled verdict
match_text report head settled balances verdict = report_text head settled verdict balances
match_text full head settled balances verdict = full_text head settled verdict

-- the whole text that ends in this text of a verdict: before that stand the lines of the report or of the full text, or what a summary
-- counts
abbrev pub before_verdict : WhichText → Head → Record → Option Balances → List ℕ → List ℕ
before_verdict (summary seed) head settled balances verdict_text =
    workload_text seed (length settled.claims) ++ (counts_text (length settled.disputes) (rounds_in settled.disputes) ++ (codes " " ++ verdict_text))
before_verdict report head settled balances verdict_text = head_line head ++ (lines_text (lines_of_record settled) ++ (lines_text (lines_of_balances balances) ++ verdict_text))
before_verdict full head settled balances verdict_text = refereed_text head ++ (codes "\n" ++ (moves_text (moves_of settled) ++ verdict_text))

-- the response to a case whose match has ended so
abbrev pub response_of : Deciding → CaseData → Ended → Response
response_of m c end = record {
  answered = answered_for m.written end.verdict;
  text = match_text m.written (match_head m.digest c end.setup.start) end.match_record (balances_in c end.match_record) end.verdict;
}

-- the response to a case whose run starts in this state, by the digest function that is asked for: it depends on nothing but that, the case
-- and the text that is asked for
abbrev pub response_to_case : Deciding → CaseData → State → Response
response_to_case m c start = response_of m c (ended_case (digest_of m.digest) c start)

-- TASKS

-- what stands over the text of a case: nothing if it is all that is read, and of a task its line
abbrev pub heading : Subject → List ℕ
heading Whole = []
heading (Task t) = codes "task " ++ (decimal t ++ codes "\n")

-- the texts of cases, the first of which is of this subject, each under its heading
abbrev pub texts_under : Subject → List (List ℕ) → List ℕ
texts_under subject [] = []
texts_under subject (text ∷ texts) = heading subject ++ (text ++ texts_under (next_subject subject) texts)

-- a collision if one of these answers is that, else that nobody is left if one is that, else that all is done
abbrev pub gravest : List Response → Answered
gravest [] = answered.Done
gravest (r ∷ rs) = graver r.answered (gravest rs)

-- the response to cases, the first of which is of this subject, of those to each
abbrev pub together : Subject → List Response → Response
together subject rs = record { answered = gravest rs; text = texts_under subject (map (λ (r : Response). r.text) rs) }

-- the responses to cases that are loaded, each as to it alone
abbrev pub responses_to_cases : Deciding → List LoadedData → List Response
responses_to_cases m loads = map (λ (l : LoadedData). response_to_case m l.case l.start) loads

-- a text of nothing but parts, one for each of so many tasks, each under its task's line; and this is the part of task t
pub record StandsUnder (tasks t : ℕ) (part text : List ℕ) : Type 0 where
  pub parts : List (List ℕ)
  pub all : length parts ≡ tasks
  pub whole : text ≡ texts_under (Task 1) parts
  pub here : slice_get parts (t - 1) ≡ Some part
