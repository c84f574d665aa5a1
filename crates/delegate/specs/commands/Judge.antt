-- To believe. `judge`: the match of the case that is read, or those of its tasks, decided by commitments of a digest, and each one's report
-- or full text.
use Rattle.std.specs.Prelude.{ℕ, List, Result, Ok}
use Rattle.rd_base.specs.Results.{◌>>=◌}
use Rattle.case_reader.specs.Tasks.{TasksData}
use Rattle.digest_core.specs.declared.name.DigestName.{DigestName}
use Rattle.command_line.specs.declared.request.MatchText.{MatchText}
use Rattle.delegate.specs.Loading.{tasks_or_refusal, cases_of_tasks, first_subject, loads_or_refusal}
use Rattle.delegate.specs.Decided.{Deciding, written_as, together, responses_to_cases}
use Rattle.delegate.specs.declared.response.Response.{Response}

-- what it is asked for
abbrev pub judging : MatchText → DigestName → Deciding
judging text name = record { digest = name; written = written_as text }

-- of what was read: every image is loaded before anything is played
unfoldable pub response_to_tasks : Deciding → TasksData → Result Response Response
response_to_tasks m tasks = do
  loads ← loads_or_refusal (first_subject tasks) (cases_of_tasks tasks)
  Ok (together (first_subject tasks) (responses_to_cases m loads))

unfoldable pub judge_response : MatchText → DigestName → List ℕ → Result Response Response
judge_response text name bytes = do
  tasks ← tasks_or_refusal bytes
  response_to_tasks (judging text name) tasks
