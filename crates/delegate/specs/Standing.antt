-- Derived. What a call gives of its definition, and what is known of cases that were read, loaded or played.
use Rattle.std.specs.Prelude.{◌≡◌, ◌<◌, ◌≤◌, ℕ, List, map, length, slice_index, Option, Some, Result, Ok, Err}
use Rattle.std.specs.List.{All}
use Rattle.std.specs.Option.{option_and_then}
use Rattle.rv_step.specs.State.{State, state_of}
use Rattle.rv_step.specs.Valid.{IsValid}
use Rattle.rv_step.specs.declared.machine.Machine.{Machine}
use Rattle.case_reader.specs.Case.{CaseData, data_of}
use Rattle.case_reader.specs.Tasks.{TasksData}
use Rattle.command_line.specs.declared.request.Command.{Command}
use Rattle.case_match.specs.TruthfulInCase.{IsInRange}
use Rattle.case_match.specs.Match.{ended_case}
use Rattle.case_match.specs.Openings.{IsFresh}
use Rattle.case_match.specs.declared.opening.LoadedCase.{LoadedCase}
use Rattle.case_match.specs.declared.opening.EndedCase.{EndedCase}
use Rattle.case_match.specs.declared.referee.Ended.{Ended}
use Rattle.transcript_text.specs.MoveLists.{moves_of}
use Rattle.transcript_text.specs.FullLines.{AreWritten}
use Rattle.digest_core.specs.Name.{digest_of}
use Rattle.delegate.specs.Loading.{LoadedData, case_or_refusal, start_or_refusal, cases_of_tasks, first_subject, loads_or_refusal}
use Rattle.delegate.specs.Decided.{full, Deciding, tasks_for, response_of}
use Rattle.delegate.specs.Outcome.{decides}
use Rattle.delegate.specs.Headline.{AreByteStrings}
use Rattle.delegate.specs.declared.response.Subject.{Subject}
use Rattle.delegate.specs.declared.response.Subject.TheVariants.{Whole, Task}
use Rattle.delegate.specs.declared.response.Response.{Response}
use Rattle.delegate.specs.declared.response.Stop.{Stop}
use Rattle.delegate.specs.declared.response.Stop.TheVariants.{Refused}

-- a call's value, seen by view, or its refusal is that of the definition, unless memory ran out
abbrev pub Stands : {X Y : Type 0} → (X → Y) → Result X Stop → Result Y Response → Type 0
Stands view (Ok x) defined = defined ≡ Ok (view x)
Stands view (Err stop) defined = (response : Response) → stop ≡ Refused response → defined ≡ Err response

-- this is the response to a command that was carried out or refused so
abbrev pub IsEitherWay : Result Response Stop → Response → Type 0
IsEitherWay (Ok done) response = response ≡ done
IsEitherWay (Err stop) response = stop ≡ Refused response

-- a machine without output, whose chain is that of no output by every digest function
abbrev pub IsFreshStart : Machine → Type 0
IsFreshStart start = (digest : List ℕ → List ℕ) → IsFresh digest start

-- a loaded case, by what it is
abbrev pub loaded_data : LoadedCase → LoadedData
loaded_data l = record { case = data_of l.case.now; start = state_of l.start }

-- a loaded case in range, with a fresh machine
pub record IsReadyToPlay (l : LoadedCase) : Type 0 where
  pub fresh : IsFreshStart l.start
  pub range : IsInRange (data_of l.case.now) (state_of l.start)

-- the number of a task, and none of all that is read
abbrev pub task_number : Subject → ℕ
task_number Whole = 0
task_number (Task t) = t

-- the responses to cases whose matches have ended so
abbrev pub responses : Deciding → List EndedCase → List Response
responses m ends = map (λ (e : EndedCase). response_of m (data_of e.case.now) e.end) ends

-- what is shown of a match that has ended so: a collision is of strings of bytes, and if its full text is written each of its answers has a
-- wire form
pub record EndIsShown (m : Deciding) (end : Ended) : Type 0 where
  pub strings : AreByteStrings end.verdict
  pub written : m.written ≡ full → AreWritten (moves_of end.match_record)

-- what only its run shows of a loaded case that was decided so: that it is in range, and that
pub record IsPlayed (m : Deciding) (l : LoadedData) : Type 0 where
  pub range : IsInRange l.case l.start
  pub shown : EndIsShown m (ended_case (digest_of m.digest) l.case l.start)

-- so of each case of what was read, if they are loaded
abbrev pub AreInRangeOnceLoaded : Deciding → TasksData → Type 0
AreInRangeOnceLoaded m tasks = (loads : List LoadedData) → loads_or_refusal (first_subject tasks) (cases_of_tasks tasks) ≡ Ok loads → All (IsPlayed m) loads

-- what is read here, if there is anything, is in range
abbrev pub AreInRangeIfThere : Deciding → Result TasksData Response → Type 0
AreInRangeIfThere m reading = (tasks : TasksData) → reading ≡ Ok tasks → AreInRangeOnceLoaded m tasks

-- so is what a command that decides, if there is one, reads of these bytes
abbrev pub DecidesInRange : Option Command → List ℕ → Type 0
DecidesInRange command bytes = (m : Deciding) → option_and_then decides command ≡ Some m → AreInRangeIfThere m (tasks_for m.written bytes)

-- numbers none of which is above one that stands behind it
abbrev pub IsAscending : List ℕ → Type 0
IsAscending xs = (i j : ℕ) → i ≤ j → j < length xs → slice_index xs i ≤ slice_index xs j

-- the start of the case of bytes that aren't too many is a valid state
abbrev pub StartsValidIn : List ℕ → Type 0
StartsValidIn bytes = (c : CaseData) (start : State) → case_or_refusal bytes ≡ Ok c → start_or_refusal Whole c ≡ Ok start → IsValid start
