-- To believe. The headline: a prover that claims and answers as the machine's definition says, within its patience, is not eliminated, wins
-- each of its disputes but that of a collision, and the text accepts the sequential run's status and output or shows a collision.
use Rattle.std.specs.Prelude.{◌≡◌, length, ℕ, ◌+◌, ◌-◌, ◌*◌, ◌<◌, ◌⊎◌, false, List, Contains, Some, Ok, slice_get, Bool, true, ◌&&◌, ◌||◌, ◌==◌, [], ◌∷◌}
use Rattle.std.specs.Option.{option_and_then}
use Rattle.rv_step.specs.State.{State}
use Rattle.case_reader.specs.Case.{CaseData}
use Rattle.case_reader.specs.Tasks.{Many}
use Rattle.tournament.specs.declared.reading.Verdict.{Verdict}
use Rattle.tournament.specs.declared.reading.Verdict.TheVariants.{Collision}
use Rattle.tournament.specs.Bracket.{live}
use Rattle.tournament.specs.FewPosts.{disputes_played}
use Rattle.tournament.specs.Theorem.{AreTrue, Stays, IsCollisionIn}
use Rattle.deposits.specs.Balances.{balance}
use Rattle.deposits.specs.ExactBalance.{collisions_of}
use Rattle.digest_core.specs.declared.name.DigestName.{DigestName}
use Rattle.transcript_text.specs.MoveLists.{moves_of}
use Rattle.transcript_text.specs.Lines.{accept_line, collision_line, lines_of_record, are_against}
use Rattle.transcript_text.specs.Report.{line_text}
use Rattle.transcript_text.specs.reader.InLimits.{AreBytes}
use Rattle.command_line.specs.Words.{chosen}
use Rattle.case_match.specs.Match.{start_root, rules_of_case, record_of_case, verdict_of_record, truth_of_case, final_state}
use Rattle.case_match.specs.TruthfulInCase.{IsTruthfulInCase, IsInRange}
use Rattle.digest_core.specs.Name.{digest_of}
use Rattle.delegate.specs.Decided.{Deciding, case_for, tasks_for, answered_for, match_head, balances_in, before_verdict, response_to_case, together, responses_to_cases, StandsUnder}
use Rattle.delegate.specs.Loading.{LoadedData, start_or_refusal, loads_or_refusal}
use Rattle.delegate.specs.Outcome.{decides}
use Rattle.delegate.specs.declared.response.Subject.TheVariants.{Whole, Task}
use Rattle.delegate.specs.declared.response.Response.{Response}
use Rattle.delegate.specs.declared.response.Answered.TheVariants.{Done}
use Rattle.bisect_game.specs.declared.settled.Settled.{Settled}
use Rattle.bisect_game.specs.declared.settled.Settled.TheVariants.{Given, Faulty, Spent}
use Rattle.transcript_text.specs.declared.text.TextMove.{TextMove}

-- WHICH LINES OF A FULL TEXT speak against a prover

-- an answer that is called faulty, or a question that is called spent
abbrev pub is_settled_against : Settled → Bool
is_settled_against (Given a) = false
is_settled_against (Faulty a) = true
is_settled_against Spent = true

-- one of the lines is this prover's, and calls its answer so
abbrev pub are_moves_against : ℕ → List TextMove → Bool
are_moves_against p [] = false
are_moves_against p (m ∷ ms) = ((m.prover == p) && is_settled_against m.settled) || are_moves_against p ms

-- WHAT IS ASKED FOR

-- the arguments ask for a match to be decided in this way, and for the bytes it is that of this case, whose run starts in this state
pub record IsCase (words : List (List ℕ)) (bytes : List ℕ) (m : Deciding) (c : CaseData) (start : State) : Type 0 where
  pub asked : option_and_then decides (chosen words) ≡ Some m
  pub reads : case_for m.written bytes ≡ Ok c
  pub loads : start_or_refusal Whole c ≡ Ok start

-- the arguments ask for matches to be decided in this way, and for the bytes they are those of tasks, whose cases are loaded so
pub record AreTasks (words : List (List ℕ)) (bytes : List ℕ) (m : Deciding) (tasks : List LoadedData) : Type 0 where
  pub asked : option_and_then decides (chosen words) ≡ Some m
  pub cases : List CaseData
  pub reads : tasks_for m.written bytes ≡ Ok (Many cases)
  pub loads : loads_or_refusal (Task 1) cases ≡ Ok tasks

-- IT IS NOT ELIMINATED: it is live at the end, with the true claim; its answers in each of its disputes are given and true;
-- no line of the report or of the full text calls it faulty, spent or refuted; and if there are deposits it ends with its stake and one more
-- for each of its disputes but those that closed by a collision
pub record IsNotEliminated (name : DigestName) (c : CaseData) (start : State) (p : ℕ) : Type 0 where
  pub is_live : Contains (live (record_of_case (digest_of name) c start)) (p, (truth_of_case (digest_of name) c start).claim)
  pub answers : AreTrue (rules_of_case (digest_of name) c start) (truth_of_case (digest_of name) c start) p (record_of_case (digest_of name) c start)
  pub stays : Stays (rules_of_case (digest_of name) c start) (truth_of_case (digest_of name) c start) p (record_of_case (digest_of name) c start)
  pub spared : are_against p (lines_of_record (record_of_case (digest_of name) c start)) ≡ false
  pub spared_in_full : are_moves_against p (moves_of (record_of_case (digest_of name) c start)) ≡ false
  pub wins : (stake : ℕ) → c.stake ≡ Some stake → balance stake (record_of_case (digest_of name) c start) p ≡ stake * (1 + (disputes_played p (record_of_case (digest_of name) c start) - collisions_of p (record_of_case (digest_of name) c start)))

-- EITHER the verdict's line accepts the status and the output of the sequential run
pub record AcceptsTheRun (m : Deciding) (response : Response) (c : CaseData) (start : State) : Type 0 where
  pub done : response.answered ≡ Done
  pub text : response.text ≡ before_verdict m.written (match_head m.digest c (start_root (digest_of m.digest) start)) (record_of_case (digest_of m.digest) c start) (balances_in c (record_of_case (digest_of m.digest) c start)) (line_text (accept_line (final_state c start).status (final_state c start).output))

-- OR it shows two different strings of bytes with one digest, each opened by an answer of the record
pub record ShowsCollision (m : Deciding) (response : Response) (c : CaseData) (start : State) : Type 0 where
  pub pair : List ℕ × List ℕ
  pub collision : IsCollisionIn (rules_of_case (digest_of m.digest) c start) (record_of_case (digest_of m.digest) c start) pair
  pub verdict : verdict_of_record (digest_of m.digest) c start (record_of_case (digest_of m.digest) c start) ≡ Collision (pair.0) (pair.1)
  pub of_bytes : AreBytes (pair.0) × AreBytes (pair.1)
  pub answered : response.answered ≡ answered_for m.written (Collision (pair.0) (pair.1))
  pub text : response.text ≡ before_verdict m.written (match_head m.digest c (start_root (digest_of m.digest) start)) (record_of_case (digest_of m.digest) c start) (balances_in c (record_of_case (digest_of m.digest) c start)) (line_text (collision_line (pair.0) (pair.1)))

-- what holds of the response to a case with a truthful prover
pub record Headline (m : Deciding) (response : Response) (c : CaseData) (start : State) (p : ℕ) : Type 0 where
  pub stays : IsNotEliminated m.digest c start p
  pub ends : AcceptsTheRun m response c start ⊎ ShowsCollision m response c start

-- the strings of a collision are of bytes
abbrev pub AreByteStrings : Verdict → Type 0
AreByteStrings (Collision x y) = AreBytes x × AreBytes y
AreByteStrings _ = Unit {0}

-- the headline holds of what is written of each case with numbers in range, whose run starts in a valid state, and whose verdict shows
-- strings of bytes if it is a collision
abbrev pub HeadlineOfCases : Type 0
HeadlineOfCases =
    (m : Deciding) (c : CaseData) (start : State) (p : ℕ) → IsInRange c start →
    AreByteStrings (verdict_of_record (digest_of m.digest) c start (record_of_case (digest_of m.digest) c start)) → IsTruthfulInCase (digest_of m.digest) c start p →
    Headline m (response_to_case m c start) c start p

-- COMPLETENESS, of a response to these arguments and bytes: a case is answered by the verdict of its record, and its text is that
-- of the record and the verdict, whole
abbrev pub AnswersTheCase : List (List ℕ) → List ℕ → Response → Type 0
AnswersTheCase words bytes response = (m : Deciding) (c : CaseData) (start : State) → IsCase words bytes m c start → response ≡ response_to_case m c start

-- THE HEADLINE, of a response to these arguments and bytes. No option is named that changes nothing.
abbrev pub KeepsTheTruthful : List (List ℕ) → List ℕ → Response → Type 0
KeepsTheTruthful words bytes response =
    (m : Deciding) (c : CaseData) (start : State) (p : ℕ) → IsCase words bytes m c start → IsTruthfulInCase (digest_of m.digest) c start p →
    Headline m response c start p

-- COMPLETENESS FOR TASKS: under the line of each task, in their order, is its text, whole, as of the match of its case alone, and the
-- answer is the gravest
abbrev pub AnswersTheTasks : List (List ℕ) → List ℕ → Response → Type 0
AnswersTheTasks words bytes response =
    (m : Deciding) (tasks : List LoadedData) → AreTasks words bytes m tasks → response ≡ together (Task 1) (responses_to_cases m tasks)

-- the text is one of parts, each under the line of its task, and the headline holds of that of task t
pub record HeadlineOfTask (m : Deciding) (response : Response) (tasks t : ℕ) (task : LoadedData) (p : ℕ) : Type 0 where
  pub part : Response
  pub stands : StandsUnder tasks t part.text response.text
  pub keeps : Headline m part task.case task.start p

-- THE HEADLINE FOR TASKS: a truthful prover of one task is kept in its part of the text, whatever the provers of other tasks do
abbrev pub KeepsTheTruthfulOfTasks : List (List ℕ) → List ℕ → Response → Type 0
KeepsTheTruthfulOfTasks words bytes response =
    (m : Deciding) (tasks : List LoadedData) (t : ℕ) (task : LoadedData) (p : ℕ) → AreTasks words bytes m tasks →
    0 < t → slice_get tasks (t - 1) ≡ Some task → IsTruthfulInCase (digest_of m.digest) task.case task.start p →
    HeadlineOfTask m response (length tasks) t task p
