-- To believe. The match of a case by a digest function: by what it is played, what its provers say, and its result. The referee sees no
-- state but the first, of which it makes the root, and decides about claims and proofs of single steps.
use Rattle.std.specs.Prelude.{ℕ, List, All, length, map, zip}
use Rattle.rd_base.specs.declared.digest.Digest32.{Digest32}
use Rattle.bisect_game.specs.Says.{Says}
use Rattle.bisect_game.specs.Rules.{Rules, ArePlayable}
use Rattle.bisect_game.specs.Truth.{Truth}
use Rattle.rv_step.specs.State.{State}
use Rattle.rv_step.specs.Step.{state_at}
use Rattle.state_commit.specs.StateRoot.{root_in}
use Rattle.bisect_game.specs.Setup.{Setup}
use Rattle.tournament.specs.declared.reading.Verdict.{Verdict}
use Rattle.tournament.specs.Bracket.{Record, bracket, verdict_of}
use Rattle.tournament.specs.Journals.{answers_of}
use Rattle.bisect_game.specs.Rules.{rules_of}
use Rattle.step_referee.specs.MachineRuling.{machine_ruling}
use Rattle.step_referee.specs.MachineTruth.{machine_truth}
use Rattle.prover_run.specs.CaseScripts.{case_says}
use Rattle.case_reader.specs.Case.{CaseData}
use Rattle.deposits.specs.Balances.{IsSettledUp}
use Rattle.case_match.specs.declared.referee.Ended.{Ended}

-- the root at step 0, in the version of the state in which the run starts
abbrev pub start_root : (List ℕ → List ℕ) → State → Digest32
start_root digest start = record { 0 = root_in digest start.version start }

-- the numbers of the match of a case whose run starts in this state: a round cuts its interval as the case says
abbrev pub setup_of : (List ℕ → List ℕ) → CaseData → State → Setup
setup_of digest c start = record { provers = length c.provers; bound = c.bound; fan = c.fan; patience = c.patience; start = start_root digest start }

-- the judge of the machine in this version decides, and the match has these numbers
abbrev pub rules_of_case : (List ℕ → List ℕ) → CaseData → State → Rules
rules_of_case digest c start = rules_of (machine_ruling digest start.version) (setup_of digest c start)

-- what the provers of the case say, each by its script
abbrev pub says_of_case : (List ℕ → List ℕ) → CaseData → State → Says
says_of_case digest c start = case_says digest start c.bound c.provers

-- the record of the case: claims and stages of disputes over what each question is settled as
abbrev pub record_of_case : (List ℕ → List ℕ) → CaseData → State → Record
record_of_case digest c start = bracket (rules_of_case digest c start) (answers_of (rules_of_case digest c start) (says_of_case digest c start))

-- the verdict of a record of the case
abbrev pub verdict_of_record : (List ℕ → List ℕ) → CaseData → State → Record → Verdict
verdict_of_record digest c start settled = verdict_of (rules_of_case digest c start) settled

-- the roots, the proofs and the claim of the sequential run
abbrev pub truth_of_case : (List ℕ → List ℕ) → CaseData → State → Truth
truth_of_case digest c start = machine_truth digest start c.bound

-- the state at the bound, in which the sequential run ends
abbrev pub final_state : CaseData → State → State
final_state c start = state_at start c.bound

-- its numbers, its record, and the verdict of that record
abbrev pub ended_case : (List ℕ → List ℕ) → CaseData → State → Ended
ended_case digest c start =
    record { setup = setup_of digest c start; match_record = record_of_case digest c start; verdict = verdict_of_record digest c start (record_of_case digest c start) }

-- HOW CASES END that are played together: each as it ends alone. Nothing of the others is in it, nor of any schedule

-- how a case ends whose run starts in this state: its record, and the verdict of that record
abbrev pub ending_of_case : (List ℕ → List ℕ) → CaseData → State → Record × Verdict
ending_of_case digest c start = (record_of_case digest c start, verdict_of_record digest c start (record_of_case digest c start))

-- how cases end whose runs start in these states, one for each case
abbrev pub endings_of_cases : (List ℕ → List ℕ) → List CaseData → List State → List (Record × Verdict)
endings_of_cases digest cs starts = map (λ (x : CaseData × State). ending_of_case digest x.0 x.1) (zip cs starts)

-- DEPOSITS may be paid by the record of a case, which is one of a match that has ended

-- whatever the provers of a match say, the record of its case has one settled claim per prover and disputes between two of them, and puts
-- nobody out twice (that it is over is in `Ended`)
abbrev pub RecordsOfCasesAreSettledUp : Type 0
RecordsOfCasesAreSettledUp = (rules : Rules) (says : Says) → ArePlayable rules → IsSettledUp rules.setup.provers (bracket rules (answers_of rules says))

-- so is the record of each of these cases
abbrev pub AreSettledUp : List CaseData → List (Record × Verdict) → Type 0
AreSettledUp cs ends = All (λ (x : CaseData × (Record × Verdict)). IsSettledUp (length x.0.provers) x.1.0) (zip cs ends)
