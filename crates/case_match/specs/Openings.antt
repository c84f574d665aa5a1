-- To believe: how the matches of loaded cases end. What a match is opened with, and, by that alone, its numbers, its record and its verdict.
use Rattle.board_book.specs.declared.book.Opening.{Opening}
use Rattle.std.specs.Prelude.{◌≡◌, ℕ, List, []}
use Rattle.bisect_game.specs.Ruling.{Ruling}
use Rattle.bisect_game.specs.Says.{Says}
use Rattle.bisect_game.specs.Rules.{rules_of}
use Rattle.rv_step.specs.declared.machine.Machine.{Machine}
use Rattle.rv_step.specs.State.{State, state_of, IsChained}
use Rattle.tournament.specs.Bracket.{Record, bracket, verdict_of}
use Rattle.tournament.specs.Journals.{answers_of}
use Rattle.step_referee.specs.declared.judge.MachineNames.{MachineNames}
use Rattle.prover_run.specs.CaseScripts.{CaseScripts}
use Rattle.case_reader.specs.Case.{CaseData, data_of}
use Rattle.case_match.specs.declared.opening.LoadedCase.{LoadedCase}
use Rattle.case_match.specs.declared.opening.EndedCase.{EndedCase}
use Rattle.case_match.specs.declared.referee.Ended.{Ended}
use Rattle.case_match.specs.Match.{setup_of, ended_case}

-- a machine without output, whose chain is that of no output by a digest function
pub record IsFresh (digest : List ℕ → List ℕ) (m : Machine) : Type 0 where
  pub chained : IsChained digest m
  pub silent : m.output.items ≡ []

-- WHAT COMES OF A MATCH

-- the record of an opening: of the names of its judge and its provers, and the numbers of its match
abbrev pub record_alone : {N M : Type 0} → (N → Ruling) → (M → Says) → Opening N M → Record
record_alone ruling says h = bracket (rules_of (ruling h.judge) h.setup) (answers_of (rules_of (ruling h.judge) h.setup) (says h.provers))

-- its numbers, that record, and its verdict
abbrev pub ended_alone : {N M : Type 0} → (N → Ruling) → (M → Says) → Opening N M → Ended
ended_alone ruling says h =
    record { setup = h.setup; match_record = record_alone ruling says h; verdict = verdict_of (rules_of (ruling h.judge) h.setup) (record_alone ruling says h) }

-- what the match of a case is opened with, whose run starts in this state
abbrev pub opening_of_case : (List ℕ → List ℕ) → CaseData → State → Opening MachineNames CaseScripts
opening_of_case digest c start =
    record { judge = record { version = start.version }; provers = record { start = start; bound = c.bound; scripts = c.provers }; setup = setup_of digest c start }

-- OF A LOADED CASE

abbrev pub opening_of_loaded : (List ℕ → List ℕ) → LoadedCase → Opening MachineNames CaseScripts
opening_of_loaded digest l = opening_of_case digest (data_of l.case.now) (state_of l.start)

-- the case with its end
abbrev pub ended_of_loaded : (List ℕ → List ℕ) → LoadedCase → EndedCase
ended_of_loaded digest l = record { case = l.case; end = ended_case digest (data_of l.case.now) (state_of l.start) }
