-- A truthful prover of a case is safe, over definitions alone.
use Rattle.std.proofs.Common.{◌≡◌, ℕ, ◌+◌, ◌<◌, ◌^◌, List, length, refl, ap, arith}
use Rattle.bisect_game.specs.Ruling.{IsFair}
use Rattle.bisect_game.specs.Rules.{Rules}
use Rattle.bisect_game.specs.Truth.{IsRun}
use Rattle.rv_step.specs.State.{State}
use Rattle.rv_step.specs.Valid.{IsValid}
use Rattle.state_commit.specs.StateRoot.{root_in}
use Rattle.step_referee.specs.MachineRuling.{machine_ruling}
use Rattle.step_referee.specs.MachineTruth.{machine_truth}
use Rattle.case_match.specs.Match.{rules_of_case, says_of_case, record_of_case, truth_of_case}
use Rattle.case_match.specs.TruthfulInCase.{TruthfulProversOfCasesAreSafe}
use Rattle.case_match.proofs.EndingLemmas.{AreLaws, IsSafeCase, case-is-safe}

-- the runs of the machine are true runs
abbrev pub RunsAreTrue : (List ℕ → List ℕ) → Type 0
RunsAreTrue digest =
    (s : State) (rules : Rules) → IsValid s → length s.output + rules.setup.bound < 2 ^ 64 → rules.ruling ≡ machine_ruling digest s.version → rules.setup.start.0 ≡ root_in digest s.version s →
    IsRun rules (machine_truth digest s rules.setup.bound)

pub safe-in-cases : (digest : List ℕ → List ℕ) → AreLaws → RunsAreTrue digest → ((version : ℕ) → IsFair (machine_ruling digest version)) → TruthfulProversOfCasesAreSafe digest
safe-in-cases digest laws runs fair c start p range truthful =
    let run : IsRun (rules_of_case digest c start) (truth_of_case digest c start) =
    runs start (rules_of_case digest c start) range.valid (let none : length start.output ≡ 0 = ap (λ (o : List ℕ). length o) range.silent in omega (arith, none, range.short)) refl refl in
    let safe : IsSafeCase (rules_of_case digest c start) (truth_of_case digest c start) p (record_of_case digest c start) =
    case-is-safe laws (rules_of_case digest c start) (says_of_case digest c start) (truth_of_case digest c start) p
    (record { some = range.some; parted = range.parted; few_parts = range.few_parts; steps = range.steps }) (fair start.version) run truthful.some truthful.there truthful.answers in
    record { complete = safe.complete; safe = safe.safe }
