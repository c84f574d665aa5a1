-- To believe. A prover of a case that claims and answers as the machine's definition says, and what then holds of the record.
use Rattle.std.specs.Prelude.{◌≡◌, ℕ, ◌<◌, ◌≤◌, true, List, [], length}
use Rattle.rv_step.specs.State.{State}
use Rattle.rv_step.specs.Valid.{IsValid}
use Rattle.case_reader.specs.Case.{CaseData}
use Rattle.tournament.specs.Bracket.{is_complete}
use Rattle.tournament.specs.Truthful.{IsTruthfulProver, IsSafe}
use Rattle.case_match.specs.Match.{rules_of_case, says_of_case, record_of_case, truth_of_case}

-- a prover of the case that claims and answers as the machine's definition says. On each question that the record of the case
-- asks it, it passes no more often than the patience allows, and then gives the true answer.
pub record IsTruthfulInCase (digest : List ℕ → List ℕ) (c : CaseData) (start : State) (p : ℕ) : Type 0 where
  pub some : 0 < p
  pub there : p ≤ length c.provers
  pub answers : IsTruthfulProver (rules_of_case digest c start) (says_of_case digest c start) (truth_of_case digest c start) p

-- in the record of the case nothing is open, and the prover is safe
pub record IsSafeInCase (digest : List ℕ → List ℕ) (c : CaseData) (start : State) (p : ℕ) : Type 0 where
  pub complete : is_complete (record_of_case digest c start) ≡ true
  pub safe : IsSafe (rules_of_case digest c start) (truth_of_case digest c start) p (record_of_case digest c start)

-- a case with numbers in the ranges that are read, whose run starts in a valid state, of whatever version, with no output
pub record IsInRange (c : CaseData) (start : State) : Type 0 where
  pub some : 0 < length c.provers
  pub few : length c.provers ≤ 16
  pub steps : 0 < c.bound
  pub short : c.bound ≤ 4294967295
  pub parted : 1 < c.fan
  pub few_parts : c.fan ≤ 16
  pub patience : c.patience ≤ 100
  pub valid : IsValid start
  pub silent : start.output ≡ []

-- each such prover of each such case is safe
abbrev pub TruthfulProversOfCasesAreSafe : (List ℕ → List ℕ) → Type 0
TruthfulProversOfCasesAreSafe digest = (c : CaseData) (start : State) (p : ℕ) → IsInRange c start → IsTruthfulInCase digest c start p → IsSafeInCase digest c start p
