-- To believe: where a tampered run is refuted. A prover of a case that answers by its own run, with a tamper, is out in each dispute with a
-- prover that claims and answers as the machine's definition says, and which step's proof refutes it is fixed by the tamper; or the dispute
-- has closed by a collision.
use Rattle.std.specs.Prelude.{◌≡◌, ◌≢◌, ℕ, ◌+◌, ◌-◌, ◌<◌, ◌≤◌, ◌⊎◌, true, false, List, All, Some, slice_get}
use Rattle.rd_base.specs.declared.script.Script.{Script}
use Rattle.rd_base.specs.declared.tamper.Tamper.{Tamper}
use Rattle.rd_base.specs.declared.tamper.Tamper.TheVariants.{Untouched, Flip, Register, Early}
use Rattle.bisect_game.specs.declared.settled.Close.{Close}
use Rattle.bisect_game.specs.declared.settled.Close.TheVariants.{Out}
use Rattle.bisect_game.specs.Bisection.{Bisection}
use Rattle.bisect_game.specs.Parting.{HasCollided}
use Rattle.rv_step.specs.State.{State}
use Rattle.checkpoint_run.specs.ValidRuns.{IsTamperInRange}
use Rattle.case_reader.specs.Case.{CaseData}
use Rattle.case_reader.specs.ReadTampers.{HoldsCase}
use Rattle.case_match.specs.Match.{rules_of_case, record_of_case, truth_of_case}
use Rattle.case_match.specs.PartingRuns.{run_in_game, AnswersByItsRun}
use Rattle.case_match.specs.TruthfulInCase.{IsTruthfulInCase, IsInRange}

-- of a run that stands still from step s on, the proof of step i refutes it: it is step s, or a later one before which the sequential run has
-- come back to the root of step s, and after which it has another one
pub record IsBackAt (digest : List ℕ → List ℕ) (c : CaseData) (start : State) (s i : ℕ) : Type 0 where
  pub late : s ≤ i
  pub back : (truth_of_case digest c start).root i ≡ (truth_of_case digest c start).root s
  pub leaves : (truth_of_case digest c start).root (i + 1) ≢ (truth_of_case digest c start).root s

-- the proof of step i refutes a run with this tamper: if the state of step s is changed it is the step before, by which the sequential run
-- reaches its own state of step s, and step 0 if the first state is changed. A run that isn't tampered with is refuted nowhere.
abbrev pub IsRefutingStep : (List ℕ → List ℕ) → CaseData → State → Tamper → ℕ → Type 0
IsRefutingStep digest c start Untouched i = ⊥
IsRefutingStep digest c start (Flip at addr mask) i = i ≡ at - 1
IsRefutingStep digest c start (Register at reg value) i = i ≡ at - 1
IsRefutingStep digest c start (Early steps) i = IsBackAt digest c start steps i

-- a dispute has closed by the proofs of such a step, and these sides are out
pub record IsRefutedByStep (digest : List ℕ → List ℕ) (c : CaseData) (start : State) (tamper : Tamper) (out : Close) (d : Bisection) : Type 0 where
  pub at : IsRefutingStep digest c start tamper d.place.lo
  pub step : d.place.hi ≡ d.place.lo + 1
  pub out_ : d.close ≡ Some out

-- in a dispute between the prover p that answers truly and the prover q, whichever is the first side, q alone is out in the proof of such
-- a step, or the dispute has closed by a collision of their two proofs
pub record IsTamperRefuted (digest : List ℕ → List ℕ) (c : CaseData) (start : State) (tamper : Tamper) (p q : ℕ) (d : Bisection) : Type 0 where
  pub as_second : d.first ≡ p → d.second ≡ q → IsRefutedByStep digest c start tamper (Out false true) d
      ⊎ HasCollided (rules_of_case digest c start).ruling (truth_of_case digest c start) (run_in_game digest c start tamper) d
  pub as_first : d.first ≡ q → d.second ≡ p → IsRefutedByStep digest c start tamper (Out true false) d
      ⊎ HasCollided (rules_of_case digest c start).ruling (run_in_game digest c start tamper) (truth_of_case digest c start) d

-- so it is in each dispute of the record of a case
abbrev pub TampersAreRefuted : (List ℕ → List ℕ) → Type 0
TampersAreRefuted digest =
    (c : CaseData) (start : State) (p q : ℕ) (script : Script) → IsInRange c start → IsTruthfulInCase digest c start p → 0 < q →
    slice_get c.provers (q - 1) ≡ Some script → IsTamperInRange script.tamper → AnswersByItsRun c script.manner →
    All (IsTamperRefuted digest c start script.tamper p q) (record_of_case digest c start).disputes

-- A CASE THAT IS READ has tampers in range, and so each is refuted

abbrev pub TampersOfCasesAreInRange : Type 0
TampersOfCasesAreInRange =
    (bytes : List ℕ) (c : CaseData) (k : ℕ) (script : Script) → HoldsCase bytes c → slice_get c.provers k ≡ Some script → IsTamperInRange script.tamper

abbrev pub ReadTampersAreRefuted : (List ℕ → List ℕ) → Type 0
ReadTampersAreRefuted digest =
    (bytes : List ℕ) (c : CaseData) (start : State) (p q : ℕ) (script : Script) → HoldsCase bytes c → IsInRange c start → IsTruthfulInCase digest c start p → 0 < q →
    slice_get c.provers (q - 1) ≡ Some script → AnswersByItsRun c script.manner →
    All (IsTamperRefuted digest c start script.tamper p q) (record_of_case digest c start).disputes
