-- To believe: where a dispute of a case ends between two provers that answer by runs of their own, tampered with or not. It ends at a step
-- from which the two runs part, by their proofs of it.
use Rattle.std.specs.Prelude.{◌≡◌, ℕ, zero, suc, ◌-◌, ◌<◌, ◌≤◌, List, Some, slice_get}
use Rattle.rd_base.specs.declared.digest.Digest32.{Digest32}
use Rattle.rd_base.specs.declared.script.Script.{Script}
use Rattle.rd_base.specs.declared.script.Manner.{Manner}
use Rattle.rd_base.specs.declared.script.Manner.TheVariants.{Plain, Late}
use Rattle.rd_base.specs.declared.tamper.Tamper.{Tamper}
use Rattle.bisect_game.specs.Truth.{Truth}
use Rattle.tournament.specs.Lies.{AllEndWhereTheyPart}
use Rattle.rv_step.specs.State.{State}
use Rattle.step_referee.specs.MachineTruth.{machine_truth}
use Rattle.checkpoint_run.specs.TamperedRun.{run_at}
use Rattle.checkpoint_run.specs.ValidRuns.{IsTamperInRange}
use Rattle.case_reader.specs.Case.{CaseData}
use Rattle.case_match.specs.Match.{start_root, rules_of_case, record_of_case}
use Rattle.case_match.specs.TruthfulInCase.{IsInRange}

-- THE RUN OF A PROVER as the game sees it, with the roots, the proofs and the claim of its states. At step 0 the root is the referee's, and
-- no prover is asked for its own.

unfoldable pub root_in_game : (List ℕ → List ℕ) → State → Tamper → ℕ → Digest32
root_in_game digest start t zero = start_root digest start
root_in_game digest start t (suc i) = (machine_truth digest (run_at t start (suc i)) 0).root 0

abbrev pub run_in_game : (List ℕ → List ℕ) → CaseData → State → Tamper → Truth
run_in_game digest c start t = record {
  root = root_in_game digest start t;
  proof = λ i. (machine_truth digest (run_at t start i) 0).proof 0;
  claim = (machine_truth digest (run_at t start c.bound) 0).claim;
}

-- a manner by which a prover gives the answers of its own run, whatever that is: at once, or after no more passes than the patience
abbrev pub AnswersByItsRun : CaseData → Manner → Type 0
AnswersByItsRun c Plain = Unit {0}
AnswersByItsRun c (Late many) = many ≤ c.patience
AnswersByItsRun c manner = ⊥

-- in the record of a case each dispute between two such provers, the first of which is its first side, ends where their runs part, once it
-- has closed, as each has (`Ended`)
abbrev pub DisputesOfCasesEndWhereRunsPart : (List ℕ → List ℕ) → Type 0
DisputesOfCasesEndWhereRunsPart digest =
    (c : CaseData) (start : State) (p q : ℕ) (one other : Script) → IsInRange c start → 0 < p → 0 < q →
    slice_get c.provers (p - 1) ≡ Some one → slice_get c.provers (q - 1) ≡ Some other → IsTamperInRange one.tamper → IsTamperInRange other.tamper →
    AnswersByItsRun c one.manner → AnswersByItsRun c other.manner →
    AllEndWhereTheyPart (rules_of_case digest c start) (run_in_game digest c start one.tamper) (run_in_game digest c start other.tamper) p q (record_of_case digest c start).disputes
