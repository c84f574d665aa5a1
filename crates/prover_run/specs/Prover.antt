-- Derived: what contracts see of a prover with a run, and what it keeps.
use Rattle.std.specs.Prelude.{◌≡◌, ℕ, ◌+◌, ◌^◌, ◌<◌, List, length, Option, IfSome, min, refl}
use Rattle.std.specs.Coded.{Coded, code_by, coded×, coded_ℕ}
use Rattle.std.specs.Ordering.{nat_cmp}
use Rattle.std.specs.Map.{lookup}
use Rattle.std.specs.BTreeMap.{is_at}
use Rattle.rd_base.specs.declared.answer.Answer.{Answer}
use Rattle.rd_base.specs.declared.digest.Digest32.{Digest32}
use Rattle.rd_base.specs.declared.tamper.Tamper.{Tamper}
use Rattle.rd_base.specs.contracts.tamper.Tamper as tampers
use Rattle.rv_step.specs.State.{State, IsChained}
use Rattle.rv_step.specs.declared.machine.Machine.{Machine}
use Rattle.checkpoint_run.specs.TamperedRun.{run_at}
use Rattle.rv_step.specs.StateCode.{state_code}
use Rattle.checkpoint_run.specs.Recorded.{Recorded, AreChained, state_of_step}
use Rattle.state_commit.specs.Committing.{HasInput}
use Rattle.segment_replay.specs.Roots.{root_of_state}
use Rattle.bisect_game.specs.declared.settled.Question.{Question}
use Rattle.plain_answers.specs.Plain.{plain_says}

-- a prover with a run: the state from which it starts, what is wrong with it, and how far it goes
pub record Prover : Type 0 where
  pub start : State
  pub tamper : Tamper
  pub bound : ℕ

-- it is data, as the tuple of its parts
abbrev pub prover_code : Coded Prover
prover_code =
    code_by (State × (Tamper × ℕ))
    (coded× state_code (coded× tampers.the_row.coded coded_ℕ))
    (λ p. (p.start, (p.tamper, p.bound)))
    (λ t. record { start = t.0; tamper = t.1.0; bound = t.1.1 })
    (λ _. refl)

-- its run, by step
abbrev pub run_of : Prover → ℕ → State
run_of p = run_at p.tamper p.start

-- what it says
abbrev pub prover_says : (List ℕ → List ℕ) → Prover → Question → ℕ → Option Answer
prover_says digest p = plain_says digest (run_of p) p.bound

-- the root of its state of a step; above the bound the last state stands for it
unfoldable pub root_of : (List ℕ → List ℕ) → Prover → ℕ → List ℕ
root_of digest p i = root_of_state digest (run_of p (min i p.bound))

-- a recorded run is the prover's, and its checkpoints are chained by this digest
pub record IsRunOf (digest : List ℕ → List ℕ) (p : Prover) (r : Recorded) : Type 0 where
  pub states : state_of_step r ≡ run_of p
  pub bound : r.bound ≡ p.bound
  pub chained : AreChained digest r

-- each kept root is that of its step
abbrev pub AreKept : (ℕ → List ℕ) → List (ℕ × Digest32) → Type 0
AreKept root kept = (i : ℕ) → IfSome (lookup (is_at (nat_cmp i)) kept) (λ r. r.0 ≡ root i)

-- its machine is at the start of a run whose output may grow by a byte at each step, the tree is that of its input, and what is kept is its
-- run's
pub record IsReady (digest : List ℕ → List ℕ) (p : Prover) (start : Machine) (input : Option (List Digest32)) (run : Option Recorded) (kept : List (ℕ × Digest32)) : Type 0 where
  pub chained : IsChained digest start
  pub has_input : HasInput digest p.start input
  pub room : length p.start.output + p.bound < 2 ^ 32
  pub recorded : IfSome run (IsRunOf digest p)
  pub are_kept : AreKept (root_of digest p) kept
