-- To believe: what the provers of a case say, each by its script.
use Rattle.std.specs.Prelude.{ℕ, ◌-◌, List, Option, Some, None, slice_get}
use Rattle.rd_base.specs.declared.answer.Answer.{Answer}
use Rattle.rd_base.specs.declared.script.Script.{Script}
use Rattle.rv_step.specs.State.{State}
use Rattle.checkpoint_run.specs.TamperedRun.{run_at}
use Rattle.bisect_game.specs.Says.{Says}
use Rattle.bisect_game.specs.declared.settled.Question.{Question}
use Rattle.prover_script.specs.Manners.{says}
use Rattle.plain_answers.specs.Plain.{plain_says}

-- what a prover with a script says: what its manner makes of the plain answers of its run
abbrev pub script_says : (List ℕ → List ℕ) → State → ℕ → Script → Question → ℕ → Option Answer
script_says digest start bound script = says digest script.manner (plain_says digest (run_at script.tamper start) bound)

-- what a prover says that may have no script: who has none passes for ever
abbrev pub said_by : (List ℕ → List ℕ) → State → ℕ → Option Script → Question → ℕ → Option Answer
said_by digest start bound (Some script) = script_says digest start bound script
said_by digest start bound None = λ question passes. None

-- what prover p of a case says, counted from 1: runs go from the state at the start up to the bound
abbrev pub case_says : (List ℕ → List ℕ) → State → ℕ → List Script → Says
case_says digest start bound scripts p = said_by digest start bound (slice_get scripts (p - 1))

-- what fixes what the provers of a case say, beside the digest function
pub record CaseScripts : Type 0 where
  pub start : State
  pub bound : ℕ
  pub scripts : List Script
