-- Derived. The status of what is found of bytes, and what is written of it; tied to the proof's conditions by the clauses of
-- `coshalit_check_step`.
use Rattle.std.specs.Prelude.{ℕ, List, Option, Some, None}
use Rattle.step_referee.specs.declared.check.StepCheck.{StepCheck}
use Rattle.step_referee.specs.declared.check.StepCheck.TheVariants.{Leads, NotOpen, WrongShape}

abbrev pub status_of_check : Option StepCheck → ℕ
status_of_check (Some (Leads b)) = 0
status_of_check (Some NotOpen) = 1
status_of_check (Some WrongShape) = 2
status_of_check None = 3

-- the root to which a proof leads, or else what was there before
abbrev pub root_or_before : Option StepCheck → List ℕ → List ℕ
root_or_before (Some (Leads b)) before = b.0
root_or_before other before = before
