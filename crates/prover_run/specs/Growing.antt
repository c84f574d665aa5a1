-- Derived: a run writes one byte of output a step at most.
use Rattle.std.specs.Prelude.{ℕ, ◌+◌, ◌≤◌, length}
use Rattle.rd_base.specs.declared.tamper.Tamper.{Tamper}
use Rattle.rv_step.specs.State.{State}
use Rattle.checkpoint_run.specs.TamperedRun.{run_at}

-- the output of the state of step i is at most i bytes longer than that of the first
abbrev pub OutputGrowsSlowly : Type 0
OutputGrowsSlowly = (t : Tamper) (s : State) (i : ℕ) → length (run_at t s i).output ≤ length s.output + i
