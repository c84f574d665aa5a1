-- To believe: which numbers a tamper has, and that by such a tamper a run keeps valid states.
use Rattle.std.specs.Prelude.{ℕ, ◌^◌, ◌<◌}
use Rattle.rd_base.specs.declared.tamper.Tamper.{Tamper}
use Rattle.rd_base.specs.declared.tamper.Tamper.TheVariants.{Untouched, Flip, Register, Early}
use Rattle.rv_step.specs.State.{State}
use Rattle.rv_step.specs.Valid.{IsValid}
use Rattle.checkpoint_run.specs.TamperedRun.{run_at}

-- a byte that is flipped is one of memory, by a mask of one byte, and a register is set to a word: so are the numbers of each tamper of a case
abbrev pub IsTamperInRange : Tamper → Type 0
IsTamperInRange Untouched = Unit {0}
IsTamperInRange (Flip at addr mask) = (addr < 2 ^ 32) × (mask < 256)
IsTamperInRange (Register at reg value) = value < 2 ^ 32
IsTamperInRange (Early steps) = Unit {0}

-- each state of a tampered run from a valid state is valid
abbrev pub TamperedRunsKeepValidStates : Type 0
TamperedRunsKeepValidStates = (t : Tamper) (s : State) (i : ℕ) → IsTamperInRange t → IsValid s → IsValid (run_at t s i)
