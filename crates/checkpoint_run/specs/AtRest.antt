-- Derived, tied to the step from which a run stands still (`still_of`) by the invariant of `Run`, `rest` in `specs/Keeping.antt`: how a
-- run that is under way shows that nothing more happens.
use Rattle.std.specs.Prelude.{ℕ, Bool, nat_lt, nat_le, not, ◌&&◌, ◌||◌, Option, Some, None, if◌then◌else◌}
use Rattle.rd_base.specs.Status.{is_running}
use Rattle.rd_base.specs.declared.tamper.Tamper.{Tamper}
use Rattle.rd_base.specs.declared.tamper.Tamper.TheVariants.{Untouched, Flip, Register, Early}
use Rattle.rv_step.specs.State.{State}

-- a state has stopped
abbrev pub has_stopped : State → Bool
has_stopped s = not (is_running s.status)

-- nothing more happens up to the bound, from the state of step i on
abbrev pub rests : Tamper → ℕ → ℕ → State → Bool
rests Untouched bound i s = has_stopped s
rests (Flip at addr mask) bound i s = has_stopped s && (nat_le at i || nat_lt bound at)
rests (Register at reg value) bound i s = has_stopped s && (nat_le at i || nat_lt bound at)
rests (Early steps) bound i s = has_stopped s || nat_le steps i

-- the step from the state of step i changes nothing, but what a tamper does at the next one
abbrev pub ended : Tamper → ℕ → State → Bool
ended (Early steps) i s = has_stopped s || nat_le steps i
ended tamper i s = has_stopped s

-- the step behind i, up to the bound, at which a tamper changes the state
abbrev pub to_come : Tamper → ℕ → ℕ → Option ℕ
to_come (Flip at addr mask) bound i = if nat_lt i at && nat_le at bound then Some at else None
to_come (Register at reg value) bound i = if nat_lt i at && nat_le at bound then Some at else None
to_come tamper bound i = None
