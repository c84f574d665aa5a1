-- To believe: the run of a prover, which is the machine's own run with what a tamper does to it, and the step from which it
-- stands still.
use Rattle.std.specs.Prelude.{ℕ, zero, suc, ◌+◌, ◌==◌, nat_lt, nat_le, min, max, bit_xor, if◌then◌else◌}
use Rattle.rd_base.specs.Regs.{with_register}
use Rattle.rd_base.specs.Status.{is_running}
use Rattle.rd_base.specs.declared.tamper.Tamper.{Tamper}
use Rattle.rd_base.specs.declared.tamper.Tamper.TheVariants.{Untouched, Flip, Register, Early}
use Rattle.mem_plain.specs.Contents.{byte_at, with_byte}
use Rattle.rv_step.specs.State.{State}
use Rattle.rv_step.specs.Step.{step}

-- a state with the byte at an address xored with a mask
abbrev pub flipped : State → ℕ → ℕ → State
flipped s addr mask = record s { memory = with_byte s.memory addr (bit_xor (byte_at s.memory addr) mask) }

-- a state with a value in a register
abbrev pub with_value : State → ℕ → ℕ → State
with_value s reg value = record s { regs = with_register s.regs reg value }

-- the state of step i, after what the tamper does to it there
abbrev pub tampered : Tamper → ℕ → State → State
tampered (Flip at addr mask) i s = if i == at then flipped s addr mask else s
tampered (Register at reg value) i s = if i == at then with_value s reg value else s
tampered tamper i s = s

-- the machine's step from the state of step i, which an early end leaves out
abbrev pub followed : Tamper → ℕ → State → State
followed (Early steps) i s = if nat_lt i steps then step s else s
followed tamper i s = step s

-- from the state of step i to that of step i + 1
abbrev pub next_of : Tamper → ℕ → State → State
next_of tamper i s = tampered tamper (i + 1) (followed tamper i s)

-- the state of step i, from that of step 0
abbrev pub run_from : Tamper → State → ℕ → State
run_from tamper first zero = first
run_from tamper first (suc i) = next_of tamper i (run_from tamper first i)

-- the run of a prover from a machine's state: the state of step i
abbrev pub run_at : Tamper → State → ℕ → State
run_at tamper s i = run_from tamper (tampered tamper 0 s) i

-- the first step below n at which the run has stopped, or n if it has not stopped at any of them
abbrev pub first_stop : Tamper → State → ℕ → ℕ
first_stop tamper first zero = 0
first_stop tamper first (suc n) =
    if is_running (run_from tamper first (first_stop tamper first n)).status then suc n else first_stop tamper first n

-- the later of a tamper's step and a stop, if the tamper's step is not above the bound
abbrev pub later_of : ℕ → ℕ → ℕ → ℕ
later_of at bound stop = if nat_le at bound then max at stop else stop

-- the step from which a run up to a bound stands still: the later of its first stop and of the step at which a byte or a
-- register is changed; the earlier of its first stop and of an early end; the bound if it does not stop before
abbrev pub still : Tamper → State → ℕ → ℕ
still Untouched first bound = first_stop Untouched first bound
still (Flip at addr mask) first bound = later_of at bound (first_stop (Flip at addr mask) first bound)
still (Register at reg value) first bound = later_of at bound (first_stop (Register at reg value) first bound)
still (Early steps) first bound = min steps (first_stop (Early steps) first bound)
