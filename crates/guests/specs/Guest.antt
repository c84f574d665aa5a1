-- To believe: what the laws of guests speak of, which are programs with bytes that are known: memory that has bytes at a place, and a run that
-- has put out bytes and exited with 0.
use Rattle.std.specs.Prelude.{◌≡◌, ℕ, ◌+◌, ◌<◌, ◌≤◌, List, length, slice_index}
use Rattle.rd_base.specs.declared.status.Status.TheVariants.{Exited}
use Rattle.mem_plain.specs.Contents.{Contents, byte_at}
use Rattle.rv_step.specs.State.{State}
use Rattle.rv_step.specs.Step.{state_at}

-- memory has these bytes from an address on
abbrev pub HasBytes : Contents → ℕ → List ℕ → Type 0
HasBytes memory base bytes = (i : ℕ) → i < length bytes → byte_at memory (base + i) ≡ slice_index bytes i

-- it has exited with 0, and its output is these bytes
pub record HasPutOut (bytes : List ℕ) (s : State) : Type 0 where
  pub exited : s.status ≡ Exited 0
  pub output : s.output ≡ bytes

-- the run from a state has done so after so many steps, and after any number more
abbrev pub PutsOut : State → ℕ → List ℕ → Type 0
PutsOut start enough bytes = (steps : ℕ) → enough ≤ steps → HasPutOut bytes (state_at start steps)
