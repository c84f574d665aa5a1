-- To believe: the valid states, which are those of machines.
use Rattle.std.specs.Prelude.{◌≡◌, ℕ, ◌^◌, ◌<◌, ◌≤◌, List, length, slice_index}
use Rattle.rd_base.specs.Status.{HasWordCode}
use Rattle.mem_plain.specs.Memory.{IsMemory}
use Rattle.rv_step.specs.State.{State}

-- 32 words, of which the first is 0 (2.1)
pub record IsRegisterFile (xs : List ℕ) : Type 0 where
  pub thirty_two : length xs ≡ 32
  pub words : (r : ℕ) → slice_index xs r < 2 ^ 32
  pub zero_first : slice_index xs 0 ≡ 0

-- registers, pc and code are words, and memory, output and input have bytes; the version is 1, 2 or 3, and the input not
-- longer than an input may be
pub record IsValid (s : State) : Type 0 where
  pub regs : IsRegisterFile s.regs
  pub pc : s.pc < 2 ^ 32
  pub memory : IsMemory s.memory
  pub status : HasWordCode s.status
  pub output : (k : ℕ) → slice_index s.output k < 256
  pub version : (1 ≤ s.version) × (s.version ≤ 3)
  pub input : (k : ℕ) → slice_index s.input k < 256
  pub short : length s.input ≤ 1048576
