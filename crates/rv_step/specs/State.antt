-- To believe: the state of a machine, and that its chain is that of its output.
use Rattle.std.specs.Prelude.{◌≡◌, ℕ, List}
use Rattle.rd_base.specs.declared.status.Status.{Status}
use Rattle.mem_plain.specs.Contents.{Contents}
use Rattle.digest_core.specs.Chain.{chain_of}
use Rattle.rv_step.specs.declared.machine.Machine.{Machine}

-- x0 to x31, the address of the next instruction, the bytes of memory that aren't 0, the status, the output, the version of the commitment
-- to states, and the input that this version offers
pub record State : Type 0 where
  pub regs : List ℕ
  pub pc : ℕ
  pub memory : Contents
  pub status : Status
  pub output : List ℕ
  pub version : ℕ
  pub input : List ℕ

-- the state that a machine is in
abbrev pub state_of : Machine → State
state_of m = record {
  regs = m.regs;
  pc = m.ctl.pc;
  memory = m.mem;
  status = m.ctl.status;
  output = m.output.items;
  version = m.version;
  input = m.input.items;
}

-- the chain of a machine is its output's, by a digest function
abbrev pub IsChained : (List ℕ → List ℕ) → Machine → Type 0
IsChained digest m = m.ctl.chain.0 ≡ chain_of digest m.output.items
