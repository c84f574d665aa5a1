-- To believe: what the root of a state commits to, and when strings of two states have one digest.
use Rattle.std.specs.Prelude.{ℕ, List}
use Rattle.rd_base.specs.Scheme.{scheme_of}
use Rattle.merkle_nodes.specs.Split.{IsSplit}
use Rattle.rv_step.specs.Loaded.{beside_memory}
use Rattle.rv_step.specs.State.{State}
use Rattle.state_commit.specs.Strings.{IsStringIn}

-- what a root commits to of a state: all of it; of the input what is beside memory
abbrev pub committed_part : State → State
committed_part s = record {
  regs = s.regs;
  pc = s.pc;
  memory = s.memory;
  status = s.status;
  output = s.output;
  version = s.version;
  input = beside_memory (scheme_of s.version).input s.input;
}

-- a string of one state and a different string of another one have one digest, each in its state's version
pub record StatesSplit (digest : List ℕ → List ℕ) (s t : State) : Type 0 where
  pub first : List ℕ
  pub second : List ℕ
  pub of_first : IsStringIn digest s.version s first
  pub of_second : IsStringIn digest t.version t second
  pub split : IsSplit digest first second
