-- To believe: the root of a state, which commits to all of it, in each version of the commitment, by how the version holds the registers and
-- the input (`rd_base`, `Scheme`).
use Rattle.std.specs.Prelude.{ℕ, ◌%◌, ◌^◌, List, length}
use Rattle.rd_base.specs.Scheme.{scheme_of}
use Rattle.rd_base.specs.declared.scheme.InputScheme.{InputScheme}
use Rattle.rd_base.specs.declared.scheme.InputScheme.TheVariants as input
use Rattle.rd_base.specs.declared.scheme.RegisterScheme.{RegisterScheme}
use Rattle.rd_base.specs.declared.scheme.RegisterScheme.TheVariants as registers
use Rattle.rd_base.specs.declared.status.Ctl.{Ctl}
use Rattle.digest_core.specs.Text.{registers_text, storage_text}
use Rattle.digest_core.specs.Chain.{chain_of}
use Rattle.mem_tree.specs.Memory.{memory_node}
use Rattle.out_chain.specs.Root.{parts_text}
use Rattle.rv_step.specs.State.{State}
use Rattle.mem_tree.specs.RegisterTree.{registers_root}
use Rattle.mem_tree.specs.InputTree.{input_root}

-- the control fields of a state: of its output they have the length, modulo 2^64, and the chain
abbrev pub ctl_of : (List ℕ → List ℕ) → State → Ctl
ctl_of digest s = record { pc = s.pc; status = s.status; out_len = length s.output % 2 ^ 64; chain = record { 0 = chain_of digest s.output } }

-- the digest of a state's memory: node 0 of level 27
abbrev pub memory_digest : (List ℕ → List ℕ) → State → List ℕ
memory_digest digest s = memory_node digest s.memory 27 0

-- the digest of the registers: of their string, or the root of their tree
abbrev pub registers_by : (List ℕ → List ℕ) → RegisterScheme → List ℕ → List ℕ
registers_by digest registers.Whole xs = digest (registers_text xs)
registers_by digest registers.Tree xs = registers_root digest xs

abbrev pub registers_digest : (List ℕ → List ℕ) → ℕ → List ℕ → List ℕ
registers_digest digest version xs = registers_by digest (scheme_of version).registers xs

-- the storage string of a state: the root of its memory, and the length and the root of its input
abbrev pub storage_of : (List ℕ → List ℕ) → State → List ℕ
storage_of digest s = storage_text (memory_digest digest s) (length s.input) (input_root digest s.input)

-- the digest of what is stored: the root of memory, or, if the input is a tree, the digest of the storage string, which has the input's
-- length and root beside it
abbrev pub storage_by : (List ℕ → List ℕ) → InputScheme → List ℕ → ℕ → List ℕ → List ℕ
storage_by digest input.InMemory memory len root = memory
storage_by digest input.Tree memory len root = digest (storage_text memory len root)

abbrev pub storage_digest : (List ℕ → List ℕ) → ℕ → State → List ℕ
storage_digest digest version s = storage_by digest (scheme_of version).input (memory_digest digest s) (length s.input) (input_root digest s.input)

-- the state string of a state, in a version
abbrev pub state_text_in : (List ℕ → List ℕ) → ℕ → State → List ℕ
state_text_in digest version s = parts_text digest (storage_digest digest version s) (registers_digest digest version s.regs) (ctl_of digest s)

-- the root of a state, in a version: the digest of its state string
abbrev pub root_in : (List ℕ → List ℕ) → ℕ → State → List ℕ
root_in digest version s = digest (state_text_in digest version s)
