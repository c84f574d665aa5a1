-- To believe: when what a proof holds is a state's, as far as it goes.
use Rattle.std.specs.Prelude.{◌≡◌, ℕ, ◌/◌, List, [], ◌∷◌, length, slice_index, Option, Some, None}
use Rattle.rd_base.specs.Scheme.{scheme_of}
use Rattle.rd_base.specs.declared.scheme.InputScheme.{InputScheme}
use Rattle.rd_base.specs.declared.scheme.InputScheme.TheVariants as input
use Rattle.rd_base.specs.declared.scheme.RegisterScheme.TheVariants as registers
use Rattle.rd_base.specs.declared.opened.InOpening.{InOpening}
use Rattle.rd_base.specs.declared.opened.RegOpening.{RegOpening}
use Rattle.merkle_nodes.specs.Node.{digest_at}
use Rattle.merkle_nodes.specs.Opening.{AreSiblings, IsPath}
use Rattle.rv_step.specs.Alike.{named_at}
use Rattle.rv_step.specs.NextEffect.{seen_of}
use Rattle.rv_step.specs.NextNeed.{next_need}
use Rattle.rv_step.specs.State.{State}
use Rattle.state_commit.specs.StateRoot.{ctl_of, memory_digest}
use Rattle.mem_tree.specs.RegisterTree.{register_leaf, registers_root}
use Rattle.mem_tree.specs.InputTree.{input_chunk, input_leaf, input_root}
use Rattle.open_proof.specs.Called.{address_needed}
use Rattle.open_proof.specs.OpenedChunk.{IsShownAt, fetch_of_state}
use Rattle.open_proof.specs.Facts.{byte_needed}
use Rattle.open_proof.specs.declared.facts.Facts.{Facts}
use Rattle.open_proof.specs.declared.facts.HeldInput.{HeldInput}
use Rattle.open_proof.specs.declared.facts.HeldRegisters.{HeldRegisters}
use Rattle.open_proof.specs.declared.facts.HeldRegisters.TheVariants.{Whole, Opened}

-- what a state has of the input as a tree: its length and its root, if the version holds it as one
abbrev pub tree_by : (List ℕ → List ℕ) → InputScheme → List ℕ → Option HeldInput
tree_by digest input.Tree xs = Some (record { len = length xs; root = record { 0 = input_root digest xs } })
tree_by digest input.InMemory xs = None

abbrev pub tree_of_state : (List ℕ → List ℕ) → State → Option HeldInput
tree_of_state digest s = tree_by digest (scheme_of s.version).input s.input

-- the address of the data for which a state calls, and the number of the input's byte
abbrev pub operand_of_state : State → Option ℕ
operand_of_state s = address_needed (next_need (seen_of s))

abbrev pub input_of_state : (List ℕ → List ℕ) → State → Option ℕ
input_of_state digest s = byte_needed (tree_of_state digest s) (next_need (seen_of s))

-- opened registers are those of a register file, with the siblings of its tree
abbrev pub AreShown : (List ℕ → List ℕ) → List ℕ → List ℕ → List RegOpening → Type 0
AreShown digest xs [] [] = Unit {0}
AreShown digest xs (r ∷ rs) (o ∷ os) =
    (o.value ≡ slice_index xs r) × AreSiblings digest (register_leaf xs) 5 r (digest_at o.path.0) × AreShown digest xs rs os
AreShown digest xs rs os = ⊥

-- the registers are held as the state's version holds them, and those that its instruction names are shown
abbrev pub ShowsRegisters : (List ℕ → List ℕ) → State → HeldRegisters → Type 0
ShowsRegisters digest s (Whole xs) = ((scheme_of s.version).registers ≡ registers.Whole) × (xs ≡ s.regs)
ShowsRegisters digest s (Opened root named) = ((scheme_of s.version).registers ≡ registers.Tree) × (root.0 ≡ registers_root digest s.regs) × AreShown digest s.regs (named_at s) named

-- an opened chunk of the input is the one that holds a byte, with its path, if one is called for
abbrev pub ShowsInput : (List ℕ → List ℕ) → List ℕ → Option InOpening → Option ℕ → Type 0
ShowsInput digest xs (Some o) (Some k) = (o.chunk ≡ input_chunk xs (k / 32)) × IsPath digest (input_leaf xs) 15 (k / 32) o.path.0
ShowsInput digest xs None (Some k) = ⊥
ShowsInput digest xs chunk None = Unit {0}

-- what a proof holds is a state's, and what it opens is what the state calls for
pub record ShowsState (digest : List ℕ → List ℕ) (facts : Facts) (s : State) : Type 0 where
  pub mem : facts.mem.0 ≡ memory_digest digest s
  pub tree : facts.input_tree ≡ tree_of_state digest s
  pub ctl : facts.ctl ≡ ctl_of digest s
  pub fetch : IsShownAt digest s.memory facts.fetch (fetch_of_state s)
  pub regs : ShowsRegisters digest s facts.regs
  pub operand : IsShownAt digest s.memory facts.operand (operand_of_state s)
  pub input : ShowsInput digest s.input facts.input (input_of_state digest s)
