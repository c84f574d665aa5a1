-- Derived: what holds of every machine that is kept with the trees of its commitment.
use Rattle.std.specs.Prelude.{◌≡◌, ℕ, List, [], Option, Some, None}
use Rattle.std.specs.declared.alloc.Global.{Global}
use Rattle.std.specs.Arc.{arc_value}
use Rattle.std.specs.declared.sync.Arc.{Arc}
use Rattle.rd_base.specs.Scheme.{scheme_of}
use Rattle.rd_base.specs.declared.scheme.InputScheme.TheVariants as input
use Rattle.rd_base.specs.declared.scheme.RegisterScheme.TheVariants as registers
use Rattle.rd_base.specs.declared.digest.Digest32.{Digest32}
use Rattle.mem_tree.specs.Tree.{Tree, IsTreeOf}
use Rattle.rv_step.specs.declared.machine.Machine.{Machine}
use Rattle.rv_step.specs.State.{State, IsChained}
use Rattle.mem_tree.specs.InputTree.{IsInputTree}

-- the machine's chain is that of its output, and the tree is that of its memory, with no page touched
abbrev pub IsCommitted : (List ℕ → List ℕ) → Machine → Tree → Type 0
IsCommitted digest m t = IsChained digest m × (t.touched ≡ []) × IsTreeOf digest t m.mem

-- registers have a tree exactly if the version holds them as one
abbrev pub HasTreeFor : ℕ → Option (List ℕ) → Type 0
HasTreeFor version (Some xs) = (scheme_of version).registers ≡ registers.Tree
HasTreeFor version None = (scheme_of version).registers ≡ registers.Whole

-- and it is that of a state's registers
abbrev pub HasRegisters : State → Option (List ℕ) → Type 0
HasRegisters s (Some xs) = ((scheme_of s.version).registers ≡ registers.Tree) × (xs ≡ s.regs)
HasRegisters s None = (scheme_of s.version).registers ≡ registers.Whole

-- the nodes of a tree that is shared, if there is one
abbrev pub shared_nodes : Option (Arc (List Digest32) Global) → Option (List Digest32)
shared_nodes (Some shared) = Some (arc_value shared)
shared_nodes None = None

-- the input has a tree exactly if the version holds it as one, and it is that of a state's input
abbrev pub HasInput : (List ℕ → List ℕ) → State → Option (List Digest32) → Type 0
HasInput digest s (Some nodes) = ((scheme_of s.version).input ≡ input.Tree) × IsInputTree digest nodes s.input
HasInput digest s None = (scheme_of s.version).input ≡ input.InMemory
