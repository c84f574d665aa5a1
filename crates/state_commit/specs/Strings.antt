-- To believe: the strings of a state in each version of the commitment, whose digests its root is made of.
use Rattle.std.specs.Prelude.{◌≡◌, ℕ, List, Contains}
use Rattle.rd_base.specs.Scheme.{scheme_of}
use Rattle.rd_base.specs.declared.scheme.InputScheme.TheVariants as input
use Rattle.rd_base.specs.declared.scheme.RegisterScheme.TheVariants as registers
use Rattle.digest_core.specs.Text.{registers_text}
use Rattle.merkle_nodes.specs.TreeStrings.{IsTreeString}
use Rattle.mem_tree.specs.Memory.{memory_leaf}
use Rattle.out_chain.specs.Root.{control_text_of}
use Rattle.out_chain.specs.Collision.{links_of}
use Rattle.rv_step.specs.State.{State}
use Rattle.state_commit.specs.StateRoot.{ctl_of, storage_of, state_text_in}
use Rattle.mem_tree.specs.RegisterTree.{register_leaf}
use Rattle.mem_tree.specs.InputTree.{input_leaf}

-- x is a string of a state: its state string or control string; a leaf or node string of its memory; a link string of its output;
-- its registers string, or, if they are a tree, a leaf or node string of it; and if the input is a tree the storage string, and a leaf or
-- node string of the input
pub data IsStringIn (digest : List ℕ → List ℕ) (version : ℕ) (s : State) (x : List ℕ) : Type 0 where
  is_state : x ≡ state_text_in digest version s → IsStringIn digest version s x
  is_control : x ≡ control_text_of (ctl_of digest s) → IsStringIn digest version s x
  is_memory : IsTreeString digest (memory_leaf s.memory) 27 x → IsStringIn digest version s x
  is_link : Contains (links_of digest s.output) x → IsStringIn digest version s x
  is_registers : (scheme_of version).registers ≡ registers.Whole → x ≡ registers_text s.regs → IsStringIn digest version s x
  is_register : (scheme_of version).registers ≡ registers.Tree → IsTreeString digest (register_leaf s.regs) 5 x → IsStringIn digest version s x
  is_storage : (scheme_of version).input ≡ input.Tree → x ≡ storage_of digest s → IsStringIn digest version s x
  is_input : (scheme_of version).input ≡ input.Tree → IsTreeString digest (input_leaf s.input) 15 x → IsStringIn digest version s x
