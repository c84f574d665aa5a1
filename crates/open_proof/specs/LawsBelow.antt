-- Derived: what the laws of the crates below say of a step, of registers and of trees, gathered for the proofs of this crate.
use Rattle.std.specs.Prelude.{◌≡◌, ◌≢◌, ℕ, ◌+◌, ◌*◌, ◌/◌, ◌^◌, ◌<◌, ◌≤◌, List, [], ◌∷◌, ◌++◌, map, slice_index, Option}
use Rattle.rd_base.specs.declared.scheme.InputScheme.{InputScheme}
use Rattle.rv_decode.specs.declared.instr.Instr.{Instr}
use Rattle.mem_plain.specs.Contents.{Contents, chunk_at, number_at, with_number}
use Rattle.mem_plain.specs.Page.{number_in, with_number_in}
use Rattle.digest_core.specs.Text.{leaf_text, link_text}
use Rattle.digest_core.specs.Chain.{chain_of}
use Rattle.merkle_nodes.specs.Node.{node}
use Rattle.merkle_nodes.specs.Opening.{opened, AreSiblings}
use Rattle.merkle_nodes.specs.TreeStrings.{IsTreeString}
use Rattle.mem_tree.specs.Memory.{memory_leaf, memory_node}
use Rattle.rv_step.specs.Alike.{with_registers, Shows, StepAlike, ChangesNamed}
use Rattle.rv_step.specs.Effect.{effect_with}
use Rattle.rv_step.specs.Named.{named, named_by, AreRegisters}
use Rattle.rv_step.specs.Offer.{offered}
use Rattle.rv_step.specs.Parts.{needed_in, finished, Finishes, IsAligned}
use Rattle.rv_step.specs.State.{State}
use Rattle.rv_step.specs.Step.{step}
use Rattle.mem_tree.specs.InputTree.{input_chunk}

-- what a step rests on
pub record StepLaws : Type 0 where
  pub any_offer : (input : InputScheme) (byte : ℕ → ℕ) (xs : List ℕ) (pc : ℕ) (read : ℕ → ℕ → ℕ) (i : Instr)
      → Finishes (effect_with (offered input byte) xs pc read i) (λ loaded. finished xs pc loaded i) read byte (needed_in input xs i)
  pub aligned : (input : InputScheme) (xs : List ℕ) (i : Instr) → IsAligned (needed_in input xs i)
  pub read : (m : Contents) (index place width : ℕ) → place + width ≤ 32 → number_in (chunk_at m index) place width ≡ number_at m (32 * index + place) width
  pub stored : (m : Contents) (index place width value : ℕ) → place + width ≤ 32
      → with_number_in (chunk_at m index) place width value ≡ chunk_at (with_number m (32 * index + place) width value) index
  pub elsewhere : (m : Contents) (index place width value other : ℕ) → place + width ≤ 32 → other ≢ index
      → chunk_at (with_number m (32 * index + place) width value) other ≡ chunk_at m other
  pub changed : (digest : List ℕ → List ℕ) (m new : Contents) (siblings : ℕ → List ℕ) (n k : ℕ)
      → ((j : ℕ) → j ≢ k → chunk_at m j ≡ chunk_at new j) → AreSiblings digest (memory_leaf m) n k siblings
      → digest (opened digest (leaf_text (chunk_at new k)) siblings n k) ≡ memory_node digest new n (k / 2 ^ n)
  pub more : (digest : List ℕ → List ℕ) (output : List ℕ) (byte : ℕ) → chain_of digest (output ++ byte ∷ []) ≡ digest (link_text (chain_of digest output) byte)
  pub input_byte : (input : List ℕ) (k place : ℕ) → place < 32 → slice_index (input_chunk input k) place ≡ slice_index input (32 * k + place)

-- what a step reads and changes of the registers, and what it keeps
pub record RegisterLaws : Type 0 where
  pub alike : (xs : List ℕ) (s : State) → Shows xs s → StepAlike xs s (step (with_registers xs s)) (step s)
  pub changes : (s : State) → ChangesNamed s
  pub needed : (input : InputScheme) (xs ys : List ℕ) (i : Instr) → slice_index xs 0 ≡ slice_index ys 0
      → map (λ r. slice_index xs r) (named i) ≡ map (λ r. slice_index ys r) (named i) → needed_in input xs i ≡ needed_in input ys i
  pub registers : (o : Option Instr) → AreRegisters (named_by o)
  pub version : (s : State) → (step s).version ≡ s.version
  pub input : (s : State) → (step s).input ≡ s.input

-- the laws of trees of any number of levels
pub record TreeLaws : Type 0 where
  pub same : (digest : List ℕ → List ℕ) (leaf other : ℕ → List ℕ) (l k : ℕ) → ((j : ℕ) → j / 2 ^ l ≡ k → leaf j ≡ other j) → node digest leaf l k ≡ node digest other l k
  pub climbs : (digest : List ℕ → List ℕ) (leaf : ℕ → List ℕ) (siblings : ℕ → List ℕ) (n k : ℕ) → AreSiblings digest leaf n k siblings
      → digest (opened digest (leaf k) siblings n k) ≡ node digest leaf n (k / 2 ^ n)
  pub changed : (digest : List ℕ → List ℕ) (leaf other : ℕ → List ℕ) (siblings : ℕ → List ℕ) (n k : ℕ) → ((j : ℕ) → j ≢ k → leaf j ≡ other j) → AreSiblings digest leaf n k siblings
      → digest (opened digest (other k) siblings n k) ≡ node digest other n (k / 2 ^ n)
  pub strings : (digest : List ℕ → List ℕ) (leaf : ℕ → List ℕ) (siblings : ℕ → List ℕ) (n l k : ℕ) → l ≤ n → k < 2 ^ n → AreSiblings digest leaf l k siblings
      → IsTreeString digest leaf n (opened digest (leaf k) siblings l k)
