-- To believe: the plain proof of a step in each version, which is the true answer to the question for it.
use Rattle.std.specs.Prelude.{ℕ, ◌/◌, ◌^◌, List, map, slice_index, Option, Some, None}
use Rattle.std.specs.List.{range_with_len}
use Rattle.rd_base.specs.declared.digest.Digest32.{Digest32}
use Rattle.rd_base.specs.Scheme.{scheme_of}
use Rattle.rd_base.specs.declared.scheme.RegisterScheme.{RegisterScheme}
use Rattle.rd_base.specs.declared.scheme.RegisterScheme.TheVariants as registers
use Rattle.rd_base.specs.declared.opened.InOpening.{InOpening}
use Rattle.rd_base.specs.declared.opened.RegOpening.{RegOpening}
use Rattle.rd_base.specs.declared.proof.Proof.{Proof}
use Rattle.merkle_nodes.specs.Node.{beside}
use Rattle.rv_step.specs.Alike.{named_at}
use Rattle.rv_step.specs.State.{State}
use Rattle.state_commit.specs.StateRoot.{ctl_of, memory_digest}
use Rattle.mem_tree.specs.RegisterTree.{register_node, registers_root}
use Rattle.mem_tree.specs.InputTree.{input_chunk, input_node}
use Rattle.open_proof.specs.OpenedChunk.{opening_at, fetch_of_state}
use Rattle.open_proof.specs.Facts.{proof_of}
use Rattle.open_proof.specs.Shown.{tree_of_state, operand_of_state, input_of_state}
use Rattle.open_proof.specs.declared.facts.Facts.{Facts}
use Rattle.open_proof.specs.declared.facts.HeldRegisters.{HeldRegisters}
use Rattle.open_proof.specs.declared.facts.HeldRegisters.TheVariants.{Whole, Opened}

-- the path of a register: the node beside it at each of the levels 0 to 4
unfoldable pub register_siblings : (List ℕ → List ℕ) → List ℕ → ℕ → List Digest32
register_siblings digest xs r = map (λ l. record { 0 = register_node digest xs l (beside (r / 2 ^ l)) }) (range_with_len 0 5)

-- the opened register
abbrev pub opened_register : (List ℕ → List ℕ) → List ℕ → ℕ → RegOpening
opened_register digest xs r = record { value = slice_index xs r; path = record { 0 = register_siblings digest xs r } }

-- the path of a chunk of the input: the node beside it at each of the levels 0 to 14
unfoldable pub input_siblings : (List ℕ → List ℕ) → List ℕ → ℕ → List Digest32
input_siblings digest input k = map (λ l. record { 0 = input_node digest input l (beside (k / 2 ^ l)) }) (range_with_len 0 15)

-- the opened chunk that holds a byte, and that of a byte that may not be called for
abbrev pub input_opening_of : (List ℕ → List ℕ) → List ℕ → ℕ → InOpening
input_opening_of digest input k = record { chunk = input_chunk input (k / 32); path = record { 0 = input_siblings digest input (k / 32) } }

abbrev pub input_opening_at : (List ℕ → List ℕ) → List ℕ → Option ℕ → Option InOpening
input_opening_at digest input (Some k) = Some (input_opening_of digest input k)
input_opening_at digest input None = None

-- the registers as a version holds them, with those opened that are named
abbrev pub registers_opened : (List ℕ → List ℕ) → RegisterScheme → List ℕ → List ℕ → HeldRegisters
registers_opened digest registers.Whole xs names = Whole xs
registers_opened digest registers.Tree xs names = Opened (record { 0 = registers_root digest xs }) (map (opened_register digest xs) names)

-- a state's parts as its version has them, and with their paths exactly the openings that they call for
abbrev pub plain_facts : (List ℕ → List ℕ) → State → Facts
plain_facts digest s = record {
  version = s.version;
  mem = record { 0 = memory_digest digest s };
  input_tree = tree_of_state digest s;
  regs = registers_opened digest (scheme_of s.version).registers s.regs (named_at s);
  ctl = ctl_of digest s;
  fetch = opening_at digest s.memory (fetch_of_state s);
  operand = opening_at digest s.memory (operand_of_state s);
  input = input_opening_at digest s.input (input_of_state digest s);
}

-- the proof that has them
unfoldable pub plain_proof : (List ℕ → List ℕ) → State → Proof
plain_proof digest s = proof_of (plain_facts digest s)
