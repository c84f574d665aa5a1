-- To believe: a state seen from what a proof holds of it, where digests stand for memory and output, and what an effect changes of
-- that. The law `shown_states_lead` ties the step on it to the step of the machine.
use Rattle.std.specs.Prelude.{ℕ, ◌+◌, ◌/◌, ◌%◌, ◌^◌, List, Option, Some}
use Rattle.rd_base.specs.declared.status.Ctl.{Ctl}
use Rattle.rd_base.specs.declared.digest.Digest32.{Digest32}
use Rattle.rd_base.specs.declared.opened.Opening.{Opening}
use Rattle.mem_plain.specs.Page.{with_number_in}
use Rattle.digest_core.specs.Text.{leaf_text, link_text}
use Rattle.merkle_nodes.specs.Node.{digest_at}
use Rattle.merkle_nodes.specs.Opening.{opened}
use Rattle.rv_step.specs.State.{State}
use Rattle.rv_step.specs.Step.{regs_after, pc_after, status_after}
use Rattle.rv_step.specs.declared.effect.Effect.{Effect}
use Rattle.rv_step.specs.declared.effect.Effect.TheVariants.{Store, Put}
use Rattle.state_commit.specs.StateRoot.{ctl_of, memory_digest}

-- the digest of memory, the registers, and the control fields
pub record Held : Type 0 where
  pub mem : List ℕ
  pub regs : List ℕ
  pub ctl : Ctl

-- what is held of a state
abbrev pub held_of : (List ℕ → List ℕ) → State → Held
held_of digest s = record { mem = memory_digest digest s; regs = s.regs; ctl = ctl_of digest s }

-- the string at a level of the path of an opened chunk that holds an address: its leaf string at level 0
abbrev pub path_text : (List ℕ → List ℕ) → Opening → ℕ → ℕ → List ℕ
path_text digest o addr l = opened digest (leaf_text o.chunk) (digest_at o.path.0) l (addr / 32)

-- the chunk with a number stored in it, and the same siblings
abbrev pub chunk_with : Opening → ℕ → ℕ → ℕ → Opening
chunk_with o addr width value = record o { chunk = with_number_in o.chunk (addr % 32) width value }

-- the digest of memory after an effect: a store changes the chunk that holds the address
abbrev pub mem_after : (List ℕ → List ℕ) → Option Opening → List ℕ → Effect → List ℕ
mem_after digest (Some o) mem (Store addr width value) = digest (path_text digest (chunk_with o addr width value) addr 27)
mem_after digest operand mem e = mem

-- the output's length and chain after an effect
abbrev pub out_len_after : ℕ → Effect → ℕ
out_len_after n (Put byte) = (n + 1) % 2 ^ 64
out_len_after n e = n

abbrev pub link_after : (List ℕ → List ℕ) → Digest32 → Effect → Digest32
link_after digest chain (Put byte) = record { 0 = digest (link_text chain.0 byte) }
link_after digest chain e = chain

-- what is held after an effect, from the chunk that it changes
abbrev pub held_after : (List ℕ → List ℕ) → Option Opening → Held → Effect → Held
held_after digest operand p e = record {
  mem = mem_after digest operand p.mem e;
  regs = regs_after p.regs p.ctl.pc e;
  ctl = record {
    pc = pc_after p.ctl.pc e;
    status = status_after p.ctl.status e;
    out_len = out_len_after p.ctl.out_len e;
    chain = link_after digest p.ctl.chain e;
  };
}
