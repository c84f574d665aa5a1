-- To believe: what a proof of each version holds, and for what its parts call. The definitions above these speak of what is held and
-- know no version: a version adds how the registers and the input are held.
use Rattle.std.specs.Prelude.{ℕ, nat_lt, List, ◌∷◌, map, Option, Some, None, if◌then◌else◌}
use Rattle.rd_base.specs.Regs.{no_registers_set, with_register}
use Rattle.rd_base.specs.declared.opened.RegOpening.{RegOpening}
use Rattle.rd_base.specs.declared.proof.Proof.{Proof}
use Rattle.rd_base.specs.declared.proof.Proof.TheVariants.{V1, V2, V3}
use Rattle.rv_decode.specs.declared.instr.Instr.{Instr}
use Rattle.rv_step.specs.Named.{named_by}
use Rattle.rv_step.specs.NextEffect.{Seen, fetched}
use Rattle.rv_step.specs.NextNeed.{next_need}
use Rattle.rv_step.specs.declared.asked.Need.{Need}
use Rattle.rv_step.specs.declared.asked.Need.TheVariants as need
use Rattle.open_proof.specs.Called.{address_needed}
use Rattle.open_proof.specs.Held.{Held}
use Rattle.open_proof.specs.SeenHeld.{seen_held}
use Rattle.open_proof.specs.declared.facts.Facts.{Facts}
use Rattle.open_proof.specs.declared.facts.HeldInput.{HeldInput}
use Rattle.open_proof.specs.declared.facts.HeldRegisters.{HeldRegisters}
use Rattle.open_proof.specs.declared.facts.HeldRegisters.TheVariants.{Whole, Opened}

-- what a proof holds
abbrev pub facts_of : Proof → Facts
facts_of (V1 p) = record { version = 1; mem = p.mem; input_tree = None; regs = Whole p.regs; ctl = p.ctl; fetch = p.fetch; operand = p.operand; input = None }
facts_of (V2 p) = record { version = 2; mem = p.mem; input_tree = None; regs = Opened p.regs p.named; ctl = p.ctl; fetch = p.fetch; operand = p.operand; input = None }
facts_of (V3 p) = record {
  version = 3;
  mem = p.mem;
  input_tree = Some (record { len = p.input_len; root = p.input_root });
  regs = Opened p.regs p.named;
  ctl = p.ctl;
  fetch = p.fetch;
  operand = p.operand;
  input = p.input;
}

-- the proof that holds this: by what it holds of registers and input it is of one version
abbrev pub proof_by : Facts → HeldRegisters → Option HeldInput → Proof
proof_by f (Whole xs) tree = V1 (record { mem = f.mem; regs = xs; ctl = f.ctl; fetch = f.fetch; operand = f.operand })
proof_by f (Opened root named) None = V2 (record { mem = f.mem; regs = root; ctl = f.ctl; fetch = f.fetch; named = named; operand = f.operand })
proof_by f (Opened root named) (Some t) = V3 (record {
  mem = f.mem;
  input_len = t.len;
  input_root = t.root;
  regs = root;
  ctl = f.ctl;
  fetch = f.fetch;
  named = named;
  operand = f.operand;
  input = f.input;
})

abbrev pub proof_of : Facts → Proof
proof_of f = proof_by f f.regs f.input_tree

-- what is held of the state, with these registers, and what a step sees of it
abbrev pub held_with : Facts → List ℕ → Held
held_with facts xs = record { mem = facts.mem.0; regs = xs; ctl = facts.ctl }

abbrev pub seen_shown : Facts → List ℕ → Seen
seen_shown facts xs = seen_held facts.fetch facts.operand facts.input_tree facts.input (held_with facts xs)

-- the instruction that is fetched, for which no register is read, and the registers that it names
abbrev pub fetched_of : Facts → Option Instr
fetched_of facts = fetched (seen_shown facts no_registers_set)

abbrev pub named_called : Facts → List ℕ
named_called facts = named_by (fetched_of facts)

-- the register file in which these registers hold these values, and all others 0
abbrev pub file_of : List ℕ → List ℕ → List ℕ
file_of (r ∷ rs) (v ∷ vs) = with_register (file_of rs vs) r v
file_of rs vs = no_registers_set

abbrev pub values_of : List RegOpening → List ℕ
values_of os = map (λ (o : RegOpening). o.value) os

-- the register file that is shown: all registers, or those that are opened, by the numbers that are named
abbrev pub file_shown : List ℕ → HeldRegisters → List ℕ
file_shown rs (Whole xs) = xs
file_shown rs (Opened root named) = file_of rs (values_of named)

abbrev pub file_of_facts : Facts → List ℕ
file_of_facts facts = file_shown (named_called facts) facts.regs

-- what the next step needs of memory or of the input
abbrev pub needed_of : Facts → Need
needed_of facts = next_need (seen_shown facts (file_of_facts facts))

-- the address of the data for which it calls, and the number of the input's byte, if the input has that byte
abbrev pub operand_called : Facts → Option ℕ
operand_called facts = address_needed (needed_of facts)

abbrev pub byte_needed : Option HeldInput → Need → Option ℕ
byte_needed (Some t) (need.Input k) = if nat_lt k t.len then Some k else None
byte_needed tree n = None

abbrev pub input_called : Facts → Option ℕ
input_called facts = byte_needed facts.input_tree (needed_of facts)
