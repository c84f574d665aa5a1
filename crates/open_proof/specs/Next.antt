-- To believe: the root that a proof's parts make, and the root that they make after the step. The step is the machine's own
-- (`next_effect`), by what it sees of the opened parts, and one for all versions; a version adds how the digests of registers and storage
-- are made. The law `shown_states_lead` ties it to the step of the state.
use Rattle.std.specs.Prelude.{ℕ, ◌==◌, List, [], ◌∷◌, slice_index, Option, Some, None, if◌then◌else◌}
use Rattle.rd_base.specs.declared.opened.InOpening.{InOpening}
use Rattle.rd_base.specs.declared.opened.Opening.{Opening}
use Rattle.rd_base.specs.declared.opened.RegOpening.{RegOpening}
use Rattle.digest_core.specs.Text.{register_text, registers_text, storage_text}
use Rattle.merkle_nodes.specs.Node.{digest_at}
use Rattle.merkle_nodes.specs.Opening.{opened}
use Rattle.out_chain.specs.Root.{parts_text}
use Rattle.rv_step.specs.NextEffect.{next_effect}
use Rattle.rv_step.specs.declared.effect.Effect.{Effect}
use Rattle.open_proof.specs.Held.{Held, held_after}
use Rattle.open_proof.specs.Facts.{named_called, file_of_facts, held_with}
use Rattle.open_proof.specs.SeenHeld.{seen_held}
use Rattle.open_proof.specs.declared.facts.Facts.{Facts}
use Rattle.open_proof.specs.declared.facts.HeldInput.{HeldInput}
use Rattle.open_proof.specs.declared.facts.HeldRegisters.{HeldRegisters}
use Rattle.open_proof.specs.declared.facts.HeldRegisters.TheVariants.{Whole, Opened}

-- what is held after the effect of a step; of a state that has stopped there is none, and it stays
abbrev pub held_by : (List ℕ → List ℕ) → Option Opening → Held → Option Effect → Held
held_by digest operand p (Some e) = held_after digest operand p e
held_by digest operand p None = p

-- the step on what is held
abbrev pub step_held : (List ℕ → List ℕ) → Option Opening → Option Opening → Option HeldInput → Option InOpening → Held → Held
step_held digest fetch operand tree input p = held_by digest operand p (next_effect (seen_held fetch operand tree input p))

-- the storage string if the input is a tree, and the digest of what is stored
abbrev pub storage_texts : Option HeldInput → List ℕ → List (List ℕ)
storage_texts (Some t) mem = storage_text mem t.len t.root.0 ∷ []
storage_texts None mem = []

abbrev pub storage_held : (List ℕ → List ℕ) → Option HeldInput → List ℕ → List ℕ
storage_held digest (Some t) mem = digest (storage_text mem t.len t.root.0)
storage_held digest None mem = mem

-- the digest of the registers: that of their string, or the root that is held
abbrev pub registers_held : (List ℕ → List ℕ) → HeldRegisters → List ℕ
registers_held digest (Whole xs) = digest (registers_text xs)
registers_held digest (Opened root named) = root.0

-- how many digests these take: one for each string
abbrev pub storage_digests : Option HeldInput → ℕ
storage_digests (Some t) = 1
storage_digests None = 0

abbrev pub registers_digests : HeldRegisters → ℕ
registers_digests (Whole xs) = 1
registers_digests (Opened root named) = 0

-- the root of their tree once they hold what they hold in another file: the first opened register that has changed climbs with the
-- same siblings; a step changes one at most
abbrev pub root_changed : (List ℕ → List ℕ) → List ℕ → List ℕ → List RegOpening → List ℕ → List ℕ → List ℕ
root_changed digest root (r ∷ rs) (o ∷ os) before after =
    if slice_index before r == slice_index after r then root_changed digest root rs os before after
    else digest (opened digest (register_text (slice_index after r)) (digest_at o.path.0) 5 r)
root_changed digest root rs os before after = root

abbrev pub registers_changed : (List ℕ → List ℕ) → List ℕ → HeldRegisters → List ℕ → List ℕ → List ℕ
registers_changed digest rs (Whole xs) before after = digest (registers_text after)
registers_changed digest rs (Opened root named) before after = root_changed digest root.0 rs named before after

-- the state string and the root that a proof's parts make
abbrev pub text_before : (List ℕ → List ℕ) → Facts → List ℕ
text_before digest facts = parts_text digest (storage_held digest facts.input_tree facts.mem.0) (registers_held digest facts.regs) facts.ctl

abbrev pub root_before : (List ℕ → List ℕ) → Facts → List ℕ
root_before digest facts = digest (text_before digest facts)

-- what is held of the state, its registers as far as they are shown, and what is held after the step
abbrev pub held_shown : Facts → Held
held_shown facts = held_with facts (file_of_facts facts)

abbrev pub held_next : (List ℕ → List ℕ) → Facts → Held
held_next digest facts = step_held digest facts.fetch facts.operand facts.input_tree facts.input (held_shown facts)

-- the root of a state after a step, from what is held then
abbrev pub root_of_next : (List ℕ → List ℕ) → Option HeldInput → List ℕ → HeldRegisters → List ℕ → Held → List ℕ
root_of_next digest tree rs regs before next =
    digest (parts_text digest (storage_held digest tree next.mem) (registers_changed digest rs regs before next.regs) next.ctl)

-- the root that a proof's parts make after the step
abbrev pub root_next : (List ℕ → List ℕ) → Facts → List ℕ
root_next digest facts = root_of_next digest facts.input_tree (named_called facts) facts.regs (file_of_facts facts) (held_next digest facts)
