-- To believe, for how often the counter ticks: how many digests a proof takes to open, condition by condition, and its step to make.
use Rattle.std.specs.Prelude.{◌≡◌, ◌⊎◌, ℕ, ◌+◌, ◌*◌, ◌==◌, List, [], ◌∷◌, slice_index, Option, Some, None, if◌then◌else◌}
use Rattle.rd_base.specs.declared.opened.Opening.{Opening}
use Rattle.rd_base.specs.declared.opened.RegOpening.{RegOpening}
use Rattle.rd_base.specs.declared.proof.Proof.{Proof}
use Rattle.rd_base.specs.declared.proof.Proof.TheVariants.{V1, V2, V3}
use Rattle.rv_step.specs.NextEffect.{next_effect}
use Rattle.rv_step.specs.declared.effect.Effect.{Effect}
use Rattle.rv_step.specs.declared.effect.Effect.TheVariants.{Store, Put}
use Rattle.open_proof.specs.Conditions.{Condition}
use Rattle.open_proof.specs.Facts.{named_called, file_of_facts, seen_shown}
use Rattle.open_proof.specs.Next.{storage_digests, registers_digests, held_next}
use Rattle.open_proof.specs.Openings.{fetch_ways, named_ways, operand_ways, read_ways}
use Rattle.open_proof.specs.Ways.{ways_digests}
use Rattle.open_proof.specs.declared.facts.Facts.{Facts}
use Rattle.open_proof.specs.declared.facts.HeldRegisters.{HeldRegisters}
use Rattle.open_proof.specs.declared.facts.HeldRegisters.TheVariants.{Whole, Opened}

abbrev pub chunk_count : Option Opening → ℕ
chunk_count (Some o) = 1
chunk_count None = 0

-- 28 digests if a chunk is stored to, which is climbed again, and one if a byte is put
abbrev pub digests_of_effect : Option Opening → Effect → ℕ
digests_of_effect operand (Store addr width value) = 28 * chunk_count operand
digests_of_effect operand (Put byte) = 1
digests_of_effect operand e = 0

-- those of the effect of a step, if it has one
abbrev pub digests_by : Option Opening → Option Effect → ℕ
digests_by operand (Some e) = digests_of_effect operand e
digests_by operand None = 0

-- 6 digests for the opened register that a step has changed
abbrev pub changed_digests : List ℕ → List RegOpening → List ℕ → List ℕ → ℕ
changed_digests (r ∷ rs) (o ∷ os) before after = if slice_index before r == slice_index after r then changed_digests rs os before after else 6
changed_digests rs os before after = 0

abbrev pub registers_changed_digests : List ℕ → HeldRegisters → List ℕ → List ℕ → ℕ
registers_changed_digests rs (Whole xs) before after = 1
registers_changed_digests rs (Opened root named) before after = changed_digests rs named before after

-- the strings of a proof's parts, with the control and the state string
abbrev pub parts_digests : Facts → ℕ
parts_digests facts = registers_digests facts.regs + storage_digests facts.input_tree + 2

-- what it takes to open a proof: the strings of its parts, and its ways
abbrev pub opening_digests : Facts → ℕ
opening_digests facts =
    parts_digests facts
    + ways_digests (fetch_ways facts) + ways_digests (named_ways facts) + ways_digests (operand_ways facts) + ways_digests (read_ways facts)

-- the same by the conditions of a proof, in their order (`conditions`): one of shape takes none
abbrev pub condition_digests : Facts → List ℕ
condition_digests facts =
    0
    ∷ 0
    ∷ parts_digests facts
    ∷ ways_digests (fetch_ways facts)
    ∷ 0
    ∷ ways_digests (named_ways facts)
    ∷ 0
    ∷ ways_digests (operand_ways facts)
    ∷ 0
    ∷ ways_digests (read_ways facts)
    ∷ []

-- a counter goes from one number to another by the digests of conditions that are tested in their order: those of each up to the first
-- that fails, this one's too, and none after it; and by this many more if all hold
abbrev pub TicksUntil : List Condition → List ℕ → ℕ → ℕ → ℕ → Type 0
TicksUntil [] [] more old new = new ≡ old + more
TicksUntil (c ∷ cs) (n ∷ ns) more old new = ((¬ c.holds) × (new ≡ old + n)) ⊎ (c.holds × TicksUntil cs ns more (old + n) new)
TicksUntil cs ns more old new = ⊥

-- the digests of the step, what it has changed of the registers, and the strings of the parts after it
abbrev pub next_digests : (List ℕ → List ℕ) → Facts → ℕ
next_digests digest facts =
    digests_by facts.operand (next_effect (seen_shown facts (file_of_facts facts)))
    + registers_changed_digests (named_called facts) facts.regs (file_of_facts facts) (held_next digest facts).regs
    + storage_digests facts.input_tree + 2

-- the ticks of a proof that leads: its digests, and one for the step
abbrev pub ticks_of : (List ℕ → List ℕ) → Facts → ℕ
ticks_of digest facts = opening_digests facts + 1 + next_digests digest facts

-- what ticks once all conditions hold
abbrev pub step_ticks : (List ℕ → List ℕ) → Facts → ℕ
step_ticks digest facts = 1 + next_digests digest facts

-- the most ticks of a proof of each version, and those of one without a chunk of data
abbrev pub most_ticks : Proof → ℕ
most_ticks (V1 p) = 91
most_ticks (V2 p) = 101
most_ticks (V3 p) = 103

abbrev pub most_alone : Proof → ℕ
most_alone (V1 p) = 36
most_alone (V2 p) = 57
most_alone (V3 p) = 69
