-- To believe: what a proof opens, as ways up to the roots of its trees.
use Rattle.std.specs.Prelude.{◌≡◌, ℕ, ◌/◌, ◌==◌, List, [], ◌∷◌, length, Bool, true, Option, Some}
use Rattle.rd_base.specs.declared.opened.InOpening.{InOpening}
use Rattle.rd_base.specs.declared.opened.Opening.{Opening}
use Rattle.rd_base.specs.declared.opened.RegOpening.{RegOpening}
use Rattle.digest_core.specs.Text.{leaf_text, register_text}
use Rattle.rv_step.specs.Fetching.{fetch_address}
use Rattle.open_proof.specs.Facts.{named_called, operand_called, input_called}
use Rattle.open_proof.specs.Ways.{Way}
use Rattle.open_proof.specs.declared.facts.Facts.{Facts}
use Rattle.open_proof.specs.declared.facts.HeldInput.{HeldInput}
use Rattle.open_proof.specs.declared.facts.HeldRegisters.{HeldRegisters}
use Rattle.open_proof.specs.declared.facts.HeldRegisters.TheVariants.{Whole, Opened}

-- a chunk of memory that holds an address, if one is there and called for
abbrev pub chunk_way : List ℕ → Opening → ℕ → Way
chunk_way root o addr = record { text = leaf_text o.chunk; index = addr / 32; siblings = o.path.0; levels = 27; root = root }

abbrev pub chunk_ways : List ℕ → Option Opening → Option ℕ → List Way
chunk_ways root (Some o) (Some addr) = chunk_way root o addr ∷ []
chunk_ways root chunk address = []

-- opened registers, by their numbers; none if a proof holds them all
abbrev pub register_way : List ℕ → ℕ → RegOpening → Way
register_way root r o = record { text = register_text o.value; index = r; siblings = o.path.0; levels = 5; root = root }

abbrev pub each_way : List ℕ → List ℕ → List RegOpening → List Way
each_way root (r ∷ rs) (o ∷ os) = register_way root r o ∷ each_way root rs os
each_way root rs os = []

abbrev pub register_ways : List ℕ → HeldRegisters → List Way
register_ways rs (Whole xs) = []
register_ways rs (Opened root named) = each_way root.0 rs named

-- a chunk of the input that holds a byte, if one is there and called for
abbrev pub input_way : List ℕ → InOpening → ℕ → Way
input_way root o k = record { text = leaf_text o.chunk; index = k / 32; siblings = o.path.0; levels = 15; root = root }

abbrev pub input_ways : Option HeldInput → Option InOpening → Option ℕ → List Way
input_ways (Some t) (Some o) (Some k) = input_way t.root.0 o k ∷ []
input_ways tree input byte = []

-- those of a proof: the fetched chunk, the registers that are named, the chunk of data and the chunk of the input
abbrev pub fetch_ways : Facts → List Way
fetch_ways facts = chunk_ways facts.mem.0 facts.fetch (fetch_address facts.ctl)

abbrev pub named_ways : Facts → List Way
named_ways facts = register_ways (named_called facts) facts.regs

abbrev pub operand_ways : Facts → List Way
operand_ways facts = chunk_ways facts.mem.0 facts.operand (operand_called facts)

abbrev pub read_ways : Facts → List Way
read_ways facts = input_ways facts.input_tree facts.input (input_called facts)

-- as many registers are opened as are named
abbrev pub AreCounted : List ℕ → HeldRegisters → Type 0
AreCounted rs (Whole xs) = Unit {0}
AreCounted rs (Opened root named) = length named ≡ length rs

abbrev pub is_counted : List ℕ → HeldRegisters → Bool
is_counted rs (Whole xs) = true
is_counted rs (Opened root named) = length named == length rs
