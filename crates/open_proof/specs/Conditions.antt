-- To believe: the conditions of a proof in their order, each with the refusal if it is the first that fails, and when a proof
-- leads from one root to another.
use Rattle.std.specs.Prelude.{◌≡◌, ◌⊎◌, ℕ, List, [], ◌∷◌, is_some}
use Rattle.rd_base.specs.declared.digest.Digest32.{Digest32}
use Rattle.rv_step.specs.Fetching.{fetch_address}
use Rattle.open_proof.specs.Facts.{named_called, operand_called, input_called}
use Rattle.open_proof.specs.Openings.{AreCounted, fetch_ways, named_ways, operand_ways, read_ways}
use Rattle.open_proof.specs.Next.{root_before, root_next}
use Rattle.open_proof.specs.Ways.{WaysOpen}
use Rattle.open_proof.specs.declared.facts.Facts.{Facts}

-- why a proof is refused: for what it has, or for what that doesn't open
pub data Refusal : Type 0 where
  shape : Refusal
  opening : Refusal

-- a condition, and the refusal if it is the first that fails
pub record Condition : Type 1 where
  pub refusal : Refusal
  pub holds : Type 0

abbrev pub AllHold : List Condition → Type 0
AllHold [] = Unit {0}
AllHold (c ∷ cs) = c.holds × AllHold cs

abbrev pub FirstFails : Refusal → List Condition → Type 0
FirstFails refusal [] = ⊥
FirstFails refusal (c ∷ cs) = ((c.refusal ≡ refusal) × (¬ c.holds)) ⊎ (c.holds × FirstFails refusal cs)

-- the conditions of a proof from the root a, for a referee of a version, in their order: it is of this version; it has the fetched
-- chunk if and only if its parts call for one; they open the root, and the chunk the root of memory; as many registers are opened as
-- are named, and they open their root; the chunk of data is there if and only if it is called for, and opens the root of memory; and
-- so it is with the chunk of the input and the root of the input
abbrev pub conditions : (List ℕ → List ℕ) → ℕ → Digest32 → Facts → List Condition
conditions digest version a facts =
    record { refusal = shape; holds = facts.version ≡ version }
    ∷ record { refusal = shape; holds = is_some facts.fetch ≡ is_some (fetch_address facts.ctl) }
    ∷ record { refusal = opening; holds = a.0 ≡ root_before digest facts }
    ∷ record { refusal = opening; holds = WaysOpen digest (fetch_ways facts) }
    ∷ record { refusal = shape; holds = AreCounted (named_called facts) facts.regs }
    ∷ record { refusal = opening; holds = WaysOpen digest (named_ways facts) }
    ∷ record { refusal = shape; holds = is_some facts.operand ≡ is_some (operand_called facts) }
    ∷ record { refusal = opening; holds = WaysOpen digest (operand_ways facts) }
    ∷ record { refusal = shape; holds = is_some facts.input ≡ is_some (input_called facts) }
    ∷ record { refusal = opening; holds = WaysOpen digest (read_ways facts) }
    ∷ []

-- a proof leads from the root a to the root b: its conditions hold, and b is made of its parts after the step
pub record LeadsFrom (digest : List ℕ → List ℕ) (version : ℕ) (a : Digest32) (facts : Facts) (b : Digest32) : Type 0 where
  pub hold : AllHold (conditions digest version a facts)
  pub root : b.0 ≡ root_next digest facts
