-- To believe: what a collision of two proofs is, and which one is called.
use Rattle.std.specs.Prelude.{◌≡◌, ◌≢◌, ℕ, ◌==◌, ◌&&◌, List, [], ◌∷◌, Bool, Option, None, Contains, bytes_eq, if◌then◌else◌}
use Rattle.std.specs.Option.{option_or}
use Rattle.rd_base.specs.declared.digest.Digest32.{Digest32}
use Rattle.out_chain.specs.Root.{control_text_of}
use Rattle.out_chain.specs.Collision.{first_collision}
use Rattle.open_proof.specs.Next.{storage_texts, text_before, root_before}
use Rattle.open_proof.specs.Openings.{fetch_ways, named_ways, operand_ways, read_ways}
use Rattle.open_proof.specs.Strings.{registers_texts, opened_by_facts}
use Rattle.open_proof.specs.Ways.{Way, way_texts}
use Rattle.open_proof.specs.declared.facts.Facts.{Facts}

-- the first two different strings of one digest on two ways at the same place, each from the leaf string up
abbrev pub ways_collision : (List ℕ → List ℕ) → List Way → List Way → Option (List ℕ × List ℕ)
ways_collision digest (v ∷ vs) (w ∷ ws) = option_or (first_collision digest (way_texts digest v) (way_texts digest w)) (ways_collision digest vs ws)
ways_collision digest vs ws = None

-- the first two different strings of one digest among those of two proofs' parts: the state strings, the storage strings, the registers
-- strings and the control strings
abbrev pub parts_collision : (List ℕ → List ℕ) → Facts → Facts → Option (List ℕ × List ℕ)
parts_collision digest x y =
    option_or (first_collision digest (text_before digest x ∷ []) (text_before digest y ∷ []))
    (option_or (first_collision digest (storage_texts x.input_tree x.mem.0) (storage_texts y.input_tree y.mem.0))
    (option_or (first_collision digest (registers_texts x.regs) (registers_texts y.regs))
    (first_collision digest (control_text_of x.ctl ∷ []) (control_text_of y.ctl ∷ []))))

-- and among those of their ways: of the fetched chunk, of the opened registers, of the chunk of data and of the chunk of the input
abbrev pub all_ways_collision : (List ℕ → List ℕ) → Facts → Facts → Option (List ℕ × List ℕ)
all_ways_collision digest x y =
    option_or (ways_collision digest (fetch_ways x) (fetch_ways y))
    (option_or (ways_collision digest (named_ways x) (named_ways y))
    (option_or (ways_collision digest (operand_ways x) (operand_ways y))
    (ways_collision digest (read_ways x) (read_ways y))))

-- the first two different strings of one digest that two proofs open, at the same place of what they open
abbrev pub opened_collision : (List ℕ → List ℕ) → Facts → Facts → Option (List ℕ × List ℕ)
opened_collision digest x y = option_or (parts_collision digest x y) (all_ways_collision digest x y)

-- a proof is of a version, and its parts open a root
abbrev pub opens_in : (List ℕ → List ℕ) → ℕ → Digest32 → Facts → Bool
opens_in digest version a facts = (facts.version == version) && bytes_eq a.0 (root_before digest facts)

-- the collision of two proofs of a version that open the root a
unfoldable pub step_collision : (List ℕ → List ℕ) → ℕ → Digest32 → Facts → Facts → Option (List ℕ × List ℕ)
step_collision digest version a x y =
    if opens_in digest version a x && opens_in digest version a y then opened_collision digest x y else None

-- two different strings of one digest, the first opened by the first proof, the second by the second
pub record IsStepCollision (digest : List ℕ → List ℕ) (x y : Facts) (pair : List ℕ × List ℕ) : Type 0 where
  pub differ : pair.0 ≢ pair.1
  pub one_digest : digest pair.0 ≡ digest pair.1
  pub first_opened : Contains (opened_by_facts digest x) pair.0
  pub second_opened : Contains (opened_by_facts digest y) pair.1
