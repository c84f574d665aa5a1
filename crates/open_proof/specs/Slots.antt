-- Derived: the ways of a proof as the code has them, in slots that may be empty, one level of a way after another, and the way of what a
-- step has changed.
use Rattle.std.specs.Prelude.{ℕ, ◌+◌, ◌/◌, ◌%◌, ◌==◌, List, [], ◌∷◌, length, slice_get, slice_index, Option, Some, None, if◌then◌else◌}
use Rattle.std.specs.Option.{option_or}
use Rattle.rd_base.specs.declared.digest.Digest32.{Digest32}
use Rattle.rd_base.specs.declared.opened.Opening.{Opening}
use Rattle.rd_base.specs.declared.opened.RegOpening.{RegOpening}
use Rattle.merkle_nodes.specs.Opening.{joined}
use Rattle.out_chain.specs.Collision.{first_collision}
use Rattle.open_proof.specs.Held.{chunk_with}
use Rattle.open_proof.specs.Openings.{chunk_way, register_way}
use Rattle.open_proof.specs.Ways.{Way, way_text, way_texts}

-- those that are there
abbrev pub there : List (Option Way) → List Way
there [] = []
there (Some w ∷ ws) = w ∷ there ws
there (None ∷ ws) = there ws

-- three slots, which some ways fill from the first on
abbrev pub first_three : List Way → List (Option Way)
first_three ws = slice_get ws 0 ∷ slice_get ws 1 ∷ slice_get ws 2 ∷ []

-- the rest of a way above its string, by the digest of the string; none at the root
abbrev pub way_above_with : ℕ → List ℕ → List ℕ → List Digest32 → Option Way
way_above_with index root digest [] = None
way_above_with index root digest (s ∷ ss) =
    Some (record { text = joined (index % 2) digest s.0; index = index / 2; siblings = ss; levels = length ss; root = root })

abbrev pub way_above : Way → List ℕ → Option Way
way_above w digest = way_above_with w.index w.root digest w.siblings

-- the first two different strings of one digest of two ways in the same slot
abbrev pub slot_collision : (List ℕ → List ℕ) → Option Way → Option Way → Option (List ℕ × List ℕ)
slot_collision digest (Some v) (Some w) = first_collision digest (way_texts digest v) (way_texts digest w)
slot_collision digest v w = None

abbrev pub slots_collision : (List ℕ → List ℕ) → List (Option Way) → List (Option Way) → Option (List ℕ × List ℕ)
slots_collision digest (v ∷ vs) (w ∷ ws) = option_or (slot_collision digest v w) (slots_collision digest vs ws)
slots_collision digest vs ws = None

-- the digest of a tree after a change: its root, or that to which the changed way climbs
abbrev pub digest_after : (List ℕ → List ℕ) → List ℕ → Option Way → List ℕ
digest_after digest root (Some w) = digest (way_text digest w w.levels)
digest_after digest root None = root

abbrev pub digests_after : Option Way → ℕ
digests_after (Some w) = w.levels + 1
digests_after None = 0

-- the way of a chunk in which a number is stored
abbrev pub changed_chunk : List ℕ → Option Opening → ℕ → ℕ → ℕ → Option Way
changed_chunk root (Some o) addr width value = Some (chunk_way root (chunk_with o addr width value) addr)
changed_chunk root None addr width value = None

-- the way of the first opened register that has changed
abbrev pub changed_register : List ℕ → List ℕ → List RegOpening → List ℕ → List ℕ → Option Way
changed_register root (r ∷ rs) (o ∷ os) before after =
    if slice_index before r == slice_index after r then changed_register root rs os before after
    else Some (register_way root r (record o { value = slice_index after r }))
changed_register root rs os before after = None
