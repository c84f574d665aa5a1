-- To believe. The nodes of a Merkle tree of any number of levels, over the strings of its leaves.
use Rattle.std.specs.Prelude.{ℕ, zero, suc, ◌+◌, ◌*◌, ◌-◌, ◌%◌, ◌==◌, List, [], slice_index_or, if◌then◌else◌}
use Rattle.rd_base.specs.declared.digest.Digest32.{Digest32}
use Rattle.digest_core.specs.Text.{node_text}

-- node k of level l: at level 0 the digest of leaf k's string, above it the digest of the two nodes below, left and right
unfoldable pub node : (List ℕ → List ℕ) → (ℕ → List ℕ) → ℕ → ℕ → List ℕ
node digest leaf zero k = digest (leaf k)
node digest leaf (suc l) k = digest (node_text (node digest leaf l (2 * k)) (node digest leaf l (2 * k + 1)))

-- the node of a level over leaves that all have one string
unfoldable pub empty_node : (List ℕ → List ℕ) → List ℕ → ℕ → List ℕ
empty_node digest text zero = digest text
empty_node digest text (suc l) = digest (node_text (empty_node digest text l) (empty_node digest text l))

-- the place of the other node below the same parent: an even place is on the left
abbrev pub beside : ℕ → ℕ
beside k = if k % 2 == 0 then k + 1 else k - 1

-- the bytes of the digest at a place of a list
abbrev pub digest_at : List Digest32 → ℕ → List ℕ
digest_at digests i = (slice_index_or digests i (record { 0 = [] })).0
