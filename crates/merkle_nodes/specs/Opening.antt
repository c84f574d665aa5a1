-- To believe (`opened` is derived: climbing from below is opening from above). How a digest opens along a Merkle path to
-- the string of one leaf. A path is an index and one sibling for each level; siblings are numbered from the leaf's on.
use Rattle.std.specs.Prelude.{◌≡◌, ◌<◌, ℕ, zero, suc, ◌/◌, ◌%◌, ◌^◌, ◌==◌, List, if◌then◌else◌}
use Rattle.rd_base.specs.declared.digest.Digest32.{Digest32}
use Rattle.digest_core.specs.Text.{node_text}
use Rattle.merkle_nodes.specs.Node.{node, beside, digest_at}

-- the string of a node, from the child on the path and its sibling: the child is on the left if the bit is 0
abbrev pub joined : ℕ → List ℕ → List ℕ → List ℕ
joined bit child sibling = if bit == 0 then node_text child sibling else node_text sibling child

-- a digest at level l opens along index k to the string of a leaf: from level l down, it is the digest of a node string
-- whose child, on the side that bit l - 1 of k names, opens in turn
unfoldable pub Opens : (List ℕ → List ℕ) → List ℕ → (ℕ → List ℕ) → ℕ → ℕ → List ℕ → Type 0
Opens digest leaf siblings zero k d = d ≡ digest leaf
Opens digest leaf siblings (suc l) k d =
    (child : List ℕ) × (d ≡ digest (joined (k / 2 ^ l % 2) child (siblings l))) × Opens digest leaf siblings l k child

-- the string at level l of a path: the leaf's string at level 0, a node string above
unfoldable pub opened : (List ℕ → List ℕ) → List ℕ → (ℕ → List ℕ) → ℕ → ℕ → List ℕ
opened digest leaf siblings zero k = leaf
opened digest leaf siblings (suc l) k = joined (k / 2 ^ l % 2) (digest (opened digest leaf siblings l k)) (siblings l)

-- the first n siblings are those of the tree over these leaves, along the path of leaf k
abbrev pub AreSiblings : (List ℕ → List ℕ) → (ℕ → List ℕ) → ℕ → ℕ → (ℕ → List ℕ) → Type 0
AreSiblings digest leaf n k siblings = (l : ℕ) → l < n → siblings l ≡ node digest leaf l (beside (k / 2 ^ l))

-- a list of digests is the path of leaf k up to level n
abbrev pub IsPath : (List ℕ → List ℕ) → (ℕ → List ℕ) → ℕ → ℕ → List Digest32 → Type 0
IsPath digest leaf n k path = AreSiblings digest leaf n k (digest_at path)
