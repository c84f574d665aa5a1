-- To believe. The registers as a Merkle tree of five levels over x0 to x31, and how many digests it takes to make the tree of one
-- register file that of another.
use Rattle.std.specs.Prelude.{ℕ, ◌==◌, List, Bool, not, slice_index}
use Rattle.digest_core.specs.Text.{register_text}
use Rattle.merkle_nodes.specs.Node.{node}
use Rattle.merkle_nodes.specs.Renewals.{renewals}

-- the string of the leaf of register r
unfoldable pub register_leaf : List ℕ → ℕ → List ℕ
register_leaf xs r = register_text (slice_index xs r)

-- node k of level l over a register file
abbrev pub register_node : (List ℕ → List ℕ) → List ℕ → ℕ → ℕ → List ℕ
register_node digest xs l k = node digest (register_leaf xs) l k

-- the root: node 0 of level 5
abbrev pub registers_root : (List ℕ → List ℕ) → List ℕ → List ℕ
registers_root digest xs = register_node digest xs 5 0

-- register r holds one thing in one file and another in the other
abbrev pub differs : List ℕ → List ℕ → ℕ → Bool
differs xs ys r = not (slice_index xs r == slice_index ys r)

-- how many digests the change from one file to the other takes: the leaves that differ, and the nodes above them
abbrev pub register_renewals : List ℕ → List ℕ → ℕ
register_renewals xs ys = renewals (differs xs ys) 5
