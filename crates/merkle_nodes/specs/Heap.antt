-- Derived. A Merkle tree of n levels as a heap of 2^(n + 1) digests: its root is at 1, the nodes below node i at 2 * i and
-- 2 * i + 1, and so its leaves from 2^n on. The law `heaps_are_trees` ties a heap to the nodes of the tree.
use Rattle.std.specs.Prelude.{◌≡◌, ℕ, ◌+◌, ◌*◌, ◌^◌, ◌<◌, ◌≤◌, Bool, false, List, length, slice_index_or}
use Rattle.rd_base.specs.declared.digest.Digest32.{Digest32}
use Rattle.digest_core.specs.Text.{node_text}
use Rattle.merkle_nodes.specs.Node.{digest_at}

-- the first n leaves of a heap of `width` leaves are those of these strings
abbrev pub HasLeaves : (List ℕ → List ℕ) → List Digest32 → ℕ → (ℕ → List ℕ) → ℕ → Type 0
HasLeaves digest nodes width leaf n = (k : ℕ) → k < n → digest_at nodes (width + k) ≡ digest (leaf k)

-- node i is the digest of the two below it
abbrev pub IsJoinedAt : (List ℕ → List ℕ) → List Digest32 → ℕ → Type 0
IsJoinedAt digest nodes i = digest_at nodes i ≡ digest (node_text (digest_at nodes (2 * i)) (digest_at nodes (2 * i + 1)))

-- so is each node above the leaves, from a place on
abbrev pub AreJoined : (List ℕ → List ℕ) → List Digest32 → ℕ → ℕ → Type 0
AreJoined digest nodes width from = (i : ℕ) → from ≤ i → i < width → IsJoinedAt digest nodes i

-- the heap is the tree of n levels over these leaves
pub record IsHeap (digest : List ℕ → List ℕ) (nodes : List Digest32) (n : ℕ) (leaf : ℕ → List ℕ) : Type 0 where
  pub whole : length nodes ≡ 2 ^ (n + 1)
  pub leaves : HasLeaves digest nodes (2 ^ n) leaf (2 ^ n)
  pub joined : AreJoined digest nodes (2 ^ n) 1

-- the place i of a heap is marked
abbrev pub is_marked : List Bool → ℕ → Bool
is_marked marks i = slice_index_or marks i false
