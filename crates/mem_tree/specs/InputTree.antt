-- To believe (`IsInputTree` is derived). The input as a Merkle tree of 15 levels over 2^15 chunks of 32 bytes.
use Rattle.std.specs.Prelude.{ℕ, ◌+◌, ◌*◌, List, map, slice_index}
use Rattle.std.specs.List.{range_with_len}
use Rattle.digest_core.specs.Text.{leaf_text}
use Rattle.merkle_nodes.specs.Node.{node}
use Rattle.merkle_nodes.specs.Heap.{IsHeap}
use Rattle.rd_base.specs.declared.digest.Digest32.{Digest32}

-- chunk k of an input: its bytes from 32 * k on, and 0 behind the input's end
unfoldable pub input_chunk : List ℕ → ℕ → List ℕ
input_chunk input k = map (λ i. slice_index input (32 * k + i)) (range_with_len 0 32)

-- the string of the leaf of a chunk
abbrev pub input_leaf : List ℕ → ℕ → List ℕ
input_leaf input k = leaf_text (input_chunk input k)

-- node k of level l over an input
abbrev pub input_node : (List ℕ → List ℕ) → List ℕ → ℕ → ℕ → List ℕ
input_node digest input l k = node digest (input_leaf input) l k

-- the root: node 0 of level 15
abbrev pub input_root : (List ℕ → List ℕ) → List ℕ → List ℕ
input_root digest input = input_node digest input 15 0

-- a heap is the tree of an input
abbrev pub IsInputTree : (List ℕ → List ℕ) → List Digest32 → List ℕ → Type 0
IsInputTree digest nodes input = IsHeap digest nodes 15 (input_leaf input)
