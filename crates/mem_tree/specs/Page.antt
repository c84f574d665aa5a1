-- Derived. The subtree of one page, as a heap of 256 digests, beside the 128 chunks that are its leaves.
use Rattle.std.specs.Prelude.{◌≡◌, ◌≢◌, ◌↔◌, ℕ, ◌+◌, ◌-◌, ◌*◌, ◌%◌, ◌^◌, ◌<◌, List, [], Option, Some, None, true, is_some, replicate, slice_index_or}
use Rattle.rd_base.specs.declared.digest.Digest32.{Digest32}
use Rattle.mem_plain.specs.Contents.{Contents, IsUsed, chunk_at}
use Rattle.digest_core.specs.Text.{leaf_text}
use Rattle.merkle_nodes.specs.Node.{digest_at}
use Rattle.merkle_nodes.specs.Heap.{IsHeap}
use Rattle.mem_tree.specs.Memory.{zero_node}
use Rattle.mem_tree.specs.declared.kept.PageTree.{PageTree}

-- chunk j of a page of a memory
unfoldable pub page_chunk : Contents → ℕ → ℕ → List ℕ
page_chunk m page j = chunk_at m (128 * page + j)

-- chunk j of some
abbrev pub chunk_in : List (List ℕ) → ℕ → List ℕ
chunk_in chunks j = slice_index_or chunks j []

-- the leaf strings of chunks
abbrev pub leaf_of : List (List ℕ) → ℕ → List ℕ
leaf_of chunks j = leaf_text (chunk_in chunks j)

-- the chunks of a page of zeros
unfoldable pub zero_chunks : List (List ℕ)
zero_chunks = replicate 128 (replicate 32 0)

-- chunk j that is kept of a page; of a page that isn't kept, zeros
abbrev pub kept_chunk : Option PageTree → ℕ → List ℕ
kept_chunk (Some tree) j = chunk_in tree.chunks.items j
kept_chunk None j = chunk_in zero_chunks j

-- where node k of a level below 7 is in the heap of its page
abbrev pub place_of : ℕ → ℕ → ℕ
place_of l k = 2 ^ (7 - l) + k % 2 ^ (7 - l)

-- the heap is the tree over the chunks beside it, of which one at least isn't of zeros
pub record IsMade (digest : List ℕ → List ℕ) (tree : PageTree) : Type 0 where
  pub heap : IsHeap digest tree.nodes.items 7 (leaf_of tree.chunks.items)
  pub some : (j : ℕ) × (j < 128) × (chunk_in tree.chunks.items j ≢ replicate 32 0)

abbrev pub IsMadeTree : (List ℕ → List ℕ) → Option PageTree → Type 0
IsMadeTree digest (Some tree) = IsMade digest tree
IsMadeTree digest None = Unit {0}

-- the node of each level over chunks of zeros
abbrev pub AreEmpty : (List ℕ → List ℕ) → List Digest32 → Type 0
AreEmpty digest empties = (l : ℕ) → l < 28 → digest_at empties l ≡ zero_node digest l

-- a digest of a page's heap, or another one if there is no heap
abbrev pub heap_node : Option PageTree → ℕ → List ℕ → List ℕ
heap_node (Some tree) i empty = digest_at tree.nodes.items i
heap_node None i empty = empty

-- a digest that is kept, or another one if none is
abbrev pub kept_or : Option Digest32 → List ℕ → List ℕ
kept_or (Some digest) empty = digest.0
kept_or None empty = empty

-- the chunks that are kept of a page are the memory's, and it is kept if and only if it holds a byte other than 0
pub record IsPageOf (tree : Option PageTree) (m : Contents) (page : ℕ) : Type 0 where
  pub chunks : (j : ℕ) → j < 128 → kept_chunk tree j ≡ page_chunk m page j
  pub used : (is_some tree ≡ true) ↔ IsUsed m page

-- such a page, whose heap is that of its chunks
pub record IsPageTree (digest : List ℕ → List ℕ) (tree : Option PageTree) (m : Contents) (page : ℕ) : Type 0 where
  pub made : IsMadeTree digest tree
  pub page_of : IsPageOf tree m page
