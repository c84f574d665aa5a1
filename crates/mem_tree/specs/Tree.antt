-- To believe: `Tree` and `SameBut`, in which the promise of a refreshed tree is stated; and `page_at`, `upper_at` and
-- `IsUsedOrTouched`, in which it is stated what a tree keeps. The rest is derived: when a kept tree is the tree of a memory, but for its
-- touched pages, the relation that every call of `MemTree` keeps, and from which its root and its paths are those of the definition.
use Rattle.std.specs.Prelude.{◌≡◌, ℕ, ◌+◌, ◌-◌, ◌*◌, ◌/◌, ◌^◌, ◌<◌, ◌⊎◌, List, [], Option, None, Bool, true, false, ◌||◌, is_some}
use Rattle.std.specs.Ordering.{nat_cmp, ordering_then}
use Rattle.std.specs.declared.cmp.Ordering.{Ordering}
use Rattle.std.specs.Map.{lookup}
use Rattle.std.specs.BTreeMap.{is_at}
use Rattle.rd_base.specs.declared.digest.Digest32.{Digest32}
use Rattle.digest_core.specs.Text.{node_text}
use Rattle.mem_plain.specs.Contents.{Contents, IsUsed, has_page}
use Rattle.merkle_nodes.specs.Node.{digest_at}
use Rattle.mem_tree.specs.Memory.{SamePage}
use Rattle.mem_tree.specs.Page.{place_of, heap_node, kept_or, AreEmpty, IsMadeTree, IsPageOf}
use Rattle.mem_tree.specs.declared.kept.PageTree.{PageTree}
use Rattle.mem_tree.specs.declared.kept.Nodes.{Nodes}

-- the nodes that a tree keeps: the subtrees of pages, the nodes from their roots up by level and place, and the empty nodes
pub record Kept : Type 0 where
  pub pages : List (ℕ × PageTree)
  pub upper : List ((ℕ × ℕ) × Digest32)
  pub empties : List Digest32

abbrev pub kept_of : Nodes → Kept
kept_of nodes = record { pages = nodes.pages.entries; upper = nodes.upper.entries; empties = nodes.empties }

-- what a tree is to contracts: these, the pages that were touched since the last refresh, and whether the last refresh failed
pub record Tree : Type 0 where
  pub nodes : Kept
  pub touched : List ℕ
  pub failed : Bool

-- the subtree of a page, if it is kept
abbrev pub page_at : Kept → ℕ → Option PageTree
page_at t p = lookup (is_at (nat_cmp p)) t.pages

-- node k of a level below 7
abbrev pub page_node : Kept → ℕ → ℕ → List ℕ
page_node t l k = heap_node (page_at t (k / 2 ^ (7 - l))) (place_of l k) (digest_at t.empties l)

abbrev pub by_place : ℕ × ℕ → ℕ × ℕ → Ordering
by_place p q = ordering_then (nat_cmp p.0 q.0) (nat_cmp p.1 q.1)

-- node k of level 7 + n, if it is kept
abbrev pub upper_at : Kept → ℕ → ℕ → Option Digest32
upper_at t n k = lookup (is_at (by_place (n, k))) t.upper

abbrev pub upper_node : Kept → ℕ → ℕ → List ℕ
upper_node t n k = kept_or (upper_at t n k) (digest_at t.empties (7 + n))

-- a node is the digest of two, and is kept if and only if one of them is; the empty nodes of their level and of its own are given
pub record IsOfTwo (digest : List ℕ → List ℕ) (node left right : Option Digest32) (below empty : List ℕ) : Type 0 where
  pub digest_is : kept_or node empty ≡ digest (node_text (kept_or left below) (kept_or right below))
  pub kept : is_some node ≡ (is_some left || is_some right)

-- so is node k of level 7 + n + 1
abbrev pub IsJoinedAbove : (List ℕ → List ℕ) → Kept → ℕ → ℕ → Type 0
IsJoinedAbove digest t n k = IsOfTwo digest (upper_at t (n + 1) k) (upper_at t n (2 * k)) (upper_at t n (2 * k + 1)) (digest_at t.empties (7 + n)) (digest_at t.empties (7 + (n + 1)))

-- a node is the root of a page's heap, and is kept if and only if the heap is
pub record IsRoot (node : Option Digest32) (tree : Option PageTree) : Type 0 where
  pub digest_is : (empty : List ℕ) → kept_or node empty ≡ heap_node tree 1 empty
  pub kept : is_some node ≡ is_some tree

-- each node that is neither at nor above a stale page is the root of its page, or the digest of the two below it; and none is
-- kept above level 27. So nothing is kept above pages but over pages that are kept, or stale
pub record IsJoinedBut (digest : List ℕ → List ℕ) (t : Kept) (stale : List ℕ) : Type 0 where
  pub roots : (p : ℕ) → has_page stale p ≡ false → IsRoot (upper_at t 0 p) (page_at t p)
  pub above : (n k : ℕ) → n < 20 → ((p : ℕ) → p / 2 ^ (n + 1) ≡ k → has_page stale p ≡ false) → IsJoinedAbove digest t n k
  pub top : (n k : ℕ) → 20 < n → upper_at t n k ≡ None

-- the heap of each page is the tree over its chunks, be the page stale or not
abbrev pub AllMade : (List ℕ → List ℕ) → Kept → Type 0
AllMade digest t = (p : ℕ) → IsMadeTree digest (page_at t p)

-- each page that isn't stale is the memory's: it is kept if and only if it holds a byte other than 0; and the nodes above are joined. So
-- above pages nothing is kept but over used or stale pages (`only_what_is_needed_is_kept`)
pub record IsOver (digest : List ℕ → List ℕ) (t : Kept) (stale : List ℕ) (m : Contents) : Type 0 where
  pub pages : (p : ℕ) → has_page stale p ≡ false → IsPageOf (page_at t p) m p
  pub joined : IsJoinedBut digest t stale

-- the tree is a memory's, but for the touched pages
abbrev pub IsTreeOf : (List ℕ → List ℕ) → Tree → Contents → Type 0
IsTreeOf digest t m = IsOver digest t.nodes t.touched m

-- a page holds a byte other than 0, or was touched since the last refresh
abbrev pub IsUsedOrTouched : Tree → Contents → ℕ → Type 0
IsUsedOrTouched t m p = IsUsed m p ⊎ (has_page t.touched p ≡ true)

-- each page that a memory has in use is touched
abbrev pub HasTouched : Tree → Contents → Type 0
HasTouched tree m = (p : ℕ) → IsUsed m p → has_page tree.touched p ≡ true

-- two memories are alike outside these pages
abbrev pub SameBut : List ℕ → Contents → Contents → Type 0
SameBut pages m n = (p : ℕ) → has_page pages p ≡ false → SamePage m n p

-- what holds of every tree: the empty node of each level is at its place; each touched page is one of the 2^20 pages; each heap
-- is made of its chunks; the nodes above are joined, but for those of touched pages, and for none of them unless a refresh failed
pub record IsWhole (digest : List ℕ → List ℕ) (t : Tree) : Type 0 where
  pub empty : AreEmpty digest t.nodes.empties
  pub pages : (p : ℕ) → has_page t.touched p ≡ true → p < 2 ^ 20
  pub made : AllMade digest t.nodes
  pub joined : IsJoinedBut digest t.nodes t.touched
  pub whole : t.failed ≡ false → IsJoinedBut digest t.nodes []
