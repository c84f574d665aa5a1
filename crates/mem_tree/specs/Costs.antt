-- To believe. How many digests a refresh makes: those of the chunks that differ from what is kept, and of the nodes above them.
use Rattle.std.specs.Prelude.{ℕ, zero, suc, ◌+◌, ◌/◌, ◌==◌, Bool, ◌||◌, not, List, [], ◌∷◌, Option, None, is_some, bytes_eq, if◌then◌else◌}
use Rattle.mem_plain.specs.Contents.{Contents}
use Rattle.merkle_nodes.specs.Renewals.{how_many, is_changed, renewals}
use Rattle.mem_tree.specs.Page.{page_chunk, kept_chunk}
use Rattle.mem_tree.specs.Tree.{Kept, page_at, upper_at}
use Rattle.mem_tree.specs.declared.kept.PageTree.{PageTree}

-- two chunks are different
unfoldable pub are_different : List ℕ → List ℕ → Bool
are_different chunk other = not (bytes_eq chunk other)

-- chunk j of a page of a memory isn't the one that is kept
abbrev pub differs : Option PageTree → Contents → ℕ → ℕ → Bool
differs tree m page j = are_different (kept_chunk tree j) (page_chunk m page j)

-- some chunk differs
abbrev pub has_changed : Option PageTree → Contents → ℕ → Bool
has_changed tree m page = is_changed (differs tree m page) 7 0

-- some chunk isn't of zeros
abbrev pub is_filled : Contents → ℕ → Bool
is_filled m page = has_changed None m page

-- how many digests the subtree of a page takes: none if all bytes of the page are 0
abbrev pub page_renewals : Option PageTree → Contents → ℕ → ℕ
page_renewals tree m page = if is_filled m page then renewals (differs tree m page) 7 else 0

-- how many chunks of a page differ, and of some pages
abbrev pub page_changes : Option PageTree → Contents → ℕ → ℕ
page_changes tree m page = how_many (differs tree m page) 128

abbrev pub changed_chunks : Kept → Contents → List ℕ → ℕ
changed_chunks t m [] = 0
changed_chunks t m (page ∷ rest) = page_changes (page_at t page) m page + changed_chunks t m rest

-- how many digests the subtrees of some pages take
abbrev pub page_digests : Kept → Contents → List ℕ → ℕ
page_digests t m [] = 0
page_digests t m (page ∷ rest) = page_renewals (page_at t page) m page + page_digests t m rest

-- those of some pages above which the nodes are joined anew: the pages that have changed, and all of them if the refresh before failed
abbrev pub stale_pages : Bool → Kept → Contents → List ℕ → List ℕ
stale_pages failed t m [] = []
stale_pages failed t m (page ∷ rest) =
    if has_changed (page_at t page) m page || failed then page ∷ stale_pages failed t m rest else stale_pages failed t m rest

-- a place before others, unless it is the first of them
abbrev pub before_others : ℕ → List ℕ → List ℕ
before_others k [] = k ∷ []
before_others k (first ∷ rest) = if k == first then first ∷ rest else k ∷ first ∷ rest

-- the places of the nodes above the nodes at places of a level: each once, if the places are in order
abbrev pub parents : List ℕ → List ℕ
parents [] = []
parents (k ∷ rest) = before_others (k / 2) (parents rest)

-- the places of the nodes this many levels above some pages' roots
unfoldable pub ancestors : ℕ → List ℕ → List ℕ
ancestors zero pages = pages
ancestors (suc n) pages = parents (ancestors n pages)

-- how many of the nodes at these places of level 7 + n are kept
abbrev pub kept_among : Kept → ℕ → List ℕ → ℕ
kept_among t n [] = 0
kept_among t n (k ∷ rest) = (if is_some (upper_at t n k) then 1 else 0) + kept_among t n rest

-- how many nodes are kept above some pages' roots, on the n levels from these on
unfoldable pub kept_above : Kept → ℕ → List ℕ → ℕ
kept_above t zero pages = 0
kept_above t (suc n) pages = kept_above t n pages + kept_among t (suc n) (ancestors (suc n) pages)
