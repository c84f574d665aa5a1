-- Derived: the places of the versions of each page, by which the pages of a checkpoint are found.
use Rattle.std.specs.Prelude.{◌≡◌, ◌≢◌, ℕ, ◌/◌, ◌<◌, ◌^◌, List, [], length, slice_index, Option, Some, None, true, false}
use Rattle.std.specs.Ordering.{nat_cmp}
use Rattle.std.specs.Map.{lookup}
use Rattle.std.specs.BTreeMap.{is_at}
use Rattle.std.specs.declared.vec.Vec.{Vec}
use Rattle.std.specs.declared.alloc.Global.{Global}
use Rattle.mem_plain.specs.Contents.{Contents, byte_at, has_page}
use Rattle.checkpoint_run.specs.Versions.{byte_by}
use Rattle.checkpoint_run.specs.declared.version.Version.{Version}

-- the places that are kept, if there are some
abbrev pub items_of : Option (Vec ℕ Global) → List ℕ
items_of (Some places) = places.items
items_of None = []

-- those of a page
abbrev pub places_at : List (ℕ × Vec ℕ Global) → ℕ → List ℕ
places_at entries page = items_of (lookup (is_at (nat_cmp page)) entries)

-- each place is below those after it
abbrev pub Ascend : List ℕ → Type 0
Ascend places = (i j : ℕ) → i < j → j < length places → slice_index places i < slice_index places j

-- the places below a number at which a list of pages has a page
pub record ArePlaces (pages : List ℕ) (n page : ℕ) (places : List ℕ) : Type 0 where
  pub sound : (j : ℕ) → j < length places → (slice_index places j < n) × (slice_index pages (slice_index places j) ≡ page)
  pub full : (k : ℕ) → k < n → slice_index pages k ≡ page → (j : ℕ) × (j < length places) × (slice_index places j ≡ k)
  pub ascend : Ascend places

-- for each page the places below a number at which it occurs in a list of pages
abbrev pub IsIndex : List (ℕ × Vec ℕ Global) → List ℕ → ℕ → Type 0
IsIndex entries pages n = (page : ℕ) → ArePlaces pages n page (places_at entries page)

-- a page occurs at no place below a number
abbrev pub HasNone : List ℕ → ℕ → ℕ → Type 0
HasNone pages page count = (j : ℕ) → j < count → slice_index pages j ≢ page

-- the last place below a number at which a page occurs
pub record IsLastBelow (pages : List ℕ) (page count k : ℕ) : Type 0 where
  pub below : k < count
  pub there : slice_index pages k ≡ page
  pub last : (j : ℕ) → k < j → j < count → slice_index pages j ≢ page

-- some pages of what versions stand for were put into a memory, and no others
pub record IsPut (versions : List Version) (put : List ℕ) (m : Contents) : Type 0 where
  pub shown : (a : ℕ) → a < 2 ^ 32 → has_page put (a / 4096) ≡ true → byte_at m a ≡ byte_by versions a
  pub empty : (a : ℕ) → a < 2 ^ 32 → has_page put (a / 4096) ≡ false → byte_at m a ≡ 0
