-- Derived, a part of the view of `Run`: the memory that versions of pages stand for, of which the last one of a page counts.
use Rattle.std.specs.Prelude.{◌≡◌, ℕ, ◌/◌, ◌%◌, ◌^◌, ◌<◌, ◌==◌, true, false, List, [], ◌∷◌, map, reverse, Option, Some, None, if◌then◌else◌}
use Rattle.mem_plain.specs.Contents.{Contents, contents_with, byte_at, has_page}
use Rattle.mem_plain.specs.Pages.{byte_of}
use Rattle.mem_plain.specs.declared.page.Page.{Page}
use Rattle.checkpoint_run.specs.declared.version.Version.{Version}

-- the first version of a page
abbrev pub first_of : List Version → ℕ → Option Page
first_of [] page = None
first_of (v ∷ rest) page = if v.page == page then Some v.bytes else first_of rest page

-- the byte at an address, by the last version of its page
abbrev pub byte_by : List Version → ℕ → ℕ
byte_by versions a = byte_of (first_of (reverse versions) (a / 4096)) (a % 4096)

-- the memory
unfoldable pub pictured : List Version → Contents
pictured versions = contents_with (byte_by versions)

-- the pages of versions, in their order
abbrev pub pages_of : List Version → List ℕ
pages_of versions = map (λ v. v.page) versions

-- each of some pages is one of the 2^20
abbrev pub AreBelow : List ℕ → Type 0
AreBelow pages = (page : ℕ) → has_page pages page ≡ true → page < 2 ^ 20

-- the versions stand for a memory, but for some pages
abbrev pub IsShownBut : List Version → List ℕ → Contents → Type 0
IsShownBut versions changed m = (a : ℕ) → a < 2 ^ 32 → has_page changed (a / 4096) ≡ false → byte_at m a ≡ byte_by versions a
