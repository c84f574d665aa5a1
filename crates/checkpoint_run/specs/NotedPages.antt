-- Derived: pages that were noted lately, so that they aren't looked up among all.
use Rattle.std.specs.Prelude.{◌≡◌, ℕ, true, List, Option, Some, None, slice_index_or}
use Rattle.mem_plain.specs.Contents.{has_page}

-- a page that is named at a place is among some
abbrev pub AreNoted : List (Option ℕ) → List ℕ → Type 0
AreNoted recent pages = (k p : ℕ) → slice_index_or recent k None ≡ Some p → has_page pages p ≡ true
