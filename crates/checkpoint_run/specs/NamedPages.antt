-- To believe: which pages are named by a list that may name one at each place.
use Rattle.std.specs.Prelude.{◌≡◌, ◌⊎◌, ℕ, ◌^◌, ◌<◌, List, [], ◌∷◌, Option, Some, None}

-- a page is one of those that are named
abbrev pub IsNamed : ℕ → List (Option ℕ) → Type 0
IsNamed page [] = ⊥
IsNamed page (None ∷ rest) = IsNamed page rest
IsNamed page (Some p ∷ rest) = (p ≡ page) ⊎ IsNamed page rest

-- each page that is named is one of the 2^20
abbrev pub ArePages : List (Option ℕ) → Type 0
ArePages pages = (page : ℕ) → IsNamed page pages → page < 2 ^ 20
