-- Derived: what holds while the nodes above changed pages are renewed level by level.
use Rattle.std.specs.Prelude.{◌≡◌, ℕ, ◌+◌, ◌-◌, ◌*◌, ◌/◌, ◌^◌, ◌<◌, ◌≤◌, ◌||◌, ◌==◌, List, [], ◌∷◌, None, is_some, Bool, true, false, if◌then◌else◌}
use Rattle.mem_plain.specs.Contents.{has_page}
use Rattle.mem_tree.specs.Tree.{Kept, IsJoinedAbove, IsRoot, page_at, upper_at}

-- each root of a page is in its place, and each node above is the digest of the two below it, but for those over stale nodes of
-- level 7 + n
pub record IsJoinedFrom (digest : List ℕ → List ℕ) (t : Kept) (n : ℕ) (stale : List ℕ) : Type 0 where
  pub roots : (p : ℕ) → IsRoot (upper_at t 0 p) (page_at t p)
  pub above : (i k : ℕ) → i < 20 → ((q : ℕ) → n ≤ i → q / 2 ^ (i + 1 - n) ≡ k → has_page stale q ≡ false) → IsJoinedAbove digest t i k
  pub top : (i k : ℕ) → 20 < i → upper_at t i k ≡ None

-- one or none
abbrev pub as_number : Bool → ℕ
as_number true = 1
as_number false = 0

-- what holds while touched pages are renewed one by one: no root of a waiting page need be in its place, and over stale pages and waiting
-- ones no node need be joined
pub record IsJoinedOver (digest : List ℕ → List ℕ) (t : Kept) (stale waiting : List ℕ) : Type 0 where
  pub roots : (p : ℕ) → has_page waiting p ≡ false → IsRoot (upper_at t 0 p) (page_at t p)
  pub above : (i k : ℕ) → i < 20 → ((q : ℕ) → q / 2 ^ (i + 1) ≡ k → (has_page stale q ≡ false) × (has_page waiting q ≡ false)) → IsJoinedAbove digest t i k
  pub top : (i k : ℕ) → 20 < i → upper_at t i k ≡ None

-- a place after others, unless it is the last of them
abbrev pub others_before : List ℕ → ℕ → List ℕ
others_before [] k = k ∷ []
others_before (first ∷ []) k = if first == k then first ∷ [] else first ∷ k ∷ []
others_before (first ∷ next ∷ rest) k = first ∷ others_before (next ∷ rest) k

-- how many of the nodes at these places are kept once they are joined: those over a node of level 7 + n that is kept
abbrev pub joined_among : Kept → ℕ → List ℕ → ℕ
joined_among t n [] = 0
joined_among t n (k ∷ rest) = (if is_some (upper_at t n (2 * k)) || is_some (upper_at t n (2 * k + 1)) then 1 else 0) + joined_among t n rest
