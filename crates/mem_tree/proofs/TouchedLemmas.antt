-- Pages that are touched.
use Rattle.std.proofs.Common.{◌≡◌, ◌≢◌, ℕ, ◌+◌, ◌/◌, ◌<◌, ◌≤◌, List, true, false, true≢false, sym, ap, ◌∙◌, ⊎_elim, arith, Option, unwrap_or}
use Rattle.std.specs.Ordering.{nat_cmp}
use Rattle.std.specs.FinMap.{get-empty}
use Rattle.std.proofs.lemmas.Bool.{cases_eq, cases_lt}
use Rattle.mem_plain.specs.Contents.{Contents, byte_at, no_bytes, IsUsed, has_page}
use Rattle.mem_tree.specs.Tree.{SameBut}

-- what was touched stays so when a page is
pub still_touched : (page : ℕ) (old new : List ℕ) → has_page new page ≡ true → ((p : ℕ) → p ≢ page → has_page new p ≡ has_page old p) → (p : ℕ) → has_page old p ≡ true → has_page new p ≡ true
still_touched page old new here others p touched = ⊎_elim (λ same. ap (has_page new) same ∙ here) (λ other. others p other ∙ touched) (cases_eq p page)

-- used pages that are touched, and one more
pub used_more : (page : ℕ) (old new : List ℕ) → has_page new page ≡ true → ((p : ℕ) → has_page old p ≡ true → has_page new p ≡ true)
    → (m : Contents) (from : ℕ) → ((p : ℕ) → p < from → IsUsed m p → has_page old p ≡ true) → ((p : ℕ) → from ≤ p → p < page → ¬ IsUsed m p)
    → (p : ℕ) → p < page + 1 → IsUsed m p → has_page new p ≡ true
used_more page old new here more m from done none p low used = ⊎_elim
    (λ before. more p (done p before used))
    (λ after. ⊎_elim
    (λ between. absurd (none p after between used))
    (λ past. ap (has_page new) (omega arith) ∙ here)
    (cases_lt p page))
    (cases_lt p from)

-- the bytes of a page that isn't in use
pub unused_zero : (pages : List ℕ) (m : Contents) → ((p : ℕ) → IsUsed m p → has_page pages p ≡ true) → (p : ℕ) → has_page pages p ≡ false → (a : ℕ) → a / 4096 ≡ p → byte_at m a ≡ 0
unused_zero pages m used p none a at = ⊎_elim
    (λ zero. zero)
    (λ some. absurd (true≢false (sym (used p (a, at, some)) ∙ none)))
    (cases_eq (byte_at m a) 0)

-- two memories are the same but for the pages that one of them has in use
pub same_unused : (pages : List ℕ) (m n : Contents) → ((p : ℕ) → IsUsed m p → has_page pages p ≡ true) → ((p : ℕ) → IsUsed n p → has_page pages p ≡ true) → SameBut pages m n
same_unused pages m n used_m used_n p none a at = unused_zero pages m used_m p none a at ∙ sym (unused_zero pages n used_n p none a at)

-- no page is used if every byte is 0
pub none_used : (p : ℕ) → IsUsed no_bytes p → ⊥
none_used p used = used.2 (ap (λ (o : Option ℕ). unwrap_or o 0) (get-empty nat_cmp used.0))
