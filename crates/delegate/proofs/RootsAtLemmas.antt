-- Steps in ascending order, and the roots that stand beside them.
use Rattle.std.proofs.Common.{◌≡◌, ℕ, ◌<◌, ◌≤◌, List, map, get_or, slice_index_or, Result, Ok, Err, IsOk, IsSorted, IsPermutation, All, Contains, refl, ap, subst, ◌∙◌, arith}
use Rattle.std.proofs.Math.Logic.{⊎_elim}
use Rattle.std.specs.List.Sorted.{IsBinarySearchResult}
use Rattle.std.specs.Ordering.{nat_cmp}
use Rattle.std.proofs.lemmas.Bool.{cases_order}
use Rattle.std.proofs.lemmas.List.{get_or-map, get_or_default}
use Rattle.std.proofs.lemmas.List.Sorted.{searched, All-permutation, IsPermutation-sym, IsNonDecreasingBy-from_sort}
use Rattle.std.proofs.lemmas.List.Elements.{All-contains_itself}
use Rattle.rd_base.specs.declared.digest.Digest32.{Digest32}
use Rattle.delegate.specs.Standing.{IsAscending}

-- a search for a step that is there

pub found : (xs : List ℕ) (x : ℕ) (r : Result ℕ ℕ) → IsBinarySearchResult (λ y. nat_cmp y x) xs r → IsAscending xs → Contains xs x → IsOk r
found xs x (Ok i) searched_ up there = refl
found xs x (Err i) searched_ up there =
    let apart = searched xs x (Err i) searched_ up in
    let at : get_or xs there.0 0 ≡ x = get_or_default xs there.0 0 x there.1 ∙ there.2 in
    let above : i ≤ there.0 → ⊥ = λ le. omega (arith, apart.2 there.0 le there.1, at) in
    let below : there.0 < i → ⊥ = λ lt. omega (arith, apart.1 there.0 lt, at) in
    absurd (⊎_elim (λ (e : there.0 ≡ i). above (omega (arith, e))) (⊎_elim below (λ (lt : i < there.0). above (omega (arith, lt)))) (cases_order there.0 i))

pub beside : (root : ℕ → Digest32) (xs : List ℕ) (roots : List Digest32) (x place : ℕ) (r : Result ℕ ℕ) (d : Digest32) → IsBinarySearchResult (λ y. nat_cmp y x) xs r → IsAscending xs
    → r ≡ Ok place → roots ≡ map root xs → slice_index_or roots place d ≡ root x
beside root xs roots x place r d searched_ up is beside_ =
    let at = searched xs x (Ok place) (subst (λ (o : Result ℕ ℕ). IsBinarySearchResult (λ y. nat_cmp y x) xs o) is searched_) up in
    ap (λ (rs : List Digest32). slice_index_or rs place d) beside_ ∙ (get_or-map root xs place 0 d at.0 ∙ ap root at.1)

-- steps sorted

pub ascending : (xs : List ℕ) → IsSorted nat_cmp xs → IsAscending xs
ascending xs sorted i j le low = IsNonDecreasingBy-from_sort (λ x. x) xs sorted i j 0 le low

pub all-there : (xs sorted : List ℕ) → IsPermutation xs sorted → All (Contains sorted) xs
all-there xs sorted moved = All-permutation (Contains sorted) sorted xs (IsPermutation-sym xs sorted moved) (All-contains_itself sorted)
