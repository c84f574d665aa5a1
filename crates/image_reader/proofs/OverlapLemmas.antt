-- Loads that share an address: how many have it, and who shares one where they stand in order.
use Rattle.std.proofs.Common.{◌≡◌, ◌⊎◌, ℕ, zero, suc, ◌+◌, ◌<◌, ◌≤◌, ◌||◌, List, [], ◌∷◌, length, drop, get_or, ◌↔◌, cond, Bool, true, false, not, filter, refl, sym, ap, ◌∙◌, ⊎_elim, arith}
use Rattle.std.proofs.lemmas.Bool.{cases_Bool, false≢true}
use Rattle.std.proofs.lemmas.Bool.Decides.{nat_tests}
use Rattle.std.proofs.lemmas.List.{get_or-drop, drop_more, length-drop}
use Rattle.std.proofs.lemmas.List.Folds.{list_any_none}
use Rattle.std.proofs.lemmas.List.Sorted.{sum_by-IsPermutation, list_any-IsPermutation}
use Rattle.std.proofs.lemmas.List.Recursion.{is_count_by}
use Rattle.std.proofs.lemmas.List.Elements.{All-from_get_or}
use Rattle.std.specs.List.{list_any, count_by}
use Rattle.std.specs.List.Sorted.{IsPermutation, IsNonDecreasingBy}
use Rattle.image_reader.specs.declared.header.ProgramHeader.{ProgramHeader}
use Rattle.image_reader.proofs.LoadsLemmas.{none_at}
use Rattle.image_reader.specs.Elf.{occupies, share, some_share, has_no_bytes, has_larger_file, covers, byte_of_load, byte_of_loads}

-- how many of the loads have an address
abbrev pub count : ℕ → List ProgramHeader → ℕ
count a [] = 0
count a (x ∷ loads) = cond (occupies x a) (1 + count a loads) (count a loads)

-- the same, by std's word
pub count_by-count : (a : ℕ) (loads : List ProgramHeader) → count a loads ≡ count_by (λ load. occupies load a) loads
count_by-count a loads = is_count_by (count a) (λ load. occupies load a) refl (λ x xs. refl) loads

-- the filled loads
abbrev pub filled : List ProgramHeader → List ProgramHeader
filled loads = filter (λ load. not (has_no_bytes load)) loads

-- two that don't share an address don't both have it
not_both : (x y : ProgramHeader) (a : ℕ) → share x y ≡ false → occupies x a ≡ true → occupies y a ≡ false
not_both x y a apart has = grind (arith, nat_tests)

-- two that share one have the first address of one of them
both : (x y : ProgramHeader) → share x y ≡ true
    → ((occupies x x.p_vaddr ≡ true) × (occupies y x.p_vaddr ≡ true)) ⊎ ((occupies x y.p_vaddr ≡ true) × (occupies y y.p_vaddr ≡ true))
both x y shared = grind (arith, nat_tests)

-- none of these has an address of x, where x shares none with any of them
none_has : (x : ProgramHeader) (a : ℕ) (loads : List ProgramHeader) → occupies x a ≡ true → list_any (share x) loads ≡ false → count a loads ≡ 0
none_has x a [] has apart = refl
none_has x a (y ∷ loads) has apart = ⊎_elim
    (λ shared. absurd (false≢true (sym apart ∙ rw shared refl)))
    (λ alone. rw (not_both x y a alone has) (none_has x a loads has (sym (ap (λ t. t || list_any (share x) loads) alone) ∙ apart)))
    (cases_Bool (share x y))

-- where no two share an address, none is in two
pub alone_from_apart : (loads : List ProgramHeader) → some_share loads ≡ false → (a : ℕ) → count a loads ≤ 1
alone_from_apart [] apart a = omega arith
alone_from_apart (x ∷ loads) apart a = ⊎_elim
    (λ shared. absurd (false≢true (sym apart ∙ rw shared refl)))
    (λ (alone : list_any (share x) loads ≡ false). ⊎_elim
    (λ has. rw has (omega (arith, none_has x a loads has alone)))
    (λ misses. rw misses (omega (arith, alone_from_apart loads (sym (ap (λ t. t || some_share loads) alone) ∙ apart) a)))
    (cases_Bool (occupies x a)))
    (cases_Bool (list_any (share x) loads))

-- x shares no address with any of these, where none is in two of them and x
shares_none : (x : ProgramHeader) (loads : List ProgramHeader) → ((a : ℕ) → count a (x ∷ loads) ≤ 1) → list_any (share x) loads ≡ false
shares_none x [] once = refl
shares_none x (y ∷ loads) once = ⊎_elim
    (λ shared. absurd (⊎_elim
    (λ h. two x.p_vaddr h.0 h.1)
    (λ h. two y.p_vaddr h.0 h.1)
    (both x y shared)))
    (λ alone. rw alone (shares_none x loads (λ a. fewer a (once a))))
    (cases_Bool (share x y))
  where
    two : (a : ℕ) → occupies x a ≡ true → occupies y a ≡ true → ⊥
    two a in_x in_y = let many = rw (in_x, in_y) at (once a) in omega arith

    fewer : (a : ℕ) → count a (x ∷ y ∷ loads) ≤ 1 → count a (x ∷ loads) ≤ 1
    fewer a h = by_tests (occupies x a) (occupies y a) (count a loads) h
      where
        by_tests : (s t : Bool) (n : ℕ) → cond s (1 + cond t (1 + n) n) (cond t (1 + n) n) ≤ 1 → cond s (1 + n) n ≤ 1
        by_tests s t n h = grind (arith, nat_tests)

-- where no address is in two, no two share one
pub apart_from_alone : (loads : List ProgramHeader) → ((a : ℕ) → count a loads ≤ 1) → some_share loads ≡ false
apart_from_alone [] once = refl
apart_from_alone (x ∷ loads) once =
    rw (shares_none x loads once) (apart_from_alone loads (λ a. fewer (occupies x a) (count a loads) (once a)))
  where
    fewer : (t : Bool) (n : ℕ) → cond t (1 + n) n ≤ 1 → n ≤ 1
    fewer t n h = grind (arith, nat_tests)

-- loads that have each address as often share one alike
same_shares : (xs ys : List ProgramHeader) → ((a : ℕ) → count a xs ≡ count a ys) → some_share xs ≡ some_share ys
same_shares xs ys same = ⊎_elim
    (λ yes. ⊎_elim (λ also. yes ∙ sym also) (λ no. absurd (false≢true (sym (apart_from_alone xs (λ a. let h = alone_from_apart ys no a in let s = same a in omega arith)) ∙ yes))) (cases_Bool (some_share ys)))
    (λ no. no ∙ sym (apart_from_alone ys (λ a. let h = alone_from_apart xs no a in let s = same a in omega arith)))
    (cases_Bool (some_share xs))

-- an empty load has no address
no_address : (x : ProgramHeader) (a : ℕ) → has_no_bytes x ≡ true → occupies x a ≡ false
no_address x a empty = grind (arith, nat_tests)

count-filled : (a : ℕ) (loads : List ProgramHeader) → count a (filled loads) ≡ count a loads
count-filled a [] = refl
count-filled a (x ∷ loads) = kept (count-filled a loads) (has_no_bytes x) refl
  where
    kept : count a (filled loads) ≡ count a loads → (t : Bool) → has_no_bytes x ≡ t → count a (cond (not t) (x ∷ filled loads) (filled loads)) ≡ count a (x ∷ loads)
    kept rest true empty = let none : occupies x a ≡ false = no_address x a empty in rw none rest
    kept rest false full = ap (λ n. cond (occupies x a) (1 + n) n) rest

none_empty : (loads : List ProgramHeader) → list_any has_no_bytes (filled loads) ≡ false
none_empty [] = refl
none_empty (x ∷ loads) = kept (none_empty loads) (has_no_bytes x) refl
  where
    kept : list_any has_no_bytes (filled loads) ≡ false → (t : Bool) → has_no_bytes x ≡ t → list_any has_no_bytes (cond (not t) (x ∷ filled loads) (filled loads)) ≡ false
    kept rest true empty = rest
    kept rest false full = ap (λ t. t || list_any has_no_bytes (filled loads)) full ∙ rest

-- the filled loads, in another order, share an address where the loads do
pub share-in_order : (loads segments : List ProgramHeader) → IsPermutation (filled loads) segments → some_share segments ≡ some_share loads
share-in_order loads segments moved = same_shares segments loads alike
  where
    alike : (a : ℕ) → count a segments ≡ count a loads
    alike a =
        count_by-count a segments
        ∙ (sum_by-IsPermutation (λ load. cond (occupies load a) 1 0) (filled loads) segments moved
        ∙ (sym (count_by-count a (filled loads)) ∙ count-filled a loads))

-- none of the filled loads is empty, in any order
pub filled-in_order : (loads segments : List ProgramHeader) → IsPermutation (filled loads) segments → list_any has_no_bytes segments ≡ false
filled-in_order loads segments moved = sym (list_any-IsPermutation has_no_bytes _ segments moved) ∙ none_empty loads

-- one that ends before the next begins shares no address with any behind it
pub next_alone : (loads : List ProgramHeader) (k : ℕ) (d : ProgramHeader) → IsNonDecreasingBy (λ load. load.p_vaddr) loads → k < length loads
    → (k + 1 < length loads → (get_or loads k d).p_vaddr + (get_or loads k d).p_memsz ≤ (get_or loads (k + 1) d).p_vaddr)
    → some_share (drop (k + 1) loads) ≡ some_share (drop k loads)
next_alone loads k d rising within before =
    sym (ap some_share (drop_more loads k d within) ∙ ap (λ t. t || some_share (drop (k + 1) loads)) (list_any_none (share (get_or loads k d)) (drop (k + 1) loads) (All-from_get_or (λ z. share (get_or loads k d) z ≡ false) (drop (k + 1) loads) d behind)))
  where
    apart : (x y z : ProgramHeader) → x.p_vaddr + x.p_memsz ≤ y.p_vaddr → x.p_vaddr ≤ y.p_vaddr → y.p_vaddr ≤ z.p_vaddr → share x z ≡ false
    apart x y z ends first later = grind (arith, nat_tests)

    behind : (j : ℕ) → j < length (drop (k + 1) loads) → share (get_or loads k d) (get_or (drop (k + 1) loads) j d) ≡ false
    behind j below =
        let there : k + 1 + j < length loads = omega (arith, length-drop (k + 1) loads) in
        rw get_or-drop (apart (get_or loads k d) (get_or loads (k + 1) d) (get_or loads (k + 1 + j) d) (before (omega arith)) (rising k (k + 1) d (omega arith) (omega arith)) (rising (k + 1) (k + 1 + j) d (omega arith) there))

-- no two share an address if and only if none is in two
pub apart-alone : (loads : List ProgramHeader) → (some_share loads ≡ false) ↔ ((a : ℕ) → count_by (λ load. occupies load a) loads ≤ 1)
apart-alone loads = (
  λ apart a. (let n = alone_from_apart loads apart a in let same = count_by-count a loads in omega arith),
  λ once. apart_from_alone loads (λ a. let n = once a in let same = count_by-count a loads in omega arith),
)

neither : (s t : Bool) → (s || t) ≡ false → (s ≡ false) × (t ≡ false)
neither true t h = absurd (false≢true (sym h))
neither false t h = (refl, h)

-- one that shares no address with a load doesn't cover what the load covers
not_covered : (x y : ProgramHeader) (a : ℕ) → has_larger_file x ≡ false → has_larger_file y ≡ false → share x y ≡ false → covers y a ≡ true → covers x a ≡ false
not_covered x y a x_smaller y_smaller apart covered = grind (arith, nat_tests)

-- of loads that share no address, the bytes at an address are those of whichever load covers it
pub byte_of-whichever : (file : List ℕ) (loads : List ProgramHeader) (a i : ℕ) (d : ProgramHeader) → list_any has_larger_file loads ≡ false → some_share loads ≡ false → i < length loads → covers (get_or loads i d) a ≡ true
    → byte_of_loads file loads a ≡ byte_of_load file (get_or loads i d) a
byte_of-whichever file [] a i d smaller apart within covered = absurd (omega arith)
byte_of-whichever file (x ∷ loads) a zero d smaller apart within covered = rw covered refl
byte_of-whichever file (x ∷ loads) a (suc i) d smaller apart within covered =
    let below : i < length loads = omega arith in
    let small = neither (has_larger_file x) (list_any has_larger_file loads) smaller in
    let alone = neither (list_any (share x) loads) (some_share loads) apart in
    let misses = not_covered x (get_or loads i d) a small.0 (none_at has_larger_file loads i d below small.1) (none_at (share x) loads i d below alone.0) covered in
    rw misses (byte_of-whichever file loads a i d small.1 alone.1 below covered)
