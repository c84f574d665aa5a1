-- Pages by their tables.
use Rattle.std.proofs.Common.{◌≡◌, ◌≢◌, ℕ, zero, suc, ◌+◌, ◌*◌, ◌/◌, ◌%◌, List, [], ◌∷◌, ◌++◌, Option, Some, None, replicate, set, slice_index_or, is_some, false, true≢false, refl, sym, ap, ◌∙◌, ⊎_elim, arith, subst, length, ◌<◌, ◌≤◌, get_or-set_same, get_or-set_other}
use Rattle.std.specs.List.{AllZip}
use Rattle.std.proofs.Math.ListN.{length-set}
use Rattle.std.proofs.lemmas.Bool.{cases_eq}
use Rattle.mem_plain.specs.declared.page.Page.{Page}
use Rattle.mem_plain.specs.declared.table.Table.{Table}
use Rattle.mem_plain.specs.Pages.{page_of, page_in}

none_there : (n i : ℕ) → slice_index_or (replicate {A = Option Page} n None) i None ≡ None
none_there zero i = refl
none_there (suc n) zero = refl
none_there (suc n) (suc i) = none_there n i

-- a table that is made for one page has no other
pub made_elsewhere : (tables : List (Option Table)) (old : Option Table) (table : Table) (number : ℕ) (page : Page) → number / 1024 < length tables
    → slice_index_or tables (number / 1024) None ≡ None → table.pages.items ≡ set (replicate {A = Option Page} 1024 None) (number % 1024) (Some page)
    → (q : ℕ) → q ≢ number → page_in (set (set tables (number / 1024) old) (number / 1024) (Some table)) q ≡ page_in tables q
made_elsewhere tables old table number page fits none is q apart = ⊎_elim
    (λ same.
    let low : q % 1024 ≢ number % 1024 = λ e. apart (omega arith) in
    ap (λ h. page_of (slice_index_or (set (set tables (number / 1024) old) (number / 1024) (Some table)) h None) (q % 1024)) same
    ∙ (ap (λ o. page_of o (q % 1024)) (get_or-set_same (set tables (number / 1024) old) (number / 1024) (Some table) None (subst (λ n. number / 1024 < n) (sym (length-set tables (number / 1024) old)) fits))
    ∙ (ap (λ ps. slice_index_or ps (q % 1024) None) is
    ∙ (get_or-set_other (replicate {A = Option Page} 1024 None) (number % 1024) (q % 1024) (Some page) None low
    ∙ (none_there 1024 (q % 1024)
    ∙ sym (ap (λ h. page_of (slice_index_or tables h None) (q % 1024)) same ∙ ap (λ o. page_of o (q % 1024)) none))))))
    (λ other.
    ap (λ o. page_of o (q % 1024)) (get_or-set_other (set tables (number / 1024) old) (number / 1024) (q / 1024) (Some table) None other
    ∙ get_or-set_other tables (number / 1024) (q / 1024) old None other))
    (cases_eq (q / 1024) (number / 1024))

place_added : (tables : List (Option Table)) (h : ℕ) → slice_index_or (tables ++ None ∷ []) h None ≡ slice_index_or tables h None
place_added [] zero = refl
place_added [] (suc h) = refl
place_added (t ∷ tables) zero = refl
place_added (t ∷ tables) (suc h) = place_added tables h

-- one more place for a table
pub places_added : (tables : List (Option Table)) (q : ℕ) → page_in (tables ++ None ∷ []) q ≡ page_in tables q
places_added tables q = ap (λ o. page_of o (q % 1024)) (place_added tables (q / 1024))

-- where a table isn't there, none of its pages is kept
pub untabled : (tables : List (Option Table)) (number q : ℕ) → is_some (slice_index_or tables (number / 1024) None) ≡ false → number ≤ q → q < (number / 1024 + 1) * 1024 → page_in tables q ≡ None
untabled tables number q none after before =
    let same : q / 1024 ≡ number / 1024 = omega arith in
    ap (λ h. page_of (slice_index_or tables h None) (q % 1024)) same ∙ no_page (slice_index_or tables (number / 1024) None) (q % 1024) none
  where
    no_page : (o : Option Table) (low : ℕ) → is_some o ≡ false → page_of o low ≡ None
    no_page (Some table) low none = absurd (true≢false none)
    no_page None low none = refl

-- what holds of the places of two lists by what holds of each pair
pub zipped : {T : Type 0} (R K : Option T → Option T → Type 0) → ((p q : T) → R (Some p) (Some q) → K (Some p) (Some q)) → ((p : T) → R (Some p) None → ⊥) → ((q : T) → R None (Some q) → ⊥) → K None None
    → (xs ys : List (Option T)) → AllZip R xs ys → (i : ℕ) → K (slice_index_or xs i None) (slice_index_or ys i None)
zipped R K both first last neither [] [] all i = neither
zipped R K both first last neither (Some p ∷ xs) (Some q ∷ ys) all zero = both p q all.0
zipped R K both first last neither (Some p ∷ xs) (None ∷ ys) all zero = absurd (first p all.0)
zipped R K both first last neither (None ∷ xs) (Some q ∷ ys) all zero = absurd (last q all.0)
zipped R K both first last neither (None ∷ xs) (None ∷ ys) all zero = neither
zipped R K both first last neither (x ∷ xs) (y ∷ ys) all (suc i) = zipped R K both first last neither xs ys all.1 i
zipped R K both first last neither (x ∷ xs) [] all i = absurd all
zipped R K both first last neither [] (y ∷ ys) all i = absurd all
