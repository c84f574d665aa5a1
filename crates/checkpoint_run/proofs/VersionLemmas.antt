-- Versions of pages, and the memory that they stand for.
use Rattle.std.proofs.Common.{◌≡◌, ◌≢◌, ℕ, ◌+◌, ◌*◌, ◌/◌, ◌%◌, ◌^◌, ◌<◌, ◌≤◌, List, [], ◌∷◌, ◌++◌, length, slice_index, Some, eqb, cond, true, false, true≢false, ◌||◌, refl, sym, ap, subst, ◌∙◌, ⊎_elim, arith, reverse}
use Rattle.std.proofs.lemmas.Bool.{cases_eq, cases_lt, eq-eqb, ne_eqb, or_right}
use Rattle.std.proofs.lemmas.Bool.Decides.{nat_tests}
use Rattle.std.proofs.lemmas.List.{reverse-append, append_assoc, map-append, length-map, length-append}
use Rattle.std.specs.Ordering.{nat_cmp}
use Rattle.std.specs.BTreeMap.{is_at}
use Rattle.mem_plain.specs.Contents.{Contents, byte_at, IsUsed, contents_with, has_page}
use Rattle.mem_plain.specs.Memory.{IsMemory}
use Rattle.mem_plain.specs.Pages.{byte_of}
use Rattle.checkpoint_run.specs.Versions.{first_of, byte_by, pictured, pages_of, AreBelow, IsShownBut}
use Rattle.checkpoint_run.specs.declared.version.Version.{Version}

pub is_at-eqb : (key x : ℕ) → is_at (nat_cmp key) x ≡ eqb x key
is_at-eqb key x = grind (arith, nat_tests)

-- the first of some pages is among them, and so is one of the others
pub among_first : (page : ℕ) (rest : List ℕ) → has_page (page ∷ rest) page ≡ true
among_first page rest = ap (λ b. b || has_page rest page) (is_at-eqb page page ∙ eq-eqb page page refl)

pub among_rest : (page : ℕ) (rest : List ℕ) (p : ℕ) → has_page rest p ≡ true → has_page (page ∷ rest) p ≡ true
among_rest page rest p is = or_right (is_at (nat_cmp p) page) (has_page rest p) is

pub among_other : (page : ℕ) (rest : List ℕ) (p : ℕ) → p ≢ page → has_page rest p ≡ false → has_page (page ∷ rest) p ≡ false
among_other page rest p apart none = ap (λ b. b || has_page rest p) (is_at-eqb p page ∙ ne_eqb page p (λ same. apart (sym same))) ∙ none

-- a page is added to some
abbrev pub IsAddedTo : ℕ → List ℕ → List ℕ → Type 0
IsAddedTo page old new = (q : ℕ) → has_page new q ≡ cond (is_at (nat_cmp page) q) true (has_page old q)

module _ (page : ℕ) (old new : List ℕ) (adds : IsAddedTo page old new) where
  pub added_here : has_page new page ≡ true
  added_here = adds page ∙ ap (λ b. cond b true (has_page old page)) (is_at-eqb page page ∙ eq-eqb page page refl)

  pub added_elsewhere : (q : ℕ) → q ≢ page → has_page new q ≡ has_page old q
  added_elsewhere q other = adds q ∙ ap (λ b. cond b true (has_page old q)) (is_at-eqb page q ∙ ne_eqb q page other)

  pub added_kept : (q : ℕ) → has_page old q ≡ true → has_page new q ≡ true
  added_kept q there = ⊎_elim (λ same. ap (has_page new) same ∙ added_here) (λ other. added_elsewhere q other ∙ there) (cases_eq q page)

  pub added_below : page < 2 ^ 20 → AreBelow old → AreBelow new
  added_below small below q there = ⊎_elim (λ same. subst (λ n. n < 2 ^ 20) (sym same) small) (λ other. below q (sym (added_elsewhere q other) ∙ there)) (cases_eq q page)

  -- the used pages below a number, and the next one
  pub used_more : (m : Contents) (from : ℕ) → ((p : ℕ) → p < from → IsUsed m p → has_page old p ≡ true) → ((p : ℕ) → from ≤ p → p < page → ¬ IsUsed m p)
      → (p : ℕ) → p < page + 1 → IsUsed m p → has_page new p ≡ true
  used_more m from done none p low used = ⊎_elim
      (λ before. added_kept p (done p before used))
      (λ after. ⊎_elim
      (λ between. absurd (none p after between used))
      (λ past. ap (has_page new) (omega arith) ∙ added_here)
      (cases_lt p page))
      (cases_lt p from)

  -- pages that are used, and one more
  pub used_only : (m : Contents) → ((p : ℕ) → has_page old p ≡ true → IsUsed m p) → IsUsed m page → (p : ℕ) → has_page new p ≡ true → IsUsed m p
  used_only m only here p there = ⊎_elim (λ same. subst (IsUsed m) (sym same) here) (λ other. only p (sym (added_elsewhere p other) ∙ there)) (cases_eq p page)

-- the bytes of a version that is added
module _ (versions : List Version) (v : Version) (a : ℕ) where
  added_first : reverse (versions ++ v ∷ []) ≡ v ∷ reverse versions
  added_first = reverse-append versions (v ∷ [])

  pub byte_added : a / 4096 ≡ v.page → byte_by (versions ++ v ∷ []) a ≡ slice_index v.bytes.bytes.items (a % 4096)
  byte_added same =
      ap (λ vs. byte_of (first_of vs (a / 4096)) (a % 4096)) added_first
      ∙ ap (λ b. byte_of (cond b (Some v.bytes) (first_of (reverse versions) (a / 4096))) (a % 4096)) (eq-eqb v.page (a / 4096) (sym same))

  pub byte_kept : a / 4096 ≢ v.page → byte_by (versions ++ v ∷ []) a ≡ byte_by versions a
  byte_kept other =
      ap (λ vs. byte_of (first_of vs (a / 4096)) (a % 4096)) added_first
      ∙ ap (λ b. byte_of (cond b (Some v.bytes) (first_of (reverse versions) (a / 4096))) (a % 4096)) (ne_eqb v.page (a / 4096) (λ same. other (sym same)))

-- a version of the first changed page is added
shown_more : (versions : List Version) (v : Version) (rest : List ℕ) (m : Contents)
    → ((at : ℕ) → at < 4096 → slice_index v.bytes.bytes.items at ≡ byte_at m (v.page * 4096 + at))
    → IsShownBut versions (v.page ∷ rest) m → IsShownBut (versions ++ v ∷ []) rest m
shown_more versions v rest m is shown a below none = ⊎_elim
    (λ same. ap (byte_at m) (omega (arith, same)) ∙ (sym (is (a % 4096) (omega arith)) ∙ sym (byte_added versions v a same)))
    (λ other. shown a below (among_other v.page rest (a / 4096) other none) ∙ sym (byte_kept versions v a other))
    (cases_eq (a / 4096) v.page)

pub shown_pushed : (versions new : List Version) (v : Version) (rest : List ℕ) (m : Contents) → new ≡ versions ++ v ∷ []
    → ((at : ℕ) → at < 4096 → slice_index v.bytes.bytes.items at ≡ byte_at m (v.page * 4096 + at))
    → IsShownBut versions (v.page ∷ rest) m → IsShownBut new rest m
shown_pushed versions new v rest m pushed is shown = subst (λ vs. IsShownBut vs rest m) (sym pushed) (shown_more versions v rest m is shown)

pub more_pushed : (first old new : List Version) (v : Version) → ((added : List Version) × (old ≡ first ++ added)) → new ≡ old ++ v ∷ [] → (added : List Version) × (new ≡ first ++ added)
more_pushed first old new v more pushed = (more.0 ++ v ∷ [], pushed ∙ (ap (λ vs. vs ++ v ∷ []) more.1 ∙ append_assoc first more.0 (v ∷ [])))

-- a version of the first of some pages is added
pub pages_pushed : (old new : List Version) (v : Version) (left rest all : List ℕ) → new ≡ old ++ v ∷ [] → left ≡ v.page ∷ rest → pages_of old ++ left ≡ all → pages_of new ++ rest ≡ all
pages_pushed old new v left rest all pushed steps before =
    ap (λ vs. pages_of vs ++ rest) pushed
    ∙ (ap (λ ps. ps ++ rest) (map-append (λ (v : Version). v.page) old (v ∷ []))
    ∙ (append_assoc (pages_of old) (v.page ∷ []) rest
    ∙ (ap (λ ps. pages_of old ++ ps) (sym steps) ∙ before)))

-- how many versions there are once one of each page was added
pub length_added : (old new : List Version) (pages : List ℕ) → pages_of new ≡ pages_of old ++ pages → length new ≡ length old + length pages
length_added old new pages one =
    sym (length-map new (λ (v : Version). v.page))
    ∙ (ap length one
    ∙ (length-append (pages_of old) pages
    ∙ ap (λ n. n + length pages) (length-map old (λ (v : Version). v.page))))

-- versions that show each byte stand for the memory
pub pictured_memory : (versions : List Version) (m : Contents) → ((f g : ℕ → ℕ) → ((q : ℕ) → q < 2 ^ 32 → f q ≡ g q) → contents_with f ≡ contents_with g)
    → IsMemory m → IsShownBut versions [] m → pictured versions ≡ m
unfolding pictured
pictured_memory versions m alike memory shown = alike (byte_by versions) (byte_at m) (λ q below. sym (shown q below refl)) ∙ memory.whole

-- a page that is not among the used ones has no byte other than 0
pub shown_unused : (pages : List ℕ) (m : Contents) → ((p : ℕ) → IsUsed m p → has_page pages p ≡ true) → IsShownBut [] pages m
shown_unused pages m used a below none = ⊎_elim
    (λ zeros. zeros)
    (λ some. absurd (true≢false (sym (used (a / 4096) (a, refl, some)) ∙ none)))
    (cases_eq (byte_at m a) 0)
