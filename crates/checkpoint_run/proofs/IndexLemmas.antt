-- The places of the versions of each page.
use Rattle.std.proofs.Common.{◌≡◌, ◌≢◌, ℕ, zero, suc, ◌+◌, ◌-◌, ◌/◌, ◌%◌, ◌<◌, ◌≤◌, cond, eqb, ltb, ◌||◌, List, [], ◌∷◌, ◌++◌, length, map, take, reverse, unwrap_or, slice_index, slice_get, Option, Some, None, true, false, true≢false, refl, sym, ap, subst, ◌∙◌, ⊎_elim, arith}
use Rattle.std.proofs.lemmas.Bool.{cases_Bool, cases_eq, cases_lt, eq-eqb, ne_eqb, or_left, or_right}
use Rattle.std.specs.Ordering.{nat_cmp}
use Rattle.std.specs.Map.{lookup}
use Rattle.std.specs.BTreeMap.{is_at}
use Rattle.std.specs.declared.vec.Vec.{Vec}
use Rattle.std.specs.declared.alloc.Global.{Global}
use Rattle.mem_plain.specs.Contents.{Contents, byte_at, has_page}
use Rattle.mem_plain.specs.Pages.{byte_of}
use Rattle.mem_plain.specs.declared.page.Page.{Page}
use Rattle.std.proofs.lemmas.List.{length-append, map-append, reverse-append}
use Rattle.std.proofs.lemmas.List.Sorted.{IsNonDecreasingBy-from_default, IsPartitionedBy-ltb}
use Rattle.std.specs.List.Sorted.{IsPartitionedBy}
use Rattle.std.proofs.lemmas.Option.{none-some, same_Some}
use Rattle.checkpoint_run.specs.Versions.{first_of, pages_of, IsShownBut}
use Rattle.checkpoint_run.specs.Places.{items_of, places_at, ArePlaces, Ascend, IsIndex, HasNone, IsLastBelow, IsPut}
use Rattle.checkpoint_run.proofs.VersionLemmas.{is_at-eqb, among_first, among_other}
use Rattle.checkpoint_run.specs.declared.version.Version.{Version}

index_before : (xs ys : List ℕ) (i : ℕ) → i < length xs → slice_index (xs ++ ys) i ≡ slice_index xs i
index_before [] ys i below = absurd (omega arith)
index_before (x ∷ xs) ys zero below = refl
index_before (x ∷ xs) ys (suc i) below = index_before xs ys i (omega arith)

index_seam : (xs : List ℕ) (y : ℕ) → slice_index (xs ++ y ∷ []) (length xs) ≡ y
index_seam [] y = refl
index_seam (x ∷ xs) y = index_seam xs y

-- no place is indexed
pub no_places : (pages : List ℕ) (page : ℕ) → ArePlaces pages 0 page []
no_places pages page = record {
  sound = λ j below. absurd (omega arith);
  full = λ k below is. absurd (omega arith);
  ascend = λ i j less below. absurd (omega arith);
}

-- one place more, of the page that stands there
pub place_more : (pages : List ℕ) (n page : ℕ) (places : List ℕ) → slice_index pages n ≡ page → ArePlaces pages n page places → ArePlaces pages (n + 1) page (places ++ n ∷ [])
place_more pages n page places is are =
    let len = length-append places (n ∷ []) in
    let seam = index_seam places n in
    record {
      sound = λ j below. ⊎_elim
          (λ before. let same = index_before places (n ∷ []) j before in let old = are.sound j before in let low = old.0 in (omega arith, ap (slice_index pages) same ∙ old.1))
          (λ past. let last : j ≡ length places = omega arith in let same : slice_index (places ++ n ∷ []) j ≡ n = ap (slice_index (places ++ n ∷ [])) last ∙ seam in (omega arith, ap (slice_index pages) same ∙ is))
          (cases_lt j (length places));
      full = λ k below there. ⊎_elim
          (λ before. let old = are.full k before there in let low = old.1 in (old.0, omega arith, index_before places (n ∷ []) old.0 low ∙ old.2))
          (λ past. (length places, omega arith, seam ∙ omega arith))
          (cases_lt k n);
      ascend = λ i j less below. ⊎_elim
          (λ before. let low : i < length places = omega arith in subst (λ m. m < slice_index (places ++ n ∷ []) j) (sym (index_before places (n ∷ []) i low)) (subst (λ m. slice_index places i < m) (sym (index_before places (n ∷ []) j before)) (are.ascend i j less before)))
          (λ past. let last : j ≡ length places = omega arith in let low : i < length places = omega arith in
          let same : slice_index (places ++ n ∷ []) j ≡ n = ap (slice_index (places ++ n ∷ [])) last ∙ seam in
          let here = index_before places (n ∷ []) i low in let old = (are.sound i low).0 in omega arith)
          (cases_lt j (length places));
    }

-- or of another page
pub place_other : (pages : List ℕ) (n page : ℕ) (places : List ℕ) → slice_index pages n ≢ page → ArePlaces pages n page places → ArePlaces pages (n + 1) page places
place_other pages n page places other are = record {
  sound = λ j below. let old = are.sound j below in let low = old.0 in (omega arith, old.1);
  full = λ k below there. ⊎_elim
      (λ before. are.full k before there)
      (λ past. let last : k ≡ n = omega arith in absurd (other (ap (slice_index pages) (sym last) ∙ there)))
      (cases_lt k n);
  ascend = are.ascend;
}

-- those below a number are the first ones
pub parted : (places : List ℕ) (count : ℕ) → Ascend places → IsPartitionedBy (λ p. ltb p count) places
parted places count ascend = IsPartitionedBy-ltb (λ p. p) places count (IsNonDecreasingBy-from_default (λ p. p) places 0
    (λ i j order below. ⊎_elim
    (λ less. let risen = ascend i j less below in omega arith)
    (λ past. let same : i ≡ j = omega arith in let equal = ap (slice_index places) same in omega arith)
    (cases_lt i j)))

-- the last place below a number, by how many are below it
module _ (pages : List ℕ) (n page count : ℕ) (places : List ℕ) (are : ArePlaces pages n page places) (within : count ≤ n) (c : ℕ)
    (low : (k : ℕ) → k < c → slice_index places k < count) (high : (k : ℕ) → c ≤ k → k < length places → count ≤ slice_index places k) where
  pub none_below : c ≡ 0 → HasNone pages page count
  none_below none j below is =
      let found = are.full j (omega arith) is in
      let beyond = high found.0 (omega arith) found.1 in
      let same = found.2 in
      omega arith

  pub last_below : 0 < c → c ≤ length places → IsLastBelow pages page count (slice_index places (c - 1))
  last_below some most = record {
    below = low (c - 1) (omega arith);
    there = (are.sound (c - 1) (omega arith)).1;
    last = after;
  }
    where
      after : (j : ℕ) → slice_index places (c - 1) < j → j < count → slice_index pages j ≡ page → ⊥
      after j past below is =
          let found = are.full j (omega arith) is in
          let same = found.2 in
          ⊎_elim
          (λ before. ⊎_elim
          (λ less. let risen = are.ascend found.0 (c - 1) less (omega arith) in omega arith)
          (λ end. let last : found.0 ≡ c - 1 = omega arith in let here = ap (slice_index places) last in omega arith)
          (cases_lt found.0 (c - 1)))
          (λ late. let beyond = high found.0 late found.1 in omega arith)
          (cases_lt found.0 c)

-- and where a page has no place, there is none
pub no_last : (pages : List ℕ) (n page count : ℕ) → count ≤ n → ArePlaces pages n page [] → HasNone pages page count
no_last pages n page count within are j low same = let found = are.full j (omega arith) same in let place = found.1 in absurd (omega arith)

-- versions by their places
pub there : (vs : List Version) (k : ℕ) → k < length vs → (v : Version) × (slice_get vs k ≡ Some v)
there [] k below = absurd (omega arith)
there (v ∷ vs) zero below = (v, refl)
there (v ∷ vs) (suc k) below = there vs k (omega arith)

pub page_there : (vs : List Version) (k : ℕ) (v : Version) → slice_get vs k ≡ Some v → slice_index (pages_of vs) k ≡ v.page
page_there [] k v is = absurd (none-some v is)
page_there (x ∷ vs) zero v is = ap (λ (y : Version). y.page) (same_Some x v is)
page_there (x ∷ vs) (suc k) v is = page_there vs k v is

take_more : (vs : List Version) (k : ℕ) (v : Version) → slice_get vs k ≡ Some v → take (suc k) vs ≡ take k vs ++ v ∷ []
take_more [] k v is = absurd (none-some v is)
take_more (x ∷ vs) zero v is = ap (λ y. y ∷ []) (same_Some x v is)
take_more (x ∷ vs) (suc k) v is = ap (λ ys. x ∷ ys) (take_more vs k v is)

-- one version more at the end
first_more : (vs : List Version) (k page : ℕ) (v : Version) → slice_get vs k ≡ Some v → first_of (reverse (take (suc k) vs)) page ≡ first_of (v ∷ reverse (take k vs)) page
first_more vs k page v is = ap (λ xs. first_of (reverse xs) page) (take_more vs k v is) ∙ ap (λ xs. first_of xs page) (reverse-append (take k vs) (v ∷ []))

first_other : (vs : List Version) (k page : ℕ) → k < length vs → slice_index (pages_of vs) k ≢ page → first_of (reverse (take (suc k) vs)) page ≡ first_of (reverse (take k vs)) page
first_other vs k page below other =
    let x = there vs k below in
    first_more vs k page x.0 x.1 ∙ ap (λ b. cond b (Some x.0.bytes) (first_of (reverse (take k vs)) page)) (ne_eqb x.0.page page (λ same. other (page_there vs k x.0 x.1 ∙ same)))

-- the version that counts is the one at the last place
pub first_none : (vs : List Version) (page count : ℕ) → count ≤ length vs → HasNone (pages_of vs) page count → first_of (reverse (take count vs)) page ≡ None
first_none vs page zero within none = refl
first_none vs page (suc m) within none = first_other vs m page (omega arith) (none m (omega arith)) ∙ first_none vs page m (omega arith) (λ j below. none j (omega arith))

pub first_last : (vs : List Version) (page count k : ℕ) (v : Version) → count ≤ length vs → IsLastBelow (pages_of vs) page count k → slice_get vs k ≡ Some v → first_of (reverse (take count vs)) page ≡ Some v.bytes
first_last vs page zero k v within last is = let below = last.below in absurd (omega arith)
first_last vs page (suc m) k v within last is =
    let below = last.below in
    ⊎_elim
    (λ (same : k ≡ m).
    let here : slice_get vs m ≡ Some v = ap (slice_get vs) (sym same) ∙ is in
    first_more vs m page v here ∙ ap (λ b. cond b (Some v.bytes) (first_of (reverse (take m vs)) page)) (eq-eqb v.page page (sym (page_there vs k v is) ∙ last.there)))
    (λ other.
    let less : k < m = omega arith in
    first_other vs m page (omega arith) (last.last m less (omega arith))
    ∙ first_last vs page m k v (omega arith) (record { below = less; there = last.there; last = λ j past low. last.last j past (omega arith) }) is)
    (cases_eq k m)

-- the places that are kept, or no places
pub items_or : (kept : Option (Vec ℕ Global)) (none : Vec ℕ Global) → none.items ≡ [] → (unwrap_or kept none).items ≡ items_of kept
items_or (Some places) none empty = refl
items_or None none empty = empty

-- an index with one place more
module _ (old new : List (ℕ × Vec ℕ Global)) (pages : List ℕ) (page place : ℕ) (v : Vec ℕ Global)
    (updates : (q : ℕ) → lookup (is_at (nat_cmp q)) new ≡ cond (is_at (nat_cmp page) q) (Some v) (lookup (is_at (nat_cmp q)) old)) where
  found_here : (q : ℕ) → q ≡ page → lookup (is_at (nat_cmp q)) new ≡ Some v
  found_here q same = updates q ∙ ap (λ b. cond b (Some v) (lookup (is_at (nat_cmp q)) old)) (is_at-eqb page q ∙ eq-eqb q page same)

  found_elsewhere : (q : ℕ) → q ≢ page → lookup (is_at (nat_cmp q)) new ≡ lookup (is_at (nat_cmp q)) old
  found_elsewhere q other = updates q ∙ ap (λ b. cond b (Some v) (lookup (is_at (nat_cmp q)) old)) (is_at-eqb page q ∙ ne_eqb q page other)

  pub index_more : slice_index pages place ≡ page → IsIndex old pages place → v.items ≡ places_at old page ++ place ∷ [] → IsIndex new pages (place + 1)
  index_more is index items q =
      let P : List ℕ → Type 0 = λ places. ArePlaces pages (place + 1) q places in
      ⊎_elim
      (λ (same : q ≡ page). subst P (sym (ap items_of (found_here q same) ∙ items))
      (let at : slice_index pages place ≡ q = is ∙ sym same in let was : ArePlaces pages place q (places_at old page) = subst (λ p. ArePlaces pages place q (places_at old p)) same (index q) in place_more pages place q (places_at old page) at was))
      (λ other. subst P (sym (ap items_of (found_elsewhere q other))) (place_other pages place q (places_at old q) (λ at. other (sym at ∙ is)) (index q)))
      (cases_eq q page)

-- no page was put into a memory
pub put_nothing : (taken : List Version) (m : Contents) → ((a : ℕ) → byte_at m a ≡ 0) → IsPut taken [] m
put_nothing taken m none = record {
  shown = λ a below there. absurd (true≢false (sym there));
  empty = λ a below absent. none a;
}

-- pages of which one more is put into a memory
among_end_here : (put : List ℕ) (page : ℕ) → has_page (put ++ page ∷ []) page ≡ true
among_end_here [] page = among_first page []
among_end_here (x ∷ put) page = or_right (is_at (nat_cmp page) x) (has_page (put ++ page ∷ []) page) (among_end_here put page)

among_end_other : (put : List ℕ) (page q : ℕ) → q ≢ page → has_page (put ++ page ∷ []) q ≡ has_page put q
among_end_other [] page q other = among_other page [] q other refl
among_end_other (x ∷ put) page q other = ap (λ b. is_at (nat_cmp q) x || b) (among_end_other put page q other)

module _ (taken : List Version) (put : List ℕ) (page : ℕ) where
  other_page : (q : ℕ) → has_page (put ++ page ∷ []) q ≡ false → q ≢ page
  other_page q none same = true≢false (sym (among_end_here put page) ∙ (ap (has_page (put ++ page ∷ [])) (sym same) ∙ none))

  pub put_none : (m : Contents) → first_of (reverse taken) page ≡ None → IsPut taken put m → IsPut taken (put ++ page ∷ []) m
  put_none m none is = record {
    shown = λ a below there. ⊎_elim
        (λ (same : a / 4096 ≡ page). ⊎_elim
        (λ was. is.shown a below was)
        (λ absent. is.empty a below absent ∙ sym (ap (λ o. byte_of o (a % 4096)) (ap (first_of (reverse taken)) same ∙ none)))
        (cases_Bool (has_page put (a / 4096))))
        (λ other. is.shown a below (sym (among_end_other put page (a / 4096) other) ∙ there))
        (cases_eq (a / 4096) page);
    empty = λ a below absent. is.empty a below (sym (among_end_other put page (a / 4096) (other_page (a / 4096) absent)) ∙ absent);
  }

  pub put_some : (m n : Contents) (bytes : Page) → first_of (reverse taken) page ≡ Some bytes
      → ((q : ℕ) → byte_at n q ≡ cond (eqb (q / 4096) page) (slice_index bytes.bytes.items (q % 4096)) (byte_at m q)) → IsPut taken put m → IsPut taken (put ++ page ∷ []) n
  put_some m n bytes found new is = record {
    shown = λ a below there. ⊎_elim
        (λ (same : a / 4096 ≡ page).
        new a ∙ (ap (λ b. cond b (slice_index bytes.bytes.items (a % 4096)) (byte_at m a)) (eq-eqb (a / 4096) page same)
        ∙ sym (ap (λ o. byte_of o (a % 4096)) (ap (first_of (reverse taken)) same ∙ found))))
        (λ other. kept a other ∙ is.shown a below (sym (among_end_other put page (a / 4096) other) ∙ there))
        (cases_eq (a / 4096) page);
    empty = λ a below absent. let other = other_page (a / 4096) absent in kept a other ∙ is.empty a below (sym (among_end_other put page (a / 4096) other) ∙ absent);
  }
    where
      kept : (a : ℕ) → a / 4096 ≢ page → byte_at n a ≡ byte_at m a
      kept a other = new a ∙ ap (λ b. cond b (slice_index bytes.bytes.items (a % 4096)) (byte_at m a)) (ne_eqb (a / 4096) page other)

-- the pages of an index
abbrev pub keys_of : List (ℕ × Vec ℕ Global) → List ℕ
keys_of entries = map (λ e. e.0) entries

-- a page that isn't one of them has no place
no_key : (entries : List (ℕ × Vec ℕ Global)) (page : ℕ) → has_page (keys_of entries) page ≡ false → places_at entries page ≡ []
no_key [] page absent = refl
no_key (e ∷ entries) page absent = ⊎_elim
    (λ here. absurd (true≢false (sym (or_left _ (has_page (keys_of entries) page) here) ∙ absent)))
    (λ other. ap (λ b. items_of (cond b (Some e.1) (lookup (is_at (nat_cmp page)) entries))) other ∙ no_key entries page (ap (λ b. b || has_page (keys_of entries) page) (sym other) ∙ absent))
    (cases_Bool (is_at (nat_cmp page) e.0))

-- one entry more was gone over
pub keys_more : (done : List (ℕ × Vec ℕ Global)) (e : ℕ × Vec ℕ Global) → keys_of (done ++ e ∷ []) ≡ keys_of done ++ e.0 ∷ []
keys_more done e = map-append (λ (x : ℕ × Vec ℕ Global). x.0) done (e ∷ [])

-- where all pages with places were put, the memory is what the versions stand for
pub all_put : (vs : List Version) (count : ℕ) (entries : List (ℕ × Vec ℕ Global)) (m : Contents) → count ≤ length vs → IsIndex entries (pages_of vs) (length vs)
    → IsPut (take count vs) (keys_of entries) m → IsShownBut (take count vs) [] m
all_put vs count entries m within index is a below none = ⊎_elim
    (λ there. is.shown a below there)
    (λ absent.
    let page = a / 4096 in
    let nothing : HasNone (pages_of vs) page count = λ j low same. let found = (index page).full j (omega arith) same in let len = ap length (no_key entries page absent) in let place = found.1 in absurd (omega arith) in
    is.empty a below absent ∙ sym (ap (λ o. byte_of o (a % 4096)) (first_none vs page count within nothing)))
    (cases_Bool (has_page (keys_of entries) (a / 4096)))
