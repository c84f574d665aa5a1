-- The first collision of the link strings of two outputs, from a place on.
use Rattle.std.proofs.Common.{◌≡◌, ℕ, zero, suc, ◌+◌, ◌<◌, ◌≤◌, List, [], ◌∷◌, length, drop, slice_index, if◌then◌else◌, Option, Some, None, Bool, true, false, not, ◌&&◌, refl, sym, ap, ◌∙◌, arith, min, add-one, ⊎_elim, ◌⊎◌, inl, inr}
use Rattle.std.specs.Prelude.{bytes_eq}
use Rattle.std.proofs.lemmas.Bool.{cases_lt}
use Rattle.digest_core.specs.Text.{link_text}
use Rattle.out_chain.specs.Collision.{links_after, links_of, collides, first_collision}
use Rattle.out_chain.specs.ClaimLaws.{collision_of_same}

-- what stands first in the link strings from a place on
links-drop : (digest : List ℕ → List ℕ) (chain bytes : List ℕ) (i : ℕ) → i < length bytes
    → links_after digest chain (drop i bytes) ≡ link_text chain (slice_index bytes i) ∷ links_after digest (digest (link_text chain (slice_index bytes i))) (drop (suc i) bytes)
unfolding links_after
links-drop digest chain [] i below = absurd (omega arith)
links-drop digest chain (b ∷ bytes) zero below = refl
links-drop digest chain (b ∷ bytes) (suc i) below = links-drop digest chain bytes i (omega arith)

-- no link strings are left
links-end : (digest : List ℕ → List ℕ) (chain bytes : List ℕ) (i : ℕ) → length bytes ≤ i → links_after digest chain (drop i bytes) ≡ []
unfolding links_after
links-end digest chain [] zero above = refl
links-end digest chain [] (suc i) above = refl
links-end digest chain (b ∷ bytes) zero above = absurd (omega arith)
links-end digest chain (b ∷ bytes) (suc i) above = links-end digest chain bytes i (omega arith)

collision-cons : (digest : List ℕ → List ℕ) (xs ys tail rest : List (List ℕ)) (x y : List ℕ) → xs ≡ x ∷ tail → ys ≡ y ∷ rest
    → first_collision digest xs ys ≡ (if collides digest x y then Some (x, y) else first_collision digest tail rest)
unfolding first_collision
collision-cons digest xs ys tail rest x y first second = ap (λ l. first_collision digest l ys) first ∙ ap (first_collision digest (x ∷ tail)) second

collision-end : (digest : List ℕ → List ℕ) (xs ys : List (List ℕ)) → (xs ≡ []) ⊎ (ys ≡ []) → first_collision digest xs ys ≡ None
unfolding first_collision
collision-end digest [] ys over = refl
collision-end digest (x ∷ xs) [] over = refl
collision-end digest (x ∷ xs) (y ∷ ys) over = ⊎_elim (λ first. cc) (λ second. cc) over

-- the links at one place of two outputs, and those after it
pub link-step : (digest : List ℕ → List ℕ) (left right xs ys x y : List ℕ) (i : ℕ) → i < length xs → i < length ys
    → x ≡ link_text left (slice_index xs i) → y ≡ link_text right (slice_index ys i)
    → first_collision digest (links_after digest left (drop i xs)) (links_after digest right (drop i ys))
    ≡ (if collides digest x y then Some (x, y) else first_collision digest (links_after digest (digest x) (drop (i + 1) xs)) (links_after digest (digest y) (drop (i + 1) ys)))
link-step digest left right xs ys x y i in_first in_second is_first is_second =
    rw add-one (collision-cons digest _ _ _ _ x y (links-drop digest left xs i in_first ∙ ap (λ t. t ∷ links_after digest (digest t) (drop (suc i) xs)) (sym is_first)) (links-drop digest right ys i in_second ∙ ap (λ t. t ∷ links_after digest (digest t) (drop (suc i) ys)) (sym is_second)))

-- one of two outputs has no further link
pub link-end : (digest : List ℕ → List ℕ) (left right xs ys : List ℕ) (i : ℕ) → min (length xs) (length ys) ≤ i
    → first_collision digest (links_after digest left (drop i xs)) (links_after digest right (drop i ys)) ≡ None
link-end digest left right xs ys i over =
    collision-end digest _ _ (⊎_elim (λ within. inr (links-end digest right ys i (omega arith))) (λ beyond. inl (links-end digest left xs i beyond)) (cases_lt i (length xs)))

-- where these two strings do not collide, the links give what those after them give
pub link-goes_on : (digest : List ℕ → List ℕ) (left right xs ys x y d e : List ℕ) (i : ℕ) (test : Bool) (all : Option (List ℕ × List ℕ)) → i < length xs → i < length ys
    → x ≡ link_text left (slice_index xs i) → y ≡ link_text right (slice_index ys i) → d ≡ digest x → e ≡ digest y
    → test ≡ (not (bytes_eq x y) && bytes_eq d e) → test ≡ false
    → first_collision digest (links_after digest left (drop i xs)) (links_after digest right (drop i ys)) ≡ all
    → first_collision digest (links_after digest d (drop (i + 1) xs)) (links_after digest e (drop (i + 1) ys)) ≡ all
link-goes_on digest left right xs ys x y d e i test all in_first in_second is_first is_second of_first of_second tested apart before =
    let step = link-step digest left right xs ys x y i in_first in_second is_first is_second in
    let here : collides digest x y ≡ false = ap (λ h. not (bytes_eq x y) && bytes_eq h (digest y)) (sym of_first) ∙ ap (λ h. not (bytes_eq x y) && bytes_eq d h) (sym of_second) ∙ sym tested ∙ apart in
    cc

-- links that collide are the answer
pub link-collides : (digest : List ℕ → List ℕ) (left right xs ys x y d e : List ℕ) (i : ℕ) (test : Bool) (all : Option (List ℕ × List ℕ)) → i < length xs → i < length ys
    → x ≡ link_text left (slice_index xs i) → y ≡ link_text right (slice_index ys i) → d ≡ digest x → e ≡ digest y
    → test ≡ (not (bytes_eq x y) && bytes_eq d e) → test ≡ true
    → first_collision digest (links_after digest left (drop i xs)) (links_after digest right (drop i ys)) ≡ all
    → Some (x, y) ≡ all
link-collides digest left right xs ys x y d e i test all in_first in_second is_first is_second of_first of_second tested meet before =
    let step = link-step digest left right xs ys x y i in_first in_second is_first is_second in
    let here : collides digest x y ≡ true = ap (λ h. not (bytes_eq x y) && bytes_eq h (digest y)) (sym of_first) ∙ ap (λ h. not (bytes_eq x y) && bytes_eq d h) (sym of_second) ∙ sym tested ∙ meet in
    cc

-- equal outputs have no links that collide
pub links-same : (digest : List ℕ → List ℕ) (xs ys : List ℕ) → xs ≡ ys → None ≡ first_collision digest (links_of digest xs) (links_of digest ys)
links-same digest xs ys same = sym (ap (λ l. first_collision digest (links_of digest xs) (links_of digest l)) (sym same) ∙ collision_of_same digest (links_of digest xs))
