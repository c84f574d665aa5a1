-- Lists after swaps, and what a function says of their elements.
use Rattle.std.proofs.Common.{◌≡◌, ℕ, zero, suc, ◌+◌, ◌<◌, ◌≤◌, List, [], ◌∷◌, ◌++◌, map, length, get_or, set, refl, sym, ap, ◌∙◌, subst, arith, All}
use Rattle.std.specs.List.{swap}
use Rattle.std.proofs.lemmas.List.{ext_get_or}
use Rattle.std.proofs.lemmas.List.Edits.{length-swap, swapped_from_swap}
use lib.Seq.{map-set}
use native.Mathlib.Decide.{ℕ_discrete}
use mathlib.Core.Logic.{dite}
use Rattle.posters.specs.Swaps.{swapped, swapped_back}

module _ {A B : Type 0} (f : A → B) where
  get_or-map_default : (xs : List A) (i : ℕ) (d : A) → get_or (map f xs) i (f d) ≡ f (get_or xs i d)
  get_or-map_default [] i d = refl
  get_or-map_default (x ∷ xs) zero d = refl
  get_or-map_default (x ∷ xs) (suc i) d = get_or-map_default xs i d

  map-swap : (xs : List A) (i j : ℕ) → map f (swap xs i j) ≡ swap (map f xs) i j
  map-swap [] i j = refl
  map-swap (x ∷ xs) i j = let l = x ∷ xs in map-set f (set l i (get_or l j x)) j (get_or l i x) ∙ ap (λ m. set m j (f (get_or l i x))) (map-set f l i (get_or l j x))
      ∙ ap (λ y. set (set (map f l) i y) j (f (get_or l i x))) (sym (get_or-map_default l j x)) ∙ ap (λ y. set (set (map f l) i (get_or (map f l) j (f x))) j y) (sym (get_or-map_default l i x))

  pub map-swapped : (p : ℕ) (js : List ℕ) (xs : List A) → map f (swapped p js xs) ≡ swapped p js (map f xs)
  map-swapped p [] xs = refl
  map-swapped p (j ∷ js) xs = map-swapped (suc p) js (swap xs p j) ∙ ap (swapped (suc p) js) (map-swap xs p j)

  pub map-swapped_back : (p : ℕ) (js : List ℕ) (xs : List A) → map f (swapped_back p js xs) ≡ swapped_back p js (map f xs)
  map-swapped_back p [] xs = refl
  map-swapped_back p (j ∷ js) xs = map-swap (swapped_back (suc p) js xs) p j ∙ ap (λ l. swap l p j) (map-swapped_back (suc p) js xs)

module _ {X : Type 0} where
  swap_twice_at : (d : X) (xs : List X) (i j : ℕ) → i < length xs → j < length xs → (k : ℕ) → get_or (swap (swap xs i j) i j) k d ≡ get_or xs k d
  swap_twice_at d xs i j p q k = let ys = swap xs i j in let n = length-swap xs i j in let s = swapped_from_swap xs ys i j d p q refl in let t = swapped_from_swap ys (swap ys i j) i j d (omega (arith, n)) (omega (arith, n)) refl in
      dite (ℕ_discrete k i) (λ e. ap (λ m. get_or (swap ys i j) m d) e ∙ t.0 ∙ s.1 ∙ ap (λ m. get_or xs m d) (sym e))
      (λ a. dite (ℕ_discrete k j) (λ e. ap (λ m. get_or (swap ys i j) m d) e ∙ t.1 ∙ s.0 ∙ ap (λ m. get_or xs m d) (sym e)) (λ b. t.2 k a b ∙ s.2 k a b))

  swap_twice : (xs : List X) (i j : ℕ) → i < length xs → j < length xs → swap (swap xs i j) i j ≡ xs
  swap_twice [] i j p q = refl
  swap_twice (x ∷ xs) i j p q = let l = x ∷ xs in ext_get_or x (swap (swap l i j) i j) l (length-swap (swap l i j) i j ∙ length-swap l i j) (λ k below. swap_twice_at x l i j p q k)

  -- one swap more
  pub swapped-append : (p : ℕ) (js : List ℕ) (j m : ℕ) (xs : List X) → m ≡ p + length js → swapped p (js ++ j ∷ []) xs ≡ swap (swapped p js xs) m j
  swapped-append p [] j m xs e = let g : p ≡ m = omega arith in ap (λ q. swap xs q j) g
  swapped-append p (i ∷ js) j m xs e = swapped-append (suc p) js j m (swap xs p i) (omega arith)

  pub swapped_back-append : (p : ℕ) (js : List ℕ) (j m : ℕ) (xs : List X) → m ≡ p + length js → swapped_back p (js ++ j ∷ []) xs ≡ swapped_back p js (swap xs m j)
  swapped_back-append p [] j m xs e = let g : p ≡ m = omega arith in ap (λ q. swap xs q j) g
  swapped_back-append p (i ∷ js) j m xs e = ap (λ l. swap l p i) (swapped_back-append (suc p) js j m xs (omega arith))

  pub length-swapped : (p : ℕ) (js : List ℕ) (xs : List X) → length (swapped p js xs) ≡ length xs
  length-swapped p [] xs = refl
  length-swapped p (j ∷ js) xs = length-swapped (suc p) js (swap xs p j) ∙ length-swap xs p j

  -- swaps that are taken back leave the list
  pub swapped_back-swapped : (p : ℕ) (js : List ℕ) (xs : List X) → p + length js ≤ length xs → All (λ j. j < length xs) js → swapped_back p js (swapped p js xs) ≡ xs
  swapped_back-swapped p [] xs few below = refl
  swapped_back-swapped p (j ∷ js) xs few below = let n = length-swap xs p j in
      ap (λ l. swap l p j) (swapped_back-swapped (suc p) js (swap xs p j) (omega (arith, n)) (λ k d h. subst (λ m. get_or js k d < m) (sym n) (below (suc k) d (omega arith))))
      ∙ swap_twice xs p j (omega arith) (below 0 j (omega arith))

pub All-snoc : (n j : ℕ) (js : List ℕ) → All (λ i. i < n) js → j < n → All (λ i. i < n) (js ++ j ∷ [])
All-snoc n j [] below last zero d h = last
All-snoc n j [] below last (suc k) d h = absurd (omega arith)
All-snoc n j (i ∷ js) below last zero d h = below 0 d (omega arith)
All-snoc n j (i ∷ js) below last (suc k) d h = All-snoc n j js (λ k d h. below (suc k) d (omega arith)) last k d (omega arith)

All-cons_first : (n i : ℕ) (js : List ℕ) → All (λ m. m < n) js → i < n → All (λ m. m < n) (i ∷ js)
All-cons_first n i js all first zero d h = first
All-cons_first n i js all first (suc k) d h = all k d (omega arith)

pub All-unsnoc : (n j : ℕ) (js : List ℕ) → All (λ i. i < n) (js ++ j ∷ []) → All (λ i. i < n) js × (j < n)
All-unsnoc n j [] all = ((λ k d h. absurd (omega arith)), all 0 0 (omega arith))
All-unsnoc n j (i ∷ js) all = let r = All-unsnoc n j js (λ k d h. all (suc k) d (omega arith)) in (All-cons_first n i js r.0 (all 0 0 (omega arith)), r.1)
