-- Blocks of a list, and what their numbers say.
use Rattle.std.proofs.Common.{◌≡◌, ℕ, zero, suc, ◌+◌, ◌<◌, ◌≤◌, List, [], ◌∷◌, ◌++◌, map, length, refl, sym, ap, ◌∙◌, arith, All, take, drop}
use Rattle.std.specs.List.{range_with_len}
use Rattle.std.proofs.lemmas.List.{length-map, take-map, drop-map}
use Rattle.posters.specs.Swaps.{swapped, swapped_back}
use Rattle.posters.proofs.Swaps.{map-swapped, map-swapped_back, swapped_back-swapped}

module _ {X : Type 0} where
  take-take : (p n : ℕ) (xs : List X) → p ≤ n → take p (take n xs) ≡ take p xs
  take-take zero n xs le = refl
  take-take (suc p) zero xs le = absurd (omega arith)
  take-take (suc p) (suc n) [] le = refl
  take-take (suc p) (suc n) (x ∷ xs) le = ap (λ l. x ∷ l) (take-take p n xs (omega arith))

  drop-take : (p n m : ℕ) (xs : List X) → n ≡ p + m → drop p (take n xs) ≡ take m (drop p xs)
  drop-take zero n m xs e = let g : n ≡ m = omega arith in ap (λ k. take k xs) g
  drop-take (suc p) zero m xs e = absurd (omega arith)
  drop-take (suc p) (suc n) zero [] e = refl
  drop-take (suc p) (suc n) (suc m) [] e = refl
  drop-take (suc p) (suc n) m (x ∷ xs) e = drop-take p n m xs (omega arith)

  drop-nil : (p : ℕ) (xs : List X) → xs ≡ [] → drop p xs ≡ []
  drop-nil zero xs e = e
  drop-nil (suc p) [] e = refl
  drop-nil (suc p) (x ∷ xs) e = let n = ap length e in absurd (omega arith)

  drop-drop : (p q r : ℕ) (xs : List X) → r ≡ q + p → drop p (drop q xs) ≡ drop r xs
  drop-drop p zero r xs e = let g : p ≡ r = omega arith in ap (λ k. drop k xs) g
  drop-drop p (suc q) zero xs e = absurd (omega arith)
  drop-drop p (suc q) (suc r) [] e = drop-nil p [] refl
  drop-drop p (suc q) (suc r) (x ∷ xs) e = drop-drop p q r xs (omega arith)

  take-all : (n : ℕ) (xs : List X) → n ≡ length xs → take n xs ≡ xs
  take-all zero [] e = refl
  take-all zero (x ∷ xs) e = absurd (omega arith)
  take-all (suc n) [] e = absurd (omega arith)
  take-all (suc n) (x ∷ xs) e = ap (λ l. x ∷ l) (take-all n xs (omega arith))

module _ {A B C : Type 0} (meaning : A → B) (says : C → B) where
  pub said_near : (all near : List A) (ns : List C) (place from : ℕ) → map meaning all ≡ map says (take (length all) (drop from ns)) → near ≡ take place all → length near ≡ place → place ≤ length all → map meaning near ≡ map says (take (length near) (drop from ns))
  said_near all near ns place from e is len le = ap (map meaning) is ∙ sym (take-map meaning place all) ∙ ap (take place) e ∙ take-map says place (take (length all) (drop from ns)) ∙ ap (map says) (take-take place (length all) (drop from ns) le) ∙ ap (λ k. map says (take k (drop from ns))) (sym len)

  pub said_far : (all far : List A) (ns : List C) (place from next : ℕ) → map meaning all ≡ map says (take (length all) (drop from ns)) → far ≡ drop place all → length far + place ≡ length all → next ≡ from + place → map meaning far ≡ map says (take (length far) (drop next ns))
  said_far all far ns place from next e is len here = ap (map meaning) is ∙ sym (drop-map meaning place all) ∙ ap (drop place) e ∙ drop-map says place (take (length all) (drop from ns)) ∙ ap (map says) (drop-take place (length all) (length far) (drop from ns) (omega arith) ∙ ap (take (length far)) (drop-drop place from next ns here))

  -- after the swaps the items mean what the numbers say
  pub said_swapped : (js : List ℕ) (before after : List A) (ns ns' : List C) → map meaning before ≡ map says ns → after ≡ swapped 0 js before → ns' ≡ swapped 0 js ns → map meaning after ≡ map says (take (length after) (drop 0 ns'))
  said_swapped js before after ns ns' e is is' =
      let whole : map meaning after ≡ map says ns' = ap (map meaning) is ∙ map-swapped meaning 0 js before ∙ ap (swapped 0 js) e ∙ sym (map-swapped says 0 js ns) ∙ ap (map says) (sym is') in
      whole ∙ ap (map says) (sym (take-all (length after) ns' (sym (length-map after meaning) ∙ ap length whole ∙ length-map ns' says)))

-- what the items meant before the swaps they mean after these are taken back
pub meant_again : {A B : Type 0} (meaning : A → B) (js : List ℕ) (before arranged served after : List A) → length js ≤ length before → All (λ j. j < length before) js → arranged ≡ swapped 0 js before → map meaning served ≡ map meaning arranged → after ≡ swapped_back 0 js served → map meaning after ≡ map meaning before
meant_again meaning js before arranged served after few below is same back = ap (map meaning) back ∙ map-swapped_back meaning 0 js served ∙ ap (swapped_back 0 js) (same ∙ ap (map meaning) is) ∙ sym (map-swapped_back meaning 0 js (swapped 0 js before)) ∙ ap (map meaning) (swapped_back-swapped 0 js before (let g : 0 + length js ≤ length before = omega arith in g) below)

range-append : (a n j : ℕ) → a + n ≡ j → range_with_len a (suc n) ≡ range_with_len a n ++ j ∷ []
range-append a zero j e = let same : a ≡ j = omega arith in ap (λ k. k ∷ []) same
range-append a (suc n) j e = ap (λ l. a ∷ l) (range-append (a + 1) n j (omega arith))

pub range-push : (n : ℕ) (xs : List ℕ) → xs ≡ range_with_len 0 n → xs ++ n ∷ [] ≡ range_with_len 0 (n + 1)
range-push n xs e = let g : suc n ≡ n + 1 = omega arith in ap (λ l. l ++ n ∷ []) e ∙ sym (range-append 0 n n (omega arith)) ∙ ap (range_with_len 0) g
