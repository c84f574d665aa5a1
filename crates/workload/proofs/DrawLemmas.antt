-- The draws one after another, and so many values of a function.
use Rattle.std.proofs.Common.{◌≡◌, ℕ, zero, suc, ◌+◌, ◌*◌, ◌%◌, ◌^◌, ◌<◌, List, [], ◌∷◌, ◌++◌, length, map, slice_index, refl, sym, ap, ◌∙◌, arith}
use Rattle.std.specs.List.{range_with_len}
use Rattle.std.proofs.Math.Nat.{mod-add-mod}
use Rattle.std.proofs.lemmas.List.{map-append}
use Rattle.std.proofs.lemmas.List.FromFn.{length-map-range_with_len, map-range_with_len_more}
use Rattle.workload.specs.Draws.{next_draw, draw, first_values}

-- the product wraps before the sum does
pub next_draw_wraps : (x : ℕ) → (x * 1664525 % 2 ^ 32 + 1013904223) % 2 ^ 32 ≡ next_draw x
next_draw_wraps x = mod-add-mod (x * 1664525) (2 ^ 32) 1013904223 ∙ ap (λ n. (n + 1013904223) % 2 ^ 32) (omega arith)

pub next_draw-draw : (seed k j : ℕ) → k + 1 ≡ j → next_draw (draw seed k) ≡ draw seed j
unfolding draw
next_draw-draw seed k j next = let same : suc k ≡ j = omega arith in rw (← same) refl

-- a draw after this one is the next
pub drawn_next : (seed k j last next : ℕ) → k + 1 ≡ j → last ≡ draw seed k → next ≡ next_draw last → next ≡ draw seed j
drawn_next seed k j last next one_more is was = was ∙ (ap next_draw is ∙ next_draw-draw seed k j one_more)

next_draw-below : (x : ℕ) → next_draw x < 2 ^ 32
next_draw-below x = omega arith

pub draw-below : (seed k j : ℕ) → k + 1 ≡ j → draw seed j < 2 ^ 32
draw-below seed k j next = rw (← next_draw-draw seed k j next) (next_draw-below (draw seed k))

pub first_values-none : {X : Type 0} (f : ℕ → X) → first_values 0 f ≡ []
unfolding first_values
first_values-none f = refl

first_values-more : {X : Type 0} (n : ℕ) (f : ℕ → X) → first_values (n + 1) f ≡ first_values n f ++ f n ∷ []
unfolding first_values
first_values-more n f = map-range_with_len_more f 0 n n (omega arith)

pub length-first_values : {X : Type 0} (n : ℕ) (f : ℕ → X) → length (first_values n f) ≡ n
unfolding first_values
length-first_values n f = length-map-range_with_len f 0 n

-- one more value of a function
pub with_next : {X : Type 0} (f : ℕ → X) (n : ℕ) (old new : List X) (x : X) → old ≡ first_values n f → new ≡ old ++ x ∷ [] → x ≡ f n → new ≡ first_values (n + 1) f
with_next f n old new x was is at = is ∙ (ap (λ xs. xs ++ x ∷ []) was ∙ (ap (λ y. first_values n f ++ y ∷ []) at ∙ sym (first_values-more n f)))

pub with_next_seen : {X Y : Type 0} (g : X → Y) (f : ℕ → Y) (n : ℕ) (old new : List X) (x : X) → map g old ≡ first_values n f → new ≡ old ++ x ∷ [] → g x ≡ f n → map g new ≡ first_values (n + 1) f
with_next_seen g f n old new x was is at = with_next f n (map g old) (map g new) (g x) was (ap (map g) is ∙ map-append g old (x ∷ [])) at

values_below : (f : ℕ → ℕ) (most a n i : ℕ) → 0 < most → ((k : ℕ) → f k < most) → slice_index (map f (range_with_len a n)) i < most
values_below f most a zero i positive below = positive
values_below f most a (suc n) zero positive below = below a
values_below f most a (suc n) (suc i) positive below = values_below f most (a + 1) n i positive below

-- where each value is below a number, so is what stands at any place
pub slice_index-first_values : (f : ℕ → ℕ) (most n i : ℕ) → 0 < most → ((k : ℕ) → f k < most) → slice_index (first_values n f) i < most
unfolding first_values
slice_index-first_values f most n i positive below = values_below f most 0 n i positive below
