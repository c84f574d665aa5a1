-- What the code's steps come to.
use Rattle.std.proofs.Common.{◌≡◌, ℕ, List, [], ◌∷◌, Option, Some, None, Bool, true, false, true≢false, is_some, not, ◌&&◌, refl, sym, ap, ◌∙◌}
use Rattle.std.specs.Prelude.{bytes_eq, if◌then◌else◌}
use Rattle.std.specs.Option.{option_or}
use Rattle.out_chain.specs.Collision.{collides, first_collision}

pub collision-first : (digest : List ℕ → List ℕ) (x y : List ℕ) (xs ys : List (List ℕ)) → collides digest x y ≡ true → first_collision digest (x ∷ xs) (y ∷ ys) ≡ Some (x, y)
unfolding first_collision
collision-first digest x y xs ys test = ap (λ t. if t then Some (x, y) else first_collision digest xs ys) test

pub collision-later : (digest : List ℕ → List ℕ) (x y : List ℕ) (xs ys : List (List ℕ)) → collides digest x y ≡ false → first_collision digest (x ∷ xs) (y ∷ ys) ≡ first_collision digest xs ys
unfolding first_collision
collision-later digest x y xs ys test = ap (λ t. if t then Some (x, y) else first_collision digest xs ys) test

pub collision_without : (digest : List ℕ → List ℕ) (xs : List (List ℕ)) → first_collision digest xs [] ≡ None
unfolding first_collision
collision_without digest [] = refl
collision_without digest (x ∷ xs) = refl

pub collision_of_none : (digest : List ℕ → List ℕ) (ys : List (List ℕ)) → first_collision digest [] ys ≡ None
unfolding first_collision
collision_of_none digest ys = refl

-- the test of the code
pub collides-code : (digest : List ℕ → List ℕ) (x y of_x of_y : List ℕ) (t : Bool) → of_x ≡ digest x → of_y ≡ digest y
    → t ≡ (not (bytes_eq x y) && bytes_eq of_x of_y) → collides digest x y ≡ t
collides-code digest x y of_x of_y t x_is y_is test =
    ap (λ d. not (bytes_eq x y) && bytes_eq d (digest y)) (sym x_is) ∙ (ap (λ d. not (bytes_eq x y) && bytes_eq of_x d) (sym y_is) ∙ sym test)

-- the first of two that is there, as the code finds it
pub there-is : {A : Type 0} (found first other : Option A) → found ≡ first → true ≡ is_some found → found ≡ option_or first other
there-is (Some x) first other is test = ap (λ o. option_or o other) is
there-is None first other is test = absurd (true≢false test)

pub there-next : {A : Type 0} (found first other last : Option A) → found ≡ first → false ≡ is_some found → last ≡ other → last ≡ option_or first other
there-next (Some x) first other last is test rest = absurd (true≢false (sym test))
there-next None first other last is test rest = rest ∙ ap (λ o. option_or o other) is
