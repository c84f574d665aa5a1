-- Iterating a step until it changes nothing.
use Rattle.std.proofs.Common.{◌≡◌, ℕ, zero, suc, true, false, ◌⊎◌, inl, inr, refl, sym, ◌∙◌, ap}
use Rattle.std.specs.Fn.{iterate}
use Rattle.std.specs.Prelude.{List, ◌≢◌}
use Rattle.std.proofs.lemmas.Slice.Eq.{bytes_eq-Decides}
use Rattle.rd_base.specs.declared.digest.Digest32.{Digest32}
use Rattle.bisect_game.specs.Ruling.{same_digest}

-- digests of the same bytes are the same
pub same-is : (x y : Digest32) → same_digest x y ≡ true → x ≡ y
same-is x y e = ap (λ (bytes : List ℕ). let d : Digest32 = record { 0 = bytes } in d) ((bytes_eq-Decides x.0 y.0).0 e)

pub same-not : (x y : Digest32) → same_digest x y ≡ false → x ≢ y
same-not x y e same = let yes : same_digest x y ≡ true = (bytes_eq-Decides x.0 y.0).1 (ap (λ (d : Digest32). d.0) same) in cc

pub iterate-fixed : {A : Type 0} (h : A → A) (n : ℕ) (x : A) → h x ≡ x → iterate h n x ≡ x
iterate-fixed h zero x e = refl
iterate-fixed h (suc n) x e = ap (iterate h n) e ∙ iterate-fixed h n x e

-- a value that no further step changes, and from which steps come to it
abbrev pub Reaches : {A : Type 0} → (A → A) → A → A → Type 0
Reaches h x z = (n : ℕ) × (iterate h n x ≡ z)

-- what is a step further, or steps to the same, reaches the same
pub reach_back : {A : Type 0} (h : A → A) (x y z : A) → (h y ≡ h x) ⊎ (y ≡ h x) → h z ≡ z → Reaches h y z → Reaches h x z
reach_back h x y z (inr e) fixed (n, r) = (suc n, ap (iterate h n) (sym e) ∙ r)
reach_back h x y z (inl e) fixed (zero, r) = (1, sym e ∙ (ap h r ∙ fixed))
reach_back h x y z (inl e) fixed (suc n, r) = (suc n, ap (iterate h n) (sym e) ∙ r)

-- two such values are one
pub reach_one : {A : Type 0} (h : A → A) (n m : ℕ) (x y z : A) → h y ≡ y → h z ≡ z → iterate h n x ≡ y → iterate h m x ≡ z → y ≡ z
reach_one h zero m x y z fy fz e g = sym (iterate-fixed h m y fy) ∙ (ap (iterate h m) (sym e) ∙ g)
reach_one h (suc n) zero x y z fy fz e g = sym e ∙ (ap (iterate h (suc n)) g ∙ iterate-fixed h (suc n) z fz)
reach_one h (suc n) (suc m) x y z fy fz e g = reach_one h n m (h x) y z fy fz e g
