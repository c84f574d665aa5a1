-- The claims have a collision if and only if two of them differ and have one root, and it is that of the least pair.
use Rattle.std.proofs.Common.{◌≡◌, ℕ, zero, suc, ◌+◌, ◌-◌, ◌<◌, ◌≤◌, true, List, [], ◌∷◌, slice_get, ◌⊎◌, inl, inr, Option, Some, None, refl, ap, arith}
use Rattle.std.proofs.lemmas.Bool.{cases_Bool}
use Rattle.std.specs.Option.{option_or}
use Rattle.rd_base.specs.declared.answer.Answer.TheVariants as answer
use Rattle.rd_base.specs.declared.claim.Claim.{Claim}
use Rattle.bisect_game.specs.declared.settled.Settled.{Settled}
use Rattle.bisect_game.specs.declared.settled.Settled.TheVariants.{Given}
use Rattle.bisect_game.specs.Ruling.{Ruling, IsFair, same_digest}
use Rattle.tournament.proofs.PostLemmas.{IsSettled, settled-begun}
use Rattle.tournament.proofs.ReachLemmas.{same-is, same-not}
use Rattle.tournament.proofs.safety.ClaimLemmas.{FitClaims, fit-at, first-none, fit-claims}
use Rattle.tournament.proofs.safety.ListedLemmas.{claim-given}
use Rattle.tournament.specs.Bracket.{also, claim_in, claims_collision, collision_with, live_from}
use Rattle.tournament.specs.Collisions.{Collide, HasGiven, CollidingProvers, IsOfLeastPair, NoCollisionIfNonePair, CollisionIsOfLeastPair}
use Rattle.tournament.specs.Posting.{record_after}

-- of two sound claims

pair-some : (r : Ruling) (x y : Claim) (pair : List ℕ × List ℕ) → IsFair r → r.is_sound x ≡ true → r.is_sound y ≡ true → r.claim_collision x y ≡ Some pair → Collide r x y
pair-some r x y pair fair sx sy e = record {
  one_root =
      elim (cases_Bool (same_digest (r.root_of x) (r.root_of y))) [
        | inl same ↦ same-is (r.root_of x) (r.root_of y) same
        | inr apart ↦ let none : r.claim_collision x y ≡ None = fair.claims_apart x y sx sy (same-not (r.root_of x) (r.root_of y) apart) in absurd (cc)
      ];
  differ = λ same.
      let none : r.claim_collision x x ≡ None = fair.claims_equal x sx in
      let other : r.claim_collision x x ≡ r.claim_collision x y = ap (r.claim_collision x) same in
      cc;
}

pair-none : (r : Ruling) (x y : Claim) → IsFair r → r.is_sound x ≡ true → r.is_sound y ≡ true → r.claim_collision x y ≡ None → Collide r x y → ⊥
pair-none r x y fair sx sy e c = c.differ (fair.claims_collide x y sx sy c.one_root e)

-- the claim at a place

abbrev At : List (Option Settled) → ℕ → Claim → Type 0
At ss i x = slice_get ss i ≡ Some (Some (Given (answer.Claim x)))

at-first : (s : Option Settled) (ss : List (Option Settled)) (x : Claim) → At (s ∷ ss) 0 x → claim_in s ≡ Some x
at-first s ss x at = let same : s ≡ Some (Given (answer.Claim x)) = cc in ap claim_in same

one-claim : (s : Option Settled) (ss : List (Option Settled)) (x y : Claim) → claim_in s ≡ Some x → At (s ∷ ss) 0 y → x ≡ y
one-claim s ss x y e at = let other : claim_in s ≡ Some y = at-first s ss y at in cc

first-at : (s : Option Settled) (ss : List (Option Settled)) (x : Claim) → claim_in s ≡ Some x → At (s ∷ ss) 0 x
first-at s ss x e = ap Some (claim-given s x e)

first-sound : (r : Ruling) (s : Option Settled) (ss : List (Option Settled)) (x : Claim) → FitClaims r (s ∷ ss) → claim_in s ≡ Some x → r.is_sound x ≡ true
first-sound r s ss x f e = fit-at r (s ∷ ss) 0 x f (first-at s ss x e)

-- a claim against those after it

with-also : (r : Ruling) (c : Claim) (k : ℕ) (o : Option Claim) (xs : List (ℕ × Claim)) → collision_with r c (also k o xs) ≡ None → collision_with r c xs ≡ None
with-also r c k (Some y) xs e = (first-none (r.claim_collision c y) (collision_with r c xs) e).1
with-also r c k None xs e = e

with-first : (r : Ruling) (c y : Claim) (k : ℕ) (o : Option Claim) (xs : List (ℕ × Claim)) → collision_with r c (also k o xs) ≡ None → o ≡ Some y → r.claim_collision c y ≡ None
with-first r c y k (Some z) xs e is = let same : z ≡ y = cc in rw same at (first-none (r.claim_collision c z) (collision_with r c xs) e).0
with-first r c y k None xs e is = absurd (cc)

with-none : (r : Ruling) (c y : Claim) (k j : ℕ) (ss : List (Option Settled)) → IsFair r → r.is_sound c ≡ true → FitClaims r ss → collision_with r c (live_from [] k ss) ≡ None → At ss j y → Collide r c y → ⊥
with-none r c y k j [] fair sound f e at col = cc
with-none r c y k zero (s ∷ ss) fair sound f e at col =
    pair-none r c y fair sound (fit-at r (s ∷ ss) 0 y f at) (with-first r c y k (claim_in s) (live_from [] (k + 1) ss) e (at-first s ss y at)) col
with-none r c y k (suc j) (s ∷ ss) fair sound f e at col = with-none r c y (k + 1) j ss fair sound f.1 (with-also r c k (claim_in s) (live_from [] (k + 1) ss) e) at col

record LeastWith (r : Ruling) (c : Claim) (ss : List (Option Settled)) (pair : List ℕ × List ℕ) : Type 0 where
  place : ℕ
  claim : Claim
  gave : At ss place claim
  collide : Collide r c claim
  is : r.claim_collision c claim ≡ Some pair
  least : (v : ℕ) (z : Claim) → At ss v z → Collide r c z → place ≤ v

with-later : (r : Ruling) (c : Claim) (s : Option Settled) (ss : List (Option Settled)) (pair : List ℕ × List ℕ) → ((z : Claim) → At (s ∷ ss) 0 z → Collide r c z → ⊥) → LeastWith r c ss pair → LeastWith r c (s ∷ ss) pair
with-later r c s ss pair never l = record { place = suc l.place; claim = l.claim; gave = l.gave; collide = l.collide; is = l.is; least = least }
  where
    least : (v : ℕ) (z : Claim) → At (s ∷ ss) v z → Collide r c z → suc l.place ≤ v
    least zero z at col = absurd (never z at col)
    least (suc v) z at col = let low : l.place ≤ v = l.least v z at col in omega (arith, low)

with-here : (r : Ruling) (c y : Claim) (s : Option Settled) (ss : List (Option Settled)) (pair : List ℕ × List ℕ) (o : Option (List ℕ × List ℕ)) (rest : Option (List ℕ × List ℕ)) → IsFair r → r.is_sound c ≡ true → r.is_sound y ≡ true →
    claim_in s ≡ Some y → r.claim_collision c y ≡ o → option_or o rest ≡ Some pair → (rest ≡ Some pair → LeastWith r c ss pair) → LeastWith r c (s ∷ ss) pair
with-here r c y s ss pair (Some p) rest fair sound sy ey eo e later =
    let same : r.claim_collision c y ≡ Some pair = cc in
    record { place = 0; claim = y; gave = first-at s ss y ey; collide = pair-some r c y pair fair sound sy same; is = same; least = λ v z at col. omega arith }
with-here r c y s ss pair None rest fair sound sy ey eo e later =
    with-later r c s ss pair (λ z at col. pair-none r c y fair sound sy eo (rw (← one-claim s ss y z ey at) at col)) (later e)

with-by : (r : Ruling) (c : Claim) (k : ℕ) (s : Option Settled) (ss : List (Option Settled)) (xs : List (ℕ × Claim)) (pair : List ℕ × List ℕ) (o : Option Claim) → IsFair r → r.is_sound c ≡ true → FitClaims r (s ∷ ss) → claim_in s ≡ o →
    collision_with r c (also k o xs) ≡ Some pair → (collision_with r c xs ≡ Some pair → LeastWith r c ss pair) → LeastWith r c (s ∷ ss) pair
with-by r c k s ss xs pair (Some y) fair sound f eo e later =
    with-here r c y s ss pair (r.claim_collision c y) (collision_with r c xs) fair sound (first-sound r s ss y f eo) eo refl e later
with-by r c k s ss xs pair None fair sound f eo e later =
    with-later r c s ss pair (λ z at col. let other : claim_in s ≡ Some z = at-first s ss z at in cc) (later e)

with-some : (r : Ruling) (c : Claim) (k : ℕ) (ss : List (Option Settled)) (pair : List ℕ × List ℕ) → IsFair r → r.is_sound c ≡ true → FitClaims r ss → collision_with r c (live_from [] k ss) ≡ Some pair → LeastWith r c ss pair
with-some r c k [] pair fair sound f e = absurd (cc)
with-some r c k (s ∷ ss) pair fair sound f e =
    with-by r c k s ss (live_from [] (k + 1) ss) pair (claim_in s) fair sound f refl e (λ further. with-some r c (k + 1) ss pair fair sound f.1 further)

-- all claims

all-also : (r : Ruling) (k : ℕ) (o : Option Claim) (xs : List (ℕ × Claim)) → claims_collision r (also k o xs) ≡ None → claims_collision r xs ≡ None
all-also r k (Some y) xs e = (first-none (collision_with r y xs) (claims_collision r xs) e).1
all-also r k None xs e = e

all-first : (r : Ruling) (x : Claim) (k : ℕ) (o : Option Claim) (xs : List (ℕ × Claim)) → claims_collision r (also k o xs) ≡ None → o ≡ Some x → collision_with r x xs ≡ None
all-first r x k (Some z) xs e is = let same : z ≡ x = cc in rw same at (first-none (collision_with r z xs) (claims_collision r xs) e).0
all-first r x k None xs e is = absurd (cc)

all-none : (r : Ruling) (x y : Claim) (k i j : ℕ) (ss : List (Option Settled)) → IsFair r → FitClaims r ss → claims_collision r (live_from [] k ss) ≡ None → i < j → At ss i x → At ss j y → Collide r x y → ⊥
all-none r x y k i j [] fair f e lt ax ay col = cc
all-none r x y k i zero (s ∷ ss) fair f e lt ax ay col = omega arith
all-none r x y k zero (suc j) (s ∷ ss) fair f e lt ax ay col =
    with-none r x y (k + 1) j ss fair (fit-at r (s ∷ ss) 0 x f ax) f.1 (all-first r x k (claim_in s) (live_from [] (k + 1) ss) e (at-first s ss x ax)) ay col
all-none r x y k (suc i) (suc j) (s ∷ ss) fair f e lt ax ay col =
    all-none r x y (k + 1) i j ss fair f.1 (all-also r k (claim_in s) (live_from [] (k + 1) ss) e) (omega arith) ax ay col

record LeastOf (r : Ruling) (ss : List (Option Settled)) (pair : List ℕ × List ℕ) : Type 0 where
  i : ℕ
  j : ℕ
  x : Claim
  y : Claim
  later : i < j
  gave_x : At ss i x
  gave_y : At ss j y
  collide : Collide r x y
  is : r.claim_collision x y ≡ Some pair
  least : (u v : ℕ) (a b : Claim) → u < v → At ss u a → At ss v b → Collide r a b → (i < u) ⊎ ((i ≡ u) × (j ≤ v))

all-later : (r : Ruling) (s : Option Settled) (ss : List (Option Settled)) (pair : List ℕ × List ℕ) → ((a b : Claim) (v : ℕ) → At (s ∷ ss) 0 a → At ss v b → Collide r a b → ⊥) → LeastOf r ss pair → LeastOf r (s ∷ ss) pair
all-later r s ss pair never l = record { i = suc l.i; j = suc l.j; x = l.x; y = l.y; later = omega (arith, l.later); gave_x = l.gave_x; gave_y = l.gave_y; collide = l.collide; is = l.is; least = least }
  where
    least : (u v : ℕ) (a b : Claim) → u < v → At (s ∷ ss) u a → At (s ∷ ss) v b → Collide r a b → (suc l.i < u) ⊎ ((suc l.i ≡ u) × (suc l.j ≤ v))
    least u zero a b lt aa ab col = absurd (omega arith)
    least zero (suc v) a b lt aa ab col = absurd (never a b v aa ab col)
    least (suc u) (suc v) a b lt aa ab col =
        let low : (l.i < u) ⊎ ((l.i ≡ u) × (l.j ≤ v)) = l.least u v a b (omega arith) aa ab col in
        elim low [
          | inl below ↦ inl (omega (arith, below))
          | inr same ↦ inr (ap suc same.0, omega (arith, same.1))
        ]

all-begun : (r : Ruling) (x : Claim) (s : Option Settled) (ss : List (Option Settled)) (pair : List ℕ × List ℕ) → claim_in s ≡ Some x → LeastWith r x ss pair → LeastOf r (s ∷ ss) pair
all-begun r x s ss pair ex l = record { i = 0; j = suc l.place; x = x; y = l.claim; later = omega arith; gave_x = first-at s ss x ex; gave_y = l.gave; collide = l.collide; is = l.is; least = least }
  where
    least : (u v : ℕ) (a b : Claim) → u < v → At (s ∷ ss) u a → At (s ∷ ss) v b → Collide r a b → (0 < u) ⊎ ((0 ≡ u) × (suc l.place ≤ v))
    least u zero a b lt aa ab col = absurd (omega arith)
    least zero (suc v) a b lt aa ab col = let low : l.place ≤ v = l.least v b ab (rw (← one-claim s ss x a ex aa) at col) in inr (refl, omega (arith, low))
    least (suc u) (suc v) a b lt aa ab col = inl (omega arith)

all-here : (r : Ruling) (x : Claim) (k : ℕ) (s : Option Settled) (ss : List (Option Settled)) (pair : List ℕ × List ℕ) (o rest : Option (List ℕ × List ℕ)) → IsFair r → FitClaims r (s ∷ ss) → claim_in s ≡ Some x →
    collision_with r x (live_from [] (k + 1) ss) ≡ o → option_or o rest ≡ Some pair → (rest ≡ Some pair → LeastOf r ss pair) → LeastOf r (s ∷ ss) pair
all-here r x k s ss pair (Some p) rest fair f ex eo e later =
    let same : collision_with r x (live_from [] (k + 1) ss) ≡ Some pair = cc in
    all-begun r x s ss pair ex (with-some r x (k + 1) ss pair fair (first-sound r s ss x f ex) f.1 same)
all-here r x k s ss pair None rest fair f ex eo e later =
    all-later r s ss pair (λ a b v aa ab col. with-none r x b (k + 1) v ss fair (first-sound r s ss x f ex) f.1 eo ab (rw (← one-claim s ss x a ex aa) at col)) (later e)

all-by : (r : Ruling) (k : ℕ) (s : Option Settled) (ss : List (Option Settled)) (pair : List ℕ × List ℕ) (o : Option Claim) → IsFair r → FitClaims r (s ∷ ss) → claim_in s ≡ o →
    claims_collision r (also k o (live_from [] (k + 1) ss)) ≡ Some pair → (claims_collision r (live_from [] (k + 1) ss) ≡ Some pair → LeastOf r ss pair) → LeastOf r (s ∷ ss) pair
all-by r k s ss pair (Some x) fair f eo e later =
    all-here r x k s ss pair (collision_with r x (live_from [] (k + 1) ss)) (claims_collision r (live_from [] (k + 1) ss)) fair f eo refl e later
all-by r k s ss pair None fair f eo e later =
    all-later r s ss pair (λ a b v aa ab col. let other : claim_in s ≡ Some a = at-first s ss a aa in cc) (later e)

all-some : (r : Ruling) (k : ℕ) (ss : List (Option Settled)) (pair : List ℕ × List ℕ) → IsFair r → FitClaims r ss → claims_collision r (live_from [] k ss) ≡ Some pair → LeastOf r ss pair
all-some r k [] pair fair f e = absurd (cc)
all-some r k (s ∷ ss) pair fair f e = all-by r k s ss pair (claim_in s) fair f refl e (λ further. all-some r (k + 1) ss pair fair f.1 further)

-- by the numbers of the provers

given-at : (ss : List (Option Settled)) (k : ℕ) (x : Claim) → HasGiven ss (suc k) x → At ss k x
given-at ss k x given = let same : suc k - 1 ≡ k = omega arith in rw same at given

at-given : (ss : List (Option Settled)) (k : ℕ) (x : Claim) → At ss k x → HasGiven ss (suc k) x
at-given ss k x at = let same : suc k - 1 ≡ k = omega arith in rw same at

least-pair : (r : Ruling) (ss : List (Option Settled)) (pair : List ℕ × List ℕ) → LeastOf r ss pair → IsOfLeastPair r ss pair
least-pair r ss pair l = record {
  p = suc l.i;
  q = suc l.j;
  they = record { numbered = omega arith; later = omega (arith, l.later); first = l.x; second = l.y; first_given = at-given ss l.i l.x l.gave_x; second_given = at-given ss l.j l.y l.gave_y; collide = l.collide };
  is = l.is;
  least = least;
}
  where
    least : (u v : ℕ) → CollidingProvers r ss u v → (suc l.i < u) ⊎ ((suc l.i ≡ u) × (suc l.j ≤ v))
    least zero v c = absurd (omega (arith, c.numbered))
    least u zero c = absurd (omega (arith, c.later))
    least (suc u) (suc v) c =
        let low : (l.i < u) ⊎ ((l.i ≡ u) × (l.j ≤ v)) = l.least u v c.first c.second (omega (arith, c.later)) (given-at ss u c.first c.first_given) (given-at ss v c.second c.second_given) c.collide in
        elim low [
          | inl below ↦ inl (omega (arith, below))
          | inr same ↦ inr (ap suc same.0, omega (arith, same.1))
        ]

none-collide : (r : Ruling) (ss : List (Option Settled)) → IsFair r → FitClaims r ss → claims_collision r (live_from [] 1 ss) ≡ None → (p q : ℕ) → CollidingProvers r ss p q → ⊥
none-collide r ss fair f e zero q c = omega (arith, c.numbered)
none-collide r ss fair f e p zero c = omega (arith, c.later)
none-collide r ss fair f e (suc p) (suc q) c =
    all-none r c.first c.second 1 p q ss fair f e (omega (arith, c.later)) (given-at ss p c.first c.first_given) (given-at ss q c.second c.second_given) c.collide

none-by : (r : Ruling) (ss : List (Option Settled)) (o : Option (List ℕ × List ℕ)) → IsFair r → FitClaims r ss → claims_collision r (live_from [] 1 ss) ≡ o → ((p q : ℕ) → CollidingProvers r ss p q → ⊥) → o ≡ None
none-by r ss None fair f e never = refl
none-by r ss (Some pair) fair f e never =
    let l : IsOfLeastPair r ss pair = least-pair r ss pair (all-some r 1 ss pair fair f e) in
    absurd (never l.p l.q l.they)

pub no_collision_if_none : NoCollisionIfNonePair
no_collision_if_none rules xs fair =
    let i : IsSettled rules (record_after rules xs) = settled-begun rules xs in
    let f : FitClaims rules.ruling (record_after rules xs).claims = rw i.comes at (fit-claims rules i.list i.fit) in
    (none-collide rules.ruling (record_after rules xs).claims fair f, none-by rules.ruling (record_after rules xs).claims _ fair f refl)

pub collision_of_least : CollisionIsOfLeastPair
collision_of_least rules xs pair fair e =
    let i : IsSettled rules (record_after rules xs) = settled-begun rules xs in
    let f : FitClaims rules.ruling (record_after rules xs).claims = rw i.comes at (fit-claims rules i.list i.fit) in
    least-pair rules.ruling (record_after rules xs).claims pair (all-some rules.ruling 1 (record_after rules xs).claims pair fair f e)
