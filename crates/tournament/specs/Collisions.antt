-- To believe: which claims of a match collide. If the judge keeps its laws, these are those of two provers that differ and have one
-- root, and the collision of the claims is that of the least such pair.
use Rattle.std.specs.Prelude.{◌≡◌, ◌≢◌, ◌↔◌, ℕ, ◌-◌, ◌<◌, ◌≤◌, ◌⊎◌, List, [], slice_get, Option, Some, None}
use Rattle.rd_base.specs.declared.answer.Answer.TheVariants as answer
use Rattle.rd_base.specs.declared.claim.Claim.{Claim}
use Rattle.bisect_game.specs.declared.settled.Settled.{Settled}
use Rattle.bisect_game.specs.declared.settled.Settled.TheVariants.{Given}
use Rattle.bisect_game.specs.Rules.{Rules}
use Rattle.bisect_game.specs.Ruling.{Ruling, IsFair}
use Rattle.tournament.specs.Bracket.{claims_collision, live_from}
use Rattle.tournament.specs.Posting.{Post, record_after}

-- two claims that differ and have one root
pub record Collide (ruling : Ruling) (x y : Claim) : Type 0 where
  pub one_root : ruling.root_of x ≡ ruling.root_of y
  pub differ : x ≢ y

-- the claim that a prover gave
abbrev pub HasGiven : List (Option Settled) → ℕ → Claim → Type 0
HasGiven claims p x = slice_get claims (p - 1) ≡ Some (Some (Given (answer.Claim x)))

-- two provers whose claims collide, the lower one first
pub record CollidingProvers (ruling : Ruling) (claims : List (Option Settled)) (p q : ℕ) : Type 0 where
  pub numbered : 0 < p
  pub later : p < q
  pub first : Claim
  pub second : Claim
  pub first_given : HasGiven claims p first
  pub second_given : HasGiven claims q second
  pub collide : Collide ruling first second

-- two strings that the judge calls the collision of the least such pair
pub record IsOfLeastPair (ruling : Ruling) (claims : List (Option Settled)) (pair : List ℕ × List ℕ) : Type 0 where
  pub p : ℕ
  pub q : ℕ
  pub they : CollidingProvers ruling claims p q
  pub is : ruling.claim_collision they.first they.second ≡ Some pair
  pub least : (u v : ℕ) → CollidingProvers ruling claims u v → (p < u) ⊎ ((p ≡ u) × (q ≤ v))

-- whatever was posted: the claims have no collision if and only if no two provers gave claims that differ and have one root
abbrev pub NoCollisionIfNonePair : Type 0
NoCollisionIfNonePair =
    (rules : Rules) (xs : List Post) → IsFair rules.ruling →
    (claims_collision rules.ruling (live_from [] 1 (record_after rules xs).claims) ≡ None)
    ↔ ((p q : ℕ) → CollidingProvers rules.ruling (record_after rules xs).claims p q → ⊥)

-- and else it is that of the least pair
abbrev pub CollisionIsOfLeastPair : Type 0
CollisionIsOfLeastPair =
    (rules : Rules) (xs : List Post) (pair : List ℕ × List ℕ) → IsFair rules.ruling →
    claims_collision rules.ruling (live_from [] 1 (record_after rules xs).claims) ≡ Some pair →
    IsOfLeastPair rules.ruling (record_after rules xs).claims pair
