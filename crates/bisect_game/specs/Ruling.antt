-- To believe: what a judge decides, what a collision is, and the laws that every judge keeps.
use Rattle.std.specs.Prelude.{◌≡◌, ◌≢◌, ℕ, List, Bool, true, Option, Some, None, Contains, bytes_eq}
use Rattle.rd_base.specs.declared.digest.Digest32.{Digest32}
use Rattle.rd_base.specs.declared.claim.Claim.{Claim}
use Rattle.rd_base.specs.declared.proof.Proof.{Proof}

-- the decisions of a judge as functions, the strings that a claim or a proof opens, and the digest of a string
pub record Ruling : Type 0 where
  pub is_sound : Claim → Bool
  pub root_of : Claim → Digest32
  pub leads : Digest32 → Proof → Option Digest32
  pub claim_collision : Claim → Claim → Option (List ℕ × List ℕ)
  pub step_collision : Digest32 → Proof → Proof → Option (List ℕ × List ℕ)
  pub opened_by_claim : Claim → List (List ℕ)
  pub opened_by_step : Proof → List (List ℕ)
  pub digest : List ℕ → List ℕ

-- two different strings of one digest, the first among those that one answer opens, the second among those that another
-- opens
pub record IsCollision (ruling : Ruling) (opened_first opened_second : List (List ℕ)) (pair : List ℕ × List ℕ) : Type 0 where
  pub differ : pair.0 ≢ pair.1
  pub one_digest : ruling.digest pair.0 ≡ ruling.digest pair.1
  pub first_opened : Contains opened_first pair.0
  pub second_opened : Contains opened_second pair.1

-- the laws of a judge. Of two sound claims: two different ones of one root have a collision, claims of two roots and equal claims have
-- none, and what is called their collision is one. Of two proofs that both lead from a root: if they lead to different roots they have
-- a collision, and what is called their collision is one.
pub record IsFair (ruling : Ruling) : Type 0 where
  pub claims_collide : (x y : Claim) → ruling.is_sound x ≡ true → ruling.is_sound y ≡ true → ruling.root_of x ≡ ruling.root_of y →
      ruling.claim_collision x y ≡ None → x ≡ y
  pub claims_apart : (x y : Claim) → ruling.is_sound x ≡ true → ruling.is_sound y ≡ true → ruling.root_of x ≢ ruling.root_of y →
      ruling.claim_collision x y ≡ None
  pub claims_equal : (x : Claim) → ruling.is_sound x ≡ true → ruling.claim_collision x x ≡ None
  pub claim_collisions : (x y : Claim) (pair : List ℕ × List ℕ) → ruling.is_sound x ≡ true → ruling.is_sound y ≡ true →
      ruling.claim_collision x y ≡ Some pair → IsCollision ruling (ruling.opened_by_claim x) (ruling.opened_by_claim y) pair
  pub steps_collide : (from : Digest32) (x y : Proof) (b c : Digest32) → ruling.leads from x ≡ Some b → ruling.leads from y ≡ Some c → b ≢ c →
      (pair : List ℕ × List ℕ) × (ruling.step_collision from x y ≡ Some pair)
  pub step_collisions : (from : Digest32) (x y : Proof) (b c : Digest32) (pair : List ℕ × List ℕ) → ruling.leads from x ≡ Some b → ruling.leads from y ≡ Some c →
      ruling.step_collision from x y ≡ Some pair → IsCollision ruling (ruling.opened_by_step x) (ruling.opened_by_step y) pair

-- two digests have the same bytes
abbrev pub same_digest : Digest32 → Digest32 → Bool
same_digest a b = bytes_eq a.0 b.0
