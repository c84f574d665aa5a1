-- To believe: what is promised without an honest prover. Once a match is over and a claim is accepted, all live provers have that claim; and
-- provers whose claims have one root are never paired.
use Rattle.std.specs.Prelude.{◌≡◌, ◌≢◌, ℕ, ◌<◌, true, false, List, [], ◌∷◌, Contains}
use Rattle.rd_base.specs.declared.claim.Claim.{Claim}
use Rattle.bisect_game.specs.Bisection.{Bisection}
use Rattle.bisect_game.specs.Ruling.{Ruling, IsFair}
use Rattle.bisect_game.specs.Rules.{Rules, ArePlayable}
use Rattle.bisect_game.specs.Truth.{Truth}
use Rattle.tournament.specs.declared.reading.Verdict.TheVariants.{Accept}
use Rattle.tournament.specs.Bracket.{Record, live, is_complete, verdict_of}
use Rattle.tournament.specs.Collisions.{HasGiven}
use Rattle.tournament.specs.Posting.{Post, record_after}
use Rattle.tournament.specs.Theorem.{HasTrueClaimSoFar, lives}

-- the accepted prover lives and gave a claim, every live prover has that claim, and whoever gave another one is out
pub record HaveOneClaim (r : Record) (n : ℕ) : Type 0 where
  pub claim : Claim
  pub accepted : Contains (live r) (n, claim)
  pub all : (p : ℕ) (c : Claim) → Contains (live r) (p, c) → c ≡ claim
  pub out : (p : ℕ) (c : Claim) → 0 < p → HasGiven r.claims p c → c ≢ claim → lives r p ≡ false

abbrev pub SurvivorsAgree : Type 0
SurvivorsAgree =
    (rules : Rules) (xs : List Post) (n : ℕ) → ArePlayable rules → IsFair rules.ruling → is_complete (record_after rules xs) ≡ true →
    verdict_of rules (record_after rules xs) ≡ Accept n → HaveOneClaim (record_after rules xs) n

-- the two sides of a dispute gave claims of two roots
pub record AreOfTwoRoots (ruling : Ruling) (r : Record) (d : Bisection) : Type 0 where
  pub first : Claim
  pub second : Claim
  pub by_first : HasGiven r.claims d.first first
  pub by_second : HasGiven r.claims d.second second
  pub differ : ruling.root_of first ≢ ruling.root_of second

abbrev pub AllOfTwoRoots : Ruling → Record → List Bisection → Type 0
AllOfTwoRoots ruling r [] = Unit {0}
AllOfTwoRoots ruling r (d ∷ ds) = AreOfTwoRoots ruling r d × AllOfTwoRoots ruling r ds

abbrev pub SidesHaveTwoRoots : Type 0
SidesHaveTwoRoots = (rules : Rules) (xs : List Post) → AllOfTwoRoots rules.ruling (record_after rules xs) (record_after rules xs).disputes

-- no dispute has these two sides
abbrev pub NoneBetween : ℕ → ℕ → List Bisection → Type 0
NoneBetween p q [] = Unit {0}
NoneBetween p q (d ∷ ds) = (d.first ≡ p → d.second ≢ q) × NoneBetween p q ds

-- so provers whose claims have one root are never paired, and provers of one claim least of all
abbrev pub OneRootNeverMeets : Type 0
OneRootNeverMeets =
    (rules : Rules) (xs : List Post) (p q : ℕ) (c d : Claim) → HasGiven (record_after rules xs).claims p c → HasGiven (record_after rules xs).claims q d → rules.ruling.root_of c ≡ rules.ruling.root_of d →
    NoneBetween p q (record_after rules xs).disputes

-- and two provers whose claims so far are true never meet
abbrev pub TruthfulNeverMeet : Type 0
TruthfulNeverMeet =
    (rules : Rules) (t : Truth) (xs : List Post) (p q : ℕ) → HasTrueClaimSoFar t (record_after rules xs).claims p → HasTrueClaimSoFar t (record_after rules xs).claims q →
    NoneBetween p q (record_after rules xs).disputes
