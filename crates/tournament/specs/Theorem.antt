-- To believe: the dispute theorem, over lists of posts by anybody and with any contents. Truthful provers stay, the verdict is
-- right, and rounds are few.
use Rattle.std.specs.Prelude.{◌≡◌, ℕ, ◌-◌, ◌*◌, ◌^◌, ◌<◌, ◌≤◌, Bool, false, true, not, ◌&&◌, ◌⊎◌, List, [], ◌∷◌, length, slice_get, Option, Some, None, Contains}
use Rattle.rd_base.specs.declared.answer.Answer.{Answer}
use Rattle.rd_base.specs.declared.answer.Answer.TheVariants as answer
use Rattle.bisect_game.specs.declared.settled.Settled.{Settled}
use Rattle.bisect_game.specs.declared.settled.Settled.TheVariants.{Given, Faulty, Spent}
use Rattle.bisect_game.specs.declared.settled.Side.{Side}
use Rattle.bisect_game.specs.declared.settled.Side.TheVariants.{First, Second}
use Rattle.bisect_game.specs.Ruling.{Ruling, IsFair, IsCollision}
use Rattle.bisect_game.specs.Rules.{Rules, ArePlayable}
use Rattle.bisect_game.specs.Bisection.{Bisection, rounds_of, proof_rounds_of}
use Rattle.bisect_game.specs.Closing.{is_proved}
use Rattle.bisect_game.specs.Truth.{Truth, IsRun, IsTruthful, IsRight, IsProved, own_open, own_root}
use Rattle.tournament.specs.declared.reading.Verdict.{Verdict}
use Rattle.tournament.specs.declared.reading.Verdict.TheVariants.{Accept, NoneLeft, Collision}
use Rattle.tournament.specs.Bracket.{Record, live, is_out_in, is_complete, verdict_of}
use Rattle.tournament.specs.Posting.{Post, record_after}

-- THE PREMISE: the settled answers of a prover so far are all given and true

-- its claim is the true one
abbrev pub HasTrueClaim : Truth → List (Option Settled) → ℕ → Type 0
HasTrueClaim t claims p = slice_get claims (p - 1) ≡ Some (Some (Given (answer.Claim t.claim)))

-- or it is not settled yet
abbrev pub HasTrueClaimSoFar : Truth → List (Option Settled) → ℕ → Type 0
HasTrueClaimSoFar t claims p = (slice_get claims (p - 1) ≡ Some None) ⊎ HasTrueClaim t claims p

pub record TrueIn (rules : Rules) (t : Truth) (p : ℕ) (d : Bisection) : Type 0 where
  pub first : d.first ≡ p → IsTruthful t First d
  pub second : d.second ≡ p → IsTruthful t Second d

abbrev pub AllTrueIn : Rules → Truth → ℕ → List Bisection → Type 0
AllTrueIn rules t p [] = Unit {0}
AllTrueIn rules t p (d ∷ ds) = TrueIn rules t p d × AllTrueIn rules t p ds

pub record AreTrue (rules : Rules) (t : Truth) (p : ℕ) (r : Record) : Type 0 where
  pub claim : HasTrueClaimSoFar t r.claims p
  pub disputes : AllTrueIn rules t p r.disputes

-- TRUTHFUL PROVERS STAY: it is live, also before its claim is settled, no dispute has eliminated it, in each of its disputes the
-- agreed root and its own are the run's, and each proof that it gave is proved

-- a claim that is faulty or spent eliminates its prover
abbrev pub is_out_by_claim : Option (Option Settled) → Bool
is_out_by_claim (Some (Some (Faulty a))) = true
is_out_by_claim (Some (Some Spent)) = true
is_out_by_claim (Some (Some (Given a))) = false
is_out_by_claim (Some None) = false
is_out_by_claim None = false

-- a prover is live until its claim or a dispute eliminates it
abbrev pub lives : Record → ℕ → Bool
lives r p = not (is_out_by_claim (slice_get r.claims (p - 1))) && not (is_out_in r.disputes p)

pub record RightIn (t : Truth) (p : ℕ) (d : Bisection) : Type 0 where
  pub first : d.first ≡ p → IsRight t First d
  pub second : d.second ≡ p → IsRight t Second d

abbrev pub AllRightIn : Truth → ℕ → List Bisection → Type 0
AllRightIn t p [] = Unit {0}
AllRightIn t p (d ∷ ds) = RightIn t p d × AllRightIn t p ds

pub record ProvedIn (rules : Rules) (p : ℕ) (d : Bisection) : Type 0 where
  pub first : d.first ≡ p → IsProved rules.ruling First d
  pub second : d.second ≡ p → IsProved rules.ruling Second d

abbrev pub AllProvedIn : Rules → ℕ → List Bisection → Type 0
AllProvedIn rules p [] = Unit {0}
AllProvedIn rules p (d ∷ ds) = ProvedIn rules p d × AllProvedIn rules p ds

pub record Stays (rules : Rules) (t : Truth) (p : ℕ) (r : Record) : Type 0 where
  pub is_live : lives r p ≡ true
  pub is_listed : HasTrueClaim t r.claims p → Contains (live r) (p, t.claim)
  pub not_out : is_out_in r.disputes p ≡ false
  pub right : AllRightIn t p r.disputes
  pub proved : AllProvedIn rules p r.disputes

abbrev pub TruthfulStay : Type 0
TruthfulStay =
    (rules : Rules) (t : Truth) (xs : List Post) (p : ℕ) → ArePlayable rules → IsFair rules.ruling → IsRun rules t → 0 < p →
    AreTrue rules t p (record_after rules xs) → Stays rules t p (record_after rules xs)

-- THE VERDICT IS RIGHT: the true claim is accepted, or two strings collide

-- the strings that an answer opens
abbrev pub opened_by : Ruling → Answer → List (List ℕ)
opened_by r (answer.Claim c) = r.opened_by_claim c
opened_by r (answer.Root x) = []
opened_by r (answer.Roots xs) = []
opened_by r (answer.Step p) = r.opened_by_step p

-- a claim that is given in the record
abbrev pub IsInClaims : Answer → List (Option Settled) → Type 0
IsInClaims a [] = ⊥
IsInClaims a (s ∷ ss) = (s ≡ Some (Given a)) ⊎ IsInClaims a ss

-- a proof that is given by a side of a dispute, and that leads from the root on which both sides agree to the side's own
pub record IsProofOf (ruling : Ruling) (side : Side) (a : Answer) (d : Bisection) : Type 0 where
  pub given : own_open side d ≡ Some (Given a)
  pub leads : is_proved ruling d.place.agreed (own_root side d.place) a ≡ true

-- such a proof of one of these disputes
abbrev pub IsInDisputes : Ruling → Answer → List Bisection → Type 0
IsInDisputes ruling a [] = ⊥
IsInDisputes ruling a (d ∷ ds) = IsProofOf ruling First a d ⊎ (IsProofOf ruling Second a d ⊎ IsInDisputes ruling a ds)

-- two different strings of one digest, each opened by a claim that is given, or by a proof that leads from its dispute's agreed root
pub record IsCollisionIn (rules : Rules) (r : Record) (pair : List ℕ × List ℕ) : Type 0 where
  pub first : Answer
  pub second : Answer
  pub first_in : IsInClaims first r.claims ⊎ IsInDisputes rules.ruling first r.disputes
  pub second_in : IsInClaims second r.claims ⊎ IsInDisputes rules.ruling second r.disputes
  pub collision : IsCollision rules.ruling (opened_by rules.ruling first) (opened_by rules.ruling second) pair

abbrev pub IsRightVerdict : Rules → Truth → Record → Verdict → Type 0
IsRightVerdict rules t r (Accept n) = HasTrueClaim t r.claims n
IsRightVerdict rules t r (Collision s u) = IsCollisionIn rules r (s, u)
IsRightVerdict rules t r NoneLeft = ⊥

abbrev pub VerdictIsRight : Type 0
VerdictIsRight =
    (rules : Rules) (t : Truth) (xs : List Post) (p : ℕ) → ArePlayable rules → IsFair rules.ruling → IsRun rules t → 0 < p →
    AreTrue rules t p (record_after rules xs) → is_complete (record_after rules xs) ≡ true →
    IsRightVerdict rules t (record_after rules xs) (verdict_of rules (record_after rules xs))

-- FEW ROUNDS

-- m provers play at most m - 1 disputes
abbrev pub FewDisputes : Type 0
FewDisputes = (rules : Rules) (xs : List Post) → 0 < rules.setup.provers → length (record_after rules xs).disputes < rules.setup.provers

-- k bisection rounds with F^k < F * N for rounds of F parts, and at most one proof round
pub record IsShort (rules : Rules) (d : Bisection) : Type 0 where
  pub bisections : rules.setup.fan ^ rounds_of d < rules.setup.fan * rules.setup.bound
  pub proofs : proof_rounds_of d ≤ 1

abbrev pub AllShort : Rules → List Bisection → Type 0
AllShort rules [] = Unit {0}
AllShort rules (d ∷ ds) = IsShort rules d × AllShort rules ds

abbrev pub FewRounds : Type 0
FewRounds = (rules : Rules) (xs : List Post) → ArePlayable rules → AllShort rules (record_after rules xs).disputes
