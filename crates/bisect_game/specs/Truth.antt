-- To believe: what a run is to the game, the answers that are true of it, and what a side with true answers is owed.
use Rattle.std.specs.Prelude.{◌≡◌, ℕ, ◌+◌, ◌<◌, Bool, true, false, List, [], ◌∷◌, map, Option, Some, None}
use Rattle.rd_base.specs.declared.digest.Digest32.{Digest32}
use Rattle.rd_base.specs.declared.claim.Claim.{Claim}
use Rattle.rd_base.specs.declared.proof.Proof.{Proof}
use Rattle.rd_base.specs.declared.answer.Answer.{Answer}
use Rattle.rd_base.specs.declared.answer.Answer.TheVariants as answer
use Rattle.bisect_game.specs.declared.settled.Kind.{Kind}
use Rattle.bisect_game.specs.declared.settled.Kind.TheVariants as kind
use Rattle.bisect_game.specs.declared.settled.Settled.{Settled}
use Rattle.bisect_game.specs.declared.settled.Settled.TheVariants.{Given, Faulty, Spent}
use Rattle.bisect_game.specs.declared.settled.Close.{Close}
use Rattle.bisect_game.specs.declared.settled.Close.TheVariants.{Out}
use Rattle.bisect_game.specs.declared.settled.Interval.{Interval}
use Rattle.bisect_game.specs.declared.settled.Round.{Round}
use Rattle.bisect_game.specs.declared.settled.Side.{Side}
use Rattle.bisect_game.specs.declared.settled.Side.TheVariants.{First, Second}
use Rattle.bisect_game.specs.Ruling.{Ruling}
use Rattle.bisect_game.specs.Rules.{Rules, is_fit}
use Rattle.bisect_game.specs.Closing.{is_step, is_proved}
use Rattle.bisect_game.specs.Bisection.{Bisection, cuts, kind_over}

-- the roots of a run by step, the proof of each step, and the claim
pub record Truth : Type 0 where
  pub root : ℕ → Digest32
  pub proof : ℕ → Proof
  pub claim : Claim

-- root 0 is the match's, the proof of a step leads from its root to the next one, and the claim is sound and has the root
-- at the bound
pub record IsRun (rules : Rules) (truth : Truth) : Type 0 where
  pub begins : truth.root 0 ≡ rules.setup.start
  pub leads : (i : ℕ) → i < rules.setup.bound → rules.ruling.leads (truth.root i) (truth.proof i) ≡ Some (truth.root (i + 1))
  pub sound : rules.ruling.is_sound truth.claim ≡ true
  pub ends : rules.ruling.root_of truth.claim ≡ truth.root rules.setup.bound

-- the true answer to what is asked
abbrev pub IsTrueAnswer : Truth → Kind → Answer → Type 0
IsTrueAnswer truth kind.Claim (answer.Claim claim) = claim ≡ truth.claim
IsTrueAnswer truth (kind.Root step) (answer.Root root) = root ≡ truth.root step
IsTrueAnswer truth (kind.Roots lo hi parts) (answer.Roots roots) = roots ≡ map truth.root (cuts lo hi parts)
IsTrueAnswer truth (kind.Proof step) (answer.Step proof) = proof ≡ truth.proof step
IsTrueAnswer truth _ _ = ⊥

-- given, and true
abbrev pub IsTrueSettled : Truth → Kind → Settled → Type 0
IsTrueSettled truth k (Given a) = IsTrueAnswer truth k a
IsTrueSettled truth k (Faulty a) = ⊥
IsTrueSettled truth k Spent = ⊥

abbrev pub IsTrueSoFar : Truth → Kind → Option Settled → Type 0
IsTrueSoFar truth k (Some s) = IsTrueSettled truth k s
IsTrueSoFar truth k None = Unit {0}

-- an answer that was taken as given fits what was asked
abbrev pub IsFit : Ruling → Kind → Settled → Type 0
IsFit ruling k (Given a) = is_fit ruling k a ≡ true
IsFit ruling k (Faulty a) = Unit {0}
IsFit ruling k Spent = Unit {0}

abbrev pub IsFitSoFar : Ruling → Kind → Option Settled → Type 0
IsFitSoFar ruling k (Some s) = IsFit ruling k s
IsFitSoFar ruling k None = Unit {0}

-- what a side has of a dispute
abbrev pub own_root : Side → Interval → Digest32
own_root First i = i.first
own_root Second i = i.second

abbrev pub own_answer : Side → Round → Settled
own_answer First r = r.first
own_answer Second r = r.second

abbrev pub own_open : Side → Bisection → Option Settled
own_open First d = d.by_first
own_open Second d = d.by_second

abbrev pub is_put_out : Side → Option Close → Bool
is_put_out First (Some (Out a b)) = a
is_put_out Second (Some (Out a b)) = b
is_put_out side _ = false

-- what was given to a question for a proof leads from the agreed root to the side's own
abbrev pub IsProvedBy : Ruling → Interval → Digest32 → Option Settled → Type 0
IsProvedBy ruling i own (Some (Given a)) = is_step i ≡ true → is_proved ruling i.agreed own a ≡ true
IsProvedBy ruling i own _ = Unit {0}

abbrev pub IsProved : Ruling → Side → Bisection → Type 0
IsProved ruling side d = IsProvedBy ruling d.place (own_root side d.place) (own_open side d)

-- each answer of a side in these rounds is given and true
abbrev pub AllTrue : Truth → ℕ → Side → List Round → Type 0
AllTrue truth fan side [] = Unit {0}
AllTrue truth fan side (r ∷ rs) = IsTrueSettled truth (kind_over fan r.lo r.hi) (own_answer side r) × AllTrue truth fan side rs

-- each answer of a side so far is given and true
pub record IsTruthful (truth : Truth) (side : Side) (d : Bisection) : Type 0 where
  pub past : AllTrue truth d.fan side d.past
  pub open_ : IsTrueSoFar truth (kind_over d.fan d.place.lo d.place.hi) (own_open side d)

-- the agreed root is the run's at lo, the side's own root is the run's at hi, and the side is not out
pub record IsRight (truth : Truth) (side : Side) (d : Bisection) : Type 0 where
  pub agreed : d.place.agreed ≡ truth.root d.place.lo
  pub own : own_root side d.place ≡ truth.root d.place.hi
  pub stays : is_put_out side d.close ≡ false
