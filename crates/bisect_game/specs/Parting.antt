-- To believe: where a dispute ends between sides that each answer by a run of their own, be it a true one or not. It ends at a step from which
-- the two runs part, and the proofs of that step close it. So a run that leaves the true one at one step is refuted in the proof of that
-- step, or the two proofs of the step where the dispute ends open two different strings of one digest.
use Rattle.std.specs.Prelude.{◌≡◌, ◌≢◌, ℕ, ◌+◌, ◌-◌, ◌<◌, ◌≤◌, Bool, true, false, not, ◌&&◌, ◌⊎◌, List, Some, if◌then◌else◌}
use Rattle.rd_base.specs.declared.digest.Digest32.{Digest32}
use Rattle.bisect_game.specs.declared.settled.Claimed.{Claimed}
use Rattle.bisect_game.specs.declared.settled.Settled.{Settled}
use Rattle.bisect_game.specs.declared.settled.Close.{Close}
use Rattle.bisect_game.specs.declared.settled.Close.TheVariants.{Out, Collision}
use Rattle.bisect_game.specs.declared.settled.Side.{Side}
use Rattle.bisect_game.specs.declared.settled.Side.TheVariants.{First, Second}
use Rattle.bisect_game.specs.Bisection.{Bisection, is_closed}
use Rattle.bisect_game.specs.Closing.{is_root, closed_by}
use Rattle.bisect_game.specs.Disputes.{dispute_of}
use Rattle.bisect_game.specs.Held.{settled_one_by_one, EachIsAsked}
use Rattle.bisect_game.specs.Rules.{Rules, ArePlayable}
use Rattle.bisect_game.specs.Ruling.{Ruling, IsCollision, IsFair}
use Rattle.bisect_game.specs.Truth.{Truth, IsRun, IsTruthful}

-- a run as a side claims it: from the match's root at step 0 to the claimed root at the bound, with a sound claim. Its steps need not be true.
pub record IsClaimedRun (rules : Rules) (run : Truth) (claimed : Digest32) : Type 0 where
  pub begins : run.root 0 ≡ rules.setup.start
  pub ends : claimed ≡ run.root rules.setup.bound
  pub sound : rules.ruling.is_sound run.claim ≡ true

-- whether a run's proof of a step leads from its root before the step to its root after it
abbrev pub proves : Ruling → Truth → ℕ → Bool
proves ruling run step = is_root (run.root (step + 1)) (ruling.leads (run.root step) (run.proof step))

-- how two runs' proofs of one step close a dispute
abbrev pub closed_by_proofs : Ruling → Truth → Truth → ℕ → Close
closed_by_proofs ruling one other step =
    if proves ruling one step && proves ruling other step then closed_by (ruling.step_collision (one.root step) (one.proof step) (other.proof step))
    else Out (not (proves ruling one step)) (not (proves ruling other step))

-- a dispute has narrowed to a step from which the two runs part, and has closed by their proofs of it
pub record EndsWhereTheyPart (rules : Rules) (one other : Truth) (d : Bisection) : Type 0 where
  pub within : d.place.lo < rules.setup.bound
  pub step : d.place.hi ≡ d.place.lo + 1
  pub same : one.root d.place.lo ≡ other.root d.place.lo
  pub differ : one.root (d.place.lo + 1) ≢ other.root (d.place.lo + 1)
  pub close : d.close ≡ Some (closed_by_proofs rules.ruling one other d.place.lo)

-- a dispute that has closed after some answers, in whatever order, of which each of a side is that of its run
pub record IsBetweenRuns (rules : Rules) (one other : Truth) (x y : Claimed) (stage number : ℕ) (answers : List (Side × Settled)) (d : Bisection) : Type 0 where
  pub first : IsClaimedRun rules one x.root
  pub second : IsClaimedRun rules other y.root
  pub differ : x.root ≢ y.root
  pub asked : EachIsAsked rules.ruling answers (dispute_of rules.setup stage number x y)
  pub after : d ≡ settled_one_by_one rules.ruling answers (dispute_of rules.setup stage number x y)
  pub by_first : IsTruthful one First d
  pub by_second : IsTruthful other Second d
  pub closed : is_closed d ≡ true

abbrev pub RunsPartWhereTheyEnd : Type 0
RunsPartWhereTheyEnd =
    (rules : Rules) (one other : Truth) (x y : Claimed) (stage number : ℕ) (answers : List (Side × Settled)) (d : Bisection) → ArePlayable rules →
    IsBetweenRuns rules one other x y stage number answers d → EndsWhereTheyPart rules one other d

-- A LIE AT ONE STEP: the run is the true one before step s, its proof of step s - 1 is that of a true step, and from step s on each of its steps
-- is true
pub record LeavesAt (rules : Rules) (truth lie : Truth) (s : ℕ) : Type 0 where
  pub some : 0 < s
  pub before : (i : ℕ) → i < s → lie.root i ≡ truth.root i
  pub at : rules.ruling.leads (truth.root (s - 1)) (lie.proof (s - 1)) ≡ Some (truth.root s)
  pub after : (i : ℕ) → s ≤ i → i < rules.setup.bound → rules.ruling.leads (lie.root i) (lie.proof i) ≡ Some (lie.root (i + 1))

-- the side with the lie, and it alone, is out in the proof of step s - 1
pub record IsRefutedAt (s : ℕ) (out : Close) (d : Bisection) : Type 0 where
  pub lo : d.place.lo ≡ s - 1
  pub hi : d.place.hi ≡ s
  pub out_ : d.close ≡ Some out

-- a dispute has closed by a collision of two runs' proofs of its step: two different strings of one digest, the first opened by the first
-- run's proof, the second by the second run's
pub record HasCollided (ruling : Ruling) (one other : Truth) (d : Bisection) : Type 0 where
  pub pair : List ℕ × List ℕ
  pub close : d.close ≡ Some (Collision (pair.0) (pair.1))
  pub collision : IsCollision ruling (ruling.opened_by_step (one.proof d.place.lo)) (ruling.opened_by_step (other.proof d.place.lo)) pair

-- against the true run, as the first side or the second
pub record LieIsRefutedAtItsStep : Type 0 where
  pub second : (rules : Rules) (truth lie : Truth) (s : ℕ) (d : Bisection) → IsFair rules.ruling → IsRun rules truth → LeavesAt rules truth lie s →
      EndsWhereTheyPart rules truth lie d → IsRefutedAt s (Out false true) d ⊎ HasCollided rules.ruling truth lie d
  pub first : (rules : Rules) (truth lie : Truth) (s : ℕ) (d : Bisection) → IsFair rules.ruling → IsRun rules truth → LeavesAt rules truth lie s →
      EndsWhereTheyPart rules lie truth d → IsRefutedAt s (Out true false) d ⊎ HasCollided rules.ruling lie truth d

-- A RUN THAT STOPS EARLY: it is the true one up to step s, and stands still from there on
pub record StandsFrom (truth stopped : Truth) (s : ℕ) : Type 0 where
  pub before : (i : ℕ) → i < s → stopped.root i ≡ truth.root i
  pub stands : (i : ℕ) → s ≤ i → stopped.root i ≡ truth.root s
  pub proofs : (i : ℕ) → s ≤ i → stopped.proof i ≡ truth.proof s

-- the side that stopped, and it alone, is out at step s, or at a later one before which the true run has come back to the root of step s
pub record IsRefutedFrom (truth : Truth) (s : ℕ) (out : Close) (d : Bisection) : Type 0 where
  pub late : s ≤ d.place.lo
  pub back : truth.root d.place.lo ≡ truth.root s
  pub out_ : d.close ≡ Some out

-- against the true run, as the first side or the second
pub record EarlyEndIsRefuted : Type 0 where
  pub second : (rules : Rules) (truth stopped : Truth) (s : ℕ) (d : Bisection) → IsFair rules.ruling → IsRun rules truth → StandsFrom truth stopped s →
      EndsWhereTheyPart rules truth stopped d → IsRefutedFrom truth s (Out false true) d ⊎ HasCollided rules.ruling truth stopped d
  pub first : (rules : Rules) (truth stopped : Truth) (s : ℕ) (d : Bisection) → IsFair rules.ruling → IsRun rules truth → StandsFrom truth stopped s →
      EndsWhereTheyPart rules stopped truth d → IsRefutedFrom truth s (Out true false) d ⊎ HasCollided rules.ruling stopped truth d
