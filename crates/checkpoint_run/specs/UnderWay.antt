-- Derived: what holds of a run that is being recorded.
use Rattle.std.specs.Prelude.{◌≡◌, ◌⊎◌, ℕ, ◌+◌, ◌*◌, ◌/◌, ◌<◌, ◌≤◌, true, false, List, length, vec_len, slice_get, IfSome}
use Rattle.digest_core.specs.Chain.{chain_of}
use Rattle.rd_base.specs.declared.tamper.Tamper.{Tamper}
use Rattle.rv_step.specs.State.{State, state_of, IsChained}
use Rattle.rv_step.specs.declared.machine.Machine.{Machine}
use Rattle.checkpoint_run.specs.TamperedRun.{run_from}
use Rattle.checkpoint_run.specs.AtRest.{rests, ended}
use Rattle.checkpoint_run.specs.Versions.{AreBelow, IsShownBut}
use Rattle.checkpoint_run.specs.WrittenPages.{writes}
use Rattle.checkpoint_run.specs.NotedPages.{AreNoted}
use Rattle.checkpoint_run.specs.Keeping.{AllStand, AreFound, NoneBeyond, at_first, step_at}
use Rattle.checkpoint_run.specs.declared.checkpoint.Checkpoint.{Checkpoint}
use Rattle.checkpoint_run.specs.declared.recording.RecordedPages.{RecordedPages}
use Rattle.checkpoint_run.specs.declared.recording.Recording.{Recording}

-- the chain of each checkpoint is that of its output
abbrev pub AllChained : (List ℕ → List ℕ) → List Checkpoint → (ℕ → State) → Type 0
AllChained digest checkpoints run = (k : ℕ) → IfSome (slice_get checkpoints k) (λ c. c.ctl.chain.0 ≡ chain_of digest (run c.step).output)

-- what is kept of the run from a state up to a step, and the machine of this step
pub record IsRecordedTo (digest : List ℕ → List ℕ) (tamper : Tamper) (first : State) (at : ℕ) (machine : Machine) (recorded : RecordedPages) : Type 0 where
  pub state : state_of machine ≡ run_from tamper first at
  pub chained : IsChained digest machine
  pub some : 0 < length recorded.checkpoints.items
  pub pages : AreBelow recorded.changed.keys
  pub shown : IsShownBut recorded.versions.items recorded.changed.keys machine.mem
  pub places : vec_len recorded.recent ≡ 256
  pub noted : AreNoted recorded.recent.items recorded.changed.keys
  pub few : length recorded.versions.items + length recorded.changed.keys ≤ at_first recorded.checkpoints.items + writes tamper first at
  pub each : AllStand recorded.checkpoints.items recorded.versions.items machine.output.items (run_from tamper first)
  pub chains : AllChained digest recorded.checkpoints.items (run_from tamper first)

-- there is a checkpoint at each multiple of the spacing up to a step, and so many steps are left to the next one
pub record AreSpaced (every at left : ℕ) (checkpoints : List Checkpoint) : Type 0 where
  pub due : at + left ≡ length checkpoints * every
  pub soon : 0 < left
  pub within : left ≤ every
  pub steps : (k : ℕ) → k < length checkpoints → step_at checkpoints k ≡ k * every

-- the run from a state has been recorded up to where the machine is
pub record IsUnderWay (digest : List ℕ → List ℕ) (tamper : Tamper) (first : State) (every : ℕ) (r : Recording) : Type 0 where
  pub recorded : IsRecordedTo digest tamper first r.at r.machine r.recorded
  pub spaced : AreSpaced every r.at r.left r.recorded.checkpoints.items

-- the run from a state has been recorded up to a bound, or up to the step from which no step changes anything but what a tamper does
pub record HasEnded (digest : List ℕ → List ℕ) (tamper : Tamper) (first : State) (every bound : ℕ) (r : Recording) : Type 0 where
  pub under_way : IsUnderWay digest tamper first every r
  pub within : r.at ≤ bound
  pub before : (k : ℕ) → k < r.at → ended tamper k (run_from tamper first k) ≡ false
  pub ends : (ended tamper r.at (run_from tamper first r.at) ≡ true) ⊎ (r.at ≡ bound)

-- the run from a state has been recorded up to a bound, or up to the step from which it stands still; no checkpoint is beyond where it is,
-- and there are no more than multiples of the spacing up to there
pub record IsAtEnd (digest : List ℕ → List ℕ) (tamper : Tamper) (first : State) (every bound : ℕ) (r : Recording) : Type 0 where
  pub recorded : IsRecordedTo digest tamper first r.at r.machine r.recorded
  pub starts : step_at r.recorded.checkpoints.items 0 ≡ 0
  pub found : AreFound r.recorded.checkpoints.items every r.at (run_from tamper first)
  pub below : NoneBeyond r.recorded.checkpoints.items r.at
  pub many : length r.recorded.checkpoints.items ≤ r.at / every + 1
  pub within : r.at ≤ bound
  pub before : (k : ℕ) → k < r.at → rests tamper bound k (run_from tamper first k) ≡ false
  pub ends : (rests tamper bound r.at (run_from tamper first r.at) ≡ true) ⊎ (r.at ≡ bound)
