use Rattle.std.proofs.Common.{◌≡◌, ℕ, ◌-◌, ◌<◌, ◌≤◌, false}
use Rattle.rv_step.specs.State.{state_of}
use Rattle.checkpoint_run.specs.TamperedRun.{run_from}
use Rattle.checkpoint_run.specs.AtRest.{ended}
use Rattle.checkpoint_run.specs.UnderWay.{IsUnderWay}
use Rattle.checkpoint_run.proofs.recording.record_steps.Given as goal

abbrev pub invariant-steps : goal.invariant-steps
invariant-steps g l = record {
  within : l.recording.at ≤ l.bound;
  under_way : IsUnderWay g.D.Digester.digest_of l.tamper (state_of l.fn.recording.machine) l.every l.recording;
  before : (k : ℕ) → k < l.recording.at → ended l.tamper k (run_from l.tamper (state_of l.fn.recording.machine) k) ≡ false;
}

abbrev pub decreases-steps : goal.decreases-steps
decreases-steps g l = l.bound - l.recording.at
