-- Derived: what the checkpoints of a run stand for, and what holds of every recorded run.
use Rattle.std.specs.Prelude.{◌≡◌, ℕ, ◌+◌, ◌-◌, ◌*◌, ◌/◌, ◌<◌, ◌≤◌, min, nat_le, if◌then◌else◌, List, [], ◌∷◌, ◌++◌, map, take, length, slice_get, slice_index, Some, IfSome}
use Rattle.rd_base.specs.declared.status.Status.TheVariants.{Running}
use Rattle.rd_base.specs.declared.status.Ctl.{Ctl}
use Rattle.rd_base.specs.declared.tamper.Tamper.{Tamper}
use Rattle.mem_plain.specs.Contents.{Contents, no_bytes}
use Rattle.rv_step.specs.State.{State}
use Rattle.checkpoint_run.specs.Recorded.{Recorded, KeptChain, state_of_step, still_of}
use Rattle.checkpoint_run.specs.Versions.{pictured}
use Rattle.checkpoint_run.specs.WrittenPages.{writes}
use Rattle.checkpoint_run.specs.declared.checkpoint.Checkpoint.{Checkpoint}
use Rattle.checkpoint_run.specs.declared.version.Version.{Version}

-- the state that a checkpoint stands for: the versions before it are its memory, and the front of the output its output; the
-- machine's version and its input are those of the run
abbrev pub state_by : Checkpoint → List Version → List ℕ → ℕ → List ℕ → State
state_by c versions output version input = record {
  regs = c.regs;
  pc = c.ctl.pc;
  memory = pictured (take c.versions versions);
  status = c.ctl.status;
  output = take c.ctl.out_len output;
  version = version;
  input = input;
}

-- that of the first checkpoint; each run has one
abbrev pub first_by : List Checkpoint → List Version → List ℕ → ℕ → List ℕ → State
first_by [] versions output version input = record { regs = []; pc = 0; memory = no_bytes; status = Running; output = []; version = version; input = input }
first_by (c ∷ rest) versions output version input = state_by c versions output version input

-- a checkpoint has its versions and its output, and stands for a state
pub record StandsFor (c : Checkpoint) (versions : List Version) (output : List ℕ) (s : State) : Type 0 where
  pub versions_there : c.versions ≤ length versions
  pub output_there : c.ctl.out_len ≤ length output
  pub state : state_by c versions output s.version s.input ≡ s

-- each checkpoint stands for the state of its step
abbrev pub AllStand : List Checkpoint → List Version → List ℕ → (ℕ → State) → Type 0
AllStand checkpoints versions output run = (k : ℕ) → IfSome (slice_get checkpoints k) (λ c. StandsFor c versions output (run c.step))

-- the step of the checkpoint at a place
abbrev pub step_at : List Checkpoint → ℕ → ℕ
step_at checkpoints k = slice_index (map (λ c. c.step) checkpoints) k

-- where the checkpoint with a number is found: the place of the number if there is one, and else the last place, or the one before it if
-- the state there is a later one's
abbrev pub found_at : List Checkpoint → ℕ → ℕ → ℕ
found_at checkpoints every c =
    let last = min (length checkpoints - 1) c in
    if nat_le (step_at checkpoints last) (c * every) then last else last - 1

-- what is found for the number of a checkpoint has the run's state of the checkpoint's step
pub record IsFound (checkpoints : List Checkpoint) (every : ℕ) (run : ℕ → State) (c : ℕ) : Type 0 where
  pub found : Checkpoint
  pub there : slice_get checkpoints (found_at checkpoints every c) ≡ Some found
  pub same : run found.step ≡ run (c * every)

-- each checkpoint up to a step is found
abbrev pub AreFound : List Checkpoint → ℕ → ℕ → (ℕ → State) → Type 0
AreFound checkpoints every until run = (c : ℕ) → c * every ≤ until → IsFound checkpoints every run c

-- no checkpoint is beyond a step
abbrev pub NoneBeyond : List Checkpoint → ℕ → Type 0
NoneBeyond checkpoints until = (k : ℕ) → k < length checkpoints → step_at checkpoints k ≤ until

-- how many versions the first checkpoint has
abbrev pub at_first : List Checkpoint → ℕ
at_first [] = 0
at_first (c ∷ rest) = c.versions

-- the chain of a checkpoint, with its step
abbrev pub kept_chain : Checkpoint → KeptChain
kept_chain c = record { step = c.step; chain = c.ctl.chain.0 }

-- what contracts see of a run
abbrev pub recorded_by : Tamper → ℕ → ℕ → List Checkpoint → List Version → List ℕ → ℕ → List ℕ → Recorded
recorded_by tamper bound every checkpoints versions output version input = record {
  first = first_by checkpoints versions output version input;
  tamper = tamper;
  bound = bound;
  every = every;
  chains = map kept_chain checkpoints;
}

-- there is a checkpoint at each multiple of the spacing up to the step from which the run stands still: the first one is at step 0, and
-- each is found, with the state of its step; none is beyond that step, and there are no more than multiples up to it, as a stretch in which
-- nothing happens has one; beside the versions of the first one there are at most as many as pages are written
pub record IsRecorded (r : Recorded) (until : ℕ) (checkpoints : List Checkpoint) (versions : List Version) (output : List ℕ) (version : ℕ) (input : List ℕ) : Type 0 where
  pub spaced : 0 < r.every
  pub rest : until ≡ still_of r
  pub starts : step_at checkpoints 0 ≡ 0
  pub some : 0 < length checkpoints
  pub found : AreFound checkpoints r.every until (state_of_step r)
  pub below : NoneBeyond checkpoints until
  pub many : length checkpoints ≤ until / r.every + 1
  pub each : AllStand checkpoints versions output (state_of_step r)
  pub few : length versions ≤ at_first checkpoints + writes r.tamper r.first until
  pub known : (1 ≤ version) × (version ≤ 3)
  pub short : length input ≤ 1048576
  pub version_is : r.first.version ≡ version
  pub input_is : r.first.input ≡ input

-- one checkpoint more, of a step and of a machine's parts
pub record IsAdded (old new : List Checkpoint) (versions : List Version) (step : ℕ) (regs : List ℕ) (ctl : Ctl) (memory : Contents) : Type 0 where
  pub checkpoint : Checkpoint
  pub pushed : new ≡ old ++ checkpoint ∷ []
  pub step_is : checkpoint.step ≡ step
  pub regs_are : checkpoint.regs ≡ regs
  pub ctl_is : checkpoint.ctl ≡ ctl
  pub versions_are : checkpoint.versions ≡ length versions
  pub memory_is : pictured versions ≡ memory

-- one checkpoint more, of a step
pub record IsPushed (old new : List Checkpoint) (step : ℕ) : Type 0 where
  pub checkpoint : Checkpoint
  pub pushed : new ≡ old ++ checkpoint ∷ []
  pub step_is : checkpoint.step ≡ step
