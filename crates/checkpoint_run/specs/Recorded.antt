-- To believe: what contracts see of a recorded run.
use Rattle.std.specs.Prelude.{◌≡◌, ℕ, List, slice_get, IfSome, refl}
use Rattle.std.specs.Coded.{Coded, code_by, coded×, coded_list, coded_ℕ}
use Rattle.rd_base.specs.declared.tamper.Tamper.{Tamper}
use Rattle.rd_base.specs.contracts.tamper.Tamper as tampers
use Rattle.digest_core.specs.Chain.{chain_of}
use Rattle.rv_step.specs.State.{State}
use Rattle.rv_step.specs.StateCode.{state_code}
use Rattle.checkpoint_run.specs.TamperedRun.{run_from, still}

-- a step, and the chain that is kept with its state
pub record KeptChain : Type 0 where
  pub step : ℕ
  pub chain : List ℕ

-- it is data, as the pair of its parts
abbrev pub kept_chain_code : Coded KeptChain
kept_chain_code =
    code_by (ℕ × List ℕ)
    (coded× coded_ℕ (coded_list coded_ℕ))
    (λ k. (k.step, k.chain))
    (λ p. record { step = p.0; chain = p.1 })
    (λ _. refl)

-- a run: its state at step 0, after what the tamper does there; the tamper, the bound and the spacing of checkpoints; and
-- the chain of each state that is kept, which a digester made
pub record Recorded : Type 0 where
  pub first : State
  pub tamper : Tamper
  pub bound : ℕ
  pub every : ℕ
  pub chains : List KeptChain

-- a run is data, as the tuple of its parts
abbrev pub recorded_code : Coded Recorded
recorded_code =
    code_by (State × (Tamper × (ℕ × (ℕ × List KeptChain))))
    (coded× state_code (coded× tampers.the_row.coded (coded× coded_ℕ (coded× coded_ℕ (coded_list kept_chain_code)))))
    (λ r. (r.first, (r.tamper, (r.bound, (r.every, r.chains)))))
    (λ p. record { first = p.0; tamper = p.1.0; bound = p.1.1.0; every = p.1.1.1.0; chains = p.1.1.1.1 })
    (λ _. refl)

-- the run's state of a step
abbrev pub state_of_step : Recorded → ℕ → State
state_of_step r i = run_from r.tamper r.first i

-- the step from which it stands still
abbrev pub still_of : Recorded → ℕ
still_of r = still r.tamper r.first r.bound

-- the chain of each state that is kept is that of the output at its step, by a digest function
abbrev pub AreChained : (List ℕ → List ℕ) → Recorded → Type 0
AreChained digest r = (k : ℕ) → IfSome (slice_get r.chains k) (λ kept. kept.chain ≡ chain_of digest (state_of_step r kept.step).output)
