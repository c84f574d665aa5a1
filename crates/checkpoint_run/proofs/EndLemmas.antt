-- What a recorded run keeps, from what was recorded, and what it gives.
use Rattle.std.proofs.Common.{◌≡◌, ℕ, ◌*◌, ◌<◌, ◌≤◌, List, [], ◌∷◌, length, get_or, Option, Some, None, IfSome, refl, sym, ap, subst, ◌∙◌, arith, slice_get, map}
use Rattle.std.proofs.lemmas.Option.{slice_get-get_or, slice_get-map, slice_get_within, same_Some}
use Rattle.std.specs.Option.{option_map}
use Rattle.digest_core.specs.Chain.{chain_of}
use Rattle.rv_step.specs.State.{State}
use Rattle.checkpoint_run.specs.Recorded.{Recorded, KeptChain, AreChained, state_of_step, still_of}
use Rattle.checkpoint_run.specs.Keeping.{StandsFor, AllStand, IsFound, IsRecorded, first_by, state_by, step_at, found_at, kept_chain}
use Rattle.checkpoint_run.specs.UnderWay.{AllChained}
use Rattle.checkpoint_run.proofs.RunLemmas.{KeepsInput, run_input}
use Rattle.checkpoint_run.specs.declared.checkpoint.Checkpoint.{Checkpoint}
use Rattle.checkpoint_run.specs.declared.version.Version.{Version}

-- the first checkpoint stands for the first state
pub first_of : (cs : List Checkpoint) (versions : List Version) (output : List ℕ) (version : ℕ) (input : List ℕ) (run : ℕ → State)
    → 0 < length cs → step_at cs 0 ≡ 0 → AllStand cs versions output run → version ≡ (run 0).version → input ≡ (run 0).input → first_by cs versions output version input ≡ run 0
first_of [] versions output version input run some starts all version_is input_is = absurd (omega arith)
first_of (c ∷ rest) versions output version input run some starts all version_is input_is =
    let P : State → Type 0 = λ s. state_by c versions output s.version s.input ≡ s in
    let here = subst P (ap run starts) (all 0).state in
    ap (λ v. state_by c versions output v input) version_is ∙ (ap (state_by c versions output (run 0).version) input_is ∙ here)

-- it has the run's version and input
pub first_version : (cs : List Checkpoint) (versions : List Version) (output : List ℕ) (version : ℕ) (input : List ℕ) → (first_by cs versions output version input).version ≡ version
first_version [] versions output version input = refl
first_version (c ∷ rest) versions output version input = refl

pub first_input : (cs : List Checkpoint) (versions : List Version) (output : List ℕ) (version : ℕ) (input : List ℕ) → (first_by cs versions output version input).input ≡ input
first_input [] versions output version input = refl
first_input (c ∷ rest) versions output version input = refl

-- the chains by their checkpoints
pub chains_of : (digest : List ℕ → List ℕ) (cs : List Checkpoint) (run : ℕ → State) → AllChained digest cs run
    → (k : ℕ) → IfSome (slice_get (map kept_chain cs) k) (λ kept. kept.chain ≡ chain_of digest (run kept.step).output)
chains_of digest cs run all k =
    let Q : Option KeptChain → Type 0 = λ o. IfSome o (λ kept. kept.chain ≡ chain_of digest (run kept.step).output) in
    subst Q (sym (slice_get-map kept_chain cs k)) (each (slice_get cs k) (all k))
  where
    each : (o : Option Checkpoint) → IfSome o (λ c. c.ctl.chain.0 ≡ chain_of digest (run c.step).output) → IfSome (option_map kept_chain o) (λ kept. kept.chain ≡ chain_of digest (run kept.step).output)
    each (Some c) h = h
    each None h = tt

-- what was found for a number, by the place
module _ (r now : Recorded) (until : ℕ) (cs : List Checkpoint) (versions : List Version) (output : List ℕ) (version : ℕ) (input : List ℕ) (kept : IsRecorded r until cs versions output version input) (same : r ≡ now)
    (k : ℕ) (c : Checkpoint) (below : k * now.every ≤ still_of now) (is : c ≡ get_or cs (found_at cs now.every k) c) where
  its : IsFound cs now.every (state_of_step now) k
  its =
      let P : Recorded → Type 0 = λ x. k * x.every ≤ still_of x → IsFound cs x.every (state_of_step x) k in
      let rest = kept.rest in
      subst P same (λ small. kept.found k (omega arith)) below

  -- the checkpoint there is the one that was found
  found_is : its.found ≡ c
  found_is = same_Some its.found c (sym its.there ∙ (slice_get-get_or cs (found_at cs now.every k) c (slice_get_within cs (found_at cs now.every k) its.found its.there) ∙ ap Some (sym is)))

  same_state : state_of_step now c.step ≡ state_of_step now (k * now.every)
  same_state = ap (λ (x : Checkpoint). state_of_step now x.step) (sym found_is) ∙ its.same

  pub stands_within : StandsFor c versions output (state_of_step now (k * now.every))
  stands_within =
      let P : Recorded → Type 0 = λ x. AllStand cs versions output (state_of_step x) in
      let Q : Option Checkpoint → Type 0 = λ o. IfSome o (λ x. StandsFor x versions output (state_of_step now x.step)) in
      subst (StandsFor c versions output) same_state (subst Q (its.there ∙ ap Some found_is) (subst P same kept.each (found_at cs now.every k)))

  pub chained_within : r.chains ≡ map kept_chain cs → (digest : List ℕ → List ℕ) → AreChained digest now → c.ctl.chain.0 ≡ chain_of digest (state_of_step now (k * now.every)).output
  chained_within chains digest chained =
      let at = found_at cs now.every k in
      let found : slice_get now.chains at ≡ Some (kept_chain c) =
      ap (λ (x : Recorded). slice_get x.chains at) (sym same) ∙ (ap (λ xs. slice_get xs at) chains ∙ (slice_get-map kept_chain cs at ∙ ap (option_map kept_chain) (its.there ∙ ap Some found_is))) in
      let Q : Option KeptChain → Type 0 = λ o. IfSome o (λ x. x.chain ≡ chain_of digest (state_of_step now x.step).output) in
      let P : State → Type 0 = λ s. c.ctl.chain.0 ≡ chain_of digest s.output in
      subst P same_state (subst Q found (chained at))

-- each state of a recorded run has its version and input
pub input_within : (r now : Recorded) (until : ℕ) (cs : List Checkpoint) (versions : List Version) (output : List ℕ) (version : ℕ) (input : List ℕ) → IsRecorded r until cs versions output version input → r ≡ now → KeepsInput
    → (i : ℕ) → (version ≡ (state_of_step now i).version) × (input ≡ (state_of_step now i).input)
input_within r now until cs versions output version input kept same keeps i =
    let P : Recorded → Type 0 = λ x. (version ≡ (state_of_step x i).version) × (input ≡ (state_of_step x i).input) in
    let held = run_input keeps r.tamper r.first i in
    subst P same (sym (held.0 ∙ kept.version_is), sym (held.1 ∙ kept.input_is))
