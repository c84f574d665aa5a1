-- To believe: the roots of a run.
use Rattle.std.specs.Prelude.{◌≡◌, ℕ, List, map, min}
use Rattle.rd_base.specs.Scheme.{scheme_of}
use Rattle.rd_base.specs.declared.scheme.InputScheme.TheVariants as input
use Rattle.rd_base.specs.declared.digest.Digest32.{Digest32}
use Rattle.rv_step.specs.State.{State}
use Rattle.state_commit.specs.StateRoot.{root_in}
use Rattle.mem_tree.specs.InputTree.{input_root}
use Rattle.checkpoint_run.specs.Recorded.{Recorded, state_of_step}

-- the root of a state, in the version of the commitment that the state has
abbrev pub root_of_state : (List ℕ → List ℕ) → State → List ℕ
root_of_state digest s = root_in digest s.version s

-- the root of a run's state of a step; above the bound the last state stands for it
abbrev pub root_at : (List ℕ → List ℕ) → Recorded → ℕ → List ℕ
root_at digest r i = root_of_state digest (state_of_step r (min i r.bound))

-- these are the bytes of the root of a run's input, if the run's version has one
abbrev pub IsInputRoot : (List ℕ → List ℕ) → Recorded → List ℕ → Type 0
IsInputRoot digest r root = (scheme_of r.first.version).input ≡ input.Tree → root ≡ input_root digest r.first.input

-- the bytes of digests
abbrev pub digests : List Digest32 → List (List ℕ)
digests ds = map (λ d. d.0) ds
