-- To believe: what a run of the machine is to the game.
use Rattle.std.specs.Prelude.{ℕ, List}
use Rattle.bisect_game.specs.Truth.{Truth}
use Rattle.open_proof.specs.PlainClaim.{plain_claim}
use Rattle.open_proof.specs.PlainProof.{plain_proof}
use Rattle.rv_step.specs.State.{State}
use Rattle.rv_step.specs.Step.{state_at}
use Rattle.state_commit.specs.StateRoot.{root_in}

-- the roots of the states of the run from a state, the plain proof of each step, and the claim that is true at the bound, each in the
-- state's version
abbrev pub machine_truth : (List ℕ → List ℕ) → State → ℕ → Truth
machine_truth digest s bound = record {
  root = λ i. record { 0 = root_in digest (state_at s i).version (state_at s i) };
  proof = λ i. plain_proof digest (state_at s i);
  claim = plain_claim digest (state_at s bound);
}
