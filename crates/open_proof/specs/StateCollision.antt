-- To believe: a string that a proof opens and a different string of a state, in its version, have one digest.
use Rattle.std.specs.Prelude.{◌≡◌, ◌≢◌, ℕ, List, Contains}
use Rattle.rv_step.specs.State.{State}
use Rattle.state_commit.specs.Strings.{IsStringIn}
use Rattle.open_proof.specs.Strings.{opened_by_facts}
use Rattle.open_proof.specs.declared.facts.Facts.{Facts}

pub record IsStateCollision (digest : List ℕ → List ℕ) (facts : Facts) (s : State) (pair : List ℕ × List ℕ) : Type 0 where
  pub differ : pair.0 ≢ pair.1
  pub one_digest : digest pair.0 ≡ digest pair.1
  pub opened : Contains (opened_by_facts digest facts) pair.0
  pub of_state : IsStringIn digest s.version s pair.1
