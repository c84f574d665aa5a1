-- To believe: the plain answers of a run, which are the answers of a prover that answers what its run gives. Each is of the version
-- of the commitment that the state has.
use Rattle.std.specs.Prelude.{ℕ, List, map, min, Option, Some}
use Rattle.rd_base.specs.declared.digest.Digest32.{Digest32}
use Rattle.rd_base.specs.declared.answer.Answer.{Answer}
use Rattle.rd_base.specs.declared.answer.Answer.TheVariants as answer
use Rattle.rv_step.specs.State.{State}
use Rattle.open_proof.specs.PlainProof.{plain_proof}
use Rattle.open_proof.specs.PlainClaim.{plain_claim}
use Rattle.state_commit.specs.StateRoot.{root_in}
use Rattle.bisect_game.specs.declared.settled.Kind.{Kind}
use Rattle.bisect_game.specs.declared.settled.Kind.TheVariants as kind
use Rattle.bisect_game.specs.declared.settled.Question.{Question}
use Rattle.bisect_game.specs.Bisection.{steps_asked}

-- the root of the state of a step; the last state stands for a step above the bound
abbrev pub plain_root : (List ℕ → List ℕ) → (ℕ → State) → ℕ → ℕ → Digest32
plain_root digest run bound i = record { 0 = root_in digest (run (min i bound)).version (run (min i bound)) }

-- the plain answer to what is asked, of a run up to a bound: the claim of the last state, the root of the state of a step, those of
-- the states at the cuts of an interval, or the proof of the state of a step
abbrev pub plain : (List ℕ → List ℕ) → (ℕ → State) → ℕ → Kind → Answer
plain digest run bound kind.Claim = answer.Claim (plain_claim digest (run bound))
plain digest run bound (kind.Root i) = answer.Root (plain_root digest run bound i)
plain digest run bound (kind.Roots lo hi parts) = answer.Roots (map (plain_root digest run bound) (steps_asked lo hi parts))
plain digest run bound (kind.Proof i) = answer.Step (plain_proof digest (run (min i bound)))

-- one that answers so says it to each question, and never passes
abbrev pub plain_says : (List ℕ → List ℕ) → (ℕ → State) → ℕ → Question → ℕ → Option Answer
plain_says digest run bound question passes = Some (plain digest run bound question.kind)
