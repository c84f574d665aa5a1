-- To believe: chains of matches. Each match begins with the root that the one before it accepted; so matches of bounded length decide runs of
-- any length.
use Rattle.std.specs.Prelude.{◌≡◌, ◌⊎◌, ℕ, ◌+◌, ◌^◌, ◌<◌, true, List, [], ◌∷◌, length}
use Rattle.rd_base.specs.declared.digest.Digest32.{Digest32}
use Rattle.rd_base.specs.declared.claim.Claim.{Claim}
use Rattle.out_chain.specs.Root.{root_of_claim}
use Rattle.rv_step.specs.State.{State}
use Rattle.rv_step.specs.Step.{state_at}
use Rattle.rv_step.specs.Valid.{IsValid}
use Rattle.state_commit.specs.StateRoot.{root_in}
use Rattle.state_commit.specs.Binding.{StatesSplit}
use Rattle.open_proof.specs.PlainClaim.{plain_claim}
use Rattle.bisect_game.specs.Rules.{Rules, ArePlayable}
use Rattle.tournament.specs.declared.reading.Verdict.{Verdict}
use Rattle.tournament.specs.declared.reading.Verdict.TheVariants.{Accept, NoneLeft, Collision}
use Rattle.tournament.specs.Bracket.{Record, is_complete, verdict_of}
use Rattle.tournament.specs.Collisions.{HasGiven}
use Rattle.tournament.specs.Posting.{Post, record_after}
use Rattle.tournament.specs.Theorem.{AreTrue, IsCollisionIn}
use Rattle.step_referee.specs.MachineRuling.{machine_ruling}
use Rattle.step_referee.specs.MachineTruth.{machine_truth}

-- a match: by what it is played, and what was posted in it, by anybody and with any contents
pub record Played : Type 0 where
  pub rules : Rules
  pub posts : List Post

abbrev pub record_of : Played → Record
record_of m = record_after m.rules m.posts

abbrev pub verdict_reached : Played → Verdict
verdict_reached m = verdict_of m.rules (record_of m)

-- how many steps it decides
abbrev pub bound_of : Played → ℕ
bound_of m = m.rules.setup.bound

-- a match that is over and begins with a root, before the machine's judge; one of its provers gave true answers of the run from a state,
-- over the steps from one on
pub record IsOfRun (digest : List ℕ → List ℕ) (s : State) (from : ℕ) (root : Digest32) (m : Played) : Type 0 where
  pub playable : ArePlayable m.rules
  pub judge : m.rules.ruling ≡ machine_ruling digest s.version
  pub begins : m.rules.setup.start ≡ root
  pub over : is_complete (record_of m) ≡ true
  pub prover : ℕ
  pub numbered : 0 < prover
  pub truthful : AreTrue m.rules (machine_truth digest (state_at s from) m.rules.setup.bound) prover (record_of m)

-- it has accepted this claim
pub record HasAccepted (m : Played) (c : Claim) : Type 0 where
  pub prover : ℕ
  pub verdict : verdict_reached m ≡ Accept prover
  pub given : HasGiven (record_of m).claims prover c

abbrev pub claimed_root : (List ℕ → List ℕ) → Claim → Digest32
claimed_root digest c = record { 0 = root_of_claim digest c }

-- matches of one run, each with the claim that it accepted, and each from the root of the claim before it
abbrev pub IsChain : (List ℕ → List ℕ) → State → ℕ → Digest32 → List (Played × Claim) → Type 0
IsChain digest s from root [] = Unit {0}
IsChain digest s from root (m ∷ ms) = IsOfRun digest s from root m.0 × (HasAccepted m.0 m.1 × IsChain digest s (from + bound_of m.0) (claimed_root digest m.1) ms)

-- the step to which a chain from a step comes, and the root to which one from a root comes

abbrev pub step_after : ℕ → List (Played × Claim) → ℕ
step_after from [] = from
step_after from (m ∷ ms) = step_after (from + bound_of m.0) ms

abbrev pub root_after : (List ℕ → List ℕ) → Digest32 → List (Played × Claim) → Digest32
root_after digest root [] = root
root_after digest root (m ∷ ms) = root_after digest (claimed_root digest m.1) ms

-- the root of the state in which a run starts
abbrev pub first_root : (List ℕ → List ℕ) → State → Digest32
first_root digest s = record { 0 = root_in digest s.version s }

-- a verdict is right of a step of the run: the accepted claim is that of the state there, with its status and its whole output, or the match
-- shows two different strings of one digest
abbrev pub IsRightOfStep : (List ℕ → List ℕ) → State → ℕ → Played → Verdict → Type 0
IsRightOfStep digest s step m (Accept prover) = HasGiven (record_of m).claims prover (plain_claim digest (state_at s step))
IsRightOfStep digest s step m (Collision x y) = IsCollisionIn m.rules (record_of m) (x, y)
IsRightOfStep digest s step m NoneLeft = ⊥

-- a run from a valid state whose output stays below 2^64 bytes over so many steps
pub record IsRunOver (s : State) (steps : ℕ) : Type 0 where
  pub valid : IsValid s
  pub short : length s.output + steps < 2 ^ 64

-- THE LAW OF CHAINS: the next match, whatever the length of the chain before it, decides the run at the sum of all bounds, or shows a collision
abbrev pub ChainsAreRight : (List ℕ → List ℕ) → Type 0
ChainsAreRight digest =
    (s : State) (ms : List (Played × Claim)) (m : Played) → IsRunOver s (step_after 0 ms + bound_of m) → IsChain digest s 0 (first_root digest s) ms →
    IsOfRun digest s (step_after 0 ms) (root_after digest (first_root digest s) ms) m →
    IsRightOfStep digest s (step_after 0 ms + bound_of m) m (verdict_reached m)

-- two matches: the claim accepted first has the root with which the second begins
abbrev pub TwoAreRight : (List ℕ → List ℕ) → Type 0
TwoAreRight digest =
    (s : State) (first second : Played) (c : Claim) → IsRunOver s (bound_of first + bound_of second) →
    IsOfRun digest s 0 (first_root digest s) first → HasAccepted first c → IsOfRun digest s (bound_of first) (claimed_root digest c) second →
    IsRightOfStep digest s (bound_of first + bound_of second) second (verdict_reached second)

-- WHO COMES LATER needs no run from the start: a valid state with the version and the input of the run and the root to which the chain comes is
-- the state of the run there, or two different strings of the two have one digest
abbrev pub StatesOfChainsAreOfTheRun : (List ℕ → List ℕ) → Type 0
StatesOfChainsAreOfTheRun digest =
    (s t : State) (ms : List (Played × Claim)) → IsRunOver s (step_after 0 ms) → IsChain digest s 0 (first_root digest s) ms →
    IsValid t → t.version ≡ s.version → t.input ≡ s.input → length t.output < 2 ^ 64 → first_root digest t ≡ root_after digest (first_root digest s) ms →
    (t ≡ state_at s (step_after 0 ms)) ⊎ StatesSplit digest t (state_at s (step_after 0 ms))
