-- A chain of accepted claims follows the run.
use Rattle.std.proofs.Common.{◌≡◌, ◌⊎◌, inl, inr, ℕ, ◌+◌, ◌^◌, ◌<◌, ◌≤◌, List, [], ◌∷◌, length, refl, sym, ap, ◌∙◌, subst, arith}
use Rattle.rd_base.specs.declared.digest.Digest32.{Digest32}
use Rattle.rd_base.specs.declared.claim.Claim.{Claim}
use Rattle.rv_step.specs.State.{State}
use Rattle.rv_step.specs.Step.{state_at}
use Rattle.rv_step.specs.Valid.{IsValid}
use Rattle.state_commit.specs.StateRoot.{root_in}
use Rattle.state_commit.specs.Binding.{StatesSplit, committed_part}
use Rattle.open_proof.specs.PlainClaim.{plain_claim}
use Rattle.bisect_game.specs.Rules.{Rules}
use Rattle.bisect_game.specs.Ruling.{IsFair}
use Rattle.bisect_game.specs.Truth.{IsRun}
use Rattle.tournament.specs.declared.reading.Verdict.{Verdict}
use Rattle.tournament.specs.declared.reading.Verdict.TheVariants.{Accept, NoneLeft, Collision}
use Rattle.tournament.specs.Bracket.{Record}
use Rattle.tournament.specs.Collisions.{HasGiven}
use Rattle.tournament.specs.Theorem.{IsRightVerdict, VerdictIsRight}
use Rattle.step_referee.specs.MachineRuling.{machine_ruling}
use Rattle.step_referee.specs.MachineTruth.{machine_truth}
use Rattle.match_chain.specs.Chains.{Played, record_of, verdict_reached, bound_of, IsOfRun, HasAccepted, claimed_root, IsChain, step_after, root_after, first_root, IsRightOfStep, IsRunOver, ChainsAreRight, TwoAreRight, StatesOfChainsAreOfTheRun}

-- the laws of the crates below
pub record ChainLaws (digest : List ℕ → List ℕ) : Type 0 where
  pub right : VerdictIsRight
  pub true_ : (s : State) (rules : Rules) → IsValid s → length s.output + rules.setup.bound < 2 ^ 64 → rules.ruling ≡ machine_ruling digest s.version →
      rules.setup.start.0 ≡ root_in digest s.version s → IsRun rules (machine_truth digest s rules.setup.bound)
  pub fair : (version : ℕ) → IsFair (machine_ruling digest version)
  pub further : (s : State) (n k : ℕ) → state_at s (n + k) ≡ state_at (state_at s n) k
  pub valid : (s : State) (n : ℕ) → IsValid s → IsValid (state_at s n)
  pub output : (s : State) (n : ℕ) → length (state_at s n).output ≤ length s.output + n
  pub version : (s : State) (n : ℕ) → (state_at s n).version ≡ s.version
  pub input : (s : State) (n : ℕ) → (state_at s n).input ≡ s.input
  pub binds : (s t : State) → IsValid s → IsValid t → s.version ≡ t.version → length s.output < 2 ^ 64 → length t.output < 2 ^ 64 →
      root_in digest s.version s ≡ root_in digest t.version t → (committed_part s ≡ committed_part t) ⊎ StatesSplit digest s t

module _ (digest : List ℕ → List ℕ) (laws : ChainLaws digest) where
  -- ONE MATCH from the root of a state of the run decides the run at the end of its steps

  as-step : (s : State) (from : ℕ) (m : Played) (v : Verdict) → IsRightVerdict m.rules (machine_truth digest (state_at s from) (bound_of m)) (record_of m) v → IsRightOfStep digest s (from + bound_of m) m v
  as-step s from m (Accept n) right = subst (λ (t : State). HasGiven (record_of m).claims n (plain_claim digest t)) (sym (laws.further s from (bound_of m))) right
  as-step s from m (Collision x y) right = right
  as-step s from m NoneLeft right = right

  match-right : (s : State) (from : ℕ) (m : Played) → IsRunOver s (from + bound_of m) → IsOfRun digest s from (first_root digest (state_at s from)) m →
      IsRightOfStep digest s (from + bound_of m) m (verdict_reached m)
  match-right s from m over i =
      let t : State = state_at s from in
      let same : (state_at s from).version ≡ s.version = laws.version s from in
      let short : length (state_at s from).output + bound_of m < 2 ^ 64 = omega (arith, laws.output s from, over.short) in
      let judge : m.rules.ruling ≡ machine_ruling digest (state_at s from).version = i.judge ∙ ap (machine_ruling digest) (sym same) in
      let start : m.rules.setup.start.0 ≡ root_in digest (state_at s from).version (state_at s from) = ap (λ (d : Digest32). d.0) i.begins in
      let run : IsRun m.rules (machine_truth digest (state_at s from) (bound_of m)) = laws.true_ (state_at s from) m.rules (laws.valid s from over.valid) short judge start in
      let fair : IsFair m.rules.ruling = subst IsFair (sym i.judge) (laws.fair s.version) in
      as-step s from m (verdict_reached m) (laws.right m.rules (machine_truth digest (state_at s from) (bound_of m)) m.posts i.prover i.playable fair run i.numbered i.truthful i.over)

  -- so the claim that it accepted is that of the run

  one-given : (r : Record) (p : ℕ) (c d : Claim) → HasGiven r.claims p c → HasGiven r.claims p d → c ≡ d
  one-given r p c d g h = cc

  accepted-is : (s : State) (step_ : ℕ) (m : Played) (c : Claim) → HasAccepted m c → IsRightOfStep digest s step_ m (verdict_reached m) → c ≡ plain_claim digest (state_at s step_)
  accepted-is s step_ m c a right = one-given (record_of m) a.prover c (plain_claim digest (state_at s step_)) a.given (subst (IsRightOfStep digest s step_ m) a.verdict right)

  -- and its root that of the state
  root-is : (s : State) (step_ : ℕ) (c : Claim) → c ≡ plain_claim digest (state_at s step_) → claimed_root digest c ≡ first_root digest (state_at s step_)
  root-is s step_ c e = ap (claimed_root digest) e

  further : (from : ℕ) (ms : List (Played × Claim)) → from ≤ step_after from ms
  further from [] = omega arith
  further from (m ∷ ms) = omega (arith, further (from + bound_of m.0) ms)

  -- A CHAIN from the root of a state of the run comes to the root of one
  chain-root : (s : State) (from : ℕ) (root : Digest32) (ms : List (Played × Claim)) → IsRunOver s (step_after from ms) → root ≡ first_root digest (state_at s from) → IsChain digest s from root ms →
      root_after digest root ms ≡ first_root digest (state_at s (step_after from ms))
  chain-root s from root [] over e c = e
  chain-root s from root (m ∷ ms) over e c =
      let now : IsRunOver s (from + bound_of m.0) = record { valid = over.valid; short = omega (arith, over.short, further (from + bound_of m.0) ms) } in
      let right : IsRightOfStep digest s (from + bound_of m.0) m.0 (verdict_reached m.0) = match-right s from m.0 now (subst (λ (d : Digest32). IsOfRun digest s from d m.0) e c.0) in
      let is : m.1 ≡ plain_claim digest (state_at s (from + bound_of m.0)) = accepted-is s (from + bound_of m.0) m.0 m.1 c.1.0 right in
      chain-root s (from + bound_of m.0) (claimed_root digest m.1) ms over (root-is s (from + bound_of m.0) m.1 is) c.1.1

  pub chains-are-right : ChainsAreRight digest
  chains-are-right s ms m over chain i =
      let before : IsRunOver s (step_after 0 ms) = record { valid = over.valid; short = omega (arith, over.short) } in
      match-right s (step_after 0 ms) m over (subst (λ (d : Digest32). IsOfRun digest s (step_after 0 ms) d m) (chain-root s 0 (first_root digest s) ms before refl chain) i)

  pub two-are-right : TwoAreRight digest
  two-are-right s first second c over i a j =
      let alone : IsRunOver s (0 + bound_of first) = record { valid = over.valid; short = omega (arith, over.short) } in
      let right : IsRightOfStep digest s (0 + bound_of first) first (verdict_reached first) = match-right s 0 first alone i in
      let plain : 0 + bound_of first ≡ bound_of first = omega arith in
      let is : c ≡ plain_claim digest (state_at s (bound_of first)) = accepted-is s (bound_of first) first c a (subst (λ (n : ℕ). IsRightOfStep digest s n first (verdict_reached first)) plain right) in
      match-right s (bound_of first) second over (subst (λ (d : Digest32). IsOfRun digest s (bound_of first) d second) (root-is s (bound_of first) c is) j)

  -- WHO COMES LATER
  same-state : (s t : State) → committed_part s ≡ committed_part t → s.input ≡ t.input → s ≡ t
  same-state s t e f =
      let a : s.regs ≡ t.regs = ap (λ (x : State). x.regs) e in
      let b : s.pc ≡ t.pc = ap (λ (x : State). x.pc) e in
      let c : s.memory ≡ t.memory = ap (λ (x : State). x.memory) e in
      let d : s.status ≡ t.status = ap (λ (x : State). x.status) e in
      let o : s.output ≡ t.output = ap (λ (x : State). x.output) e in
      let v : s.version ≡ t.version = ap (λ (x : State). x.version) e in
      λ i. record { regs = a i; pc = b i; memory = c i; status = d i; output = o i; version = v i; input = f i }

  pub states-of-chains : StatesOfChainsAreOfTheRun digest
  states-of-chains s t ms over chain valid version input short root =
      let end : State = state_at s (step_after 0 ms) in
      let at : root_after digest (first_root digest s) ms ≡ first_root digest (state_at s (step_after 0 ms)) = chain-root s 0 (first_root digest s) ms over refl chain in
      let roots : root_in digest t.version t ≡ root_in digest (state_at s (step_after 0 ms)).version (state_at s (step_after 0 ms)) = ap (λ (d : Digest32). d.0) (root ∙ at) in
      let same : t.version ≡ (state_at s (step_after 0 ms)).version = version ∙ sym (laws.version s (step_after 0 ms)) in
      elim (laws.binds t (state_at s (step_after 0 ms)) valid (laws.valid s (step_after 0 ms) over.valid) same short (omega (arith, laws.output s (step_after 0 ms), over.short)) roots) [
        | inl e ↦ inl (same-state t (state_at s (step_after 0 ms)) e (input ∙ sym (laws.input s (step_after 0 ms))))
        | inr split ↦ inr split
      ]
