-- A run of the machine is a true run for the game.
use Rattle.std.proofs.Common.{◌≡◌, ℕ, ◌+◌, ◌%◌, ◌^◌, ◌<◌, ◌≤◌, List, length, Some, true, refl, sym, ap, ◌∙◌, subst, arith, add-one}
use Rattle.std.specs.Prelude.{bytes_eq, if◌then◌else◌}
use Rattle.std.proofs.lemmas.Bool.{and_from}
use Rattle.std.proofs.lemmas.Bool.Decides.{Decides-eqb, Decides-ltb}
use Rattle.std.proofs.lemmas.Slice.Eq.{bytes_eq-Decides}
use Rattle.rd_base.specs.Scheme.{scheme_of}
use Rattle.rd_base.specs.declared.scheme.InputScheme.{InputScheme}
use Rattle.rd_base.specs.declared.scheme.InputScheme.TheVariants as input
use Rattle.rd_base.specs.declared.scheme.RegisterScheme.{RegisterScheme}
use Rattle.rd_base.specs.declared.scheme.RegisterScheme.TheVariants as registers
use Rattle.rd_base.specs.declared.digest.Digest32.{Digest32}
use Rattle.digest_core.specs.Chain.{chain_of}
use Rattle.digest_core.specs.Text.{status_code}
use Rattle.out_chain.specs.Soundness.{is_sound, says_sound, claim_check}
use Rattle.out_chain.specs.declared.checking.ClaimCheck.TheVariants.{Sound, WrongLength, WrongChain}
use Rattle.rv_step.specs.State.{State}
use Rattle.rv_step.specs.Step.{step, state_at}
use Rattle.rv_step.specs.Valid.{IsValid}
use Rattle.state_commit.specs.StateRoot.{ctl_of, memory_digest, registers_by, registers_digest, storage_by, storage_digest, root_in}
use Rattle.mem_tree.specs.InputTree.{input_root}
use Rattle.open_proof.specs.Conditions.{LeadsFrom}
use Rattle.open_proof.specs.Facts.{facts_of}
use Rattle.open_proof.specs.PlainProof.{plain_facts, plain_proof}
use Rattle.open_proof.specs.PlainClaim.{plain_claim}
use Rattle.bisect_game.specs.Ruling.{Ruling}
use Rattle.bisect_game.specs.Rules.{Rules}
use Rattle.bisect_game.specs.Truth.{IsRun}
use Rattle.step_referee.specs.MachineFair.{leads-exactly}
use Rattle.step_referee.specs.MachineRuling.{leads_in, machine_ruling}
use Rattle.step_referee.specs.MachineTruth.{machine_truth}
use Rattle.step_referee.proofs.RangeLemmas.{code-fits, length-fits, memory-size, registers-size, plain-in-range}

-- the laws of the crates below
pub record RunLaws (digest : List ℕ → List ℕ) : Type 0 where
  pub is_digest : (bytes : List ℕ) → length (digest bytes) ≡ 32
  pub chained : (output : List ℕ) → length (chain_of digest output) ≡ 32
  pub valid : (s : State) (n : ℕ) → IsValid s → IsValid (state_at s n)
  pub output : (s : State) (n : ℕ) → length (state_at s n).output ≤ length s.output + n
  pub version : (s : State) (n : ℕ) → (state_at s n).version ≡ s.version
  pub leads : (s : State) (a b : Digest32) → IsValid s → a.0 ≡ root_in digest s.version s → b.0 ≡ root_in digest s.version (step s)
      → LeadsFrom digest s.version a (facts_of (plain_proof digest s)) b
  pub holds : (s : State) → IsValid s → facts_of (plain_proof digest s) ≡ plain_facts digest s

module _ (digest : List ℕ → List ℕ) (laws : RunLaws digest) where
  abbrev root-at : State → Digest32
  root-at s = record { 0 = root_in digest s.version s }

  plain-leads : (s : State) → IsValid s → leads_in digest s.version (root-at s) (plain_proof digest s) ≡ Some (root-at (step s))
  plain-leads s valid =
      let next : root_in digest (step s).version (step s) ≡ root_in digest s.version (step s) = ap (λ v. root_in digest v (step s)) (laws.version s 1) in
      (leads-exactly digest s.version (root-at s) (root-at (step s)) (plain_proof digest s)).1
      (plain-in-range digest laws.is_digest laws.chained s valid (laws.holds s valid), laws.leads s (root-at s) (root-at (step s)) valid refl next)

  -- the plain claim is sound
  storage-size : (s : State) → length (storage_digest digest s.version s) ≡ 32
  storage-size s = go (scheme_of s.version).input
    where
      go : (held : InputScheme) → length (storage_by digest held (memory_digest digest s) (length s.input) (input_root digest s.input)) ≡ 32
      go input.Tree = laws.is_digest _
      go input.InMemory = memory-size digest laws.is_digest s

  registers-held : (s : State) → length (registers_digest digest s.version s.regs) ≡ 32
  registers-held s = go (scheme_of s.version).registers
    where
      go : (held : RegisterScheme) → length (registers_by digest held s.regs) ≡ 32
      go registers.Whole = laws.is_digest _
      go registers.Tree = registers-size digest laws.is_digest s.regs

  plain-checked : (s : State) → length s.output < 2 ^ 64 → says_sound (claim_check digest (plain_claim digest s)) ≡ true
  plain-checked s low =
      let n = length s.output in
      let same : n % 2 ^ 64 ≡ n = omega (arith, low) in
      ap (λ t. says_sound (if t then (if bytes_eq (chain_of digest s.output) (chain_of digest s.output) then Sound else WrongChain) else WrongLength)) ((Decides-eqb (n % 2 ^ 64) n).1 same)
      ∙ ap (λ t. says_sound (if t then Sound else WrongChain)) ((bytes_eq-Decides (chain_of digest s.output) (chain_of digest s.output)).1 refl)

  plain-sound : (s : State) → IsValid s → length s.output < 2 ^ 64 → is_sound digest (plain_claim digest s) ≡ true
  unfolding is_sound
  plain-sound s valid low =
      and_from _ _
      (and_from _ _ (and_from _ _ (and_from _ _ (and_from _ _ (and_from _ _
      ((Decides-eqb (length (storage_digest digest s.version s)) 32).1 (storage-size s))
      ((Decides-eqb (length (registers_digest digest s.version s.regs)) 32).1 (registers-held s)))
      ((Decides-eqb (length (chain_of digest s.output)) 32).1 (laws.chained s.output)))
      ((Decides-ltb s.pc (2 ^ 32)).1 valid.pc))
      ((Decides-ltb (status_code s.status) (2 ^ 32)).1 (code-fits s.status valid.status)))
      ((Decides-ltb (ctl_of digest s).out_len (2 ^ 64)).1 (length-fits s.output)))
      (plain-checked s low)

  pub machine-runs : (s : State) (rules : Rules) → IsValid s → length s.output + rules.setup.bound < 2 ^ 64 → rules.ruling ≡ machine_ruling digest s.version
      → rules.setup.start.0 ≡ root_in digest s.version s → IsRun rules (machine_truth digest s rules.setup.bound)
  machine-runs s rules valid low is start =
      let last = state_at s rules.setup.bound in
      let short = laws.output s rules.setup.bound in
      let fits : length last.output < 2 ^ 64 = omega (arith, short, low) in
      record {
        begins = λ i. record { 0 = sym start i };
        leads = λ i below. subst (λ (r : Ruling). r.leads (root-at (state_at s i)) (plain_proof digest (state_at s i)) ≡ Some (root-at (state_at s (i + 1)))) (sym is)
            (subst (λ v. leads_in digest v (root-at (state_at s i)) (plain_proof digest (state_at s i)) ≡ Some (root-at (state_at s (i + 1)))) (laws.version s i)
            (plain-leads (state_at s i) (laws.valid s i valid) ∙ ap (λ n. Some (root-at (state_at s n))) (sym (add-one i))));
        sound = subst (λ (r : Ruling). r.is_sound (plain_claim digest last) ≡ true) (sym is) (plain-sound last (laws.valid s rules.setup.bound valid) fits);
        ends = subst (λ (r : Ruling). r.root_of (plain_claim digest last) ≡ root-at last) (sym is) refl;
      }
