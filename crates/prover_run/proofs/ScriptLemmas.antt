-- What an untouched prover says, in the words of the machine's own run.
use Rattle.std.proofs.Common.{◌≡◌, ℕ, ◌==◌, Bool, true, false, if◌then◌else◌, List, [], ◌∷◌, map, min, slice_index, slice_set, Option, Some, None, refl, sym, ap, ap₂, ◌∙◌, arith}
use Rattle.std.proofs.lemmas.Bool.Decides.{nat_tests}
use Rattle.std.proofs.lemmas.List.{set-get_or}
use Rattle.rd_base.specs.declared.proof.Proof.{Proof}
use Rattle.rd_base.specs.declared.proof.StepProof.{StepProof}
use Rattle.rd_base.specs.Scheme.{scheme_of}
use Rattle.rd_base.specs.declared.scheme.InputScheme.{InputScheme}
use Rattle.rd_base.specs.declared.scheme.RegisterScheme.{RegisterScheme}
use Rattle.rd_base.specs.declared.scheme.RegisterScheme.TheVariants as registers
use Rattle.rd_base.specs.declared.proof.Proof.TheVariants.{V1}
use Rattle.rd_base.specs.declared.opened.RegOpening.{RegOpening}
use Rattle.rd_base.specs.declared.answer.Answer.{Answer}
use Rattle.rd_base.specs.declared.tamper.Tamper.TheVariants.{Untouched}
use Rattle.rd_base.specs.declared.script.Manner.TheVariants.{Forge, Noise}
use Rattle.rd_base.specs.declared.answer.Answer.TheVariants as answer
use Rattle.rd_base.specs.declared.digest.Digest32.{Digest32}
use Rattle.rv_step.specs.State.{State}
use Rattle.bisect_game.specs.declared.settled.Kind.{Kind}
use Rattle.bisect_game.specs.declared.settled.Kind.TheVariants as kind
use Rattle.bisect_game.specs.Bisection.{steps_asked}
use Rattle.bisect_game.specs.declared.settled.Question.{Question}
use Rattle.rv_step.specs.Step.{state_at}
use Rattle.rv_step.specs.Alike.{named_at}
use Rattle.open_proof.specs.PlainProof.{opened_register, registers_opened, plain_facts, plain_proof}
use Rattle.open_proof.specs.Facts.{named_called, proof_by}
use Rattle.open_proof.specs.Shown.{tree_by}
use Rattle.open_proof.specs.declared.facts.HeldRegisters.TheVariants.{Opened}
use Rattle.open_proof.specs.declared.facts.HeldInput.{HeldInput}
use Rattle.open_proof.specs.declared.facts.HeldRegisters.{HeldRegisters}
use Rattle.checkpoint_run.specs.TamperedRun.{run_at}
use Rattle.prover_script.specs.Manners.{with_opened, with_shown, with_forgery, with_roots, noise, asks_roots}
use Rattle.prover_run.specs.CaseScripts.{script_says}
use Rattle.plain_answers.specs.Plain.{plain, plain_root}

same-roots : (digest : List ℕ → List ℕ) (run other : ℕ → State) → ((i : ℕ) → run i ≡ other i) → (bound : ℕ) (steps : List ℕ) →
    map (plain_root digest run bound) steps ≡ map (plain_root digest other bound) steps
same-roots digest run other same bound [] = refl
same-roots digest run other same bound (i ∷ steps) =
    ap₂ (λ (r : Digest32) (rs : List Digest32). r ∷ rs) (ap (λ (s : State). plain_root digest (λ _. s) bound i) (same (min i bound))) (same-roots digest run other same bound steps)

-- runs with the same states have the same plain answers
pub same_plain : (digest : List ℕ → List ℕ) (run other : ℕ → State) → ((i : ℕ) → run i ≡ other i) → (bound : ℕ) (k : Kind) → plain digest run bound k ≡ plain digest other bound k
same_plain digest run other same bound kind.Claim = ap (λ s. plain digest (λ _. s) bound kind.Claim) (same bound)
same_plain digest run other same bound (kind.Root i) = ap (λ s. plain digest (λ _. s) bound (kind.Root i)) (same (min i bound))
same_plain digest run other same bound (kind.Roots lo hi parts) = ap answer.Roots (same-roots digest run other same bound (steps_asked lo hi parts))
same_plain digest run other same bound (kind.Proof i) = ap (λ s. plain digest (λ _. s) bound (kind.Proof i)) (same (min i bound))

-- a register that is set to what it holds
set-to-same : (b : Bool) (xs : List ℕ) (reg value : ℕ) → slice_index xs reg ≡ value → (if b then xs else slice_set xs reg value) ≡ xs
set-to-same true xs reg value holds = refl
set-to-same false xs reg value holds = ap (slice_set xs reg) (sym holds) ∙ set-get_or xs reg 0

-- a proof that shows what the register holds is the same proof
kept-shown : (proof : StepProof) (reg value : ℕ) → slice_index proof.regs reg ≡ value → with_shown reg value (V1 proof) ≡ V1 proof
kept-shown proof reg value holds = ap (λ (xs : List ℕ). V1 (record proof { regs = xs })) (set-to-same (reg == 0) proof.regs reg value holds)

-- an opened register that shows what it holds is the same
opened-same : (b : Bool) (o : RegOpening) (value : ℕ) → (b ≡ true → o.value ≡ value) → (if b then record o { value = value } else o) ≡ o
opened-same true o value holds = let same = holds refl in λ i. record { value = sym same i; path = o.path }
opened-same false o value holds = refl

kept-opened : (digest : List ℕ → List ℕ) (xs : List ℕ) (reg value : ℕ) → slice_index xs reg ≡ value → (rs : List ℕ)
    → with_opened reg value (map (opened_register digest xs) rs) rs ≡ map (opened_register digest xs) rs
kept-opened digest xs reg value holds [] = refl
kept-opened digest xs reg value holds (r ∷ rs) = ap₂ (λ (o : RegOpening) (os : List RegOpening). o ∷ os)
    (opened-same (r == reg) (opened_register digest xs r) value (λ same. let e : r ≡ reg = grind (arith, nat_tests) in ap (slice_index xs) e ∙ holds))
    (kept-opened digest xs reg value holds rs)

-- the plain proof of a state names what the state's next instruction names
abbrev pub NameRegisters : Type 0
NameRegisters = (digest : List ℕ → List ℕ) (s : State) → named_called (plain_facts digest s) ≡ named_at s

-- the plain proof of a state with a register that shows what it holds, in each version
module _ (name : NameRegisters) (digest : List ℕ → List ℕ) (s : State) (reg value : ℕ) (holds : slice_index s.regs reg ≡ value) where
  named-same : with_opened reg value (map (opened_register digest s.regs) (named_at s)) (named_called (plain_facts digest s)) ≡ map (opened_register digest s.regs) (named_at s)
  named-same =
      ap (λ (rs : List ℕ). with_opened reg value (map (opened_register digest s.regs) (named_at s)) rs) (name digest s)
      ∙ kept-opened digest s.regs reg value holds (named_at s)

  abbrev by_scheme : RegisterScheme → InputScheme → Proof
  by_scheme r t = proof_by (plain_facts digest s) (registers_opened digest r s.regs (named_at s)) (tree_by digest t s.input)

  opened-shown : (root : Digest32) (tree : Option HeldInput) →
      let opened : HeldRegisters = Opened root (map (opened_register digest s.regs) (named_at s)) in
      with_shown reg value (proof_by (plain_facts digest s) opened tree) ≡ proof_by (plain_facts digest s) opened tree
  opened-shown root None = ap (λ (os : List RegOpening). proof_by (plain_facts digest s) (Opened root os) None) named-same
  opened-shown root (Some t) = ap (λ (os : List RegOpening). proof_by (plain_facts digest s) (Opened root os) (Some t)) named-same

  by-scheme-same : (r : RegisterScheme) (t : InputScheme) → with_shown reg value (by_scheme r t) ≡ by_scheme r t
  by-scheme-same registers.Whole t =
      let f = plain_facts digest s in
      kept-shown (record { mem = f.mem; regs = s.regs; ctl = f.ctl; fetch = f.fetch; operand = f.operand }) reg value holds
  by-scheme-same registers.Tree t = opened-shown _ (tree_by digest t s.input)

  shown-same : with_shown reg value (plain_proof digest s) ≡ plain_proof digest s
  unfolding plain_proof
  shown-same = by-scheme-same (scheme_of s.version).registers (scheme_of s.version).input

at-its-step : (b : Bool) (forged proof : Proof) → (b ≡ true → forged ≡ proof) → answer.Step (if b then forged else proof) ≡ answer.Step proof
at-its-step true forged proof same = ap answer.Step (same refl)
at-its-step false forged proof same = refl

forged-same : NameRegisters → (digest : List ℕ → List ℕ) (run : ℕ → State) (bound step reg value : ℕ) (k : Kind)
    → (k ≡ kind.Proof step → slice_index (run (min step bound)).regs reg ≡ value) → with_forgery step reg value k (plain digest run bound k) ≡ plain digest run bound k
forged-same name digest run bound step reg value kind.Claim holds = refl
forged-same name digest run bound step reg value (kind.Root i) holds = refl
forged-same name digest run bound step reg value (kind.Roots lo hi parts) holds = refl
forged-same name digest run bound step reg value (kind.Proof i) holds =
    at-its-step (i == step) (with_shown reg value (plain_proof digest (run (min i bound)))) (plain_proof digest (run (min i bound)))
    (λ same.
    let e : i ≡ step = grind (arith, nat_tests) in
    shown-same name digest (run (min i bound)) reg value (ap (λ (j : ℕ). slice_index (run (min j bound)).regs reg) e ∙ holds (ap kind.Proof e)))

pub forged_says : NameRegisters → (digest : List ℕ → List ℕ) (start : State) → ((i : ℕ) → run_at Untouched start i ≡ state_at start i) → (bound step reg value : ℕ) (q : Question) (passes : ℕ)
    → (q.kind ≡ kind.Proof step → slice_index (state_at start (min step bound)).regs reg ≡ value)
    → script_says digest start bound (record { tamper = Untouched; manner = Forge step reg value }) q passes ≡ Some (plain digest (state_at start) bound q.kind)
forged_says name digest start untouched bound step reg value q passes holds =
    ap (λ (a : Answer). Some a)
    (forged-same name digest (run_at Untouched start) bound step reg value q.kind (λ asked. ap (λ (s : State). slice_index s.regs reg) (untouched (min step bound)) ∙ holds asked)
    ∙ same_plain digest (run_at Untouched start) (state_at start) untouched bound q.kind)

-- where no root is asked, noise changes nothing
not-noise : (root : Digest32) (k : Kind) (a : Answer) → asks_roots k ≡ false → with_roots root k a ≡ a
not-noise root kind.Claim a other = refl
not-noise root (kind.Root i) a other = absurd (cc)
not-noise root (kind.Roots lo hi parts) a other = absurd (cc)
not-noise root (kind.Proof i) a other = refl

pub noise_says : (digest : List ℕ → List ℕ) (start : State) → ((i : ℕ) → run_at Untouched start i ≡ state_at start i) → (bound seed : ℕ) (q : Question) (passes : ℕ) → asks_roots q.kind ≡ false
    → script_says digest start bound (record { tamper = Untouched; manner = Noise seed }) q passes ≡ Some (plain digest (state_at start) bound q.kind)
noise_says digest start untouched bound seed q passes other =
    ap (λ (a : Answer). Some a)
    (not-noise (noise digest seed q.qid) q.kind (plain digest (run_at Untouched start) bound q.kind) other
    ∙ same_plain digest (run_at Untouched start) (state_at start) untouched bound q.kind)
