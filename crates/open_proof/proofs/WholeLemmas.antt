-- What has the parts of a state's plain proof is that proof.
use Rattle.std.proofs.Common.{◌≡◌, ℕ, ◌<◌, ◌≤◌, List, length, Option, Some, None, IfSome, Bool, true, false, cond, nat_lt, refl, ap, ◌∙◌, arith}
use Rattle.std.proofs.lemmas.Bool.Decides.{nat_tests}
use Rattle.rd_base.specs.declared.scheme.InputScheme.{InputScheme}
use Rattle.rd_base.specs.declared.scheme.InputScheme.TheVariants as input
use Rattle.rd_base.specs.declared.proof.Proof.{Proof}
use Rattle.rv_step.specs.State.{State}
use Rattle.rv_step.specs.declared.asked.Need.{Need}
use Rattle.rv_step.specs.declared.asked.Need.TheVariants as need
use Rattle.open_proof.specs.Facts.{byte_needed, proof_of}
use Rattle.open_proof.specs.PlainProof.{plain_facts, plain_proof}
use Rattle.open_proof.specs.Shown.{tree_by}
use Rattle.open_proof.specs.declared.facts.Facts.{Facts}
use Rattle.open_proof.specs.declared.facts.HeldInput.{HeldInput}

-- facts by their parts
pub facts-are : (f h : Facts) → f.version ≡ h.version → f.mem.0 ≡ h.mem.0 → f.input_tree ≡ h.input_tree → f.regs ≡ h.regs → f.ctl ≡ h.ctl → f.fetch ≡ h.fetch → f.operand ≡ h.operand → f.input ≡ h.input → f ≡ h
facts-are f h version mem tree regs ctl fetch operand input = λ i. record {
  version = version i;
  mem = record { 0 = mem i };
  input_tree = tree i;
  regs = regs i;
  ctl = ctl i;
  fetch = fetch i;
  operand = operand i;
  input = input i;
}

pub plain-is : (digest : List ℕ → List ℕ) (s : State) (f : Facts) (p : Proof) → f ≡ plain_facts digest s → p ≡ proof_of f → p ≡ plain_proof digest s
unfolding plain_proof
plain-is digest s f p facts is = is ∙ ap proof_of facts

-- a byte is needed only of an input that is a tree
pub byte-offered : (digest : List ℕ → List ℕ) (xs : List ℕ) (held : InputScheme) (n : Need) → IfSome (byte_needed (tree_by digest held xs) n) (λ _. held ≡ input.Tree)
byte-offered digest xs input.InMemory n = tt
byte-offered digest xs input.Tree need.Nothing = tt
byte-offered digest xs input.Tree (need.Load addr width) = tt
byte-offered digest xs input.Tree (need.Store addr width value) = tt
byte-offered digest xs input.Tree (need.Trap code) = tt
byte-offered digest xs input.Tree (need.Input k) = elim (nat_lt k (length xs)) as (λ test. IfSome (cond test (Some k) None) (λ (_ : ℕ). input.Tree ≡ input.Tree)) [ true ↦ refl | false ↦ tt ]

-- a byte that is needed lies within the input
within : (test : Bool) (k len : ℕ) → nat_lt k len ≡ test → len ≤ 1048576 → IfSome (cond test (Some k) None) (λ n. n < 1048576)
within true k len is short = grind (arith, nat_tests)
within false k len is short = tt

pub byte-within : (tree : Option HeldInput) (n : Need) → IfSome tree (λ t. t.len ≤ 1048576) → IfSome (byte_needed tree n) (λ k. k < 1048576)
byte-within None n short = tt
byte-within (Some t) need.Nothing short = tt
byte-within (Some t) (need.Load addr width) short = tt
byte-within (Some t) (need.Store addr width value) short = tt
byte-within (Some t) (need.Trap code) short = tt
byte-within (Some t) (need.Input k) short = within (nat_lt k t.len) k t.len refl short
