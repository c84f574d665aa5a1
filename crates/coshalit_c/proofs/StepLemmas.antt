-- What is found of a proof is found of the bytes that spell it, and the status says it.
use Rattle.std.proofs.Common.{◌≡◌, ◌↔◌, ℕ, ◌≤◌, List, [], Option, Some, None, Result, Ok, Err, refl, sym, ap, subst, ◌∙◌, arith}
use Rattle.sha2.specs.Sha256.{sha256}
use Rattle.rd_base.specs.declared.digest.Digest32.{Digest32}
use Rattle.rd_base.specs.declared.proof.Proof.{Proof}
use Rattle.rd_base.specs.declared.answer.Answer.TheVariants.{Step}
use Rattle.open_proof.specs.Conditions.{LeadsFrom, Refusal, FirstFails, conditions}
use Rattle.open_proof.specs.Facts.{facts_of}
use Rattle.open_proof.specs.Next.{root_next}
use Rattle.proof_wire.specs.Wire.{Spells}
use Rattle.proof_wire.specs.declared.fault.WireFault.{WireFault}
use Rattle.step_referee.specs.declared.check.StepCheck.{StepCheck}
use Rattle.step_referee.specs.declared.check.StepCheck.TheVariants.{Leads, NotOpen, WrongShape}
use Rattle.coshalit_c.specs.Step as step
use Rattle.coshalit_c.specs.Step.{IsOfProof, LeadsTo, FailsFirst}
use Rattle.coshalit_c.specs.Found.{status_of_check, root_or_before}

-- OF THE PROOF THAT BYTES SPELL

-- what spells a proof is read as it
abbrev pub ReadsSpelled : List ℕ → Result Proof WireFault → Type 0
ReadsSpelled wire read = (proof : Proof) → Spells (Step proof) wire → read ≡ Ok proof

abbrev IsRead : Result Proof WireFault → Proof → Type 0
IsRead read proof = read ≡ Ok proof

same-proof : (p q : Proof) → IsRead (Ok p) q → p ≡ q
same-proof p q is = cc is

same-check : (a b : StepCheck) → Some a ≡ Some b → a ≡ b
same-check a b is = cc is

-- a fact of the proof that was read is one of the bytes, and the other way round
pub of-bytes : (wire : List ℕ) (proof : Proof) (found said : StepCheck) (P : Proof → Type 0) → Spells (Step proof) wire → ReadsSpelled wire (Ok proof)
    → (found ≡ said) ↔ P proof → (Some found ≡ Some said) ↔ IsOfProof wire P
of-bytes wire proof found said P spells only says = (
  λ is. record { proof = proof; spells = spells; so = says.0 (same-check found said is) },
  λ of. ap-some (says.1 (subst P (sym (same-proof proof of.proof (only of.proof of.spells))) of.so)),
)
  where
    ap-some : found ≡ said → Some found ≡ Some said
    ap-some is = cc is

pub spelled : (wire : List ℕ) (proof : Proof) (found : StepCheck) → Spells (Step proof) wire → (Some found ≡ None) ↔ ((p : Proof) → Spells (Step p) wire → ⊥)
spelled wire proof found spells = (λ is. absurd (cc is), λ never. absurd (never proof spells))

unread : (wire : List ℕ) (fault : WireFault) → ReadsSpelled wire (Err fault) → (p : Proof) → Spells (Step p) wire → ⊥
unread wire fault only p spells = cc (only p spells)

pub of-none : (wire : List ℕ) (fault : WireFault) (said : StepCheck) (P : Proof → Type 0) → ReadsSpelled wire (Err fault) → (None ≡ Some said) ↔ IsOfProof wire P
of-none wire fault said P only = (λ is. absurd (cc is), λ of. absurd (unread wire fault only of.proof of.spells))

abbrev pub FindsNone : Option StepCheck → Type 0
FindsNone found = found ≡ None

pub unspelled : (wire : List ℕ) (fault : WireFault) → ReadsSpelled wire (Err fault) → FindsNone None ↔ ((p : Proof) → Spells (Step p) wire → ⊥)
unspelled wire fault only = (λ is. unread wire fault only, λ never. refl)

-- BY STATUS

-- what is found of bytes says it of their proof
pub record IsFound (version : ℕ) (wire : List ℕ) (found : Option StepCheck) (from : Digest32) : Type 0 where
  pub leads : (b : Digest32) → (found ≡ Some (Leads b)) ↔ IsOfProof wire (λ proof. LeadsFrom sha256 version from (facts_of proof) b)
  pub not_open : (found ≡ Some NotOpen) ↔ IsOfProof wire (λ proof. FirstFails Refusal.opening (conditions sha256 version from (facts_of proof)))
  pub wrong_shape : (found ≡ Some WrongShape) ↔ IsOfProof wire (λ proof. FirstFails Refusal.shape (conditions sha256 version from (facts_of proof)))

-- from the digest of these bytes
pub found-as : (version : ℕ) (root wire : List ℕ) (found : Option StepCheck) (from : Digest32) → from ≡ record { 0 = root }
    → ((b : Digest32) → (found ≡ Some (Leads b)) ↔ IsOfProof wire (λ proof. LeadsFrom sha256 version from (facts_of proof) b))
    → (found ≡ Some NotOpen) ↔ IsOfProof wire (λ proof. FirstFails Refusal.opening (conditions sha256 version from (facts_of proof)))
    → (found ≡ Some WrongShape) ↔ IsOfProof wire (λ proof. FirstFails Refusal.shape (conditions sha256 version from (facts_of proof)))
    → IsFound version wire found (record { 0 = root })
found-as version root wire found from is leads not_open wrong_shape =
    subst (IsFound version wire found) is (record { leads = leads; not_open = not_open; wrong_shape = wrong_shape })

abbrev leading : Option StepCheck → Digest32
leading (Some (Leads b)) = b
leading other = record { 0 = [] }

zero-leads : (found : Option StepCheck) → status_of_check found ≡ 0 → found ≡ Some (Leads (leading found))
zero-leads (Some (Leads b)) is = refl
zero-leads (Some NotOpen) is = absurd (cc is)
zero-leads (Some WrongShape) is = absurd (cc is)
zero-leads None is = absurd (cc is)

one-not-open : (found : Option StepCheck) → status_of_check found ≡ 1 → found ≡ Some NotOpen
one-not-open (Some (Leads b)) is = absurd (cc is)
one-not-open (Some NotOpen) is = refl
one-not-open (Some WrongShape) is = absurd (cc is)
one-not-open None is = absurd (cc is)

two-wrong-shape : (found : Option StepCheck) → status_of_check found ≡ 2 → found ≡ Some WrongShape
two-wrong-shape (Some (Leads b)) is = absurd (cc is)
two-wrong-shape (Some NotOpen) is = absurd (cc is)
two-wrong-shape (Some WrongShape) is = refl
two-wrong-shape None is = absurd (cc is)

says : {A X : Type 0} (k status : ℕ) (found said : Option StepCheck) → status ≡ status_of_check found → A → (status_of_check found ≡ k → found ≡ said) → status_of_check said ≡ k → (found ≡ said) ↔ X
    → (status ≡ k) ↔ (A × X)
says k status found said is fit back of-said iff = (λ k-is. (fit, iff.0 (back (sym is ∙ k-is))), λ both. is ∙ (ap status_of_check (iff.1 both.1) ∙ of-said))

pub says-not-open : {A : Type 0} (version status : ℕ) (root wire : List ℕ) (found : Option StepCheck) → status ≡ status_of_check found → A → IsFound version wire found (record { 0 = root })
    → (status ≡ 1) ↔ (A × FailsFirst Refusal.opening version root wire)
says-not-open version status root wire found is fit of = says 1 status found (Some NotOpen) is fit (one-not-open found) refl of.not_open

pub says-wrong-shape : {A : Type 0} (version status : ℕ) (root wire : List ℕ) (found : Option StepCheck) → status ≡ status_of_check found → A → IsFound version wire found (record { 0 = root })
    → (status ≡ 2) ↔ (A × FailsFirst Refusal.shape version root wire)
says-wrong-shape version status root wire found is fit of = says 2 status found (Some WrongShape) is fit (two-wrong-shape found) refl of.wrong_shape

pub says-leads : {A : Type 0} (version status : ℕ) (root wire : List ℕ) (found : Option StepCheck) → status ≡ status_of_check found → A → IsFound version wire found (record { 0 = root })
    → (status ≡ 0) ↔ (A × step.Leads version root wire)
says-leads version status root wire found is fit of =
    (λ zero. (fit, holding ((of.leads (leading found)).0 (zero-leads found (sym is ∙ zero)))), λ both. is ∙ leads-zero both.1)
  where
    holding : IsOfProof wire (λ proof. LeadsFrom sha256 version (record { 0 = root }) (facts_of proof) (leading found)) → step.Leads version root wire
    holding leads = record { proof = leads.proof; spells = leads.spells; so = leads.so.hold }

    leads-zero : step.Leads version root wire → status_of_check found ≡ 0
    leads-zero leads =
        ap status_of_check ((of.leads (record { 0 = root_next sha256 (facts_of leads.proof) })).1
        (record { proof = leads.proof; spells = leads.spells; so = record { hold = leads.so; root = refl } }))

-- what is written

pub leads-to : (version : ℕ) (root wire before now : List ℕ) (found : Option StepCheck) → IsFound version wire found (record { 0 = root }) → now ≡ root_or_before found before
    → status_of_check found ≡ 0 → LeadsTo version root wire now
leads-to version root wire before now found of written zero = by ((of.leads (leading found)).0 (zero-leads found zero))
  where
    by : IsOfProof wire (λ proof. LeadsFrom sha256 version (record { 0 = root }) (facts_of proof) (leading found)) → LeadsTo version root wire now
    by leads = record {
      proof = leads.proof;
      spells = leads.spells;
      so = record { hold = leads.so.hold; root = (written ∙ ap (λ f. root_or_before f before) (zero-leads found zero)) ∙ leads.so.root };
    }
