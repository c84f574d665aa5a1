-- To believe. What is stated of the proof of one step that bytes spell, for a referee of a version and by SHA-256.
use Rattle.std.specs.Prelude.{◌≡◌, ℕ, List, length}
use Rattle.sha2.specs.Sha256.{sha256}
use Rattle.rd_base.specs.declared.proof.Proof.{Proof}
use Rattle.rd_base.specs.declared.answer.Answer.TheVariants.{Step}
use Rattle.open_proof.specs.Conditions.{LeadsFrom, Refusal, AllHold, FirstFails, conditions}
use Rattle.open_proof.specs.Facts.{facts_of}
use Rattle.proof_wire.specs.Wire.{Spells}

-- the bytes are the wire form of a proof of one step of which this is true
pub record IsOfProof (wire : List ℕ) (says : Proof → Type 0) : Type 0 where
  pub proof : Proof
  pub spells : Spells (Step proof) wire
  pub so : says proof

-- the root that is given, and the room for the next one, have 32 bytes
abbrev pub HaveLengths : List ℕ → List ℕ → Type 0
HaveLengths root next = length root ≡ 32 × length next ≡ 32

-- all conditions of the proof with these bytes hold, from this root
abbrev pub Leads : ℕ → List ℕ → List ℕ → Type 0
Leads version root wire = IsOfProof wire (λ proof. AllHold (conditions sha256 version (record { 0 = root }) (facts_of proof)))

-- they hold, and the second root is made of the proof's parts after the step
abbrev pub LeadsTo : ℕ → List ℕ → List ℕ → List ℕ → Type 0
LeadsTo version root wire next = IsOfProof wire (λ proof. LeadsFrom sha256 version (record { 0 = root }) (facts_of proof) (record { 0 = next }))

-- the first condition of the proof with these bytes that fails, from this root, is of this kind
abbrev pub FailsFirst : Refusal → ℕ → List ℕ → List ℕ → Type 0
FailsFirst refusal version root wire = IsOfProof wire (λ proof. FirstFails refusal (conditions sha256 version (record { 0 = root }) (facts_of proof)))
