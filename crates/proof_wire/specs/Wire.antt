-- To believe. The wire forms: which bytes an answer has.
use Rattle.std.specs.Prelude.{◌≡◌, ℕ, ◌+◌, ◌<◌, ◌≤◌, ◌^◌, List, [], ◌∷◌, ◌++◌, length, slice_index, take, drop, Option, Some, None}
use Rattle.std.specs.List.{flat_map, AllByRecursion}
use Rattle.std.specs.Int.{w32, w64, to_le_bytes}
use Rattle.rd_base.specs.declared.digest.Digest32.{Digest32}
use Rattle.rd_base.specs.declared.status.Status.{Status}
use Rattle.rd_base.specs.declared.status.Status.TheVariants.{Running, Exited, Trapped}
use Rattle.rd_base.specs.declared.status.Ctl.{Ctl}
use Rattle.rd_base.specs.declared.opened.Opening.{Opening}
use Rattle.rd_base.specs.declared.opened.RegOpening.{RegOpening}
use Rattle.rd_base.specs.declared.opened.InOpening.{InOpening}
use Rattle.rd_base.specs.declared.claim.Claim as claims
use Rattle.rd_base.specs.declared.proof.StepProof.{StepProof}
use Rattle.rd_base.specs.declared.proof.StepProof2.{StepProof2}
use Rattle.rd_base.specs.declared.proof.StepProof3.{StepProof3}
use Rattle.rd_base.specs.declared.proof.Proof.{Proof}
use Rattle.rd_base.specs.declared.proof.Proof.TheVariants.{V1, V2, V3}
use Rattle.rd_base.specs.declared.answer.Answer.{Answer}
use Rattle.rd_base.specs.declared.answer.Answer.TheVariants.{Claim, Root, Roots, Step}

-- A form of values: the bytes that are written for them, and which values have it.
pub record Form : Type 1 where
  pub bytes : List ℕ
  pub fits : Type 0

-- a form, and behind it another
infixr 20 ◌‖◌
abbrev pub ◌‖◌ : Form → Form → Form
f ‖ g = record { bytes = f.bytes ++ g.bytes; fits = f.fits × g.fits }

-- no bytes
abbrev pub nothing : Form
nothing = record { bytes = []; fits = Unit {0} }

-- no bytes, and a fact that holds
abbrev pub given : Type 0 → Form
given fact = record { bytes = []; fits = fact }

-- a byte
abbrev pub byte : ℕ → Form
byte b = record { bytes = b ∷ []; fits = b < 256 }

-- a number of four bytes, the least first
abbrev pub in_four_bytes : ℕ → Form
in_four_bytes n = record { bytes = to_le_bytes w32 n; fits = n < 2 ^ 32 }

-- a number of eight bytes, the least first
abbrev pub in_eight_bytes : ℕ → Form
in_eight_bytes n = record { bytes = to_le_bytes w64 n; fits = n < 2 ^ 64 }

-- this many bytes, as they are
abbrev pub block : ℕ → List ℕ → Form
block size bytes = record { bytes = bytes; fits = (length bytes ≡ size) × ((k : ℕ) → slice_index bytes k < 256) }

-- this many values of one form, one behind another
abbrev pub each : {A : Type 0} → (A → Form) → ℕ → List A → Form
each f count xs = record { bytes = flat_map (λ x. (f x).bytes) xs; fits = (length xs ≡ count) × AllByRecursion (λ x. (f x).fits) xs }

abbrev pub digest : Digest32 → Form
digest d = block 32 d.0

-- a status with its code, which is 0 of one that is running
abbrev pub status : Status → Form
status Running = byte 0 ‖ in_four_bytes 0
status (Exited code) = byte 1 ‖ in_four_bytes code
status (Trapped code) = byte 2 ‖ in_four_bytes code

-- 49 bytes
abbrev pub control : Ctl → Form
control c = in_four_bytes c.pc ‖ status c.status ‖ in_eight_bytes c.out_len ‖ digest c.chain

-- x1 to x31; x0 is 0, and isn't written
abbrev pub registers : List ℕ → Form
registers xs = given (take 1 xs ≡ 0 ∷ []) ‖ each in_four_bytes 31 (drop 1 xs)

-- a chunk of memory, and the siblings from the leaf's up: 896 bytes
abbrev pub opening : Opening → Form
opening o = block 32 o.chunk ‖ each digest 27 o.path.0

-- a register's value, and the siblings from the leaf's up: 164 bytes
abbrev pub register_opening : RegOpening → Form
register_opening o = in_four_bytes o.value ‖ each digest 5 o.path.0

-- a chunk of the input, and the siblings from the leaf's up: 512 bytes
abbrev pub input_opening : InOpening → Form
input_opening o = block 32 o.chunk ‖ each digest 15 o.path.0

-- a value if there is one, and else no bytes
abbrev pub optional : {A : Type 0} → (A → Form) → Option A → Form
optional f None = nothing
optional f (Some x) = f x

-- the number that says that a value is there, and 0 if it isn't
abbrev pub flagged : {A : Type 0} → ℕ → Option A → ℕ
flagged number None = 0
flagged number (Some x) = number

-- the bytes behind the length of a claim's output, at most 4,294,967,295
abbrev pub output : List ℕ → Form
output bytes = given (length bytes < 2 ^ 32) ‖ block (length bytes) bytes

-- a claim behind its tag
abbrev pub claim : claims.Claim → Form
claim c = digest c.mem ‖ digest c.regs ‖ control c.ctl ‖ in_eight_bytes (length c.output) ‖ output c.output

-- several roots behind their tag: how many, 1 to 15, and the roots
abbrev pub roots : List Digest32 → Form
roots rs = given ((1 ≤ length rs) × (length rs ≤ 15)) ‖ byte (length rs) ‖ each digest (length rs) rs

-- a proof of version 1 behind its tag: flag 1 is the fetched chunk, 2 the data chunk
abbrev pub step_proof : StepProof → Form
step_proof p =
    digest p.mem ‖ registers p.regs ‖ control p.ctl ‖ byte (flagged 1 p.fetch + flagged 2 p.operand)
    ‖ optional opening p.fetch ‖ optional opening p.operand

-- how many registers are opened, at most three
abbrev pub count : List RegOpening → Form
count named = given (length named ≤ 3) ‖ byte (length named)

-- a proof of version 2 behind its tag, with the flags of version 1
abbrev pub step_proof_2 : StepProof2 → Form
step_proof_2 p =
    digest p.mem ‖ digest p.regs ‖ control p.ctl ‖ byte (flagged 1 p.fetch + flagged 2 p.operand) ‖ count p.named
    ‖ optional opening p.fetch ‖ each register_opening (length p.named) p.named ‖ optional opening p.operand

-- a proof of version 3 behind its tag: flag 4 is the input's chunk
abbrev pub step_proof_3 : StepProof3 → Form
step_proof_3 p =
    digest p.mem ‖ in_four_bytes p.input_len ‖ digest p.input_root ‖ digest p.regs ‖ control p.ctl
    ‖ byte (flagged 1 p.fetch + flagged 2 p.operand + flagged 4 p.input) ‖ count p.named
    ‖ optional opening p.fetch ‖ each register_opening (length p.named) p.named ‖ optional opening p.operand
    ‖ optional input_opening p.input

-- the wire form of a proof, each version with its tag
abbrev pub proof_form : Proof → Form
proof_form (V1 p) = byte 3 ‖ step_proof p
proof_form (V2 p) = byte 4 ‖ step_proof_2 p
proof_form (V3 p) = byte 6 ‖ step_proof_3 p

-- the wire form of an answer
abbrev pub wire_form : Answer → Form
wire_form (Claim c) = byte 1 ‖ claim c
wire_form (Root r) = byte 2 ‖ digest r
wire_form (Roots rs) = byte 5 ‖ roots rs
wire_form (Step p) = proof_form p

-- these are the bytes of the answer
abbrev pub Spells : Answer → List ℕ → Type 0
Spells answer bytes = (wire_form answer).fits × (bytes ≡ (wire_form answer).bytes)
