-- To believe. Which full texts there are: the limits of their parts.
use Rattle.std.specs.Prelude.{◌≡◌, ℕ, ◌^◌, ◌<◌, ◌≤◌, List, [], ◌∷◌, length, slice_index}
use Rattle.rd_base.specs.Status.{HasWordCode}
use Rattle.transcript_text.specs.FullLines.{HasWireForm}
use Rattle.transcript_text.specs.declared.limits.Limit.{Limit}
use Rattle.transcript_text.specs.declared.text.Head.{Head}
use Rattle.transcript_text.specs.declared.text.TextMove.{TextMove}
use Rattle.transcript_text.specs.declared.text.Stated.{Stated}
use Rattle.transcript_text.specs.declared.text.Stated.TheVariants as stated
use Rattle.transcript_text.specs.declared.text.FullText.{FullText}
use Rattle.transcript_text.specs.Limits.{provers_limit, bound_limit, patience_limit, version_limit, fan_limit}

abbrev pub AreBytes : List ℕ → Type 0
AreBytes xs = (k : ℕ) → slice_index xs k < 256

abbrev pub IsWithin : Limit → ℕ → Type 0
IsWithin limit n = (limit.least ≤ n) × (n ≤ limit.most)

-- each number of a head is within its limit, and the root has 32 bytes
pub record IsHeadInLimits (h : Head) : Type 0 where
  pub provers : IsWithin provers_limit h.provers
  pub bound : IsWithin bound_limit h.bound
  pub patience : IsWithin patience_limit h.patience
  pub version : IsWithin version_limit h.version
  pub fan : IsWithin fan_limit h.fan
  pub length : length h.start.0 ≡ 32
  pub bytes : AreBytes h.start.0

-- a move of one of `provers` provers
pub record IsMoveInLimits (provers : ℕ) (m : TextMove) : Type 0 where
  pub dispute : m.qid.dispute < 2 ^ 32
  pub round : m.qid.round < 2 ^ 32
  pub prover : (1 ≤ m.prover) × (m.prover ≤ provers)
  pub settled : HasWireForm m.settled

abbrev pub AreMovesInLimits : ℕ → List TextMove → Type 0
AreMovesInLimits provers [] = Unit {0}
AreMovesInLimits provers (m ∷ ms) = IsMoveInLimits provers m × AreMovesInLimits provers ms

-- a string of a collision
abbrev pub IsString : List ℕ → Type 0
IsString xs = (0 < length xs) × (length xs ≤ 129) × AreBytes xs

abbrev pub IsStatedInLimits : Stated → Type 0
IsStatedInLimits (stated.Accept status output) = HasWordCode status × AreBytes output
IsStatedInLimits stated.NoneLeft = Unit {0}
IsStatedInLimits (stated.Collision x y) = IsString x × IsString y

pub record IsInLimits (x : FullText) : Type 0 where
  pub head : IsHeadInLimits x.head
  pub moves : AreMovesInLimits x.head.provers x.moves
  pub stated : IsStatedInLimits x.stated
