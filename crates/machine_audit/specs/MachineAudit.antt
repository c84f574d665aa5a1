-- To believe. What a confirmed text is worth of the machine: of each run with the stated root at step 0.
use Rattle.std.specs.Prelude.{◌≡◌, ℕ, ◌<◌, ◌≤◌, List, [], Ok}
use Rattle.rv_step.specs.State.{State}
use Rattle.rv_step.specs.Valid.{IsValid}
use Rattle.rv_step.specs.Step.{state_at}
use Rattle.state_commit.specs.StateRoot.{root_in}
use Rattle.step_referee.specs.MachineRuling.{machine_ruling}
use Rattle.step_referee.specs.MachineTruth.{machine_truth}
use Rattle.bisect_game.specs.Rules.{Rules}
use Rattle.tournament.specs.declared.reading.Verdict.{Verdict}
use Rattle.tournament.specs.Theorem.{IsCollisionIn}
use Rattle.transcript_text.specs.declared.text.Head.{Head}
use Rattle.transcript_text.specs.declared.text.Stated.{Stated}
use Rattle.transcript_text.specs.declared.text.Stated.TheVariants.{Accept, NoneLeft, Collision}
use Rattle.transcript_text.specs.declared.text.FullText.{FullText}
use Rattle.transcript_text.specs.reader.InLimits.{AreBytes}
use Rattle.transcript_text.specs.reader.ReadText.{read_text}
use Rattle.audit.specs.declared.finding.Audit.TheVariants.{Confirmed}
use Rattle.audit.specs.LineByLine.{rules_of_head, audited}
use Rattle.audit.specs.OwnMatch.{own_record}
use Rattle.audit.specs.TrueLines.{AreTrueLines}

-- a valid state of the head's version, with no output, whose root in this version is the stated one
pub record IsStatedStart (digest : List ℕ → List ℕ) (head : Head) (s : State) : Type 0 where
  pub valid : IsValid s
  pub silent : s.output ≡ []
  pub version : s.version ≡ head.version
  pub root : head.start.0 ≡ root_in digest head.version s

-- the rules by which the match of a head is played: the machine in the head's version judges
abbrev pub machine_rules : (List ℕ → List ℕ) → Head → Rules
machine_rules digest head = rules_of_head (machine_ruling digest head.version) head

-- a prover's lines are all given, and true of the run from a state over the stated bound
abbrev pub AreTrueOfRun : (List ℕ → List ℕ) → FullText → State → ℕ → Type 0
AreTrueOfRun digest text s p = AreTrueLines (machine_rules digest text.head) (machine_truth digest s text.head.bound) p text.moves

-- the status and the output in the state at the bound, or two different strings of bytes with one digest, each opened in the text's own match
abbrev pub IsAnswerOrCollision : (List ℕ → List ℕ) → FullText → State → Stated → Type 0
IsAnswerOrCollision digest text s (Accept status output) = (status ≡ (state_at s text.head.bound).status) × (output ≡ (state_at s text.head.bound).output)
IsAnswerOrCollision digest text s NoneLeft = ⊥
IsAnswerOrCollision digest text s (Collision x y) =
    IsCollisionIn (machine_rules digest text.head) (own_record (machine_rules digest text.head) text.moves) (x, y) × (AreBytes x × AreBytes y)

-- of bytes that are read as a text, which is confirmed before the judge of the machine in the head's version
abbrev pub ConfirmedCasesAreRight : (List ℕ → List ℕ) → Type 0
ConfirmedCasesAreRight digest =
    (bytes : List ℕ) (text : FullText) (v : Verdict) (s : State) (p : ℕ) → read_text bytes ≡ Ok text → audited (machine_ruling digest text.head.version) text ≡ Confirmed v →
    IsStatedStart digest text.head s → 0 < p → p ≤ text.head.provers → AreTrueOfRun digest text s p → IsAnswerOrCollision digest text s text.stated
