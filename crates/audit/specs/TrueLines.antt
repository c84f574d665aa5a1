-- To believe. A prover whose lines in a text are all given and true, and what a confirmed text is worth with one.
use Rattle.std.specs.Prelude.{◌≡◌, ℕ, ◌<◌, ◌≤◌, List, Some, All}
use Rattle.bisect_game.specs.declared.settled.Kind.{Kind}
use Rattle.bisect_game.specs.Ruling.{Ruling, IsFair}
use Rattle.bisect_game.specs.Rules.{Rules, ArePlayable}
use Rattle.bisect_game.specs.Truth.{Truth, IsRun, IsTrueSettled}
use Rattle.tournament.specs.declared.reading.Verdict.{Verdict}
use Rattle.tournament.specs.Asked.{asked}
use Rattle.tournament.specs.Theorem.{IsCollisionIn}
use Rattle.transcript_text.specs.declared.text.TextMove.{TextMove}
use Rattle.transcript_text.specs.declared.text.Stated.{Stated}
use Rattle.transcript_text.specs.declared.text.Stated.TheVariants as stated
use Rattle.transcript_text.specs.declared.text.FullText.{FullText}
use Rattle.audit.specs.declared.finding.Audit.TheVariants.{Confirmed}
use Rattle.audit.specs.LineByLine.{rules_of_head, AreOfProvers, audited}
use Rattle.audit.specs.OwnMatch.{own_record}

-- if a line is this prover's, it is given, and the true answer to what the text's own match asks it under that number
abbrev pub IsTrueLine : Rules → Truth → ℕ → List TextMove → TextMove → Type 0
IsTrueLine rules truth p ms m = m.prover ≡ p → (k : Kind) → asked rules (own_record rules ms) p m.qid ≡ Some k → IsTrueSettled truth k m.settled

abbrev pub AreTrueLines : Rules → Truth → ℕ → List TextMove → Type 0
AreTrueLines rules truth p ms = All (IsTrueLine rules truth p ms) ms

-- what is stated is right: the status and the output of the run, or a collision in the text's own match
abbrev pub IsRightStated : Rules → Truth → List TextMove → Stated → Type 0
IsRightStated rules truth ms (stated.Accept status output) = (status ≡ truth.claim.ctl.status) × (output ≡ truth.claim.output)
IsRightStated rules truth ms stated.NoneLeft = ⊥
IsRightStated rules truth ms (stated.Collision x y) = IsCollisionIn rules (own_record rules ms) (x, y)

-- of every run over the stated bound from the stated root, of which one prover's lines are all given and true, a confirmed text states
-- the answer, or a collision
abbrev pub ConfirmedTextIsRight : Type 0
ConfirmedTextIsRight =
    (ruling : Ruling) (truth : Truth) (text : FullText) (v : Verdict) (p : ℕ) →
    let rules : Rules = rules_of_head ruling text.head in
    ArePlayable rules → IsFair ruling → IsRun rules truth → 0 < p → p ≤ rules.setup.provers → AreOfProvers rules.setup.provers text.moves →
    audited ruling text ≡ Confirmed v → AreTrueLines rules truth p text.moves → IsRightStated rules truth text.moves text.stated
