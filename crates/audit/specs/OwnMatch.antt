-- To believe. What a confirmed text is: the full text of the match whose provers say what the text says.
use Rattle.std.specs.Prelude.{◌≡◌, ◌↔◌, ℕ, true, ◌&&◌, ◌==◌, List, [], ◌∷◌, Option, Some, None, Ok, if◌then◌else◌}
use Rattle.rd_base.specs.declared.answer.Qid.{Qid}
use Rattle.bisect_game.specs.declared.settled.Settled.{Settled}
use Rattle.bisect_game.specs.Says.{Says}
use Rattle.bisect_game.specs.Ruling.{Ruling}
use Rattle.bisect_game.specs.Rules.{Rules, ArePlayable}
use Rattle.tournament.specs.declared.reading.Verdict.{Verdict}
use Rattle.tournament.specs.Bracket.{Record, is_complete, verdict_of, bracket}
use Rattle.tournament.specs.Journals.{answers_of}
use Rattle.rd_base.specs.Questions.{same_qid}
use Rattle.transcript_text.specs.declared.text.Head.{Head}
use Rattle.transcript_text.specs.declared.text.TextMove.{TextMove}
use Rattle.transcript_text.specs.declared.text.FullText.{FullText}
use Rattle.transcript_text.specs.MoveLists.{moves_of}
use Rattle.transcript_text.specs.StatedVerdict.{stated_of}
use Rattle.transcript_text.specs.FullLines.{full_text, AreWritten}
use Rattle.transcript_text.specs.reader.ReadText.{read_text}
use Rattle.transcript_text.specs.reader.InLimits.{IsHeadInLimits}
use Rattle.transcript_text.specs.reader.Laws.{HasStrings}
use Rattle.audit.specs.declared.finding.Audit.TheVariants.{Confirmed}
use Rattle.audit.specs.LineByLine.{rules_of_head, AreOfProvers, audited}
use Rattle.tournament.specs.OfCases.{answer_held}

-- what a prover's answer to the question with a number is settled as, by the first such line
abbrev pub settled_by_lines : ℕ → Qid → List TextMove → Option Settled
settled_by_lines p qid [] = None
settled_by_lines p qid (m ∷ ms) = if (m.prover == p) && same_qid m.qid qid then Some m.settled else settled_by_lines p qid ms

-- the provers of a text: each gives the answer that the text has of it, and passes for ever if there is none
abbrev pub says_in : List TextMove → Says
says_in ms p q passes = answer_held (settled_by_lines p q.qid ms)

-- THE TEXT'S OWN MATCH: the bracket over these very moves
abbrev pub own_record : Rules → List TextMove → Record
own_record rules ms = bracket rules (answers_of rules (says_in ms))

-- the text is the full text of that match, with this verdict. So `given` and `faulty` are right, and nothing is open at the end.
pub record IsTextOf (rules : Rules) (text : FullText) (v : Verdict) : Type 0 where
  pub moves : moves_of (own_record rules text.moves) ≡ text.moves
  pub complete : is_complete (own_record rules text.moves) ≡ true
  pub verdict : verdict_of rules (own_record rules text.moves) ≡ v
  pub stated : stated_of (own_record rules text.moves).claims v ≡ Some text.stated

-- a text is confirmed if and only if it is that of its own match
abbrev pub ConfirmedExactly : Type 0
ConfirmedExactly =
    (ruling : Ruling) (text : FullText) (v : Verdict) →
    let rules : Rules = rules_of_head ruling text.head in
    ArePlayable rules → AreOfProvers rules.setup.provers text.moves → (audited ruling text ≡ Confirmed v) ↔ IsTextOf rules text v

-- the full text of every case, which has the moves of its record and states its verdict, is confirmed, whatever its provers say
abbrev pub CaseTextsAreConfirmed : Type 0
CaseTextsAreConfirmed =
    (ruling : Ruling) (says : Says) (text : FullText) →
    let rules : Rules = rules_of_head ruling text.head in
    let r : Record = bracket rules (answers_of rules says) in
    ArePlayable rules → text.moves ≡ moves_of r → stated_of r.claims (verdict_of rules r) ≡ Some text.stated →
    audited ruling text ≡ Confirmed (verdict_of rules r)

-- and so are its bytes: what `full` writes of a case's record is read, and the text that is read, of this head and verdict, is confirmed.
-- Its premises are those of reading: the numbers of the head are within the limits, the answers have wire forms, and a collision has
-- strings that a text can state.
pub record IsReadAndConfirmed (ruling : Ruling) (head : Head) (r : Record) : Type 0 where
  pub text : FullText
  pub head_is : text.head ≡ head
  pub stated_is : stated_of r.claims (verdict_of (rules_of_head ruling head) r) ≡ Some text.stated
  pub read : read_text (full_text head r (verdict_of (rules_of_head ruling head) r)) ≡ Ok text
  pub confirmed : audited ruling text ≡ Confirmed (verdict_of (rules_of_head ruling head) r)

abbrev pub WrittenCasesAreConfirmed : Type 0
WrittenCasesAreConfirmed =
    (ruling : Ruling) (says : Says) (head : Head) →
    let rules : Rules = rules_of_head ruling head in
    let r : Record = bracket rules (answers_of rules says) in
    IsHeadInLimits head → AreWritten (moves_of r) → HasStrings (verdict_of rules r) → IsReadAndConfirmed ruling head r
