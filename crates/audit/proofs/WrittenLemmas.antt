-- The bytes of a case's record are read and confirmed.
use Rattle.std.proofs.Common.{◌≡◌, List, refl, ◌∙◌, ap, arith, subst}
use Rattle.bisect_game.specs.Ruling.{Ruling}
use Rattle.bisect_game.specs.Rules.{Rules, ArePlayable}
use Rattle.tournament.specs.Bracket.{Record, verdict_of, bracket}
use Rattle.tournament.specs.Moves.{MatchState}
use Rattle.tournament.specs.Journals.{answers_of, RecordOfCase}
use Rattle.tournament.specs.Posting.{Post, record_after, NobodyAskedIsOver}
use Rattle.tournament.specs.Length.{SpareIsEnough, ThereIsAMost}
use Rattle.transcript_text.specs.declared.text.Head.{Head}
use Rattle.transcript_text.specs.MoveLists.{moves_of}
use Rattle.transcript_text.specs.FullLines.{AreWritten}
use Rattle.transcript_text.specs.Laws.{text_parts}
use Rattle.transcript_text.specs.reader.InLimits.{IsHeadInLimits}
use Rattle.transcript_text.specs.reader.Laws.{HasStrings, IsReadBack, MatchesAreReadBack}
use Rattle.audit.specs.LineByLine.{rules_of_head}
use Rattle.audit.specs.OwnMatch.{WrittenCasesAreConfirmed}
use Rattle.audit.proofs.ExactLemmas.{IsCaseDriven, case-driven, case-confirmed}

playable-head : (ruling : Ruling) (head : Head) → IsHeadInLimits head → ArePlayable (rules_of_head ruling head)
playable-head ruling head h = record {
  some = omega (arith, h.provers.0);
  parted = omega (arith, h.fan.0);
  few_parts = omega (arith, h.fan.1);
  steps = omega (arith, h.bound.0);
}

read-back : MatchesAreReadBack → (ruling : Ruling) (head : Head) (r s : Record) → (xs : List Post) → record_after (rules_of_head ruling head) xs ≡ s → s ≡ r → ArePlayable (rules_of_head ruling head) → IsHeadInLimits head → AreWritten (moves_of r) →
    HasStrings (verdict_of (rules_of_head ruling head) r) → IsReadBack (rules_of_head ruling head) head r
read-back law ruling head r s xs same is playable limits written strings =
    let at : record_after (rules_of_head ruling head) xs ≡ r = same ∙ is in
    subst (λ (x : Record). IsReadBack (rules_of_head ruling head) head x) at
    (law (rules_of_head ruling head) xs head playable (record { provers = refl; bound = refl; fan = refl }) limits (rw at written) (rw at strings))

pub written-confirmed : RecordOfCase → SpareIsEnough → ThereIsAMost → NobodyAskedIsOver → MatchesAreReadBack → WrittenCasesAreConfirmed
written-confirmed of_case enough most over back ruling says head limits written strings =
    let rules : Rules = rules_of_head ruling head in
    let r : Record = bracket rules (answers_of rules says) in
    let playable : ArePlayable rules = playable-head ruling head limits in
    let c : IsCaseDriven rules says = case-driven of_case enough most over rules says playable in
    let same = ap (λ (st : MatchState). st.record_) c.driven.posts.1 in
    let b : IsReadBack rules head r = read-back back ruling head r _ c.driven.posts.0 same c.same playable limits written strings in
    record {
      text = text_parts head r b.stated;
      head_is = refl;
      stated_is = b.of_verdict;
      read = b.read;
      confirmed = case-confirmed of_case enough most over ruling says (text_parts head r b.stated) playable refl b.of_verdict;
    }
