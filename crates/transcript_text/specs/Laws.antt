-- Derived: what the texts say. The laws of these names show it.
use Rattle.std.specs.Prelude.{◌≡◌, ℕ, false, Some}
use Rattle.bisect_game.specs.Rules.{Rules}
use Rattle.bisect_game.specs.Truth.{Truth}
use Rattle.tournament.specs.Bracket.{Record}
use Rattle.tournament.specs.Truthful.{IsSafe}
use Rattle.tournament.specs.declared.reading.Verdict.{Verdict}
use Rattle.transcript_text.specs.declared.text.Head.{Head}
use Rattle.transcript_text.specs.declared.text.Stated.{Stated}
use Rattle.transcript_text.specs.declared.text.FullText.{FullText}
use Rattle.transcript_text.specs.MoveLists.{moves_of}
use Rattle.transcript_text.specs.StatedVerdict.{stated_of}
use Rattle.transcript_text.specs.Lines.{lines_of_record, are_against}
use Rattle.transcript_text.specs.FullLines.{full_text, text_of}

-- of a prover that is safe no line says that it is faulty, spent or refuted
abbrev pub NothingIsSaidAgainstTheTruthful : Type 0
NothingIsSaidAgainstTheTruthful = (rules : Rules) (t : Truth) (p : ℕ) (r : Record) → IsSafe rules t p r → are_against p (lines_of_record r) ≡ false

-- a record and a verdict as the parts of a text
abbrev pub text_parts : Head → Record → Stated → FullText
text_parts head r s = record { head = head; moves = moves_of r; stated = s }

-- the full text of a record is that of its parts, if the verdict is stated
abbrev pub FullTextIsThatOfItsParts : Type 0
FullTextIsThatOfItsParts = (head : Head) (r : Record) (v : Verdict) (s : Stated) → stated_of r.claims v ≡ Some s → full_text head r v ≡ text_of (text_parts head r s)
