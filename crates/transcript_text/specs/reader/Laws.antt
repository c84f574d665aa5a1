-- Derived: reading is the inverse of writing, and a stated verdict is one line. The laws of these names show it.
use Rattle.std.specs.Prelude.{◌≡◌, ◌↔◌, ℕ, List, ◌++◌, Contains, Some, Ok, codes}
use Rattle.hex.specs.Hex.{encode_lower}
use Rattle.bisect_game.specs.Rules.{Rules, ArePlayable}
use Rattle.tournament.specs.declared.reading.Verdict.{Verdict}
use Rattle.tournament.specs.declared.reading.Verdict.TheVariants as verdict
use Rattle.tournament.specs.Bracket.{Record, verdict_of}
use Rattle.tournament.specs.Posting.{Post, record_after}
use Rattle.transcript_text.specs.declared.text.Head.{Head}
use Rattle.transcript_text.specs.declared.text.Stated.{Stated}
use Rattle.transcript_text.specs.declared.text.Stated.TheVariants.{Accept, NoneLeft, Collision}
use Rattle.transcript_text.specs.declared.text.FullText.{FullText}
use Rattle.transcript_text.specs.MoveLists.{moves_of}
use Rattle.transcript_text.specs.StatedVerdict.{stated_of}
use Rattle.transcript_text.specs.Lines.{line_of_stated}
use Rattle.transcript_text.specs.Report.{answer_text, line_text}
use Rattle.transcript_text.specs.FullLines.{full_text, text_of, AreWritten}
use Rattle.transcript_text.specs.Laws.{text_parts}
use Rattle.rd_base.specs.Status.{HasWordCode}
use Rattle.transcript_text.specs.reader.InLimits.{AreBytes, IsHeadInLimits, IsString, IsInLimits}
use Rattle.transcript_text.specs.reader.ReadText.{read_text}

-- bytes are read as a text if and only if it is within the limits and they are its bytes
abbrev pub ReadsExactly : Type 0
ReadsExactly = (bytes : List ℕ) (x : FullText) → (read_text bytes ≡ Ok x) ↔ (IsInLimits x × (bytes ≡ text_of x))

-- so two texts that read alike are equal
abbrev pub AlikeIsEqual : Type 0
AlikeIsEqual = (one other : List ℕ) (x : FullText) → read_text one ≡ Ok x → read_text other ≡ Ok x → one ≡ other

-- ONE LINE: what is stated of a verdict, and no line feed but the one behind it

abbrev pub stated_text : Stated → List ℕ
stated_text (Accept status output) = codes "accept " ++ answer_text status output
stated_text NoneLeft = codes "none left"
stated_text (Collision x y) = codes "collision " ++ (encode_lower x ++ (codes " " ++ encode_lower y))

pub record IsOneLine (s : Stated) : Type 0 where
  pub ended : line_text (line_of_stated s) ≡ stated_text s ++ codes "\n"
  pub lone : ¬ Contains (stated_text s) 10

-- the status has a number of 32 bits, and outputs and strings are bytes
abbrev pub IsOfBytes : Stated → Type 0
IsOfBytes (Accept status output) = HasWordCode status × AreBytes output
IsOfBytes NoneLeft = Unit {0}
IsOfBytes (Collision x y) = AreBytes x × AreBytes y

abbrev pub StatedVerdictsAreOneLine : Type 0
StatedVerdictsAreOneLine = (s : Stated) → IsOfBytes s → IsOneLine s

abbrev pub ReadVerdictsAreOneLine : Type 0
ReadVerdictsAreOneLine = (bytes : List ℕ) (x : FullText) → read_text bytes ≡ Ok x → IsOneLine x.stated

-- the full text of a record and a verdict is read as their parts, if these are within the limits
abbrev pub ReadsRecordsBack : Type 0
ReadsRecordsBack =
    (head : Head) (r : Record) (v : Verdict) (s : Stated) → stated_of r.claims v ≡ Some s → IsInLimits (text_parts head r s) →
    read_text (full_text head r v) ≡ Ok (text_parts head r s)

-- A MATCH, whatever was posted

-- the head has the rules' numbers
pub record IsHeadOf (rules : Rules) (head : Head) : Type 0 where
  pub provers : head.provers ≡ rules.setup.provers
  pub bound : head.bound ≡ rules.setup.bound
  pub fan : head.fan ≡ rules.setup.fan

-- the strings of a collision are some that a text can state
abbrev pub HasStrings : Verdict → Type 0
HasStrings (verdict.Accept p) = Unit {0}
HasStrings verdict.NoneLeft = Unit {0}
HasStrings (verdict.Collision x y) = IsString x × IsString y

-- a record whose full text is read as the head, the record's moves and what is stated of the verdict
pub record IsReadBack (rules : Rules) (head : Head) (r : Record) : Type 0 where
  pub stated : Stated
  pub of_verdict : stated_of r.claims (verdict_of rules r) ≡ Some stated
  pub in_limits : IsInLimits (text_parts head r stated)
  pub read : read_text (full_text head r (verdict_of rules r)) ≡ Ok (text_parts head r stated)

-- the full text of each match is read back, if its answers have wire forms
abbrev pub MatchesAreReadBack : Type 0
MatchesAreReadBack =
    (rules : Rules) (xs : List Post) (head : Head) → ArePlayable rules → IsHeadOf rules head → IsHeadInLimits head →
    AreWritten (moves_of (record_after rules xs)) → HasStrings (verdict_of rules (record_after rules xs)) → IsReadBack rules head (record_after rules xs)
