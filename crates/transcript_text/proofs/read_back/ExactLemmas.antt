-- Bytes are read as a text if and only if it is within the limits and they are its bytes.
use Rattle.std.proofs.Common.{◌≡◌, ℕ, List, Ok, refl, ◌∙◌, ap, sym}
use Rattle.transcript_text.specs.declared.text.FullText.{FullText}
use Rattle.transcript_text.specs.FullLines.{full_text, text_of}
use Rattle.transcript_text.specs.Laws.{text_parts, FullTextIsThatOfItsParts}
use Rattle.transcript_text.specs.reader.ReadText.{read_text}
use Rattle.transcript_text.specs.reader.InLimits.{IsInLimits}
use Rattle.transcript_text.specs.reader.Laws.{ReadsExactly, AlikeIsEqual, ReadVerdictsAreOneLine, ReadsRecordsBack}
use Rattle.transcript_text.proofs.read_back.BackLemmas.{ReadsBack, limits-are-of-bytes, stated-is-one-line}
use Rattle.transcript_text.proofs.read_back.TextSpellLemmas.{OneSpelling}
use Rattle.transcript_text.proofs.read_back.LimitLemmas.{ReadIsInLimits}

pub reads-exactly : ReadsBack → OneSpelling → ReadIsInLimits → ReadsExactly
reads-exactly back spelled limits bytes x = ((λ e. (limits bytes x e, spelled bytes x e)), (λ i. ap read_text i.1 ∙ back x i.0))

pub alike-is-equal : ReadsExactly → AlikeIsEqual
alike-is-equal exactly one other x e f = ((exactly one x).0 e).1 ∙ sym ((exactly other x).0 f).1

pub read-is-one-line : ReadsExactly → ReadVerdictsAreOneLine
read-is-one-line exactly bytes x e = stated-is-one-line x.stated (limits-are-of-bytes x.stated ((exactly bytes x).0 e).0.stated)

pub reads-records-back : ReadsExactly → FullTextIsThatOfItsParts → ReadsRecordsBack
reads-records-back exactly parts head r v s is limits = (exactly (full_text head r v) (text_parts head r s)).1 (limits, parts head r v s is)
