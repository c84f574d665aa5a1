use Rattle.std.proofs.Common.{◌≡◌, drop}
use Rattle.transcript_text.specs.reader.Fields.{behind_word}
use Rattle.transcript_text.proofs.reader.fields.behind_word.Given as goal

abbrev pub invariant-word : goal.invariant-word
invariant-word l = behind_word l.word l.bytes ≡ behind_word (drop l.letter-index l.word) l.rest
