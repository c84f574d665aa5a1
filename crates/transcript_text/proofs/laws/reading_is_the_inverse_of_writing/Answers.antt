use Rattle.transcript_text.specs.reader.Laws.{ReadsExactly}
use Rattle.transcript_text.proofs.read_back.BackLemmas.{WireReads, reads-back}
use Rattle.transcript_text.proofs.read_back.TextSpellLemmas.{one-spelling}
use Rattle.transcript_text.proofs.read_back.LimitLemmas.{read-is-in-limits}
use Rattle.transcript_text.proofs.read_back.ExactLemmas.{reads-exactly, alike-is-equal}
use Rattle.transcript_text.proofs.laws.reading_is_the_inverse_of_writing.Goals as goal

pub returns : goal.returns
returns c =
    let wire : WireReads = record { read = c.reading_is_spelling.ensures.read; bytes = c.spelled_in_bytes.ensures } in
    let exactly : ReadsExactly = reads-exactly (reads-back wire) (one-spelling c.reading_is_spelling.ensures.spelled) (read-is-in-limits c.reading_is_spelling.ensures.spelled) in
    record { exactly = exactly; alike = alike-is-equal exactly }
