use Rattle.std.proofs.Common.{◌≡◌, take, drop}
use Rattle.transcript_text.specs.reader.TextLines.{cut_at}
use Rattle.transcript_text.proofs.read_back.LineLemmas.{with_front}
use Rattle.transcript_text.proofs.reader.fields.cut_at.Given as goal

abbrev pub invariant-bytes : goal.invariant-bytes
invariant-bytes l = cut_at l.value l.bytes ≡ with_front (take l.i l.bytes) (cut_at l.value (drop l.i l.bytes))
