use Rattle.transcript_text.specs.reader.ReadText.{read_text}
use Rattle.transcript_text.proofs.read_back.ReadLemmas.{text_at}
use Rattle.transcript_text.proofs.reader.read_full.Goals as goal

pub returns-in-Some : goal.returns-in-Some
unfolding read_text
returns-in-Some c = rw (text_at c.args.bytes.now c.in-Some.line.now c.in-Some.behind.now c.in-Some.ensures.is) c.read_lines.ensures
