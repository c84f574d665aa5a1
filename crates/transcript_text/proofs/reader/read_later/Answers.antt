use Rattle.std.proofs.Common.{◌∙◌}
use Rattle.transcript_text.proofs.read_back.ReadLemmas.{later_ends}
use Rattle.transcript_text.proofs.reader.read_later.Goals as goal

pub returns-in-Ok-Verdict : goal.returns-in-Ok-Verdict
returns-in-Ok-Verdict c =
    rw (c.lines.invariant.is ∙ later_ends c.args.provers c.lines.number c.lines.moves.items c.lines.rest.now c.in-Some.line.now c.in-Some.behind.now c.in-Ok-Verdict.stated
    c.in-Some.ensures.is (rw c.in-Ok-Verdict.field-0-is at c.in-Ok-Verdict.ensures)) c.end.ensures
