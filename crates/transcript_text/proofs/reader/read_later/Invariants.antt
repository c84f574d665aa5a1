use Rattle.std.proofs.Common.{◌≡◌, ◌+◌, ◌≤◌, [], length}
use Rattle.transcript_text.specs.reader.TextLines.{lines_of}
use Rattle.transcript_text.specs.reader.ReadText.{later}
use Rattle.transcript_text.proofs.reader.read_later.Given as goal

abbrev pub invariant-lines : goal.invariant-lines
invariant-lines l = record {
  is : later l.provers 2 [] (lines_of l.bytes) ≡ later l.provers l.number l.moves.items (lines_of l.rest);
  few : l.number + length l.rest ≤ 2 + length l.bytes;
}

abbrev pub decreases-lines : goal.decreases-lines
decreases-lines l = length l.rest
