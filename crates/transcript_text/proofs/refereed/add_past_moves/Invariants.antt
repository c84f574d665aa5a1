use Rattle.std.proofs.Common.{◌≡◌, ◌++◌, ◌+◌, drop, string_bytes}
use Rattle.transcript_text.specs.MoveLists.{moves_of_past}
use Rattle.transcript_text.specs.FullLines.{moves_text, AreWritten}
use Rattle.transcript_text.proofs.refereed.add_past_moves.Given as goal

abbrev pub invariant-rounds : goal.invariant-rounds
invariant-rounds l = record {
  text : string_bytes l.text ++ moves_text (moves_of_past l.dispute.number l.dispute.first l.dispute.second (l.i + 1) (drop l.i l.rounds))
      ≡ string_bytes l.fn.text ++ moves_text (moves_of_past l.dispute.number l.dispute.first l.dispute.second 1 l.rounds);
  written : AreWritten (moves_of_past l.dispute.number l.dispute.first l.dispute.second (l.i + 1) (drop l.i l.rounds))
      → AreWritten (moves_of_past l.dispute.number l.dispute.first l.dispute.second 1 l.rounds);
}
