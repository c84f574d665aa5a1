use Rattle.std.proofs.Common.{◌≡◌, ◌++◌, drop, string_bytes}
use Rattle.transcript_text.specs.MoveLists.{moves_of_disputes}
use Rattle.transcript_text.specs.FullLines.{moves_text, AreWritten}
use Rattle.transcript_text.proofs.refereed.add_moves_of_disputes.Given as goal

abbrev pub invariant-disputes : goal.invariant-disputes
invariant-disputes l = record {
  text : string_bytes l.text ++ moves_text (moves_of_disputes (drop l.dispute-index l.disputes)) ≡ string_bytes l.fn.text ++ moves_text (moves_of_disputes l.disputes);
  written : AreWritten (moves_of_disputes (drop l.dispute-index l.disputes)) → AreWritten (moves_of_disputes l.disputes);
}
