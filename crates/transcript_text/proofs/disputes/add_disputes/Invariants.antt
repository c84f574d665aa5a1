use Rattle.std.proofs.Common.{◌≡◌, ◌++◌, drop, string_bytes}
use Rattle.transcript_text.specs.Lines.{lines_of_disputes}
use Rattle.transcript_text.specs.Report.{lines_text}
use Rattle.transcript_text.proofs.disputes.add_disputes.Given as goal

-- the lines so far, followed by those of the disputes that are left, are all
abbrev pub invariant-disputes : goal.invariant-disputes
invariant-disputes l =
    string_bytes l.text ++ lines_text (lines_of_disputes l.before (drop l.dispute-index l.disputes)) ≡ string_bytes l.fn.text ++ lines_text (lines_of_disputes 0 l.disputes)
