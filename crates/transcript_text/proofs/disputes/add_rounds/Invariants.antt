use Rattle.std.proofs.Common.{◌≡◌, ◌++◌, ◌+◌, drop, string_bytes}
use Rattle.transcript_text.specs.Lines.{lines_of_rounds}
use Rattle.transcript_text.specs.Report.{lines_text}
use Rattle.transcript_text.proofs.disputes.add_rounds.Given as goal

-- the lines so far, followed by those of the rounds that are left, are all
abbrev pub invariant-rounds : goal.invariant-rounds
invariant-rounds l =
    string_bytes l.text ++ lines_text (lines_of_rounds l.dispute (l.i + 1) (drop l.i l.rounds)) ≡ string_bytes l.fn.text ++ lines_text (lines_of_rounds l.dispute 1 l.rounds)
