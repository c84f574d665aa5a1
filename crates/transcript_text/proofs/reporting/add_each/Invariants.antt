use Rattle.std.proofs.Common.{◌≡◌, ◌++◌, ◌+◌, drop, string_bytes}
use Rattle.transcript_text.specs.Lines.{lines_of_provers}
use Rattle.transcript_text.specs.Report.{lines_text}
use Rattle.transcript_text.proofs.reporting.add_each.Given as goal

-- the lines so far, followed by those of the provers that are left, are all
abbrev pub invariant-provers : goal.invariant-provers
invariant-provers l =
    string_bytes l.text ++ lines_text (lines_of_provers (l.i + 1) (drop l.i l.balances)) ≡ string_bytes l.fn.text ++ lines_text (lines_of_provers 1 l.balances)
