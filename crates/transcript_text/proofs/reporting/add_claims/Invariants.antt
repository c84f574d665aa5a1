use Rattle.std.proofs.Common.{◌≡◌, ◌++◌, ◌+◌, drop, string_bytes}
use Rattle.transcript_text.specs.Lines.{lines_of_claims}
use Rattle.transcript_text.specs.Report.{lines_text}
use Rattle.transcript_text.proofs.reporting.add_claims.Given as goal

-- the lines so far, followed by those of the claims that are left, are all
abbrev pub invariant-claims : goal.invariant-claims
invariant-claims l = string_bytes l.text ++ lines_text (lines_of_claims (l.i + 1) (drop l.i l.claims)) ≡ string_bytes l.fn.text ++ lines_text (lines_of_claims 1 l.claims)
