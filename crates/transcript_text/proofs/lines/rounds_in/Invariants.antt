use Rattle.std.proofs.Common.{◌≡◌, ◌+◌, drop}
use Rattle.transcript_text.specs.Summary.{rounds_in}
use Rattle.transcript_text.proofs.lines.rounds_in.Given as goal

-- the rounds so far, and those of the disputes that are left, are all
abbrev pub invariant-disputes : goal.invariant-disputes
invariant-disputes l = l.rounds + rounds_in (drop l.dispute-index l.disputes) ≡ rounds_in l.disputes
