use Rattle.std.proofs.Common.{◌≡◌, drop}
use Rattle.tournament.specs.Bracket.{question_in}
use Rattle.tournament.proofs.reading.question_in.Given as goal

-- the first one stands behind
abbrev pub invariant-disputes : goal.invariant-disputes
invariant-disputes l = question_in l.p l.disputes ≡ question_in l.p (drop l.dispute-index l.disputes)
