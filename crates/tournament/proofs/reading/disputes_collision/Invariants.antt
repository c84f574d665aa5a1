use Rattle.std.proofs.Common.{◌≡◌, drop}
use Rattle.tournament.specs.Bracket.{disputes_collision}
use Rattle.tournament.proofs.reading.disputes_collision.Given as goal

-- the first one stands behind
abbrev pub invariant-disputes : goal.invariant-disputes
invariant-disputes l = disputes_collision l.disputes ≡ disputes_collision (drop l.dispute-index l.disputes)
