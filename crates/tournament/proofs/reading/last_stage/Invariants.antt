use Rattle.std.proofs.Common.{◌≡◌, drop, max}
use Rattle.tournament.specs.Bracket.{last_stage}
use Rattle.tournament.proofs.reading.last_stage.Given as goal

-- the highest is that so far, or stands behind
abbrev pub invariant-disputes : goal.invariant-disputes
invariant-disputes l = last_stage l.disputes ≡ max l.last (last_stage (drop l.dispute-index l.disputes))
