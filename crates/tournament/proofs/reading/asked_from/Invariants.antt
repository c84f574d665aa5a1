use Rattle.std.proofs.Common.{◌≡◌, ◌+◌, drop}
use Rattle.tournament.specs.Keeping.{asked_from}
use Rattle.tournament.proofs.reading.asked_from.Given as goal

-- the first one stands behind
abbrev pub invariant-disputes : goal.invariant-disputes
invariant-disputes l = asked_from l.i l.p l.disputes ≡ asked_from (l.i + l.n) l.p (drop l.n l.disputes)
