use Rattle.std.proofs.Common.{◌≡◌, ◌+◌, drop}
use Rattle.tournament.specs.Bracket.{live_from, lowest}
use Rattle.tournament.proofs.reading.lowest.Given as goal

-- the lowest one stands behind
abbrev pub invariant-claims : goal.invariant-claims
invariant-claims l = (l.prover ≡ l.p + l.settled-index) × (lowest (live_from l.disputes l.p l.claims) ≡ lowest (live_from l.disputes l.prover (drop l.settled-index l.claims)))
