use Rattle.std.proofs.Common.{◌≡◌, ℕ, ◌+◌, [], drop}
use Rattle.tournament.specs.Bracket.{claims_collision, live_from}
use Rattle.tournament.proofs.reading.claims_collision.Given as goal

-- the least pair stands behind
abbrev pub invariant-claims : goal.invariant-claims
invariant-claims g l = (k : ℕ) → claims_collision (g.J.Judge.ruling (g.J.Judge.names l.judge)) (live_from [] k l.claims)
    ≡ claims_collision (g.J.Judge.ruling (g.J.Judge.names l.judge)) (live_from [] (k + l.i) (drop l.i l.claims))
