use Rattle.std.proofs.Common.{◌≡◌, ℕ, ◌+◌, [], drop}
use Rattle.tournament.specs.Bracket.{collision_with, live_from}
use Rattle.tournament.proofs.reading.collision_with.Given as goal

-- the first one stands behind
abbrev pub invariant-claims : goal.invariant-claims
invariant-claims g l = (k : ℕ) → collision_with (g.J.Judge.ruling (g.J.Judge.names l.judge)) l.claim (live_from [] k l.claims)
    ≡ collision_with (g.J.Judge.ruling (g.J.Judge.names l.judge)) l.claim (live_from [] (k + l.settled-index) (drop l.settled-index l.claims))
