use Rattle.std.proofs.Common.{◌≡◌, ◌+◌, ◌≤◌, ◌++◌, drop, length, vec_len, vec_capacity}
use Rattle.tournament.specs.Bracket.{live_from}
use Rattle.tournament.specs.Keeping.{sides}
use Rattle.tournament.proofs.reading.fill_live.Given as goal

-- the live provers among the claims that are left are still to come
abbrev pub invariant-claims : goal.invariant-claims
invariant-claims g l =
    let ruling = g.J.Judge.ruling (g.J.Judge.names l.judge) in
    record {
      at : l.prover ≡ l.p + l.settled-index;
      room : vec_len l.live + length (drop l.settled-index l.claims) ≤ vec_capacity l.live;
      capacity : vec_capacity l.live ≡ vec_capacity l.fn.live;
      items : l.live.items ++ sides ruling (live_from l.disputes l.prover (drop l.settled-index l.claims)) ≡ l.fn.live.items ++ sides ruling (live_from l.disputes l.p l.claims);
    }
