use Rattle.std.proofs.Common.{◌≡◌, replicate, None}
use Rattle.tournament.proofs.sheet.no_claims.Given as goal

abbrev pub invariant-loop : goal.invariant-loop
invariant-loop l = l.claims.items ≡ replicate l.counter None
