use Rattle.std.proofs.Common.{◌≡◌, drop, arith}
use Rattle.bisect_game.specs.Bisection.{agreeing}
use Rattle.bisect_game.proofs.DisputeLemmas.{agreeing-end}
use Rattle.bisect_game.proofs.rounds.agreeing.Goals as goal

pub returns-else-j-second-clause-is : goal.returns-else-j-second-clause-is
returns-else-j-second-clause-is c =
    let e : agreeing (drop c.loop-j.j c.args.first.now) (drop c.loop-j.j c.args.second.now) ≡ 0 = agreeing-end _ c.args.second.now c.loop-j.j (omega arith) in
    omega (arith, e, c.loop-j.invariant.rest)
