use Rattle.std.proofs.Common.{arith}
use Rattle.bisect_game.proofs.CutLemmas.{one-cut-more}
use Rattle.bisect_game.proofs.rounds.steps_asked.Goals as goal

pub cuts-preserved : goal.cuts-preserved
cuts-preserved c =
    let i = c.cuts.invariant in
    record {
      whole = one-cut-more c.args.lo c.args.hi c.args.parts c.cuts.j _ _ c.cut.result _ _ (omega (arith, c.cuts-test.true)) c.cut.ensures.is c.in_ok-push-2.ensures.items i.whole;
      count = omega (arith, i.count, c.in_ok-push-2.ensures.len);
      low = omega (arith, i.low);
      high = omega (arith, c.cuts-test.true);
    }
