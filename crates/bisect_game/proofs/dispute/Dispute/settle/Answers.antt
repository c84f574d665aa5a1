use Rattle.std.proofs.Common.{sym, ◌∙◌}
use Rattle.bisect_game.specs.Ruling.{Ruling}
use Rattle.bisect_game.proofs.DisputeLemmas.{seen-first, seen-second, seen-first-last, seen-second-last}
use Rattle.bisect_game.proofs.dispute.Dispute.settle.Goals as goal

pub returns-in-None : goal.returns-in-None
returns-in-None g c =
    let ruling : Ruling = g.J.Judge.ruling (g.J.Judge.names c.args.judge.now) in
    seen-first ruling c.args.side c.args.settled _ c.args.self.now c.put_first.new.self c.take.new.self c.in-First.is c.self.view_is (sym c.take.ensures.value ∙ c.in-None.is) c.take.ensures.after c.put_first.ensures

pub returns-in-Some : goal.returns-in-Some
returns-in-Some g c =
    let ruling : Ruling = g.J.Judge.ruling (g.J.Judge.names c.args.judge.now) in
    seen-first-last ruling c.args.side c.args.settled c.in-Some.other _ c.args.self.now c.decide.new.self c.in-First.is c.self.view_is (sym c.take.ensures.value ∙ c.in-Some.is) c.decide.ensures

pub returns-in-None-take : goal.returns-in-None-take
returns-in-None-take g c =
    let ruling : Ruling = g.J.Judge.ruling (g.J.Judge.names c.args.judge.now) in
    seen-second ruling c.args.side c.args.settled _ c.args.self.now c.put_second.new.self c.take-in-Second.new.self c.in-Second.is c.self-in-Second.view_is (sym c.take-in-Second.ensures.value ∙ c.in-None-take.is) c.take-in-Second.ensures.after c.put_second.ensures

pub returns-in-Some-take : goal.returns-in-Some-take
returns-in-Some-take g c =
    let ruling : Ruling = g.J.Judge.ruling (g.J.Judge.names c.args.judge.now) in
    seen-second-last ruling c.args.side c.in-Some-take.other c.args.settled _ c.args.self.now c.decide-in-Some-take.new.self c.in-Second.is c.self-in-Second.view_is (sym c.take-in-Second.ensures.value ∙ c.in-Some-take.is) c.decide-in-Some-take.ensures
