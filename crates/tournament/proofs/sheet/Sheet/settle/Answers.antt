use Rattle.bisect_game.specs.Rules.{rules_of}
use Rattle.tournament.proofs.keeping.KeepingLemmas.{sheet-put}
use Rattle.tournament.proofs.sheet.Sheet.settle.Goals as goal

pub invariant_of-self : goal.invariant_of-self
invariant_of-self g c =
    sheet-put (rules_of (g.J.Judge.ruling (g.J.Judge.names c.args.judge.now)) c.self.inside.setup) c.self.inside.setup c.self.inside.record_ c.put.new.self c.self.inside.rooms.items _ c.args.p c.args.settled c.self.invariant (c.put.ensures c.self.inside.setup)
