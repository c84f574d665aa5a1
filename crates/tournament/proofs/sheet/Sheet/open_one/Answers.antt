use Rattle.std.proofs.Common.{ap, List, length, ◌+◌, ◌≤◌}
use Rattle.bisect_game.specs.Bisection.{Bisection}
use Rattle.tournament.proofs.keeping.KeepingLemmas.{sheet-opened, sheet-room, one-opened}
use Rattle.tournament.proofs.sheet.Sheet.open_one.Goals as goal

pub invariant_of-self : goal.invariant_of-self
invariant_of-self c =
    let few : c.args.stage ≤ length c.self.inside.record_.disputes + 1 = rw (← c.self.view_is) at c.requires.stage in
    sheet-opened c.self.inside.setup c.self.inside.record_ c.push.new.self _ _ c.args.stage 0 c.self.inside.rooms.items c.pop.new.self.items c.in-Some.room c.args.first c.args.second c.new.result c.self.invariant
    c.in-Some.ensures.items c.push.ensures (ap (λ (d : Bisection). d.stage) c.new.ensures) few c.in-Some.ensures.cases

pub returns-clause-record_ : goal.returns-clause-record_
returns-clause-record_ c =
    rw (← c.self.view_is)
    (one-opened c.self.inside.setup c.self.inside.record_ c.push.new.self c.args.stage (length c.disputes.result.now + 1) c.in-Some.room c.start.result c.args.first c.args.second c.new.result c.push.ensures
    (ap (λ (ds : List Bisection). length ds + 1) c.disputes.ensures) (sheet-room c.self.inside.setup c.self.inside.record_ _ c.self.inside.rooms.items c.pop.new.self.items c.in-Some.room c.self.invariant c.in-Some.ensures.items) c.start.ensures c.new.ensures)
