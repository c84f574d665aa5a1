use Rattle.std.proofs.Common.{sym}
use Rattle.bisect_game.proofs.RoundLemmas.{close_of-none}
use Rattle.bisect_game.proofs.DisputeLemmas.{seen-closed, seen-went}
use Rattle.bisect_game.proofs.dispute.Dispute.decide.Goals as goal

pub go_on-requires : goal.go_on-requires
go_on-requires g c = record { long = rw (← c.self.view_is) (close_of-none _ c.self.inside.place _ _ (sym c.in-None.ensures)) }

pub returns-in-Some : goal.returns-in-Some
returns-in-Some g c = seen-closed (g.J.Judge.ruling (g.J.Judge.names c.args.judge.now)) _ c.args.self.now c.args.first c.args.second c.in-Some.close c.self.view_is c.in-Some.ensures

pub returns-in-None : goal.returns-in-None
returns-in-None g c = seen-went (g.J.Judge.ruling (g.J.Judge.names c.args.judge.now)) _ c.args.self.now _ c.args.first c.args.second c.self.view_is c.in-None.ensures c.go_on.ensures
