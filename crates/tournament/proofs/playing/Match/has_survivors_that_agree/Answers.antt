use Rattle.tournament.proofs.keeping.PostedLemmas.{match-agrees}
use Rattle.tournament.proofs.playing.Match.has_survivors_that_agree.Goals as goal

pub returns : goal.returns
returns g c =
    rw (← c.self.view_is) (match-agrees c.survivors_agree.ensures (g.J.Judge.ruling (g.J.Judge.names c.self.inside.judge)) c.self.inside.sheet _ _ c.self.invariant (g.met.J.Judge.is_fair (g.J.Judge.names c.self.inside.judge)))
