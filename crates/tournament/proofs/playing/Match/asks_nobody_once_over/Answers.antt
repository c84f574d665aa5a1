use Rattle.tournament.proofs.keeping.PostedLemmas.{match-over}
use Rattle.tournament.proofs.playing.Match.asks_nobody_once_over.Goals as goal

pub returns : goal.returns
returns g c =
    rw (← c.self.view_is) (match-over c.nobody_asked_means_over.ensures (g.J.Judge.ruling (g.J.Judge.names c.self.inside.judge)) c.self.inside.sheet _ _ c.self.invariant)
