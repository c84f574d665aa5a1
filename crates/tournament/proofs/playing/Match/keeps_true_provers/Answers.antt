use Rattle.tournament.proofs.keeping.PostedLemmas.{match-stays, match-verdict}
use Rattle.tournament.proofs.playing.Match.keeps_true_provers.Goals as goal

pub returns-clause-stay : goal.returns-clause-stay
returns-clause-stay g c =
    rw (← c.self.view_is) (match-stays c.truthful_provers_stay.ensures (g.J.Judge.ruling (g.J.Judge.names c.self.inside.judge)) c.self.inside.sheet _ _ c.self.invariant (g.met.J.Judge.is_fair (g.J.Judge.names c.self.inside.judge)))

pub returns-clause-verdict : goal.returns-clause-verdict
returns-clause-verdict g c =
    rw (← c.self.view_is) (match-verdict c.the_verdict_is_right.ensures (g.J.Judge.ruling (g.J.Judge.names c.self.inside.judge)) c.self.inside.sheet _ _ c.self.invariant (g.met.J.Judge.is_fair (g.J.Judge.names c.self.inside.judge)))
