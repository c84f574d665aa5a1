use Rattle.tournament.proofs.keeping.PostedLemmas.{match-asks}
use Rattle.tournament.proofs.playing.Match.is_never_stuck.Goals as goal

pub returns : goal.returns
returns g c =
    rw (← c.self.view_is) (match-asks c.matches_are_never_stuck.ensures.asked (g.J.Judge.ruling (g.J.Judge.names c.self.inside.judge)) c.self.inside.sheet _ _ c.self.invariant)
