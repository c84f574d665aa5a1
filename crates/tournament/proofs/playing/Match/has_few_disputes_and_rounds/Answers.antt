use Rattle.tournament.proofs.keeping.PostedLemmas.{match-disputes, match-rounds, match-rulings}
use Rattle.tournament.proofs.playing.Match.has_few_disputes_and_rounds.Goals as goal

pub returns-clause-disputes : goal.returns-clause-disputes
returns-clause-disputes g c =
    rw (← c.self.view_is) (match-disputes c.a_match_has_few_disputes_and_rounds.ensures.disputes (g.J.Judge.ruling (g.J.Judge.names c.self.inside.judge)) c.self.inside.sheet _ _ c.self.invariant)

pub returns-clause-rounds : goal.returns-clause-rounds
returns-clause-rounds g c =
    rw (← c.self.view_is) (match-rounds c.a_match_has_few_disputes_and_rounds.ensures.rounds (g.J.Judge.ruling (g.J.Judge.names c.self.inside.judge)) c.self.inside.sheet _ _ c.self.invariant)

pub returns-clause-rulings : goal.returns-clause-rulings
returns-clause-rulings g c =
    rw (← c.self.view_is) (match-rulings c.a_match_has_few_disputes_and_rounds.ensures.rulings (g.J.Judge.ruling (g.J.Judge.names c.self.inside.judge)) c.self.inside.sheet _ _ c.self.invariant)
