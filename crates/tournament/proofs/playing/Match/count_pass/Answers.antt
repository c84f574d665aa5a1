use Rattle.tournament.proofs.keeping.PostedLemmas.{match-passed}
use Rattle.tournament.proofs.playing.Match.count_pass.Goals as goal

pub invariant_of-self : goal.invariant_of-self
invariant_of-self g c =
    match-passed (g.J.Judge.ruling (g.J.Judge.names c.self.inside.judge)) c.self.inside.sheet c.self.inside.passed.items _ c.args.p _ c.requires.some (rw (← c.self.view_is) at c.requires.few)
    (rw (← c.self.view_is) at c.requires.moves) c.index_mut.ensures.value c.self.invariant
