use Rattle.std.proofs.Common.{ap, ◌-◌, ◌∙◌, slice_set}
use Rattle.tournament.specs.Bracket.{Record}
use Rattle.tournament.specs.Moves.{MatchState}
use Rattle.bisect_game.specs.Rules.{rules_of}
use Rattle.tournament.proofs.keeping.PostedLemmas.{settle-is, put-few, match-settled}
use Rattle.tournament.proofs.playing.Match.settle.Goals as goal

pub settle-requires-clause-disputes : goal.settle-requires-clause-disputes
settle-requires-clause-disputes g c =
    put-few (g.J.Judge.ruling (g.J.Judge.names c.self.inside.judge)) c.self.inside.sheet c.self.inside.passed.items _ c.args.p c.args.settled c.self.invariant

pub invariant_of-self : goal.invariant_of-self
invariant_of-self g c =
    match-settled (g.J.Judge.ruling (g.J.Judge.names c.self.inside.judge)) c.self.inside.sheet c.settle.new.self c.self.inside.passed.items _ _ c.args.p c.args.settled c.requires.some (rw (← c.self.view_is) at c.requires.moves) c.self.invariant
    c.settle.ensures.setup c.settle.ensures.record_ c.settle.ensures.capacity

pub returns-clause-state : goal.returns-clause-state
returns-clause-state g c =
    rw (← c.self.view_is)
    (ap (λ (t : Record). let st : MatchState = record { record_ = t; passed = slice_set c.self.inside.passed.items (c.args.p - 1) 0 } in st)
    (c.settle.ensures.record_ ∙ settle-is (rules_of (g.J.Judge.ruling (g.J.Judge.names c.self.inside.judge)) c.self.inside.sheet.setup) c.args.p c.args.settled c.self.inside.sheet.record_))
