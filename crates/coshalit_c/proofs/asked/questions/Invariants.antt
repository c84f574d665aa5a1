use Rattle.std.proofs.Common.{◌≡◌}
use Rattle.tournament.specs.Match.{rules_in}
use Rattle.coshalit_c.specs.Asked.{asked_of}
use Rattle.coshalit_c.proofs.asked.questions.Given as goal

abbrev pub invariant-provers : goal.invariant-provers
invariant-provers g l = l.found.items ≡ asked_of (rules_in g.J.Judge.ruling l.game) l.game.game l.i
