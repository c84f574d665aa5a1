use Rattle.std.proofs.Common.{◌≡◌}
use Rattle.tournament.specs.Match.{rules_in}
use Rattle.audit.specs.BetweenLines.{passed_on}
use Rattle.audit.proofs.playing.spend.Given as goal

abbrev pub invariant-passes : goal.invariant-passes
invariant-passes g l = record {
  names : l.played.judge ≡ l.initial.played.judge;
  setup : l.played.setup ≡ l.initial.played.setup;
  state : l.played.game ≡ passed_on (rules_in g.J.Judge.ruling l.initial.played) l.initial.played.game.record_ l.p l._i;
}
