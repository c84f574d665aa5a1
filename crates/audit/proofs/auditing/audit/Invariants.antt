use Rattle.std.proofs.Common.{◌≡◌, ◌+◌, drop}
use Rattle.tournament.specs.Match.{rules_in}
use Rattle.audit.specs.LineByLine.{audit_from}
use Rattle.audit.specs.BetweenLines.{fresh}
use Rattle.audit.proofs.auditing.audit.Given as goal

abbrev pub invariant-moves : goal.invariant-moves
invariant-moves g l = record {
  names : l.played.judge ≡ l.initial.played.judge;
  setup : l.played.setup ≡ l.initial.played.setup;
  fresh_ : l.played.game ≡ fresh (rules_in g.J.Judge.ruling l.initial.played) l.played.game.record_;
  is : audit_from (rules_in g.J.Judge.ruling l.initial.played) 2 l.moves l.text.stated l.initial.played.game.record_
      ≡ audit_from (rules_in g.J.Judge.ruling l.initial.played) (l.i + 2) (drop l.i l.moves) l.text.stated l.played.game.record_;
}
