use Rattle.std.proofs.Common.{◌∙◌, sym, ap}
use Rattle.tournament.specs.Match.{rules_in}
use Rattle.audit.specs.NextEntry.{next}
use Rattle.audit.proofs.NextLemmas.{open_for}
use Rattle.audit.proofs.playing.play.Goals as goal

pub settle-requires-clause-asked : goal.settle-requires-clause-asked
settle-requires-clause-asked g c =
    open_for (rules_in g.J.Judge.ruling c.args.played.now) c.args.played.now.game.record_ c.in-Some.p c.args.entry.now.prover c.in-Some.question
    (ap next (sym c.record.ensures) ∙ (sym c.next.ensures ∙ c.in-Some.is)) c.if-p-entry.false
