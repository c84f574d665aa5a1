use Rattle.std.proofs.Common.{sym, ◌∙◌, ap}
use Rattle.open_match.proofs.EndedLemmas.{settled-up}
use Rattle.open_match.proofs.ended.burned.Goals as goal

pub burned-requires-clause-settled_up : goal.burned-requires-clause-settled_up
burned-requires-clause-settled_up g c =
    settled-up c.a_match_that_has_ended_is_settled_up.ensures (g.J.Judge.ruling c.args.game.now.judge) c.args.game.now.setup c.args.game.now.game c.provers-provers.result c.record.result.now
    (rw c.setup.ensures.is at c.setup.ensures.ranges)
    c.is_after_posts.ensures
    (sym c.if-not-is_over.ensures)
    (c.provers-provers.ensures.is ∙ ap (λ t. t.provers) c.setup.ensures.is)
    c.record.ensures
