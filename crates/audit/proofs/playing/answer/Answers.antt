use Rattle.std.proofs.Common.{◌∙◌}
use Rattle.tournament.specs.Match.{rules_in}
use Rattle.audit.proofs.PassLemmas.{answer_once, faulty_once}
use Rattle.audit.proofs.playing.answer.Goals as goal

pub returns-clause-state : goal.returns-clause-state
returns-clause-state g c =
    answer_once (rules_in g.J.Judge.ruling c.args.played.now) _ _ c.args.played.now.game.record_ c.args.p c.args.question c.args.given
    c.requires.fresh c.post-reply.ensures.state c.requires.asked

pub returns-clause-faulty : goal.returns-clause-faulty
returns-clause-faulty g c =
    c.is_faulty.ensures
    ∙ faulty_once (rules_in g.J.Judge.ruling c.args.played.now) _ c.args.played.now.game.record_ c.args.p c.args.question c.args.given c.post-reply.result
    c.requires.fresh c.post-reply.ensures.reply c.requires.asked
