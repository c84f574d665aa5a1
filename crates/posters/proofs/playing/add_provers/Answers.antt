use Rattle.posters.proofs.Numbering.{added_more}
use Rattle.posters.proofs.playing.add_provers.Goals as goal

pub loop-p-preserved : goal.loop-p-preserved
loop-p-preserved c = added_more c.args.places.now.items c.loop-p.places.items c.push.new.self.items c.args.t c.loop-p.p c.loop-p.invariant c.in_ok-push.ensures.items
