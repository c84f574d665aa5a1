use Rattle.std.proofs.Common.{ap, ◌∙◌, sym, refl, arith}
use Rattle.merkle_nodes.specs.Node.{digest_at}
use Rattle.merkle_nodes.proofs.NodeLemmas.{div-ground}
use Rattle.merkle_nodes.proofs.OpeningLemmas.{opened-first, opened-from, place-next}
use Rattle.merkle_nodes.proofs.climbing.climb_counted.Goals as goal

pub levels-init : goal.levels-init
levels-init g c =
    let first = opened-first g.C.Counted.digest_of c.args.leaf.now (digest_at c.args.siblings.now) c.args.index in
    (omega arith, c.digest-digest.ensures.digest ∙ ap g.C.Counted.digest_of (sym first), sym (div-ground c.args.index))

pub levels-preserved : goal.levels-preserved
levels-preserved g c =
    let at = c.levels.invariant in
    let text = opened-from g.C.Counted.digest_of c.args.leaf.now (digest_at c.args.siblings.now) c.levels.sibling-index c.args.index c.levels.k c.levels.digest.0 c.joined_text-text.result _ at.1 at.2 refl c.joined_text-text.ensures in
    (omega arith, c.digest-digest-in-levels.ensures.digest ∙ ap g.C.Counted.digest_of text, place-next c.args.index c.levels.sibling-index c.levels.k at.2)
