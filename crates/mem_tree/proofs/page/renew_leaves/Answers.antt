use Rattle.std.proofs.Common.{ap, ◌∙◌, not}
use Rattle.mem_tree.specs.Page.{chunk_in}
use Rattle.mem_tree.proofs.CostLemmas.{different-is, different-same}
use Rattle.mem_tree.proofs.RenewingLemmas.{renewing-first, renewing-set, renewing-stay}
use Rattle.mem_tree.proofs.page.renew_leaves.Goals as goal
use Rattle.mem_tree.proofs.page.renew_leaves.Goals.{then-not-is_same, else-not-is_same}

pub chunks-init : goal.chunks-init
chunks-init g c = renewing-first g.C.Counted.digest_of c.args.nodes.now c.args.chunks.now c.no_marks-marks.result c.args.of.now.mem.now c.args.of.now.page c.args.steps.now c.requires.len c.requires.parts c.no_marks-marks.ensures.len c.requires.leaves c.no_marks-marks.ensures.none

pub chunks-preserved : goal.chunks-preserved
chunks-preserved g c = elim c.if-not-is_same.branch [
  | then-not-is_same w ↦ rw (w.nodes-is, w.chunks-is, w.marks-is, w.steps-is, w.digest-leaf.ensures.steps)
      (renewing-set g.C.Counted.digest_of c.args.nodes.now c.args.chunks.now c.args.of.now.mem.now c.args.of.now.page c.args.steps.now c.chunks.nodes c.chunks.chunks c.chunks.marks c.chunks.steps c.chunks.j
      c.chunks-test.true c.chunks.invariant w.digest-leaf.result c.chunk_of-chunk.result (w.digest-leaf.ensures.digest ∙ ap g.C.Counted.digest_of w.leaf_text.ensures) c.chunk_of-chunk.ensures
      (different-is (chunk_in c.chunks.chunks c.chunks.j) c.chunk_of-chunk.result c.is_same.result c.is_same.ensures.0 c.is_same.ensures.1 ∙ ap not w.if-not-is_same.true))
  | else-not-is_same w ↦ rw (w.nodes-is, w.chunks-is, w.marks-is, w.steps-is)
      (renewing-stay g.C.Counted.digest_of c.args.nodes.now c.args.chunks.now c.args.of.now.mem.now c.args.of.now.page c.args.steps.now c.chunks.nodes c.chunks.chunks c.chunks.marks c.chunks.steps c.chunks.j
      c.chunks-test.true c.chunks.invariant (c.is_same.ensures.0 w.if-not-is_same.false ∙ c.chunk_of-chunk.ensures)
      (different-same _ _ (c.is_same.ensures.0 w.if-not-is_same.false ∙ c.chunk_of-chunk.ensures)))
]
