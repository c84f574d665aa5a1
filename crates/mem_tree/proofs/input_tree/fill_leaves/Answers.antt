use Rattle.std.proofs.Common.{true, refl, ap, ◌∙◌, sym, arith}
use Rattle.digest_core.specs.Text.{leaf_text}
use Rattle.mem_tree.specs.InputTree.{input_leaf}
use Rattle.mem_tree.proofs.LeafLemmas.{chunk-past}
use Rattle.mem_tree.proofs.LeafRenewingLemmas.{renewing-first, renewing-set, renewed-all}
use Rattle.mem_tree.proofs.input_tree.fill_leaves.Goals as goal

pub chunks-init : goal.chunks-init
chunks-init g c =
    renewing-first g.C.Counted.digest_of c.args.nodes.now (input_leaf c.args.input.now) (λ _. true) 32768 c.args.steps.now c.args.marks.now c.requires.len c.requires.marks c.requires.unmarked

pub chunks-preserved : goal.chunks-preserved
chunks-preserved g c =
    let digest = g.C.Counted.digest_of in
    rw (c.digest-leaf.ensures.steps)
    (renewing-set digest c.args.nodes.now (input_leaf c.args.input.now) (λ _. true) 32768 c.args.steps.now c.chunks.nodes c.chunks.marks c.chunks.steps c.chunks.k
    (omega (arith, c.chunks-test.true, c.div_ceil-k-end.ensures, c.requires.short)) c.chunks.invariant c.digest-leaf.result
    (c.digest-leaf.ensures.digest ∙ ap digest (c.leaf_text.ensures ∙ ap leaf_text c.input_chunk.ensures)) refl)

pub returns-clause-leaves : goal.returns-clause-leaves
returns-clause-leaves g c =
    let digest = g.C.Counted.digest_of in
    renewed-all digest c.args.nodes.now (input_leaf c.args.input.now) (λ _. true) 32768 c.args.steps.now c.chunks.nodes c.chunks.marks c.chunks.steps c.chunks.k c.chunks.invariant
    (λ i from low. c.requires.leaves i low ∙ sym (ap digest (chunk-past c.args.input.now i (omega (arith, c.chunks-test.false, c.div_ceil-k-end.ensures)))))
