use Rattle.std.proofs.Common.{◌+◌, ◌-◌, ◌≡◌, ap, ◌∙◌, sym, arith}
use Rattle.digest_core.specs.Text.{node_text}
use Rattle.merkle_nodes.specs.Node.{empty_node}
use Rattle.merkle_nodes.proofs.EmptyLemmas.{empty-first, empty-next}
use Rattle.merkle_nodes.proofs.heap.empty_at.Goals as goal

pub returns-then-level-eq0 : goal.returns-then-level-eq0
returns-then-level-eq0 g c =
    let digest = g.D.Digester.digest_of in
    let first : c.args.level ≡ 0 = omega (arith, c.if-level-eq0.true) in
    c.digest.ensures ∙ (ap digest c.as_slice.ensures ∙ (sym (empty-first digest c.args.leaf.now) ∙ ap (empty_node digest c.args.leaf.now) (sym first)))

pub returns : goal.returns
returns g c =
    let digest = g.D.Digester.digest_of in
    let before = c.args.level - 1 in
    let more : before + 1 ≡ c.args.level = omega (arith, c.if-level-eq0.false) in
    let node = c.requires.below before (omega (arith, more)) in
    c.digest-2.ensures ∙ (ap digest (c.as_slice-2.ensures ∙ (c.node_text.ensures ∙ ap (λ x. node_text x x) node)) ∙ (sym (empty-next digest c.args.leaf.now before) ∙ ap (empty_node digest c.args.leaf.now) more))
