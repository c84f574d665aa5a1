use Rattle.std.proofs.Common.{◌-◌, ap, ◌∙◌, sym, arith}
use Rattle.digest_core.specs.Text.{leaf_text}
use Rattle.mem_tree.specs.Memory.{memory_leaf, memory_node}
use Rattle.state_commit.proofs.ScratchLemmas.{left-below, right-below, node-joined}
use Rattle.state_commit.proofs.root.+page_part.Goals as goal

pub returns-then-level-eq0 : goal.returns-then-level-eq0
returns-then-level-eq0 g n c =
    let digest = g.D.Digester.digest_of in
    let m = c.args.mem.now in
    c.digest.ensures ∙ (ap digest (c.as_slice.ensures ∙ (c.leaf_text.ensures ∙ (ap leaf_text c.chunk.ensures ∙ sym (c.memory_nodes.ensures.leaf m c.args.k))))
    ∙ (sym (c.node_equations.ensures.lowest digest (memory_leaf m) c.args.k) ∙ ap (λ l. memory_node digest m l c.args.k) (sym c.if-level-eq0.true)))

pub page_part-left-requires : goal.page_part-left-requires
page_part-left-requires g n c = λ κs within. (omega arith, (within, (omega arith, left-below 27 c.args.level c.args.k (omega arith) (omega arith) c.requires.below)))

pub page_part-right-requires : goal.page_part-right-requires
page_part-right-requires g n c = λ κs within. (omega arith, (within, (omega arith, right-below 27 c.args.level c.args.k (omega arith) (omega arith) c.requires.below)))

pub returns : goal.returns
returns g n c =
    let digest = g.D.Digester.digest_of in
    c.digest-2.ensures ∙ (ap digest (c.as_slice-2.ensures ∙ c.node_text.ensures)
    ∙ node-joined c.node_equations.ensures.above digest c.args.mem.now c.args.level (c.args.level - 1) c.args.k c.page_part-left.result.0 c.page_part-right.result.0 (omega arith) c.page_part-left.ensures c.page_part-right.ensures)
