use Rattle.std.proofs.Common.{◌∙◌, ap, replicate, arith}
use Rattle.digest_core.specs.Text.{leaf_text}
use Rattle.merkle_nodes.specs.Node.{empty_node}
use Rattle.mem_tree.proofs.input_tree.fill_zeros.Goals as goal

pub returns : goal.returns
returns g c =
    let digest = g.D.Digester.digest_of in
    c.fill_empty_heap.ensures.heap digest (leaf_text (replicate 32 0))
    (λ l low. c.fill_empty_nodes.ensures.nodes l (omega arith) ∙ ap (λ t. empty_node digest t l) c.leaf_text.ensures)
