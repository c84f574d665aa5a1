use Rattle.std.proofs.Common.{◌∙◌, ap, arith}
use Rattle.digest_core.specs.Text.{register_text}
use Rattle.merkle_nodes.specs.Node.{empty_node}
use Rattle.mem_tree.proofs.LeafLemmas.{zero-file}
use Rattle.mem_tree.proofs.register_tree.zeros.Goals as goal

pub returns : goal.returns
returns g c =
    let digest = g.D.Digester.digest_of in
    zero-file digest c.fill_empty_heap.new.nodes (c.fill_empty_heap.ensures.heap digest (register_text 0)
    (λ l low. c.fill_empty_nodes.ensures.nodes l (omega arith) ∙ ap (λ t. empty_node digest t l) c.register_text.ensures))
