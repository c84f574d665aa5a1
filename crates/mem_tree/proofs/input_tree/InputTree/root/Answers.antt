use Rattle.std.proofs.Common.{◌≡◌, rules, refl, ap, ◌∙◌, arith}
use Rattle.merkle_nodes.specs.Node.{digest_at}
use Rattle.mem_tree.specs.InputTree.{input_leaf}
use Rattle.mem_tree.proofs.input_tree.InputTree.root.Goals as goal

pub returns : goal.returns
returns g c = λ input tree.
    let same : c.deref.result.now ≡ c.args.self.now = search rules in
    c.root_in.ensures ∙ (ap (λ xs. digest_at xs 1) same ∙ c.heaps_are_trees.ensures.nodes g.D.Digester.digest_of c.args.self.now (input_leaf input) 15 tree 15 0 0 refl (omega arith))
