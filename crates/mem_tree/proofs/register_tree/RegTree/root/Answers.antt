use Rattle.std.proofs.Common.{refl, ap, ◌∙◌, arith}
use Rattle.mem_tree.specs.RegisterTree.{register_leaf, registers_root}
use Rattle.mem_tree.proofs.register_tree.RegTree.root.Goals as goal

pub returns : goal.returns
returns g c =
    let digest = g.D.Digester.digest_of in
    let inside = c.self.inside in
    c.heaps_are_trees.ensures.nodes digest inside.nodes (register_leaf inside.regs) 5 c.self.invariant 5 0 0 refl (omega arith) ∙ ap (registers_root digest) c.self.view_is
