use Rattle.std.proofs.Common.{rules, ◌≡◌, [], ap, ◌∙◌, sym, subst, refl, arith}
use Rattle.merkle_nodes.specs.Node.{digest_at}
use Rattle.mem_tree.specs.Tree.{kept_of, upper_node, IsOver}
use Rattle.mem_tree.proofs.tree.MemTree.root.Goals as goal

pub returns-in-Some : goal.returns-in-Some
returns-in-Some g c = λ m tree.
    let digest = g.D.Digester.digest_of in
    let nodes = kept_of c.self.inside.nodes in
    let none = ap (λ t. t.touched) c.self.view_is ∙ c.requires in
    let fresh : IsOver digest nodes [] m = subst (λ l. IsOver digest nodes l m) none (subst (λ t. IsOver digest t.nodes t.touched m) (sym c.self.view_is) tree) in
    let kept : c.in-Some.root.now.0 ≡ upper_node nodes 20 0 = search rules in
    kept ∙ c.kept_nodes_are_of_the_memory.ensures.over digest nodes m c.self.invariant.empty c.self.invariant.made (λ p. fresh.pages p refl) fresh.joined 20 0 (omega arith)

pub returns-in-None : goal.returns-in-None
returns-in-None g c = λ m tree.
    let digest = g.D.Digester.digest_of in
    let nodes = kept_of c.self.inside.nodes in
    let none = ap (λ t. t.touched) c.self.view_is ∙ c.requires in
    let fresh : IsOver digest nodes [] m = subst (λ l. IsOver digest nodes l m) none (subst (λ t. IsOver digest t.nodes t.touched m) (sym c.self.view_is) tree) in
    let empty : digest_at nodes.empties 27 ≡ upper_node nodes 20 0 = search rules in
    empty ∙ c.kept_nodes_are_of_the_memory.ensures.over digest nodes m c.self.invariant.empty c.self.invariant.made (λ p. fresh.pages p refl) fresh.joined 20 0 (omega arith)
