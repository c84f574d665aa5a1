use Rattle.std.proofs.Common.{subst, ap}
use Rattle.std.specs.Ordering.{nat_cmp}
use Rattle.std.specs.List.Sorted.{IsStrictlySortedBy}
use Rattle.std.specs.Map.{keys_of}
use Rattle.mem_tree.specs.Tree.{Kept, by_place}
use Rattle.mem_tree.proofs.KeptLemmas.{pages-few, upper-few}
use Rattle.mem_tree.proofs.tree.MemTree.keeps_few_nodes.Goals as goal

pub returns-clause-pages : goal.returns-clause-pages
returns-clause-pages g c = λ m pages tree all.
    let view = ap (λ t. t.nodes) c.self.view_is in
    pages-few g.D.Digester.digest_of c.args.self.now m pages tree all (subst (λ (k : Kept). IsStrictlySortedBy nat_cmp (keys_of k.pages)) view c.iter-pages.ensures.ordered)

pub returns-clause-upper : goal.returns-clause-upper
returns-clause-upper g c = λ m pages tree all.
    let view = ap (λ t. t.nodes) c.self.view_is in
    upper-few g.D.Digester.digest_of c.args.self.now m pages tree all (subst (λ (k : Kept). IsStrictlySortedBy by_place (keys_of k.upper)) view c.iter-upper.ensures.ordered)
