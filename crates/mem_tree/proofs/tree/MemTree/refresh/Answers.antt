use Rattle.mem_tree.specs.Tree.{page_at}
use Rattle.mem_tree.proofs.PageLemmas.{page-moved}
use Rattle.mem_tree.proofs.tree.MemTree.refresh.Goals as goal

pub returns-then-not-self-clause-tree : goal.returns-then-not-self-clause-tree
returns-then-not-self-clause-tree g c = λ m tree same. record {
  pages = λ p fresh. page-moved (page_at c.args.self.now.nodes p) m c.args.mem.now p (same p fresh) (tree.pages p fresh);
  joined = tree.joined;
}
