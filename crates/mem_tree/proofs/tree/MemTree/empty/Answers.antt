use Rattle.std.proofs.Common.{ℕ, List, sym, subst}
use Rattle.mem_plain.specs.Contents.{no_bytes}
use Rattle.mem_tree.specs.Tree.{kept_of, IsOver}
use Rattle.mem_tree.proofs.tree.MemTree.empty.Goals as goal

pub returns-clause-tree : goal.returns-clause-tree
returns-clause-tree g c = subst (λ (stale : List ℕ). IsOver g.D.Digester.digest_of (kept_of c.nodes_of_zeros.result) stale no_bytes) (sym c.new.ensures.empty)
    (record { pages = λ p fresh. c.nodes_of_zeros.ensures.pages p; joined = c.nodes_of_zeros.ensures.joined })
