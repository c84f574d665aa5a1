use Rattle.mem_plain.specs.Contents.{no_bytes}
use Rattle.mem_tree.proofs.TouchedLemmas.{none_used, same_unused}
use Rattle.mem_tree.proofs.tree.MemTree.build_alone.Goals as goal

pub returns-clause-tree : goal.returns-clause-tree
returns-clause-tree g c =
    c.in_ok-refresh.ensures.tree no_bytes (c.in_ok-tree.ensures.tree no_bytes c.empty.ensures.tree)
    (same_unused c.in_ok-tree.tree.touched no_bytes c.args.mem.now (λ p used. absurd (none_used p used)) c.in_ok-tree.ensures.used)
