use Rattle.std.proofs.Common.{Option, sym, subst}
use Rattle.mem_plain.specs.Contents.{no_bytes}
use Rattle.mem_tree.specs.Page.{IsMadeTree, IsPageOf}
use Rattle.mem_tree.specs.Tree.{kept_of}
use Rattle.mem_tree.specs.declared.kept.PageTree.{PageTree}
use Rattle.mem_tree.proofs.JoinedLemmas.{nothing-joined, nothing-at}
use Rattle.mem_tree.proofs.PageLemmas.{unused-page}
use Rattle.mem_tree.proofs.TouchedLemmas.{none_used}
use Rattle.mem_tree.proofs.building.nodes_of_zeros.Goals as goal

pub returns-clause-pages : goal.returns-clause-pages
returns-clause-pages g c = λ p. subst (λ (o : Option PageTree). IsPageOf o no_bytes p) (sym (nothing-at (kept_of c.no_nodes.result) c.no_nodes.ensures.pages p))
    (unused-page no_bytes p (none_used p))

pub returns-clause-made : goal.returns-clause-made
returns-clause-made g c = λ p. subst (IsMadeTree g.D.Digester.digest_of) (sym (nothing-at (kept_of c.no_nodes.result) c.no_nodes.ensures.pages p)) tt

pub returns-clause-joined : goal.returns-clause-joined
returns-clause-joined g c = nothing-joined g.D.Digester.digest_of (kept_of c.no_nodes.result) c.no_nodes.ensures.pages c.no_nodes.ensures.upper c.no_nodes.ensures.empty
