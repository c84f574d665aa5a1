use Rattle.std.proofs.Common.{◌≡◌, ◌<◌, ◌^◌, ℕ, [], true, false, All, length, IfOk}
use Rattle.std.specs.List.{AllZip}
use Rattle.mem_plain.specs.Contents.{has_page}
use Rattle.mem_tree.specs.Page.{AreEmpty, IsPageOf, IsPageTree}
use Rattle.mem_tree.specs.Tree.{kept_of, page_at, AllMade}
use Rattle.mem_tree.specs.Levels.{IsJoinedOver}
use Rattle.mem_tree.proofs.building.nodes_in.Given as goal

abbrev pub invariant-pages : goal.invariant-pages
invariant-pages g l = record {
  pages : All (λ page. page < 2 ^ 20) l.left.items;
  trees : AllZip (λ page tree. IfOk tree (λ t. IsPageTree g.D.Digester.digest_of t l.mem page)) l.left.items l.trees.items;
  empty : AreEmpty g.D.Digester.digest_of l.nodes.empties;
  made : AllMade g.D.Digester.digest_of (kept_of l.nodes);
  joined : IsJoinedOver g.D.Digester.digest_of (kept_of l.nodes) l.placed.items [];
  low : (p : ℕ) → has_page l.placed.items p ≡ true → p < 2 ^ 20;
  are : (p : ℕ) → has_page l.left.items p ≡ false → IsPageOf (page_at (kept_of l.nodes) p) l.mem p;
}

abbrev pub decreases-pages : goal.decreases-pages
decreases-pages g l = length l.left.items
