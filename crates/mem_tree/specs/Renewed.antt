-- Derived: what holds of a page that was made that of a memory.
use Rattle.std.specs.Prelude.{◌≡◌, ℕ, List, Option, false, is_some}
use Rattle.mem_plain.specs.Contents.{Contents}
use Rattle.mem_tree.specs.Page.{IsPageTree, heap_node}
use Rattle.mem_tree.specs.Tree.{IsRoot}
use Rattle.mem_tree.specs.Costs.{has_changed}
use Rattle.mem_tree.specs.declared.kept.PageTree.{PageTree}
use Rattle.mem_tree.specs.declared.kept.Renewed.{Renewed}

-- the subtree is the page's, with this root; whether some chunk has changed is told, and if none has, the root and whether the page is kept
-- are as before
pub record IsRenewed (digest : List ℕ → List ℕ) (before after : Option PageTree) (renewed : Renewed) (m : Contents) (page : ℕ) : Type 0 where
  pub tree : IsPageTree digest after m page
  pub root_is : IsRoot renewed.root after
  pub changed_is : renewed.changed ≡ has_changed before m page
  pub same : renewed.changed ≡ false → (empty : List ℕ) → heap_node after 1 empty ≡ heap_node before 1 empty
  pub there : renewed.changed ≡ false → is_some after ≡ is_some before
