use Rattle.std.proofs.Common.{◌≡◌, ℕ, ◌-◌, ◌^◌, ◌<◌, true}
use Rattle.mem_plain.specs.Contents.{Contents, IsUsed, has_page}
use Rattle.mem_tree.specs.Tree.{IsTreeOf}
use Rattle.mem_tree.proofs.tree.touch_used_pages.Given as goal

-- each used page below the number is touched
abbrev pub invariant-pages : goal.invariant-pages
invariant-pages g l = record {
  tree : (m : Contents) → IsTreeOf g.D.Digester.digest_of l.fn.tree m → IsTreeOf g.D.Digester.digest_of l.with m;
  whole : l.with.failed ≡ l.fn.tree.failed;
  used : (p : ℕ) → p < l.least → IsUsed l.mem p → has_page l.with.touched p ≡ true;
  others : (p : ℕ) → has_page l.fn.tree.touched p ≡ true → has_page l.with.touched p ≡ true;
}

abbrev pub decreases-pages : goal.decreases-pages
decreases-pages g l = 2 ^ 20 - l.least
