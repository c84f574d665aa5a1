use Rattle.std.proofs.Common.{◌≡◌, ◌+◌, ◌*◌, ◌≤◌, ◌++◌, ℕ, [], length, true, false}
use Rattle.std.specs.Ordering.{nat_cmp}
use Rattle.std.specs.List.Sorted.{IsStrictlySortedBy}
use Rattle.mem_plain.specs.Contents.{has_page}
use Rattle.mem_tree.specs.Page.{IsPageOf}
use Rattle.mem_tree.specs.Tree.{kept_of, page_at, AllMade, IsJoinedBut}
use Rattle.mem_tree.specs.Costs.{changed_chunks, page_digests, stale_pages}
use Rattle.mem_tree.specs.Levels.{IsJoinedOver}
use Rattle.mem_tree.proofs.kept.Nodes.renew_pages.Given as goal

-- what is left to do follows from the pages that the iterator still has
abbrev pub invariant-pages : goal.invariant-pages
invariant-pages g l = record {
  sorted : IsStrictlySortedBy nat_cmp l.page-iterator;
  among : (p : ℕ) → has_page l.page-iterator p ≡ true → has_page l.touched.pages.now.keys p ≡ true;
  rest : length l.page-iterator ≤ length l.touched.pages.now.keys;
  pages : ((p : ℕ) → has_page l.touched.pages.now.keys p ≡ false → IsPageOf (page_at (kept_of l.fn.self) p) l.mem p) →
      (p : ℕ) → has_page l.page-iterator p ≡ false → IsPageOf (page_at (kept_of l.self) p) l.mem p;
  others : (p : ℕ) → has_page l.touched.pages.now.keys p ≡ false → page_at (kept_of l.self) p ≡ page_at (kept_of l.fn.self) p;
  left : (p : ℕ) → has_page l.page-iterator p ≡ true → page_at (kept_of l.self) p ≡ page_at (kept_of l.fn.self) p;
  made : AllMade g.C.Counted.digest_of (kept_of l.self);
  joined : IsJoinedBut g.C.Counted.digest_of (kept_of l.self) l.touched.pages.now.keys;
  fresh : l.touched.failed ≡ true → IsJoinedOver g.C.Counted.digest_of (kept_of l.self) l.stale.items l.page-iterator;
  whole : l.touched.failed ≡ false → IsJoinedOver g.C.Counted.digest_of (kept_of l.self) l.stale.items [];
  of : (p : ℕ) → has_page l.stale.items p ≡ true → has_page l.touched.pages.now.keys p ≡ true;
  empties : l.self.empties ≡ l.fn.self.empties;
  count : length l.stale.items + length l.page-iterator ≤ length l.touched.pages.now.keys;
  choice : l.stale.items ++ stale_pages l.touched.failed (kept_of l.fn.self) l.mem l.page-iterator ≡ stale_pages l.touched.failed (kept_of l.fn.self) l.mem l.touched.pages.now.keys;
  exact : l.steps + page_digests (kept_of l.fn.self) l.mem l.page-iterator ≡ l.initial.steps + page_digests (kept_of l.fn.self) l.mem l.touched.pages.now.keys;
  steps : l.steps + 255 * length l.page-iterator ≤ l.initial.steps + 255 * length l.touched.pages.now.keys;
  few : l.touched.failed ≡ false → l.steps + 20 * length l.stale.items + 28 * changed_chunks (kept_of l.fn.self) l.mem l.page-iterator ≤ l.initial.steps + 28 * changed_chunks (kept_of l.fn.self) l.mem l.touched.pages.now.keys;
  more : l.initial.steps ≤ l.steps;
}
