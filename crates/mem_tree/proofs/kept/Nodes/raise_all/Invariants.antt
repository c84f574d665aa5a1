use Rattle.std.proofs.Common.{◌≡◌, ◌≢◌, ◌+◌, ◌*◌, ◌/◌, ◌^◌, ◌<◌, ◌≤◌, ℕ, length, true}
use Rattle.mem_plain.specs.Contents.{has_page}
use Rattle.mem_tree.specs.Tree.{kept_of, upper_at}
use Rattle.mem_tree.specs.Levels.{IsJoinedFrom}
use Rattle.mem_tree.specs.Costs.{ancestors, kept_above}
use Rattle.mem_tree.proofs.kept.Nodes.raise_all.Given as goal

abbrev pub invariant-levels : goal.invariant-levels
invariant-levels g l = record {
  low : (q : ℕ) → has_page l.places.items q ≡ true → q < 2 ^ 20;
  below : (q : ℕ) → has_page l.places.items q ≡ true → (p : ℕ) × (has_page l.fn.pages.items p ≡ true) × (p / 2 ^ l.above ≡ q);
  joined : IsJoinedFrom g.C.Counted.digest_of (kept_of l.fn.self) 0 l.fn.pages.items → IsJoinedFrom g.C.Counted.digest_of (kept_of l.self) l.above l.places.items;
  elsewhere : (n k : ℕ) → ((p : ℕ) → has_page l.fn.pages.items p ≡ true → p / 2 ^ n ≢ k) → upper_at (kept_of l.self) n k ≡ upper_at (kept_of l.fn.self) n k;
  top : (n k : ℕ) → 20 < n → upper_at (kept_of l.self) n k ≡ upper_at (kept_of l.fn.self) n k;
  pages : l.self.pages ≡ l.fn.self.pages;
  empties : l.self.empties ≡ l.fn.self.empties;
  few : length l.places.items ≤ length l.fn.pages.items;
  are : l.places.items ≡ ancestors l.above l.fn.pages.items;
  exact : l.steps ≡ l.initial.steps + kept_above (kept_of l.self) l.above l.fn.pages.items;
  steps : l.steps ≤ l.initial.steps + l.above * length l.fn.pages.items;
  more : l.initial.steps ≤ l.steps;
}
