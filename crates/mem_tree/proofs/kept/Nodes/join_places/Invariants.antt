use Rattle.std.proofs.Common.{◌≡◌, ◌≢◌, ◌⊎◌, ◌+◌, ◌≤◌, ℕ, take, true, false}
use Rattle.mem_plain.specs.Contents.{has_page}
use Rattle.mem_tree.specs.Tree.{kept_of, upper_at, IsJoinedAbove}
use Rattle.mem_tree.specs.Levels.{joined_among}
use Rattle.mem_tree.proofs.kept.Nodes.join_places.Given as goal

abbrev pub invariant-places : goal.invariant-places
invariant-places g l = record {
  joined : (k : ℕ) → has_page (take l.i l.places) k ≡ true → IsJoinedAbove g.C.Counted.digest_of (kept_of l.self) l.above k;
  elsewhere : (n k : ℕ) → (n ≢ l.above + 1) ⊎ (has_page (take l.i l.places) k ≡ false) → upper_at (kept_of l.self) n k ≡ upper_at (kept_of l.fn.self) n k;
  pages : l.self.pages ≡ l.fn.self.pages;
  empties : l.self.empties ≡ l.fn.self.empties;
  exact : l.steps ≡ l.initial.steps + joined_among (kept_of l.fn.self) l.above (take l.i l.places);
  steps : l.steps ≤ l.initial.steps + l.i;
  more : l.initial.steps ≤ l.steps;
}
