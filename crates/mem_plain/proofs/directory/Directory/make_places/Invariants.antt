use Rattle.std.proofs.Common.{◌≡◌, ℕ, vec_len}
use Rattle.mem_plain.specs.Pages.{page_in}
use Rattle.mem_plain.proofs.directory.Directory.make_places.Given as goal

-- the same pages are kept, and there are so many places
abbrev pub invariant-places : goal.invariant-places
invariant-places l = record {
  same : (q : ℕ) → page_in l.self.tables.items q ≡ page_in l.fn.self.tables.items q;
  len : vec_len l.self.tables ≡ l._place;
}
