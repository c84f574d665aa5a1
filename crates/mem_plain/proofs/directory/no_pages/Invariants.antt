use Rattle.std.proofs.Common.{◌≡◌, replicate, None, length}
use Rattle.mem_plain.proofs.directory.no_pages.Given as goal

-- so many places have no page
abbrev pub invariant-pages : goal.invariant-pages
invariant-pages l = record {
  items : l.pages.items ≡ replicate l._k None;
  len : length l.pages.items ≡ l._k;
}
