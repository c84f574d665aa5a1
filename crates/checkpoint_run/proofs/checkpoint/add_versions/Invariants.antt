use Rattle.std.proofs.Common.{◌≡◌, ℕ, ◌++◌, List, true}
use Rattle.mem_plain.specs.Contents.{has_page}
use Rattle.checkpoint_run.specs.Versions.{pages_of, IsShownBut}
use Rattle.checkpoint_run.specs.declared.version.Version.{Version}
use Rattle.checkpoint_run.proofs.checkpoint.add_versions.Given as goal

-- the pages that are left aren't shown yet, every version that was there still is, and each page that isn't left has one more
abbrev pub invariant-pages : goal.invariant-pages
invariant-pages l = record {
  shown : IsShownBut l.versions.items l.page-iterator l.mem;
  among : (p : ℕ) → has_page l.page-iterator p ≡ true → has_page l.changed.keys p ≡ true;
  more : (added : List Version) × (l.versions.items ≡ l.initial.versions.items ++ added);
  one : pages_of l.versions.items ++ l.page-iterator ≡ pages_of l.initial.versions.items ++ l.changed.keys;
}
