use Rattle.std.proofs.Common.{◌≡◌, ℕ, ◌-◌, ◌^◌, ◌<◌, true}
use Rattle.mem_plain.specs.Contents.{IsUsed, has_page}
use Rattle.checkpoint_run.specs.Versions.{AreBelow}
use Rattle.checkpoint_run.proofs.checkpoint.used_pages.Given as goal

-- each used page below the number is among the pages, and each of them is used
abbrev pub invariant-pages : goal.invariant-pages
invariant-pages l = record {
  below : AreBelow l.pages.keys;
  used : (p : ℕ) → p < l.from → IsUsed l.mem p → has_page l.pages.keys p ≡ true;
  only : (p : ℕ) → has_page l.pages.keys p ≡ true → IsUsed l.mem p;
}

abbrev pub decreases-pages : goal.decreases-pages
decreases-pages l = 2 ^ 20 - l.from
