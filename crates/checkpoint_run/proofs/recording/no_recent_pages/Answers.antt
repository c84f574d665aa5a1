use Rattle.std.proofs.Common.{sym, subst}
use Rattle.checkpoint_run.specs.NotedPages.{AreNoted}
use Rattle.checkpoint_run.proofs.NotedLemmas.{none_noted, none_only}
use Rattle.checkpoint_run.proofs.recording.no_recent_pages.Goals as goal

pub returns-clause-none : goal.returns-clause-none
returns-clause-none c pages = subst (λ xs. AreNoted xs pages) (sym (c.in_ok-vec.ensures.items_if_clones_equal (none_only _ (λ p is. is)))) (none_noted 256 pages)
