use Rattle.checkpoint_run.specs.Versions.{pages_of}
use Rattle.checkpoint_run.specs.Places.{IsIndex}
use Rattle.checkpoint_run.proofs.checkpoint.index_of.Given as goal

abbrev pub invariant-versions : goal.invariant-versions
invariant-versions l = IsIndex l.index.entries (pages_of l.versions) l.place
