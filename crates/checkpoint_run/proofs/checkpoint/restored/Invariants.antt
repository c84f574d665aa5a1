use Rattle.std.proofs.Common.{◌≡◌, ℕ, ◌++◌, List, All, Some, take}
use Rattle.std.specs.Ordering.{nat_cmp}
use Rattle.std.specs.BTreeMap.{get}
use Rattle.std.specs.declared.vec.Vec.{Vec}
use Rattle.std.specs.declared.alloc.Global.{Global}
use Rattle.checkpoint_run.specs.Places.{IsPut}
use Rattle.checkpoint_run.proofs.IndexLemmas.{keys_of}
use Rattle.checkpoint_run.proofs.checkpoint.restored.Given as goal

-- the pages before those that the iterator still has were put into the memory
abbrev pub invariant-pages : goal.invariant-pages
invariant-pages l = record {
  done : List (ℕ × Vec ℕ Global);
  whole : done ++ l.page-iterator ≡ l.index.entries;
  found : All (λ e. get nat_cmp l.index e.0 ≡ Some e.1) l.page-iterator;
  put : IsPut (take l.count l.versions) (keys_of done) l.mem;
}
