use Rattle.std.proofs.Common.{◌≡◌, replicate}
use Rattle.mem_tree.proofs.page.no_bytes.Given as goal

abbrev pub invariant-chunks : goal.invariant-chunks
invariant-chunks l = l.chunks.items ≡ replicate l._k (replicate 32 0)
