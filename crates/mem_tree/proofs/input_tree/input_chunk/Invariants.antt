use Rattle.std.proofs.Common.{◌≡◌, ℕ, ◌+◌, ◌*◌, ◌<◌, length, get_or}
use Rattle.mem_tree.proofs.input_tree.input_chunk.Given as goal

-- the bytes so far are those of the input
abbrev pub invariant-bytes : goal.invariant-bytes
invariant-bytes l = (length l.chunk ≡ 32) × ((j : ℕ) → j < l.i → get_or l.chunk j 0 ≡ get_or l.input (32 * l.k + j) 0)
