-- To believe. The draws of the large workload: a linear congruential generator modulo 2^32.
use Rattle.std.specs.Prelude.{ℕ, zero, suc, ◌+◌, ◌*◌, ◌%◌, ◌^◌, List, map}
use Rattle.std.specs.List.{range_with_len}

-- the draw after a draw
abbrev pub next_draw : ℕ → ℕ
next_draw x = (1664525 * x + 1013904223) % 2 ^ 32

-- the draw of this number; draw 0 is the seed
unfoldable pub draw : ℕ → ℕ → ℕ
draw seed zero = seed
draw seed (suc k) = next_draw (draw seed k)

-- this many values of a function: at 0, 1 and on
unfoldable pub first_values : {X : Type 0} → ℕ → (ℕ → X) → List X
first_values n f = map f (range_with_len 0 n)
