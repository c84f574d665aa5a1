-- To believe: what the program of the large workload computes, which is the sum of its input's bytes.
use Rattle.std.specs.Prelude.{ℕ, ◌+◌, ◌*◌, ◌/◌, ◌%◌, ◌<◌, ◌≤◌, List, [], ◌∷◌, length, slice_index}
use Rattle.mem_plain.specs.Contents.{no_bytes, laid}
use Rattle.rv_step.specs.State.{State}
use Rattle.rv_step.specs.Loaded.{started}
use Rattle.workload.specs.Program.{program}
use Rattle.workload.specs.Workload.{input_of}
use Rattle.guests.specs.Guest.{PutsOut}

-- the sum of bytes
abbrev pub byte_total : List ℕ → ℕ
byte_total [] = 0
byte_total (b ∷ bytes) = b + byte_total bytes

-- its two low bytes, the lowest first
abbrev pub summed_bytes : List ℕ → List ℕ
summed_bytes bytes = byte_total bytes % 256 ∷ byte_total bytes / 256 % 256 ∷ []

-- the program at 0x10000, over an input, in version 1
abbrev pub summing : List ℕ → State
summing input = started 1 (laid no_bytes 0x10000 program) 0x10000 input

-- the law: its run puts out the sum of each input of at most 1,048,576 bytes, after 13 steps and 8 for each byte
abbrev pub InputsAreSummed : Type 0
InputsAreSummed = (input : List ℕ) → length input ≤ 1048576 → ((k : ℕ) → slice_index input k < 256)
    → PutsOut (summing input) (13 + 8 * length input) (summed_bytes input)

-- and so it does that of the input of each seed, after 32,781 steps
abbrev pub SeedsAreSummed : Type 0
SeedsAreSummed = (seed : ℕ) → PutsOut (summing (input_of seed)) 32781 (summed_bytes (input_of seed))
