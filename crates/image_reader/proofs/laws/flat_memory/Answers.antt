use Rattle.std.proofs.Common.{◌≡◌, ◌⊎◌, ℕ, ◌+◌, ◌-◌, ◌<◌, ◌≤◌, List, length, slice_index, cond, ap, ◌∙◌, arith}
use Rattle.std.proofs.lemmas.Bool.Decides.{nat_tests}
use Rattle.mem_plain.specs.Contents.{no_bytes, is_among}
use Rattle.image_reader.proofs.laws.flat_memory.Goals as goal

inside : (file : List ℕ) (base k other : ℕ) → k < length file → cond (is_among base (length file) (base + k)) (slice_index file (base + k - base)) other ≡ slice_index file k
inside file base k other within = let place : base + k - base ≡ k = omega arith in rw place (grind (arith, nat_tests))

outside : (file : List ℕ) (base a byte : ℕ) → (a < base) ⊎ (base + length file ≤ a) → cond (is_among base (length file) a) byte 0 ≡ 0
outside file base a byte apart = grind (arith, nat_tests)

pub returns-clause-inside : goal.returns-clause-inside
returns-clause-inside c = λ file k within. c.laying_bytes.ensures.laid no_bytes 0x10000 file (0x10000 + k) ∙ inside file 0x10000 k _ within

pub returns-clause-outside : goal.returns-clause-outside
returns-clause-outside c = λ file a apart.
    c.laying_bytes.ensures.laid no_bytes 0x10000 file a
    ∙ (ap (cond (is_among 0x10000 (length file) a) (slice_index file (a - 0x10000))) (c.laying_bytes.ensures.nothing a)
    ∙ outside file 0x10000 a _ apart)
