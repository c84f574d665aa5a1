-- To believe: the Adler-32 of bytes (RFC 1950, 8.2).
use Rattle.std.specs.Prelude.{ℕ, zero, suc, ◌+◌, ◌/◌, ◌%◌, List, [], ◌∷◌, length, slice_index}

-- s1 of the standard after this many of the bytes: their sum and 1, modulo the largest prime below 2^16
unfoldable pub low_after : List ℕ → ℕ → ℕ
low_after bytes zero = 1
low_after bytes (suc k) = (low_after bytes k + slice_index bytes k) % 65521

-- s2 of the standard: the sum of all s1 after a byte, modulo that prime
unfoldable pub high_after : List ℕ → ℕ → ℕ
high_after bytes zero = 0
high_after bytes (suc k) = (high_after bytes k + low_after bytes (suc k)) % 65521

-- the four bytes of s2 * 65536 + s1, the greatest first
abbrev pub adler32_of : List ℕ → List ℕ
adler32_of bytes =
    let high = high_after bytes (length bytes) in
    let low = low_after bytes (length bytes) in
    high / 256 ∷ high % 256 ∷ low / 256 ∷ low % 256 ∷ []
