-- Worked examples of the definitions to believe, with values from outside: the test vectors of zlib's `adler32`, and sums.
use Rattle.std.proofs.Common.{◌≡◌, [], ◌∷◌, codes, refl}
use Rattle.guests.specs.Sum.{summed_bytes}
use Rattle.guests.specs.Adler32.{low_after, high_after, adler32_of}

adler32-empty : adler32_of [] ≡ 0 ∷ 0 ∷ 0 ∷ 1 ∷ []
unfolding low_after high_after
adler32-empty = refl

adler32-of-one-letter : adler32_of (codes "a") ≡ 0x00 ∷ 0x62 ∷ 0x00 ∷ 0x62 ∷ []
unfolding low_after high_after
adler32-of-one-letter = refl

adler32-of-a-name : adler32_of (codes "Wikipedia") ≡ 0x11 ∷ 0xe6 ∷ 0x03 ∷ 0x98 ∷ []
unfolding low_after high_after
adler32-of-a-name = refl

adler32-of-the-greatest-bytes : adler32_of (0xff ∷ 0xff ∷ 0xff ∷ 0xff ∷ []) ≡ 0x09 ∷ 0xfa ∷ 0x03 ∷ 0xfd ∷ []
unfolding low_after high_after
adler32-of-the-greatest-bytes = refl

sum-of-three : summed_bytes (1 ∷ 2 ∷ 3 ∷ []) ≡ 6 ∷ 0 ∷ []
sum-of-three = refl

sum-of-the-greatest-bytes : summed_bytes (0xff ∷ 0xff ∷ 0xff ∷ 0xff ∷ []) ≡ 0xfc ∷ 0x03 ∷ []
sum-of-the-greatest-bytes = refl
