-- To believe: a digest of eight bits, made to be found twice: the first byte of SHA-256 (FIPS 180-4), and 31 zeros.
use Rattle.std.specs.Prelude.{ℕ, List, ◌∷◌, replicate, slice_index}
use Rattle.sha2.specs.Sha256.{sha256}

unfoldable pub weak8 : List ℕ → List ℕ
weak8 bytes = slice_index (sha256 bytes) 0 ∷ replicate 31 0
