-- Derived: a digest of eight bits has 32 bytes.
use Rattle.std.proofs.Common.{◌≡◌, ℕ, zero, suc, ◌<◌, List, length, replicate, slice_index, refl, arith}
use Rattle.digest_core.specs.Sha256Bytes.{byte-sha256}
use Rattle.digest_core.specs.Weak8.{weak8}

pub length-weak8 : (bytes : List ℕ) → length (weak8 bytes) ≡ 32
unfolding weak8
length-weak8 bytes = refl

zero-replicate : (n k : ℕ) → slice_index (replicate n 0) k < 256
zero-replicate zero k = omega arith
zero-replicate (suc n) zero = omega arith
zero-replicate (suc n) (suc k) = zero-replicate n k

-- each number of it is below 256
pub byte-weak8 : (bytes : List ℕ) (k : ℕ) → slice_index (weak8 bytes) k < 256
unfolding weak8
byte-weak8 bytes zero = byte-sha256 bytes 0
byte-weak8 bytes (suc k) = zero-replicate 31 k
