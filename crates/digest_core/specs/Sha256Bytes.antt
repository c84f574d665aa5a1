-- Derived: a digest of SHA-256 consists of bytes.
use Rattle.std.proofs.Common.{ℕ, zero, suc, ◌<◌, List, [], ◌∷◌, ◌++◌, slice_index, arith}
use Rattle.std.specs.Int.{byte_at, bytes_high_first}
use Rattle.sha2.specs.Sha256.{sha256, digest_bytes}

byte-append : (xs ys : List ℕ) → ((k : ℕ) → slice_index xs k < 256) → ((k : ℕ) → slice_index ys k < 256) → (k : ℕ) → slice_index (xs ++ ys) k < 256
byte-append [] ys first last k = last k
byte-append (x ∷ xs) ys first last zero = first zero
byte-append (x ∷ xs) ys first last (suc k) = byte-append xs ys (λ j. first (suc j)) last k

byte-byte_at : (i n : ℕ) → byte_at i n < 256
byte-byte_at zero n = omega arith
byte-byte_at (suc i) n = omega arith

byte-bytes_high_first : (n x k : ℕ) → slice_index (bytes_high_first n x) k < 256
byte-bytes_high_first zero x k = omega arith
byte-bytes_high_first (suc n) x zero = byte-byte_at n x
byte-bytes_high_first (suc n) x (suc k) = byte-bytes_high_first n x k

byte-digest_bytes : (h : List ℕ) (n k : ℕ) → slice_index (digest_bytes h n) k < 256
unfolding digest_bytes
byte-digest_bytes h zero k = omega arith
byte-digest_bytes h (suc n) k = byte-append (digest_bytes h n) (bytes_high_first 4 (slice_index h n)) (byte-digest_bytes h n) (byte-bytes_high_first 4 (slice_index h n)) k

-- each number of a digest is below 256
pub byte-sha256 : (m : List ℕ) (k : ℕ) → slice_index (sha256 m) k < 256
unfolding sha256
byte-sha256 m k = byte-digest_bytes _ 8 k
