-- Every register of a new register file holds a number of 32 bits.
use Rattle.std.proofs.Common.{ℕ, zero, suc, ◌<◌, ◌^◌, replicate, slice_index, arith}

pub zeros-fit : (n k : ℕ) → slice_index (replicate n 0) k < 2 ^ 32
zeros-fit zero k = omega arith
zeros-fit (suc n) zero = omega arith
zeros-fit (suc n) (suc k) = zeros-fit n k
