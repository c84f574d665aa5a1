-- Derived: numbers as the code keeps them, at most 2^32, which is in no range.
use Rattle.std.specs.Prelude.{ℕ, suc, ℤ, pos, negsuc, neg_ℤ, if◌then◌else◌, nat_lt}

abbrev pub capped : ℕ → ℕ
capped n = if nat_lt n 4294967296 then n else 4294967296

abbrev pub capped_integer : ℤ → ℤ
capped_integer (pos n) = pos (capped n)
capped_integer (negsuc n) = neg_ℤ (pos (capped (suc n)))
