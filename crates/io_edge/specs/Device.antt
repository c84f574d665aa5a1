-- To believe: the bytes and the counts of faults of a device, before and after a call.
use Rattle.std.specs.Prelude.{◌≡◌, ◌⊎◌, ℕ, ◌+◌, ◌-◌, ◌^◌, ◌≤◌, min, List, length, take, drop, Option, Some, IfSome, Result, MatchResult}
use Rattle.std.specs.Io.KnownBytes.{Appends}

-- a count of faults rose by exactly one, or is the largest u64, where it stays
abbrev pub Rises : ℕ → ℕ → Type 0
Rises before now = (now ≡ before + 1) ⊎ ((before ≡ 2 ^ 64 - 1) × (now ≡ 2 ^ 64 - 1))

-- the count after one more, which stays at the largest u64
abbrev pub next_count : ℕ → ℕ
next_count n = min (n + 1) (2 ^ 64 - 1)

-- a failure raises the count, and success leaves it as it was
abbrev pub Counts : {T E : Type 0} → ℕ → ℕ → Result T E → Type 0
Counts before now r = MatchResult r (λ _. now ≡ before) (λ _. Rises before now)

-- these bytes are what is left of the first ones, after some of them were read
abbrev pub IsLaterIn : Option (List ℕ) → List ℕ → Type 0
IsLaterIn now before = (given : ℕ) × (now ≡ Some (drop given before))

-- if the bytes left are visible, at most this many were read
abbrev pub ReadsUpTo : Option (List ℕ) → Option (List ℕ) → ℕ → Type 0
ReadsUpTo before now most = IfSome before (λ xs. IfSome now (λ ys. length xs ≤ length ys + most))

-- a prefix of the bytes was taken: none, some or all
abbrev pub AppendsPart : Option (List ℕ) → Option (List ℕ) → List ℕ → Type 0
AppendsPart before now bytes = (taken : ℕ) × (taken ≤ length bytes) × Appends before now (take taken bytes)
