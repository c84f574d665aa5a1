-- To believe. How many nodes of a tree have to be digested anew if some of its leaves have changed: the changed leaves, and
-- each node above one.
use Rattle.std.specs.Prelude.{ℕ, zero, suc, ◌+◌, ◌*◌, ◌-◌, ◌^◌, Bool, ◌||◌, if◌then◌else◌}

-- how many of the numbers below n pass a test
unfoldable pub how_many : (ℕ → Bool) → ℕ → ℕ
how_many test zero = 0
how_many test (suc n) = how_many test n + (if test n then 1 else 0)

-- some leaf below node k of level l has changed
unfoldable pub is_changed : (ℕ → Bool) → ℕ → ℕ → Bool
is_changed changed zero k = changed k
is_changed changed (suc l) k = is_changed changed l (2 * k) || is_changed changed l (2 * k + 1)

-- how many nodes up to level l are changed, of a tree of n levels
unfoldable pub renewals_up_to : (ℕ → Bool) → ℕ → ℕ → ℕ
renewals_up_to changed n zero = how_many changed (2 ^ n)
renewals_up_to changed n (suc l) = renewals_up_to changed n l + how_many (is_changed changed (suc l)) (2 ^ (n - suc l))

-- in all of the tree
abbrev pub renewals : (ℕ → Bool) → ℕ → ℕ
renewals changed n = renewals_up_to changed n n
