-- Derived: a ledger as it is kept in memory. Who isn't out has its stake, and nothing is lost.
use Rattle.std.specs.Prelude.{◌≡◌, ℕ, ◌+◌, ◌*◌, ◌≤◌, Bool, false, List, [], ◌∷◌, length, sum}

abbrev pub AllHaveStake : ℕ → List ℕ → List Bool → Type 0
AllHaveStake stake [] os = Unit {0}
AllHaveStake stake (x ∷ xs) [] = Unit {0}
AllHaveStake stake (x ∷ xs) (o ∷ os) = (o ≡ false → stake ≤ x) × AllHaveStake stake xs os

-- balances, flags and the pool: a flag for each balance, and all stakes are there
pub record IsFunded (stake : ℕ) (of : List ℕ) (out : List Bool) (pool : ℕ) : Type 0 where
  pub flags : length out ≡ length of
  pub stakes : AllHaveStake stake of out
  pub total : sum of + pool ≡ stake * length of

pub record IsLedger (stake : ℕ) (of : List ℕ) (out : List Bool) (pool : ℕ) : Type 0 where
  pub small : stake ≤ 1000000000
  pub few : length of ≤ 16
  pub funded : IsFunded stake of out pool
