-- To believe. Two different strings with one digest, on two paths along one index.
use Rattle.std.specs.Prelude.{◌≡◌, ◌≢◌, ℕ, List}
use Rattle.merkle_nodes.specs.Opening.{opened}

-- two different strings with one digest
pub record IsSplit (digest : List ℕ → List ℕ) (a b : List ℕ) : Type 0 where
  pub differ : a ≢ b
  pub agree : digest a ≡ digest b

-- the strings at level l of two paths along index k are such a pair: a and b are the leaves' strings, s and t the siblings
abbrev pub IsSplitAt : (List ℕ → List ℕ) → List ℕ → (ℕ → List ℕ) → List ℕ → (ℕ → List ℕ) → ℕ → ℕ → Type 0
IsSplitAt digest a s b t k l = IsSplit digest (opened digest a s l k) (opened digest b t l k)
