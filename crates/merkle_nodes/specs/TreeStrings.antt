-- To believe. The strings of a tree, whose digests its nodes are.
use Rattle.std.specs.Prelude.{◌≡◌, ℕ, ◌+◌, ◌-◌, ◌*◌, ◌^◌, ◌<◌, List}
use Rattle.digest_core.specs.Text.{node_text}
use Rattle.merkle_nodes.specs.Node.{node}
use Rattle.merkle_nodes.specs.Split.{IsSplit}

-- x is a string of the tree of n levels over these leaves: the leaf string of one of the 2^n leaves, or the node string over two
-- nodes of a level below n
pub data IsTreeString (digest : List ℕ → List ℕ) (leaf : ℕ → List ℕ) (n : ℕ) (x : List ℕ) : Type 0 where
  is_leaf : (k : ℕ) → k < 2 ^ n → x ≡ leaf k → IsTreeString digest leaf n x
  is_node : (l k : ℕ) → l < n → k < 2 ^ (n - (l + 1)) → x ≡ node_text (node digest leaf l (2 * k)) (node digest leaf l (2 * k + 1)) → IsTreeString digest leaf n x

-- a string of one tree of n levels and a different string of another one have one digest
pub record TreesSplit (digest : List ℕ → List ℕ) (leaf other : ℕ → List ℕ) (n : ℕ) : Type 0 where
  pub first : List ℕ
  pub second : List ℕ
  pub of_first : IsTreeString digest leaf n first
  pub of_second : IsTreeString digest other n second
  pub split : IsSplit digest first second
