-- An empty node is the digest of the one below it, twice.
use Rattle.std.proofs.Common.{◌≡◌, ℕ, ◌+◌, List, refl, add-one}
use Rattle.digest_core.specs.Text.{node_text}
use Rattle.merkle_nodes.specs.Node.{empty_node}

pub empty-first : (digest : List ℕ → List ℕ) (text : List ℕ) → empty_node digest text 0 ≡ digest text
unfolding empty_node
empty-first digest text = refl

pub empty-next : (digest : List ℕ → List ℕ) (text : List ℕ) (l : ℕ) → empty_node digest text (l + 1) ≡ digest (node_text (empty_node digest text l) (empty_node digest text l))
unfolding empty_node
empty-next digest text l = rw add-one refl
