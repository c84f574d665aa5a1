-- Nodes depend on the leaves below them alone.
use Rattle.std.proofs.Common.{◌≡◌, ℕ, zero, suc, ◌+◌, ◌*◌, ◌/◌, ◌^◌, List, refl, sym, ap, ◌∙◌, arith}
use Rattle.std.proofs.Math.Nat.{div-one, div-div-eq-div-mul, pow-suc}
use Rattle.digest_core.specs.Text.{node_text}
use Rattle.merkle_nodes.specs.Node.{node, empty_node}

-- one level up halves the place
pub div-level : (j l : ℕ) → j / 2 ^ suc l ≡ j / 2 ^ l / 2
div-level j l = ap (λ n. j / n) (pow-suc 2 l) ∙ sym (div-div-eq-div-mul j (2 ^ l) 2)

pub div-ground : (j : ℕ) → j / 2 ^ 0 ≡ j
div-ground j = div-one j

module _ (digest : List ℕ → List ℕ) where
  pub node-zero : (leaf : ℕ → List ℕ) (k : ℕ) → node digest leaf 0 k ≡ digest (leaf k)
  unfolding node
  node-zero leaf k = refl

  pub node-suc : (leaf : ℕ → List ℕ) (l k : ℕ) → node digest leaf (suc l) k ≡ digest (node_text (node digest leaf l (2 * k)) (node digest leaf l (2 * k + 1)))
  unfolding node
  node-suc leaf l k = refl

  -- two trees whose leaves below a node are the same have the same node
  pub node-same : (leaf other : ℕ → List ℕ) (l k : ℕ) → ((j : ℕ) → j / 2 ^ l ≡ k → leaf j ≡ other j) → node digest leaf l k ≡ node digest other l k
  unfolding node
  node-same leaf other zero k same = ap digest (same k (div-ground k))
  node-same leaf other (suc l) k same =
      let left = node-same leaf other l (2 * k) (λ j under. same j (div-level j l ∙ (ap (λ q. q / 2) under ∙ (omega arith)))) in
      let right = node-same leaf other l (2 * k + 1) (λ j under. same j (div-level j l ∙ (ap (λ q. q / 2) under ∙ (omega arith)))) in
      cc

  -- a node over leaves that all have one string is the empty one of its level
  pub node-empty : (leaf : ℕ → List ℕ) (text : List ℕ) (l k : ℕ) → ((j : ℕ) → j / 2 ^ l ≡ k → leaf j ≡ text) → node digest leaf l k ≡ empty_node digest text l
  unfolding node empty_node
  node-empty leaf text zero k same = ap digest (same k (div-ground k))
  node-empty leaf text (suc l) k same =
      let left = node-empty leaf text l (2 * k) (λ j under. same j (div-level j l ∙ (ap (λ q. q / 2) under ∙ (omega arith)))) in
      let right = node-empty leaf text l (2 * k + 1) (λ j under. same j (div-level j l ∙ (ap (λ q. q / 2) under ∙ (omega arith)))) in
      cc
