-- Two trees with one root have the same leaf strings, or two different strings of them have one digest.
use Rattle.std.proofs.Common.{◌≡◌, ℕ, zero, suc, ◌+◌, ◌*◌, ◌-◌, ◌/◌, ◌^◌, ◌<◌, ◌≤◌, ◌⊎◌, inl, inr, List, length, Bool, true, false, true≢false, refl, sym, ap, ◌∙◌, subst, arith, ⊎_elim}
use Rattle.std.specs.Prelude.{bytes_eq}
use Rattle.std.proofs.Math.Nat.{pow-suc}
use Rattle.std.proofs.lemmas.Nat.{shr_below}
use Rattle.std.proofs.lemmas.Bool.{cases_eq}
use Rattle.std.proofs.lemmas.Slice.Eq.{bytes_eq-Decides}
use Rattle.digest_core.specs.Text.{node_text}
use Rattle.digest_core.specs.TextLaws.{cons_parts, append_parts}
use Rattle.merkle_nodes.specs.Node.{node}
use Rattle.merkle_nodes.specs.Split.{IsSplit}
use Rattle.merkle_nodes.specs.TreeStrings.{TreesSplit}
use Rattle.merkle_nodes.specs.TreeStrings.IsTreeString.{is_leaf, is_node}
use Rattle.merkle_nodes.proofs.NodeLemmas.{div-level, div-ground, node-zero, node-suc}

-- one digest is that of one string, or of two
pub same_or_split : (digest : List ℕ → List ℕ) (x y : List ℕ) → digest x ≡ digest y → (x ≡ y) ⊎ IsSplit digest x y
same_or_split digest x y one = go (bytes_eq x y) refl
  where
    go : (r : Bool) → bytes_eq x y ≡ r → (x ≡ y) ⊎ IsSplit digest x y
    go true test = inl ((bytes_eq-Decides x y).0 test)
    go false test = inr (record { differ = λ same. true≢false (sym ((bytes_eq-Decides x y).1 same) ∙ test); agree = one })

-- a place has the two below it
child-below : (n l k : ℕ) → suc l ≤ n → k < 2 ^ (n - suc l) → 2 * k + 1 < 2 ^ (n - l)
child-below n l k low below =
    let up : n - l ≡ suc (n - suc l) = omega arith in
    let doubled : 2 ^ (n - l) ≡ 2 ^ (n - suc l) * 2 = ap (λ m. 2 ^ m) up ∙ pow-suc 2 (n - suc l) in
    omega arith

module _ (digest : List ℕ → List ℕ) (is_digest : (bytes : List ℕ) → length (digest bytes) ≡ 32) where
  pub node-size : (leaf : ℕ → List ℕ) (l k : ℕ) → length (node digest leaf l k) ≡ 32
  node-size leaf zero k = ap length (node-zero digest leaf k) ∙ is_digest _
  node-size leaf (suc l) k = ap length (node-suc digest leaf l k) ∙ is_digest _

  module _ (leaf other : ℕ → List ℕ) (n : ℕ) where
    -- the leaves below a node have the same strings in both trees
    abbrev SameBelow : ℕ → ℕ → Type 0
    SameBelow l k = (j : ℕ) → j / 2 ^ l ≡ k → leaf j ≡ other j

    both-below : (l k : ℕ) → SameBelow l (2 * k) → SameBelow l (2 * k + 1) → SameBelow (suc l) k
    both-below l k left right j under =
        let half : j / 2 ^ l / 2 ≡ k = sym (div-level j l) ∙ under in
        ⊎_elim (λ even. left j even) (λ odd. right j (omega arith)) (cases_eq (j / 2 ^ l) (2 * k))

    pub same_below : (l k : ℕ) → l ≤ n → k < 2 ^ (n - l) → node digest leaf l k ≡ node digest other l k → SameBelow l k ⊎ TreesSplit digest leaf other n
    same_below zero k low below meet =
        let whole : n - 0 ≡ n = omega arith in
        let inside = subst (λ m. k < 2 ^ m) whole below in
        ⊎_elim
        (λ same. inl (λ j under. let at : j ≡ k = sym (div-ground j) ∙ under in ap leaf at ∙ (same ∙ ap other (sym at))))
        (λ split. inr (record { first = leaf k; second = other k; of_first = is_leaf k inside refl; of_second = is_leaf k inside refl; split = split }))
        (same_or_split digest (leaf k) (other k) (sym (node-zero digest leaf k) ∙ (meet ∙ node-zero digest other k)))
    same_below (suc l) k low below meet = ⊎_elim
        (λ same.
        let halves = append_parts (node digest leaf l (2 * k)) (node digest other l (2 * k)) (node digest leaf l (2 * k + 1)) (node digest other l (2 * k + 1))
        (node-size leaf l (2 * k) ∙ sym (node-size other l (2 * k))) (cons_parts 1 1 _ _ same).1 in
        let places = child-below n l k low below in
        ⊎_elim
        (λ left. ⊎_elim
        (λ right. inl (both-below l k left right))
        (λ split. inr split)
        (same_below l (2 * k + 1) (omega arith) places halves.1))
        (λ split. inr split)
        (same_below l (2 * k) (omega arith) (omega arith) halves.0))
        (λ split.
        let width : k < 2 ^ (n - (l + 1)) = subst (λ m. k < 2 ^ (n - m)) (omega arith) below in
        inr (record {
          first = node_text (node digest leaf l (2 * k)) (node digest leaf l (2 * k + 1));
          second = node_text (node digest other l (2 * k)) (node digest other l (2 * k + 1));
          of_first = is_node l k (omega arith) width refl;
          of_second = is_node l k (omega arith) width refl;
          split = split;
        }))
        (same_or_split digest _ _ (sym (node-suc digest leaf l k) ∙ (meet ∙ node-suc digest other l k)))

    pub one_tree : node digest leaf n 0 ≡ node digest other n 0 → ((k : ℕ) → k < 2 ^ n → leaf k ≡ other k) ⊎ TreesSplit digest leaf other n
    one_tree meet =
        let none : n - n ≡ 0 = omega arith in
        ⊎_elim
        (λ same. inl (λ k low. same k (first k low)))
        (λ split. inr split)
        (same_below n 0 (omega arith) (subst (λ m. 0 < 2 ^ m) (sym none) (omega arith)) meet)
      where
        first : (k : ℕ) → k < 2 ^ n → k / 2 ^ n ≡ 0
        first k low =
            let whole : n ≡ 0 + n = omega arith in
            let place = shr_below k 0 n (subst (λ m. k < 2 ^ m) whole low) in
            omega arith
