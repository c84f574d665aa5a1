-- A path from a leaf climbs to a node.
use Rattle.std.proofs.Common.{◌≡◌, ◌≢◌, ℕ, zero, suc, ◌+◌, ◌*◌, ◌-◌, ◌/◌, ◌%◌, ◌^◌, List, cond, refl, sym, ap, ◌∙◌, arith, ⊎_elim, add-one}
use Rattle.std.proofs.lemmas.Bool.{eq-eqb, ne_eqb, cases_eq}
use Rattle.digest_core.specs.Text.{node_text}
use Rattle.merkle_nodes.specs.Node.{node, beside}
use Rattle.merkle_nodes.specs.Opening.{joined, opened, AreSiblings}
use Rattle.merkle_nodes.proofs.NodeLemmas.{div-level, div-ground, node-zero, node-suc, node-same}

-- one level further up
pub opened-next : (digest : List ℕ → List ℕ) (leaf : List ℕ) (siblings : ℕ → List ℕ) (l k : ℕ) → opened digest leaf siblings (l + 1) k ≡ joined (k / 2 ^ l % 2) (digest (opened digest leaf siblings l k)) (siblings l)
unfolding opened
opened-next digest leaf siblings l k = rw add-one refl

pub opened-first : (digest : List ℕ → List ℕ) (leaf : List ℕ) (siblings : ℕ → List ℕ) (k : ℕ) → opened digest leaf siblings 0 k ≡ leaf
unfolding opened
opened-first digest leaf siblings k = refl

-- along the nodes of a tree, a path climbs to the node above its leaf
module _ (digest : List ℕ → List ℕ) (leaf : ℕ → List ℕ) where
  joined-node : (l q : ℕ) (other : List ℕ) → other ≡ node digest leaf l (beside q) → digest (joined (q % 2) (node digest leaf l q) other) ≡ node digest leaf (suc l) (q / 2)
  joined-node l q other is = ⊎_elim
      (λ even.
      let left : 2 * (q / 2) ≡ q = omega arith in
      let right : 2 * (q / 2) + 1 ≡ q + 1 = omega arith in
      rw (eq-eqb (q % 2) 0 even) (ap digest (ap (node_text (node digest leaf l q)) (is ∙ ap (λ b. node digest leaf l (cond b (q + 1) (q - 1))) (eq-eqb (q % 2) 0 even) ∙ ap (node digest leaf l) (sym right)) ∙ ap (λ p. node_text (node digest leaf l p) (node digest leaf l (2 * (q / 2) + 1))) (sym left)) ∙ sym (node-suc digest leaf l (q / 2))))
      (λ odd.
      let left : 2 * (q / 2) ≡ q - 1 = omega arith in
      let right : 2 * (q / 2) + 1 ≡ q = omega arith in
      rw (ne_eqb (q % 2) 0 odd) (ap digest (ap (λ o. node_text o (node digest leaf l q)) (is ∙ ap (λ b. node digest leaf l (cond b (q + 1) (q - 1))) (ne_eqb (q % 2) 0 odd) ∙ ap (node digest leaf l) (sym left)) ∙ ap (λ p. node_text (node digest leaf l (2 * (q / 2))) (node digest leaf l p)) (sym right)) ∙ sym (node-suc digest leaf l (q / 2))))
      (cases_eq (q % 2) 0)

  pub climb-node : (siblings : ℕ → List ℕ) (n k : ℕ) → AreSiblings digest leaf n k siblings
      → digest (opened digest (leaf k) siblings n k) ≡ node digest leaf n (k / 2 ^ n)
  unfolding opened
  climb-node siblings zero k along = sym (node-zero digest leaf (k / 2 ^ 0) ∙ ap (λ j. digest (leaf j)) (div-ground k))
  climb-node siblings (suc l) k along =
      ap (λ c. digest (joined (k / 2 ^ l % 2) c (siblings l))) (climb-node siblings l k (λ i below. along i (omega arith)))
      ∙ (joined-node l (k / 2 ^ l) (siblings l) (along l (omega arith)) ∙ ap (node digest leaf (suc l)) (sym (div-level k l)))

-- where one leaf changes, the same siblings climb to the node of the changed leaves
pub climb-changed : (digest : List ℕ → List ℕ) (leaf other : ℕ → List ℕ) (siblings : ℕ → List ℕ) (n k : ℕ)
    → ((j : ℕ) → j ≢ k → leaf j ≡ other j) → AreSiblings digest leaf n k siblings
    → digest (opened digest (other k) siblings n k) ≡ node digest other n (k / 2 ^ n)
climb-changed digest leaf other siblings n k elsewhere along =
    climb-node digest other siblings n k (λ l below. along l below ∙ node-same digest leaf other l (beside (k / 2 ^ l)) (λ j under. elsewhere j (apart l j under)))
  where
    away : (q : ℕ) → q ≡ beside q → ⊥
    away q same = ⊎_elim (λ even. let e : q ≡ q + 1 = rw (eq-eqb (q % 2) 0 even) at same in absurd (omega arith)) (λ odd. let e : q ≡ q - 1 = rw (ne_eqb (q % 2) 0 odd) at same in absurd (omega arith)) (cases_eq (q % 2) 0)

    apart : (l j : ℕ) → j / 2 ^ l ≡ beside (k / 2 ^ l) → j ≢ k
    apart l j under same = away (k / 2 ^ l) (ap (λ i. i / 2 ^ l) (sym same) ∙ under)

-- the string one level up, from the code's digest and place
pub opened-from : (digest : List ℕ → List ℕ) (leaf : List ℕ) (siblings : ℕ → List ℕ) (l k q : ℕ) (d x other : List ℕ)
    → d ≡ digest (opened digest leaf siblings l k) → q ≡ k / 2 ^ l → other ≡ siblings l → x ≡ joined (q % 2) d other → x ≡ opened digest leaf siblings (l + 1) k
opened-from digest leaf siblings l k q d x other climbed at beside text =
    text ∙ (ap (λ i. joined (i % 2) d other) at ∙ (ap (λ c. joined (k / 2 ^ l % 2) c other) climbed ∙ (ap (joined (k / 2 ^ l % 2) (digest (opened digest leaf siblings l k))) beside ∙ sym (opened-next digest leaf siblings l k))))

pub place-next : (k l q : ℕ) → q ≡ k / 2 ^ l → q / 2 ≡ k / 2 ^ (l + 1)
place-next k l q at = ap (λ i. i / 2) at ∙ rw add-one (sym (div-level k l))
