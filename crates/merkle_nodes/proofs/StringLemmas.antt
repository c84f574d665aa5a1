-- The strings along the path of a leaf are strings of the tree.
use Rattle.std.proofs.Common.{◌≡◌, ℕ, zero, suc, ◌+◌, ◌*◌, ◌-◌, ◌/◌, ◌%◌, ◌^◌, ◌<◌, ◌≤◌, List, cond, refl, sym, ap, ◌∙◌, subst, arith, ⊎_elim}
use Rattle.std.proofs.Math.Nat.{pow-suc}
use Rattle.std.proofs.lemmas.Nat.{shr_below}
use Rattle.std.proofs.lemmas.Bool.{cases_eq, eq-eqb, ne_eqb}
use Rattle.digest_core.specs.Text.{node_text}
use Rattle.merkle_nodes.specs.Node.{node, beside}
use Rattle.merkle_nodes.specs.Opening.{joined, opened, AreSiblings}
use Rattle.merkle_nodes.specs.TreeStrings.{IsTreeString}
use Rattle.merkle_nodes.specs.TreeStrings.IsTreeString.{is_leaf, is_node}

abbrev pub ClimbLaw : Type 0
ClimbLaw = (digest : List ℕ → List ℕ) (leaf : ℕ → List ℕ) (siblings : ℕ → List ℕ) (n k : ℕ) → AreSiblings digest leaf n k siblings →
    digest (opened digest (leaf k) siblings n k) ≡ node digest leaf n (k / 2 ^ n)

-- a node and the one beside it, on their sides
joined-text : (digest : List ℕ → List ℕ) (leaf : ℕ → List ℕ) (l q : ℕ) (other : List ℕ) → other ≡ node digest leaf l (beside q)
    → joined (q % 2) (node digest leaf l q) other ≡ node_text (node digest leaf l (2 * (q / 2))) (node digest leaf l (2 * (q / 2) + 1))
joined-text digest leaf l q other is = ⊎_elim
    (λ even.
    let left : 2 * (q / 2) ≡ q = omega arith in
    let right : 2 * (q / 2) + 1 ≡ q + 1 = omega arith in
    rw (eq-eqb (q % 2) 0 even) (ap (node_text (node digest leaf l q)) (is ∙ (ap (λ b. node digest leaf l (cond b (q + 1) (q - 1))) (eq-eqb (q % 2) 0 even) ∙ ap (node digest leaf l) (sym right)))
    ∙ ap (λ p. node_text (node digest leaf l p) (node digest leaf l (2 * (q / 2) + 1))) (sym left)))
    (λ odd.
    let left : 2 * (q / 2) ≡ q - 1 = omega arith in
    let right : 2 * (q / 2) + 1 ≡ q = omega arith in
    rw (ne_eqb (q % 2) 0 odd) (ap (λ o. node_text o (node digest leaf l q)) (is ∙ (ap (λ b. node digest leaf l (cond b (q + 1) (q - 1))) (ne_eqb (q % 2) 0 odd) ∙ ap (node digest leaf l) (sym left)))
    ∙ ap (λ p. node_text (node digest leaf l (2 * (q / 2))) (node digest leaf l p)) (sym right)))
    (cases_eq (q % 2) 0)

parent-below : (n l k : ℕ) → l < n → k < 2 ^ n → k / 2 ^ l / 2 < 2 ^ (n - (l + 1))
parent-below n l k low below =
    let whole : n ≡ n - l + l = omega arith in
    let place = shr_below k (n - l) l (subst (λ m. k < 2 ^ m) whole below) in
    let up : n - l ≡ suc (n - (l + 1)) = omega arith in
    let doubled : 2 ^ (n - l) ≡ 2 ^ (n - (l + 1)) * 2 = ap (λ m. 2 ^ m) up ∙ pow-suc 2 (n - (l + 1)) in
    omega arith

pub path-string : ClimbLaw → (digest : List ℕ → List ℕ) (leaf : ℕ → List ℕ) (siblings : ℕ → List ℕ) (n l k : ℕ) → l ≤ n → k < 2 ^ n
    → AreSiblings digest leaf l k siblings → IsTreeString digest leaf n (opened digest (leaf k) siblings l k)
unfolding opened
path-string climbs digest leaf siblings n zero k low below along = is_leaf k below refl
path-string climbs digest leaf siblings n (suc l) k low below along =
    is_node l (k / 2 ^ l / 2) (omega arith) (parent-below n l k (omega arith) below)
    (ap (λ c. joined (k / 2 ^ l % 2) c (siblings l)) (climbs digest leaf siblings l k (λ i lower. along i (omega arith)))
    ∙ joined-text digest leaf l (k / 2 ^ l) (siblings l) (along l (omega arith)))
