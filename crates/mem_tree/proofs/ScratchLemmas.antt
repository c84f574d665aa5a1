-- The nodes of an input from scratch: places one level down, widths in chunks, and subtrees behind the input's end.
use Rattle.std.proofs.Common.{◌≡◌, ℕ, suc, ◌+◌, ◌*◌, ◌-◌, ◌/◌, ◌%◌, ◌^◌, ◌<◌, ◌≤◌, List, length, replicate, sym, ap, ◌∙◌, subst, arith}
use Rattle.std.proofs.Math.Nat.{pow-suc}
use Rattle.std.proofs.lemmas.Nat.{div-add-mod', shl_below}
use Rattle.digest_core.specs.Text.{node_text, leaf_text}
use Rattle.merkle_nodes.specs.Node.{node, empty_node}
use Rattle.mem_tree.specs.InputTree.{input_leaf, input_node}
use Rattle.mem_tree.proofs.LeafLemmas.{chunk-past}

-- the laws of nodes, as `merkle_nodes` states them
abbrev pub AboveLaw : Type 0
AboveLaw = (digest : List ℕ → List ℕ) (leaf : ℕ → List ℕ) (l k : ℕ) → node digest leaf (suc l) k ≡ digest (node_text (node digest leaf l (2 * k)) (node digest leaf l (2 * k + 1)))

abbrev pub EmptyLaw : Type 0
EmptyLaw = (digest : List ℕ → List ℕ) (leaf : ℕ → List ℕ) (text : List ℕ) (l k : ℕ) → ((j : ℕ) → j / 2 ^ l ≡ k → leaf j ≡ text) → node digest leaf l k ≡ empty_node digest text l

-- twice as many places stand one level down
twice : (l : ℕ) → 0 < l → l ≤ 15 → 2 ^ (15 - (l - 1)) ≡ 2 ^ (15 - l) * 2
twice l some low = let up : 15 - (l - 1) ≡ suc (15 - l) = omega arith in ap (λ n. 2 ^ n) up ∙ pow-suc 2 (15 - l)

pub left-below : (l k : ℕ) → 0 < l → l ≤ 15 → k < 2 ^ (15 - l) → 2 * k < 2 ^ (15 - (l - 1))
left-below l k some low below = subst (λ n. 2 * k < n) (sym (twice l some low)) (omega arith)

pub right-below : (l k : ℕ) → 0 < l → l ≤ 15 → k < 2 ^ (15 - l) → 2 * k + 1 < 2 ^ (15 - (l - 1))
right-below l k some low below = subst (λ n. 2 * k + 1 < n) (sym (twice l some low)) (omega arith)

pub half-width : (l w : ℕ) → 0 < l → w ≡ 2 ^ l → w / 2 ≡ 2 ^ (l - 1)
half-width l w some is =
    let up : l ≡ suc (l - 1) = omega arith in
    let doubled : w ≡ 2 ^ (l - 1) * 2 = is ∙ (ap (λ n. 2 ^ n) up ∙ pow-suc 2 (l - 1)) in
    omega arith

pub first-below : (l k w : ℕ) → l ≤ 15 → w ≡ 2 ^ l → k < 2 ^ (15 - l) → k * w < 2 ^ 15
first-below l k w low is below =
    let whole : 15 - l + l ≡ 15 = omega arith in
    subst (λ n. k * n < 2 ^ 15) (sym is) (subst (λ n. k * 2 ^ l < 2 ^ n) whole (shl_below k (15 - l) l below))

-- a node from the two below it
pub node-joined : AboveLaw → (digest : List ℕ → List ℕ) (input : List ℕ) (l n k : ℕ) (left right : List ℕ) → l ≡ suc n → left ≡ input_node digest input n (2 * k) → right ≡ input_node digest input n (2 * k + 1)
    → digest (node_text left right) ≡ input_node digest input l k
node-joined above digest input l n k left right up is_left is_right =
    ap (λ x. digest (node_text x right)) is_left ∙ (ap (λ x. digest (node_text (input_node digest input n (2 * k)) x)) is_right
    ∙ (sym (above digest (input_leaf input) n k) ∙ ap (λ i. input_node digest input i k) (sym up)))

-- a node over chunks that stand behind the input's end
pub node-cut : EmptyLaw → (digest : List ℕ → List ℕ) (input : List ℕ) (l w k : ℕ) → w ≡ 2 ^ l → length input ≤ 32 * (k * w)
    → empty_node digest (leaf_text (replicate 32 0)) l ≡ input_node digest input l k
node-cut empty digest input l w k is far = sym (empty digest (input_leaf input) (leaf_text (replicate 32 0)) l k (λ j at.
    let row : j / w ≡ k = ap (λ n. j / n) is ∙ at in
    let whole : k * w + j % w ≡ j = ap (λ q. q * w + j % w) (sym row) ∙ div-add-mod' j w in
    chunk-past input j (omega arith)))
