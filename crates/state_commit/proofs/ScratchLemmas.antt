-- Nodes from scratch: places one level down, widths in pages, and subtrees of zeros.
use Rattle.std.proofs.Common.{◌≡◌, ℕ, zero, suc, ◌+◌, ◌*◌, ◌-◌, ◌/◌, ◌%◌, ◌^◌, ◌<◌, ◌≤◌, List, Option, Some, None, is_some, false, true≢false, sym, ap, ◌∙◌, subst, arith, ⊎_elim}
use Rattle.std.proofs.lemmas.Bool.{cases_lt}
use Rattle.std.proofs.Math.Nat.{div-one, div-div-eq-div-mul, pow-suc}
use Rattle.std.proofs.lemmas.Nat.{div-add-mod', mod_below, shl_below, pow_below}
use Rattle.mem_plain.specs.Contents.{Contents, IsUsed, IsNextUsedBelow}
use Rattle.digest_core.specs.Text.{node_text}
use Rattle.merkle_nodes.specs.Node.{node}
use Rattle.mem_tree.specs.Memory.{memory_node, memory_leaf, zero_node}

-- the laws of nodes, as `merkle_nodes` and `mem_tree` state them
abbrev pub AboveLaw : Type 0
AboveLaw = (digest : List ℕ → List ℕ) (leaf : ℕ → List ℕ) (l k : ℕ) → node digest leaf (suc l) k ≡ digest (node_text (node digest leaf l (2 * k)) (node digest leaf l (2 * k + 1)))

abbrev pub EmptyLaw : Type 0
EmptyLaw = (digest : List ℕ → List ℕ) (m : Contents) (l k : ℕ) → ((j : ℕ) → j / 2 ^ l ≡ k → ¬ IsUsed m (j / 128)) → memory_node digest m l k ≡ zero_node digest l

-- twice as many places stand one level down
twice : (top l : ℕ) → 0 < l → l ≤ top → 2 ^ (top - (l - 1)) ≡ 2 ^ (top - l) * 2
twice top l some low = let up : top - (l - 1) ≡ suc (top - l) = omega arith in ap (λ n. 2 ^ n) up ∙ pow-suc 2 (top - l)

pub left-below : (top l k : ℕ) → 0 < l → l ≤ top → k < 2 ^ (top - l) → 2 * k < 2 ^ (top - (l - 1))
left-below top l k some low below = subst (λ n. 2 * k < n) (sym (twice top l some low)) (omega arith)

pub right-below : (top l k : ℕ) → 0 < l → l ≤ top → k < 2 ^ (top - l) → 2 * k + 1 < 2 ^ (top - (l - 1))
right-below top l k some low below = subst (λ n. 2 * k + 1 < n) (sym (twice top l some low)) (omega arith)

pub half-width : (l w : ℕ) → 0 < l → w ≡ 2 ^ l → w / 2 ≡ 2 ^ (l - 1)
half-width l w some is =
    let up : l ≡ suc (l - 1) = omega arith in
    let doubled : w ≡ 2 ^ (l - 1) * 2 = is ∙ (ap (λ n. 2 ^ n) up ∙ pow-suc 2 (l - 1)) in
    omega arith

pub first-below : (l k w : ℕ) → l ≤ 20 → w ≡ 2 ^ l → k < 2 ^ (20 - l) → k * w < 2 ^ 20
first-below l k w low is below =
    let whole : 20 - l + l ≡ 20 = omega arith in
    subst (λ n. k * n < 2 ^ 20) (sym is) (subst (λ n. k * 2 ^ l < 2 ^ n) whole (shl_below k (20 - l) l below))

pub width-below : (l w : ℕ) → l ≤ 20 → w ≡ 2 ^ l → w ≤ 2 ^ 20
width-below l w low is = ⊎_elim
    (λ less. let more = pow_below l 20 less in omega arith)
    (λ same. let e : l ≡ 20 = omega arith in let f : w ≡ 2 ^ 20 = is ∙ ap (λ n. 2 ^ n) e in omega arith)
    (cases_lt l 20)

width-some : (l w : ℕ) → w ≡ 2 ^ l → 0 < w
width-some l w is = subst (λ n. 0 < n) (sym is) (positive l)
  where
    positive : (l : ℕ) → 0 < 2 ^ l
    positive zero = omega arith
    positive (suc l) = let doubled = pow-suc 2 l in let low = positive l in omega arith

-- a node from the two below it
pub node-joined : AboveLaw → (digest : List ℕ → List ℕ) (m : Contents) (l n k : ℕ) (left right : List ℕ) → l ≡ suc n → left ≡ memory_node digest m n (2 * k) → right ≡ memory_node digest m n (2 * k + 1)
    → digest (node_text left right) ≡ memory_node digest m l k
node-joined above digest m l n k left right up is_left is_right =
    ap (λ x. digest (node_text x right)) is_left ∙ (ap (λ x. digest (node_text (memory_node digest m n (2 * k)) x)) is_right
    ∙ (sym (above digest (memory_leaf m) n k) ∙ ap (λ i. memory_node digest m i k) (sym up)))

-- the page of a chunk, so many levels up
page-above : (n j : ℕ) → j / 128 / 2 ^ n ≡ j / 2 ^ (7 + n)
page-above zero j = div-one (j / 128)
page-above (suc n) j =
    let up : suc (7 + n) ≡ 7 + suc n = omega arith in
    halved (j / 128) n ∙ (ap (λ x. x / 2) (page-above n j) ∙ (sym (halved j (7 + n)) ∙ ap (λ i. j / 2 ^ i) up))
  where
    halved : (k l : ℕ) → k / 2 ^ suc l ≡ k / 2 ^ l / 2
    halved k l = ap (λ n. k / n) (pow-suc 2 l) ∙ sym (div-div-eq-div-mul k (2 ^ l) 2)

-- a node over pages of which none is used
pub node-cut : EmptyLaw → (digest : List ℕ → List ℕ) (m : Contents) (l w k : ℕ) → w ≡ 2 ^ l → ((p : ℕ) → k * w ≤ p → p < k * w + w → ¬ IsUsed m p)
    → zero_node digest (7 + l) ≡ memory_node digest m (7 + l) k
node-cut empty digest m l w k is unused = sym (empty digest m (7 + l) k (λ j at.
    let p = j / 128 in
    let row : p / w ≡ k = ap (λ n. p / n) is ∙ (page-above l j ∙ at) in
    let whole : k * w + p % w ≡ p = ap (λ q. q * w + p % w) (sym row) ∙ div-add-mod' p w in
    let small = mod_below p w (width-some l w is) in
    unused p (omega arith) (omega arith)))

-- where no page of a range comes next, none of them is used
pub none-used : (m : Contents) (from end : ℕ) (o : Option ℕ) → is_some o ≡ false → IsNextUsedBelow m from end o → (p : ℕ) → from ≤ p → p < end → ¬ IsUsed m p
none-used m from end (Some page) none next = absurd (true≢false none)
none-used m from end None none next = next
