-- A heap has the nodes of the tree over its leaves.
use Rattle.std.proofs.Common.{◌≡◌, ◌≢◌, ℕ, zero, suc, ◌+◌, ◌*◌, ◌-◌, ◌^◌, ◌<◌, ◌≤◌, List, [], length, set, Bool, true, false, sym, ap, ◌∙◌, subst, arith, ⊎_elim, get_or-set_same, get_or-set_other}
use Rattle.std.proofs.Math.Nat.{pow-suc}
use Rattle.std.proofs.lemmas.Bool.{cases_eq, cases_lt}
use Rattle.std.proofs.lemmas.Nat.{pow_below, pow_pos}
use Rattle.rd_base.specs.declared.digest.Digest32.{Digest32}
use Rattle.digest_core.specs.Text.{node_text}
use Rattle.merkle_nodes.specs.Node.{node, empty_node, digest_at}
use Rattle.merkle_nodes.specs.Heap.{IsHeap, IsJoinedAt, is_marked}
use Rattle.merkle_nodes.proofs.NodeLemmas.{node-zero, node-suc}

-- a lower level is at most half as wide
pub pow-up : (m n : ℕ) → suc m ≤ n → 2 * 2 ^ m ≤ 2 ^ n
pow-up m n low = ⊎_elim
    (λ same. let e : 2 ^ suc m ≡ 2 ^ n = ap (λ i. 2 ^ i) same in let up = pow-suc 2 m in omega arith)
    (λ apart. let below = pow_below (suc m) n (omega arith) in let up = pow-suc 2 m in omega arith)
    (cases_eq (suc m) n)

module _ (digest : List ℕ → List ℕ) (nodes : List Digest32) (n : ℕ) (leaf : ℕ → List ℕ) (heap : IsHeap digest nodes n leaf) where
  -- node k of level l stands at 2 ^ m + k, where m levels are above it
  pub heap-node : (l m k : ℕ) → m + l ≡ n → k < 2 ^ m → digest_at nodes (2 ^ m + k) ≡ node digest leaf l k
  heap-node zero m k whole low =
      let same : m ≡ n = omega arith in
      let width : 2 ^ m ≡ 2 ^ n = ap (λ i. 2 ^ i) same in
      ap (λ w. digest_at nodes (w + k)) width ∙ (heap.leaves k (omega arith) ∙ sym (node-zero digest leaf k))
  heap-node (suc l) m k whole low =
      let up = pow-suc 2 m in
      let fits = pow-up m n (omega arith) in
      let some = pow_pos m in
      let left : 2 * (2 ^ m + k) ≡ 2 ^ suc m + 2 * k = omega arith in
      let right : 2 * (2 ^ m + k) + 1 ≡ 2 ^ suc m + (2 * k + 1) = omega arith in
      heap.joined (2 ^ m + k) (omega arith) (omega arith)
      ∙ (ap (λ x. digest (node_text x (digest_at nodes (2 * (2 ^ m + k) + 1)))) (ap (digest_at nodes) left ∙ heap-node l (suc m) (2 * k) (omega arith) (omega arith))
      ∙ (ap (λ y. digest (node_text (node digest leaf l (2 * k)) y)) (ap (digest_at nodes) right ∙ heap-node l (suc m) (2 * k + 1) (omega arith) (omega arith))
      ∙ sym (node-suc digest leaf l k)))

-- one place of a heap is written
module _ (nodes : List Digest32) (place : ℕ) (x : Digest32) where
  pub place-here : place < length nodes → digest_at (set nodes place x) place ≡ x.0
  place-here fits = ap (λ (d : Digest32). d.0) (get_or-set_same nodes place x (record { 0 = [] }) fits)

  pub place-elsewhere : (i : ℕ) → i ≢ place → digest_at (set nodes place x) i ≡ digest_at nodes i
  place-elsewhere i apart = ap (λ (d : Digest32). d.0) (get_or-set_other nodes place i x (record { 0 = [] }) apart)

-- and one place is marked
module _ (marks : List Bool) (place : ℕ) where
  pub mark-here : place < length marks → is_marked (set marks place true) place ≡ true
  mark-here fits = get_or-set_same marks place true false fits

  pub mark-elsewhere : (i : ℕ) → i ≢ place → is_marked (set marks place true) i ≡ is_marked marks i
  mark-elsewhere i apart = get_or-set_other marks place i true false apart

-- a node whose children aren't written stays joined
pub joined-kept : (digest : List ℕ → List ℕ) (nodes : List Digest32) (place : ℕ) (x : Digest32) (i : ℕ) → i ≢ place → 2 * i ≢ place → 2 * i + 1 ≢ place
    → IsJoinedAt digest nodes i → IsJoinedAt digest (set nodes place x) i
joined-kept digest nodes place x i here left right joined =
    place-elsewhere nodes place x i here ∙ (joined
    ∙ (ap (λ a. digest (node_text a (digest_at nodes (2 * i + 1)))) (sym (place-elsewhere nodes place x (2 * i) left))
    ∙ ap (λ b. digest (node_text (digest_at (set nodes place x) (2 * i)) b)) (sym (place-elsewhere nodes place x (2 * i + 1) right))))

-- the levels of a heap are one behind the other
pub same-level : (i m r : ℕ) → 2 ^ m ≤ i → i < 2 ^ (m + 1) → 2 ^ r ≤ i → i < 2 ^ (r + 1) → m ≡ r
same-level i m r low high from to = ⊎_elim
    (λ less. absurd (let fits = up-to (m + 1) r (omega arith) in omega arith))
    (λ more. ⊎_elim (λ same. same) (λ apart. absurd (let fits = up-to (r + 1) m (omega arith) in omega arith)) (cases_eq m r))
    (cases_lt m r)
  where
    up-to : (a b : ℕ) → a ≤ b → 2 ^ a ≤ 2 ^ b
    up-to a b le = ⊎_elim (λ same. let e : 2 ^ a ≡ 2 ^ b = ap (λ i. 2 ^ i) same in omega arith) (λ apart. let below = pow_below a b (omega arith) in omega arith) (cases_eq a b)

-- each place stands in one of them
pub level-of : (n i : ℕ) → 1 ≤ i → i < 2 ^ n → (m : ℕ) × (m < n) × (2 ^ m ≤ i) × (i < 2 ^ (m + 1))
level-of zero i some low = absurd (omega arith)
level-of (suc n) i some low = ⊎_elim
    (λ below. let rest = level-of n i some below in (rest.0, omega (arith, rest.1), rest.2, rest.3))
    (λ above. let one : suc n ≡ n + 1 = omega arith in (n, omega arith, omega arith, subst (λ k. i < 2 ^ k) one low))
    (cases_lt i (2 ^ n))

-- the nodes of a heap over equal leaves
pub empty-heap : (digest : List ℕ → List ℕ) (text : List ℕ) (nodes : List Digest32) (n : ℕ) → length nodes ≡ 2 ^ (n + 1)
    → ((i m : ℕ) → m ≤ n → 2 ^ m ≤ i → i < 2 ^ (m + 1) → digest_at nodes i ≡ empty_node digest text (n - m)) → IsHeap digest nodes n (λ _. text)
unfolding empty_node
empty-heap digest text nodes n len at = record {
  whole = len;
  leaves = λ k low.
      let one : n + 1 ≡ suc n = omega arith in
      let up = ap (λ i. 2 ^ i) one ∙ pow-suc 2 n in
      let lowest : n - n ≡ 0 = omega arith in
      at (2 ^ n + k) n (omega arith) (omega arith) (omega arith) ∙ ap (empty_node digest text) lowest;
  joined = λ i some low.
      let found = level-of n i some low in
      let m = found.0 in
      let down : n - m ≡ suc (n - (m + 1)) = omega (arith, found.1) in
      let one : m + 1 ≡ suc m = omega arith in
      let two : m + 1 + 1 ≡ suc (m + 1) = omega arith in
      let wide = ap (λ i. 2 ^ i) one ∙ pow-suc 2 m in
      let wider = ap (λ i. 2 ^ i) two ∙ pow-suc 2 (m + 1) in
      let left = at (2 * i) (m + 1) (omega (arith, found.1)) (omega (arith, found.2)) (omega (arith, found.3)) in
      let right = at (2 * i + 1) (m + 1) (omega (arith, found.1)) (omega (arith, found.2)) (omega (arith, found.3)) in
      at i m (omega (arith, found.1)) found.2 found.3 ∙ (ap (empty_node digest text) down
      ∙ (ap (λ x. digest (node_text x (empty_node digest text (n - (m + 1))))) (sym left) ∙ ap (λ y. digest (node_text (digest_at nodes (2 * i)) y)) (sym right)));
}

-- the level of a place in a heap of n levels
pub level-below : (i r n : ℕ) → 2 ^ r ≤ i → i < 2 ^ (n + 1) → r ≤ n
level-below i r n low below = ⊎_elim
    (λ more. absurd (let up = pow-up n r (omega arith) in let next : n + 1 ≡ suc n = omega arith in let wide = ap (λ i. 2 ^ i) next ∙ pow-suc 2 n in omega arith))
    (λ less. omega arith)
    (cases_lt n r)

pub level-end : (n m i : ℕ) → m ≤ n → i < 2 ^ (m + 1) → i < 2 ^ (n + 1)
level-end n m i low below = ⊎_elim
    (λ same. subst (λ k. i < 2 ^ (k + 1)) same below)
    (λ apart. let more = pow_below (m + 1) (n + 1) (omega arith) in omega arith)
    (cases_eq m n)
