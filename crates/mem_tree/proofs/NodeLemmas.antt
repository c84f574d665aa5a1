-- The nodes of a tree that is kept are those of its memory.
use Rattle.std.proofs.Common.{◌≡◌, ℕ, zero, suc, ◌+◌, ◌*◌, ◌-◌, ◌/◌, ◌%◌, ◌^◌, ◌<◌, ◌≤◌, List, [], Option, Some, None, true≢false, refl, sym, ap, ◌∙◌, subst, arith, ⊎_elim, take}
use Rattle.std.proofs.Math.Nat.{pow-suc}
use Rattle.std.proofs.lemmas.Bool.{cases_eq, eq-eqb, ne_eqb}
use Rattle.std.proofs.lemmas.List.{get_or-take}
use Rattle.std.proofs.lemmas.Nat.{pow_below}
use Rattle.rd_base.specs.declared.digest.Digest32.{Digest32}
use Rattle.mem_plain.specs.Contents.{Contents, IsUsed}
use Rattle.digest_core.specs.Text.{node_text, leaf_text}
use Rattle.merkle_nodes.specs.Node.{node, beside, digest_at}
use Rattle.merkle_nodes.specs.Heap.{IsHeap}
use Rattle.merkle_nodes.specs.Opening.{IsPath}
use Rattle.mem_tree.specs.Memory.{memory_leaf, memory_node}
use Rattle.mem_tree.specs.Page.{AreEmpty, IsMadeTree, IsPageOf, heap_node, leaf_of, place_of}
use Rattle.mem_tree.specs.Tree.{Kept, AllMade, IsJoinedBut, page_at, page_node, upper_node}
use Rattle.mem_tree.specs.declared.kept.PageTree.{PageTree}
use Rattle.mem_tree.proofs.MemoryLemmas.{SameLaw, EmptyLaw, memory_leaf-is, node-unused}
use Rattle.mem_tree.proofs.PageLemmas.{page_chunk-is}

abbrev pub HeapLaw : Type 0
HeapLaw = (digest : List ℕ → List ℕ) (nodes : List Digest32) (leaf : ℕ → List ℕ) (n : ℕ) → IsHeap digest nodes n leaf →
    (l m k : ℕ) → m + l ≡ n → k < 2 ^ m → digest_at nodes (2 ^ m + k) ≡ node digest leaf l k

node-suc : (digest : List ℕ → List ℕ) (leaf : ℕ → List ℕ) (l k : ℕ) → node digest leaf (suc l) k ≡ digest (node_text (node digest leaf l (2 * k)) (node digest leaf l (2 * k + 1)))
unfolding node
node-suc digest leaf l k = refl

-- a subtree is the tree over its own leaves
node-shift : (digest : List ℕ → List ℕ) (leaf : ℕ → List ℕ) (l a q : ℕ) → node digest (λ j. leaf (2 ^ l * a + j)) l q ≡ node digest leaf l (a + q)
unfolding node
node-shift digest leaf zero a q = let at : 2 ^ 0 * a + q ≡ a + q = omega arith in ap (λ j. digest (leaf j)) at
node-shift digest leaf (suc l) a q =
    let up = pow-suc 2 l in
    let wide : 2 ^ suc l * a ≡ 2 ^ l * (2 * a) = ap (λ w. w * a) up ∙ turn (2 ^ l) a in
    let left : 2 * a + 2 * q ≡ 2 * (a + q) = omega arith in
    let right : 2 * a + (2 * q + 1) ≡ 2 * (a + q) + 1 = omega arith in
    ap (λ c. digest (node_text (node digest (λ j. leaf (c + j)) l (2 * q)) (node digest (λ j. leaf (c + j)) l (2 * q + 1)))) wide
    ∙ (ap (λ x. digest (node_text x (node digest (λ j. leaf (2 ^ l * (2 * a) + j)) l (2 * q + 1)))) (node-shift digest leaf l (2 * a) (2 * q) ∙ ap (node digest leaf l) left)
    ∙ ap (λ y. digest (node_text (node digest leaf l (2 * (a + q))) y)) (node-shift digest leaf l (2 * a) (2 * q + 1) ∙ ap (node digest leaf l) right))
  where
    turn : (w a : ℕ) → w * 2 * a ≡ w * (2 * a)
    turn w a = omega arith

-- the leaves of a page
abbrev AtLevel : (ℕ → ℕ → Type 0) → ℕ → Type 0
AtLevel P l = P (2 ^ l) (2 ^ (7 - l))

by-level : (P : ℕ → ℕ → Type 0) → P 1 128 → P 2 64 → P 4 32 → P 8 16 → P 16 8 → P 32 4 → P 64 2 → P 128 1 → (l : ℕ) → l ≤ 7 → AtLevel P l
by-level P a b c d e f g h zero low = a
by-level P a b c d e f g h (suc zero) low = b
by-level P a b c d e f g h (suc (suc zero)) low = c
by-level P a b c d e f g h (suc (suc (suc zero))) low = d
by-level P a b c d e f g h (suc (suc (suc (suc zero)))) low = e
by-level P a b c d e f g h (suc (suc (suc (suc (suc zero))))) low = f
by-level P a b c d e f g h (suc (suc (suc (suc (suc (suc zero)))))) low = g
by-level P a b c d e f g h (suc (suc (suc (suc (suc (suc (suc zero))))))) low = h
by-level P a b c d e f g h (suc (suc (suc (suc (suc (suc (suc (suc l)))))))) low = absurd (omega arith)

page-leaves : (p l : ℕ) → l ≤ 7 → 2 ^ l * (2 ^ (7 - l) * p) ≡ 128 * p
page-leaves p = by-level (λ w v. w * (v * p) ≡ 128 * p) (omega arith) (omega arith) (omega arith) (omega arith) (omega arith) (omega arith) (omega arith) (omega arith)

leaf-low : (j q l : ℕ) → l ≤ 7 → j / 2 ^ l ≡ q → q < 2 ^ (7 - l) → j < 128
leaf-low j q = by-level (λ w v. j / w ≡ q → q < v → j < 128) (λ a b. omega arith) (λ a b. omega arith) (λ a b. omega arith) (λ a b. omega arith) (λ a b. omega arith) (λ a b. omega arith) (λ a b. omega arith) (λ a b. omega arith)

leaf-page : (j p q l : ℕ) → l ≤ 7 → q < 2 ^ (7 - l) → j / 2 ^ l ≡ 2 ^ (7 - l) * p + q → j / 128 ≡ p
leaf-page j p q = by-level (λ w v. q < v → j / w ≡ v * p + q → j / 128 ≡ p) (λ a b. omega arith) (λ a b. omega arith) (λ a b. omega arith) (λ a b. omega arith) (λ a b. omega arith) (λ a b. omega arith) (λ a b. omega arith) (λ a b. omega arith)

place-in : (k l : ℕ) → l ≤ 7 → k % 2 ^ (7 - l) < 2 ^ (7 - l)
place-in k = by-level (λ w v. k % v < v) (omega arith) (omega arith) (omega arith) (omega arith) (omega arith) (omega arith) (omega arith) (omega arith)

place-of : (k p l : ℕ) → l ≤ 7 → k / 2 ^ (7 - l) ≡ p → 2 ^ (7 - l) * p + k % 2 ^ (7 - l) ≡ k
place-of k p = by-level (λ w v. k / v ≡ p → v * p + k % v ≡ k) (λ a. omega arith) (λ a. omega arith) (λ a. omega arith) (λ a. omega arith) (λ a. omega arith) (λ a. omega arith) (λ a. omega arith) (λ a. omega arith)

module _ (heaps : HeapLaw) (same : SameLaw) (unused : EmptyLaw) (digest : List ℕ → List ℕ) (empties : List Digest32) (empty : AreEmpty digest empties) (m : Contents) (page : ℕ) where
  node-in : (o : Option PageTree) → IsMadeTree digest o → IsPageOf o m page → (l q : ℕ) → l ≤ 7 → q < 2 ^ (7 - l)
      → heap_node o (2 ^ (7 - l) + q) (digest_at empties l) ≡ memory_node digest m l (2 ^ (7 - l) * page + q)
  node-in (Some tree) made is l q low below =
      let whole : 7 - l + l ≡ 7 = omega arith in
      let leaves = page-leaves page l low in
      heaps digest tree.nodes.items (leaf_of tree.chunks.items) 7 made.heap l (7 - l) q whole below
      ∙ (same digest (leaf_of tree.chunks.items) (λ j. memory_leaf m (2 ^ l * (2 ^ (7 - l) * page) + j)) l q
      (λ j under. ap leaf_text (is.chunks j (leaf-low j q l low under below) ∙ page_chunk-is m page j) ∙ (sym (memory_leaf-is m (128 * page + j)) ∙ ap (λ a. memory_leaf m (a + j)) (sym leaves)))
      ∙ node-shift digest (memory_leaf m) l (2 ^ (7 - l) * page) q)
  node-in None made is l q low below =
      empty l (omega arith) ∙ sym (node-unused unused digest m l (2 ^ (7 - l) * page + q) (λ j under used.
      let used' : IsUsed m page = subst (IsUsed m) (leaf-page j page q l low below under) used in absurd (true≢false (sym (is.used.1 used')))))

  pub page-inside : (o : Option PageTree) → IsMadeTree digest o → IsPageOf o m page → (l k : ℕ) → l < 7 → k / 2 ^ (7 - l) ≡ page → heap_node o (place_of l k) (digest_at empties l) ≡ memory_node digest m l k
  page-inside o made is l k low at =
      node-in o made is l (k % 2 ^ (7 - l)) (omega arith) (place-in k l (omega arith)) ∙ ap (memory_node digest m l) (place-of k page l (omega arith) at)

  pub page-root : (o : Option PageTree) → IsMadeTree digest o → IsPageOf o m page → heap_node o 1 (digest_at empties 7) ≡ memory_node digest m 7 page
  page-root o made is = node-in o made is 7 0 (omega arith) (omega arith) ∙ ap (memory_node digest m 7) (one page)
    where
      one : (p : ℕ) → 1 * p + 0 ≡ p
      one p = omega arith

-- the nodes from the pages' roots up
module _ (heaps : HeapLaw) (same : SameLaw) (unused : EmptyLaw) (digest : List ℕ → List ℕ) (t : Kept) (empty : AreEmpty digest t.empties) (made : AllMade digest t) (m : Contents)
    (pages : (p : ℕ) → IsPageOf (page_at t p) m p) where
  pub node-inside : (l k : ℕ) → l < 7 → page_node t l k ≡ memory_node digest m l k
  node-inside l k low = page-inside heaps same unused digest t.empties empty m (k / 2 ^ (7 - l)) (page_at t (k / 2 ^ (7 - l))) (made (k / 2 ^ (7 - l))) (pages (k / 2 ^ (7 - l))) l k low refl

  pub node-over : IsJoinedBut digest t [] → (n k : ℕ) → n ≤ 20 → upper_node t n k ≡ memory_node digest m (7 + n) k
  node-over joined zero k low = (joined.roots k refl).digest_is (digest_at t.empties 7) ∙ page-root heaps same unused digest t.empties empty m k (page_at t k) (made k) (pages k)
  node-over joined (suc n) k low =
      let one : suc n ≡ n + 1 = omega arith in
      let up : suc (7 + n) ≡ 7 + suc n = omega arith in
      ap (λ i. upper_node t i k) one ∙ ((joined.above n k (omega arith) (λ p at. refl)).digest_is
      ∙ (ap (λ x. digest (node_text x (upper_node t n (2 * k + 1)))) (node-over joined n (2 * k) (omega arith))
      ∙ (ap (λ y. digest (node_text (memory_node digest m (7 + n) (2 * k)) y)) (node-over joined n (2 * k + 1) (omega arith))
      ∙ (sym (node-suc digest (memory_leaf m) (7 + n) k) ∙ ap (λ i. memory_node digest m i k) up))))

-- THE PATH OF A CHUNK WITHIN ITS PAGE

beside-is : (k : ℕ) → beside k ≡ 2 * (k / 2) + (1 - k % 2)
beside-is k = ⊎_elim
    (λ even. rw (eq-eqb (k % 2) 0 even) (omega arith))
    (λ odd. rw (ne_eqb (k % 2) 0 odd) (omega arith))
    (cases_eq (k % 2) 0)

-- the place beside a chunk's way is in the chunk's page, and there beside the way of the chunk's place
abbrev IsBesideIn : ℕ → ℕ → ℕ → Type 0
IsBesideIn c w v = w < 128 → (beside (c / w) / v ≡ c / 128) × (beside (c / w) % v ≡ beside (c % 128 / w))

is-beside : (c l : ℕ) → l ≤ 7 → AtLevel (IsBesideIn c) l
is-beside c = by-level (IsBesideIn c)
    (let a = beside-is (c / 1) in let b = beside-is (c % 128 / 1) in λ low. (omega arith, omega arith))
    (let a = beside-is (c / 2) in let b = beside-is (c % 128 / 2) in λ low. (omega arith, omega arith))
    (let a = beside-is (c / 4) in let b = beside-is (c % 128 / 4) in λ low. (omega arith, omega arith))
    (let a = beside-is (c / 8) in let b = beside-is (c % 128 / 8) in λ low. (omega arith, omega arith))
    (let a = beside-is (c / 16) in let b = beside-is (c % 128 / 16) in λ low. (omega arith, omega arith))
    (let a = beside-is (c / 32) in let b = beside-is (c % 128 / 32) in λ low. (omega arith, omega arith))
    (let a = beside-is (c / 64) in let b = beside-is (c % 128 / 64) in λ low. (omega arith, omega arith))
    (λ low. absurd (omega arith))

module _ (t : Kept) (c : ℕ) (siblings : List Digest32) where
  pub path-inside : HeapLaw → (digest : List ℕ → List ℕ) (tree : PageTree) → page_at t (c / 128) ≡ Some tree → IsHeap digest tree.nodes.items 7 (leaf_of tree.chunks.items)
      → IsPath digest (leaf_of tree.chunks.items) 7 (c % 128) siblings → (l : ℕ) → l < 7 → digest_at siblings l ≡ page_node t l (beside (c / 2 ^ l))
  path-inside heaps digest tree is heap path l low =
      let k = beside (c / 2 ^ l) in
      let at = is-beside c l (omega arith) (pow_below l 7 low) in
      let whole : 7 - l + l ≡ 7 = omega arith in
      let below = subst (λ q. q < 2 ^ (7 - l)) at.1 (place-in k l (omega arith)) in
      path l low
      ∙ (sym (heaps digest tree.nodes.items (leaf_of tree.chunks.items) 7 heap l (7 - l) (beside (c % 128 / 2 ^ l)) whole below)
      ∙ (ap (λ q. digest_at tree.nodes.items (2 ^ (7 - l) + q)) (sym at.1)
      ∙ ap (λ o. heap_node o (place_of l k) (digest_at t.empties l)) (sym (ap (page_at t) at.0 ∙ is))))

  pub path-of-none : page_at t (c / 128) ≡ None → siblings ≡ take 7 t.empties → (l : ℕ) → l < 7 → digest_at siblings l ≡ page_node t l (beside (c / 2 ^ l))
  path-of-none is empties l low =
      let k = beside (c / 2 ^ l) in
      let at = is-beside c l (omega arith) (pow_below l 7 low) in
      ap (λ ds. digest_at ds l) empties
      ∙ (ap (λ (d : Digest32). d.0) (get_or-take 7 t.empties l (record { 0 = [] }) low)
      ∙ ap (λ o. heap_node o (place_of l k) (digest_at t.empties l)) (sym (ap (page_at t) at.0 ∙ is)))
