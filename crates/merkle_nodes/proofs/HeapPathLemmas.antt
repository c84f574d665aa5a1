-- The places of a path in a heap, level by level.
use Rattle.std.proofs.Common.{◌≡◌, ℕ, suc, ◌+◌, ◌*◌, ◌-◌, ◌/◌, ◌%◌, ◌^◌, ◌<◌, ◌≤◌, List, length, set, sym, ap, ◌∙◌, subst, arith, ⊎_elim, add-one}
use Rattle.std.proofs.Math.Nat.{pow-suc, div-div-eq-div-mul}
use Rattle.std.proofs.lemmas.Bool.{cases_eq, eq-eqb, ne_eqb}
use Rattle.std.proofs.lemmas.Nat.{pow_below}
use Rattle.rd_base.specs.declared.digest.Digest32.{Digest32}
use Rattle.merkle_nodes.specs.Node.{node, beside, digest_at}
use Rattle.merkle_nodes.specs.Heap.{IsHeap}
use Rattle.merkle_nodes.specs.Opening.{IsPath}
use Rattle.merkle_nodes.proofs.HeapLemmas.{heap-node, place-here, place-elsewhere}

-- a level has twice as many places as the one above it
pub level-width : (n level width : ℕ) → level < n → width ≡ 2 ^ (n - level) → width ≡ 2 * 2 ^ (n - (level + 1))
level-width n level width low is =
    let up : n - level ≡ suc (n - (level + 1)) = omega arith in
    let doubled : 2 ^ (n - level) ≡ 2 ^ (n - (level + 1)) * 2 = ap (λ i. 2 ^ i) up ∙ pow-suc 2 (n - (level + 1)) in
    omega arith

pub level-low : (n level : ℕ) → level ≤ n → 2 ^ (n - level) ≤ 2 ^ n
level-low n level low = ⊎_elim
    (λ lowest. let same : n - level ≡ n = omega arith in let e : 2 ^ (n - level) ≡ 2 ^ n = ap (λ i. 2 ^ i) same in omega arith)
    (λ above. let less = pow_below (n - level) n (omega arith) in omega arith)
    (cases_eq level 0)

pub beside-below : (w k : ℕ) → k < 2 * w → beside k < 2 * w
beside-below w k low = ⊎_elim
    (λ even. rw (eq-eqb (k % 2) 0 even) (omega arith))
    (λ odd. rw (ne_eqb (k % 2) 0 odd) (omega arith))
    (cases_eq (k % 2) 0)

-- the place beside another stands in the heap
pub beside-within : (n level width k places : ℕ) → level < n → width ≡ 2 ^ (n - level) → k < width → places ≡ 2 ^ (n + 1) → width + beside k < places
beside-within n level width k places low is below whole =
    let half = level-width n level width low is in
    let other = beside-below (2 ^ (n - (level + 1))) k (omega arith) in
    let wide = level-low n level (omega arith) in
    let all : 2 ^ (n + 1) ≡ 2 ^ n * 2 = rw add-one (pow-suc 2 n) in
    omega arith

pub next-place : (k l p : ℕ) → p ≡ k / 2 ^ l → p / 2 ≡ k / 2 ^ (l + 1)
next-place k l p at = ap (λ i. i / 2) at ∙ rw add-one (div-div-eq-div-mul k (2 ^ l) 2 ∙ ap (λ n. k / n) (sym (pow-suc 2 l)))

-- one place more of a list whose places are a function's
pub places-set : (f : ℕ → List ℕ) (nodes : List Digest32) (n : ℕ) (x : Digest32) → n < length nodes → x.0 ≡ f n
    → ((i : ℕ) → i < n → digest_at nodes i ≡ f i) → (i : ℕ) → i < n + 1 → digest_at (set nodes n x) i ≡ f i
places-set f nodes n x fits is before i lt = ⊎_elim
    (λ same. ap (digest_at (set nodes n x)) same ∙ (place-here nodes n x fits ∙ (is ∙ ap f (sym same))))
    (λ apart. place-elsewhere nodes n x i apart ∙ before i (omega arith))
    (cases_eq i n)

-- one sibling more
pub path-next : (digest : List ℕ → List ℕ) (nodes : List Digest32) (leaf : ℕ → List ℕ) (n level width k index : ℕ) (siblings : List Digest32) (x : Digest32)
    → IsHeap digest nodes n leaf → level < n → level < length siblings → width ≡ 2 ^ (n - level) → k ≡ index / 2 ^ level → k < width → x.0 ≡ digest_at nodes (width + beside k)
    → IsPath digest leaf level index siblings → IsPath digest leaf (level + 1) index (set siblings level x)
path-next digest nodes leaf n level width k index siblings x heap low fits is at below given path =
    let half = level-width n level width low is in
    places-set (λ l. node digest leaf l (beside (index / 2 ^ l))) siblings level x fits
    (given ∙ (ap (λ w. digest_at nodes (w + beside k)) is ∙ (heap-node digest nodes n leaf heap level (n - level) (beside k) (omega arith) (subst (λ w. beside k < w) (sym half ∙ is) (beside-below (2 ^ (n - (level + 1))) k (omega arith)))
    ∙ ap (λ p. node digest leaf level (beside p)) at))) path
