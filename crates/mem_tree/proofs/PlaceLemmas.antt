-- Places of heaps and of their marks, and what stands at them after one is written.
use Rattle.std.proofs.Common.{◌≡◌, ◌≢◌, ℕ, zero, suc, ◌<◌, List, [], ◌∷◌, ◌++◌, Bool, true, false, length, set, replicate, take, drop, refl, ap, arith, get_or-set_same, get_or-set_other}
use Rattle.rd_base.specs.declared.digest.Digest32.{Digest32}
use Rattle.merkle_nodes.specs.Node.{digest_at}
use Rattle.merkle_nodes.specs.Heap.{is_marked}

-- one place of a heap is written
module _ (nodes : List Digest32) (place : ℕ) (x : Digest32) where
  pub place-here : place < length nodes → digest_at (set nodes place x) place ≡ x.0
  place-here fits = ap (λ (d : Digest32). d.0) (get_or-set_same nodes place x (record { 0 = [] }) fits)

  pub place-elsewhere : (i : ℕ) → i ≢ place → digest_at (set nodes place x) i ≡ digest_at nodes i
  place-elsewhere i apart = ap (λ (d : Digest32). d.0) (get_or-set_other nodes place i x (record { 0 = [] }) apart)

-- a mark of a list
module _ (marks : List Bool) (place : ℕ) where
  pub mark-here : place < length marks → is_marked (set marks place true) place ≡ true
  mark-here fits = get_or-set_same marks place true false fits

  pub mark-elsewhere : (i : ℕ) → i ≢ place → is_marked (set marks place true) i ≡ is_marked marks i
  mark-elsewhere i apart = get_or-set_other marks place i true false apart

-- marks of which none is set
pub none-marked : (n i : ℕ) → is_marked (replicate n false) i ≡ false
none-marked zero zero = refl
none-marked zero (suc i) = refl
none-marked (suc n) zero = refl
none-marked (suc n) (suc i) = none-marked n i

-- a slice that was written whole
pub written-whole : {A : Type 0} (n : ℕ) (xs ys : List A) → length xs ≡ n → length ys ≡ n → take n (xs ++ drop (length xs) ys) ≡ xs
written-whole {A} n [] [] left right = let e : n ≡ 0 = omega arith in ap (λ i. take {A = A} i []) e
written-whole n [] (y ∷ ys) left right = absurd (omega arith)
written-whole n (x ∷ xs) [] left right = absurd (omega arith)
written-whole zero (x ∷ xs) (y ∷ ys) left right = absurd (omega arith)
written-whole (suc n) (x ∷ xs) (y ∷ ys) left right = ap (λ l. x ∷ l) (written-whole n xs ys (omega arith) (omega arith))
