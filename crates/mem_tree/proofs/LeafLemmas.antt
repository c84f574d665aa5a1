-- The leaves of register files and inputs.
use Rattle.std.proofs.Common.{◌≡◌, ℕ, zero, suc, ◌+◌, ◌*◌, ◌<◌, ◌≤◌, List, [], ◌∷◌, length, map, replicate, slice_index, get_or, refl, sym, ap, ◌∙◌, arith, ⊎_elim, not, false, eqb, true≢false}
use Rattle.std.specs.List.{range_with_len}
use Rattle.std.proofs.lemmas.Bool.{ne_eqb, cases_eq}
use Rattle.std.proofs.lemmas.List.FromFn.{get_or-map-range_with_len, length-map-range_with_len, fill_by_all}
use Rattle.rd_base.specs.declared.digest.Digest32.{Digest32}
use Rattle.digest_core.specs.Text.{register_text, leaf_text}
use Rattle.merkle_nodes.specs.Heap.{IsHeap}
use Rattle.mem_tree.specs.RegisterTree.{register_leaf, differs}
use Rattle.mem_tree.specs.InputTree.{input_chunk, input_leaf}

pub register_leaf-is : (xs : List ℕ) (r : ℕ) → register_leaf xs r ≡ register_text (slice_index xs r)
unfolding register_leaf
register_leaf-is xs r = refl

zero-at : (n k : ℕ) → slice_index (replicate n 0) k ≡ 0
zero-at zero k = refl
zero-at (suc n) zero = refl
zero-at (suc n) (suc k) = zero-at n k

-- the heap over registers that are all 0
pub zero-file : (digest : List ℕ → List ℕ) (nodes : List Digest32) → IsHeap digest nodes 5 (λ _. register_text 0) → IsHeap digest nodes 5 (register_leaf (replicate 32 0))
zero-file digest nodes heap = record {
  whole = heap.whole;
  leaves = λ k low. heap.leaves k low ∙ ap digest (sym (register_leaf-is (replicate 32 0) k ∙ ap register_text (zero-at 32 k)));
  joined = heap.joined;
}

-- a register that hasn't changed has its leaf in both files
pub leaf-stays : (xs ys : List ℕ) (r : ℕ) → differs xs ys r ≡ false → register_leaf xs r ≡ register_leaf ys r
leaf-stays xs ys r same = register_leaf-is xs r ∙ (ap register_text (one (slice_index xs r) (slice_index ys r) same) ∙ sym (register_leaf-is ys r))
  where
    one : (a b : ℕ) → not (eqb a b) ≡ false → a ≡ b
    one a b same = ⊎_elim (λ e. e) (λ apart. absurd (true≢false (sym (ap not (ne_eqb a b apart)) ∙ same))) (cases_eq a b)

pub input_chunk-is : (input : List ℕ) (k : ℕ) → input_chunk input k ≡ map (λ i. slice_index input (32 * k + i)) (range_with_len 0 32)
unfolding input_chunk
input_chunk-is input k = refl

pub chunk-size : (input : List ℕ) (k : ℕ) → length (input_chunk input k) ≡ 32
chunk-size input k = ap length (input_chunk-is input k) ∙ length-map-range_with_len (λ i. slice_index input (32 * k + i)) 0 32

pub chunk-byte : (input : List ℕ) (k place : ℕ) → place < 32 → slice_index (input_chunk input k) place ≡ slice_index input (32 * k + place)
chunk-byte input k place low = ap (λ (c : List ℕ). slice_index c place) (input_chunk-is input k) ∙ get_or-map-range_with_len (λ i. slice_index input (32 * k + i)) 0 32 place place 0 low (omega arith)

-- chunks behind the input's end are zeros
past-end : (xs : List ℕ) (i : ℕ) → length xs ≤ i → slice_index xs i ≡ 0
past-end [] i far = refl
past-end (x ∷ xs) zero far = absurd (omega arith)
past-end (x ∷ xs) (suc i) far = past-end xs i (omega arith)

listed-zeros : (f : ℕ → ℕ) (s n : ℕ) → ((i : ℕ) → f i ≡ 0) → map f (range_with_len s n) ≡ replicate n 0
listed-zeros f s zero zeros = refl
listed-zeros f s (suc n) zeros = ap (λ x. x ∷ map f (range_with_len (s + 1) n)) (zeros s) ∙ ap (λ l. 0 ∷ l) (listed-zeros f (s + 1) n zeros)

pub chunk-past : (input : List ℕ) (k : ℕ) → length input ≤ 32 * k → input_leaf input k ≡ leaf_text (replicate 32 0)
chunk-past input k far = ap leaf_text (input_chunk-is input k ∙ listed-zeros (λ i. slice_index input (32 * k + i)) 0 32 (λ i. past-end input (32 * k + i) (omega arith)))

pub chunk-filled : (input : List ℕ) (k : ℕ) (xs : List ℕ) → length xs ≡ 32 → ((i : ℕ) → i < 32 → get_or xs i 0 ≡ slice_index input (32 * k + i)) → xs ≡ input_chunk input k
chunk-filled input k xs size bytes = fill_by_all (λ i. slice_index input (32 * k + i)) xs 32 0 size bytes ∙ sym (input_chunk-is input k)
