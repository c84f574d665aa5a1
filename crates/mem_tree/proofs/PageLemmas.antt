-- The pages of a memory, and what is kept of them.
use Rattle.std.proofs.Common.{◌≡◌, ◌≢◌, ℕ, zero, suc, ◌+◌, ◌*◌, ◌/◌, ◌%◌, ◌<◌, ◌≤◌, List, [], ◌∷◌, ◌++◌, Option, Some, None, true, false, true≢false, is_some, map, replicate, refl, sym, ap, ◌∙◌, arith, ⊎_elim}
use Rattle.std.specs.List.{range_with_len}
use Rattle.std.proofs.lemmas.Bool.{cases_eq}
use Rattle.std.proofs.lemmas.List.{get_or-replicate, replicate-append-replicate}
use Rattle.mem_plain.specs.Contents.{Contents, IsUsed, chunk_at, byte_at}
use Rattle.rd_base.specs.declared.digest.Digest32.{Digest32}
use Rattle.digest_core.specs.Text.{leaf_text}
use Rattle.merkle_nodes.specs.Heap.{IsHeap}
use Rattle.mem_tree.specs.Memory.{SamePage}
use Rattle.mem_tree.specs.Page.{IsMade, IsMadeTree, IsPageOf, chunk_in, leaf_of, page_chunk, zero_chunks}
use Rattle.mem_tree.specs.Costs.{differs, has_changed, is_filled}
use Rattle.mem_tree.specs.declared.kept.PageTree.{PageTree}
use Rattle.mem_tree.proofs.MemoryLemmas.{bytes-same, listed-zeros, used-same, zero-or}
use Rattle.mem_tree.proofs.CostLemmas.{RootLaw, SomeLaw, different-same, different-apart, none-changed}

pub page_chunk-is : (m : Contents) (page j : ℕ) → page_chunk m page j ≡ chunk_at m (128 * page + j)
unfolding page_chunk
page_chunk-is m page j = refl

pub zero-at : (j : ℕ) → j < 128 → chunk_in zero_chunks j ≡ replicate 32 0
unfolding zero_chunks
zero-at j low = get_or-replicate 128 j (replicate 32 0) [] low

pub zero_chunks-are : (chunks : List (List ℕ)) → chunks ≡ replicate 128 (replicate 32 0) → chunks ≡ zero_chunks
unfolding zero_chunks
zero_chunks-are chunks is = is

-- the chunks of an unused page are zeros
pub unused-chunk : (m : Contents) (page j : ℕ) → j < 128 → ¬ IsUsed m page → page_chunk m page j ≡ replicate 32 0
unused-chunk m page j low unused =
    page_chunk-is m page j ∙ listed-zeros (λ i. byte_at m (32 * (128 * page + j) + i)) 0 32 (λ i lt. zero-or (byte_at m (32 * (128 * page + j) + i)) (λ used. unused (32 * (128 * page + j) + i, omega arith, used)))

-- and where a chunk is of zeros, so is each of its bytes
zeros-listed : (f : ℕ → ℕ) (s n : ℕ) → map f (range_with_len s n) ≡ replicate n 0 → (i : ℕ) → s ≤ i → i < s + n → f i ≡ 0
zeros-listed f s zero same i from to = absurd (omega arith)
zeros-listed f s (suc n) same i from to =
    let head : f s ≡ 0 = cc in
    let tail : map f (range_with_len (s + 1) n) ≡ replicate n 0 = cc in
    ⊎_elim (λ here. ap f here ∙ head) (λ apart. zeros-listed f (s + 1) n tail i (omega arith) (omega arith)) (cases_eq i s)

pub used-chunk : (m : Contents) (page : ℕ) → IsUsed m page → (j : ℕ) × (j < 128) × (page_chunk m page j ≢ replicate 32 0)
used-chunk m page used =
    let a = used.0 in
    let j = a / 32 % 128 in
    (j, omega arith, λ zeros. used.2 (byte a (omega (arith, used.1)) (zeros-listed (λ i. byte_at m (32 * (128 * page + j) + i)) 0 32 (sym (page_chunk-is m page j) ∙ zeros) (a % 32) (omega arith) (omega arith))))
  where
    byte : (a : ℕ) → 32 * (128 * page + a / 32 % 128) + a % 32 ≡ a → byte_at m (32 * (128 * page + a / 32 % 128) + a % 32) ≡ 0 → byte_at m a ≡ 0
    byte a at is = ap (byte_at m) (sym at) ∙ is

-- what is kept of a page that isn't used
pub unused-page : (m : Contents) (page : ℕ) → ¬ IsUsed m page → IsPageOf None m page
unused-page m page unused = record {
  chunks = λ j low. zero-at j low ∙ sym (unused-chunk m page j low unused);
  used = (λ is. absurd (true≢false (sym is)), λ used. absurd (unused used));
}

-- and of one that is
pub used-page : (digest : List ℕ → List ℕ) (tree : PageTree) (m : Contents) (page : ℕ) → IsUsed m page → ((j : ℕ) → j < 128 → chunk_in tree.chunks.items j ≡ page_chunk m page j) → IsPageOf (Some tree) m page
used-page digest tree m page used chunks = record { chunks = chunks; used = (λ is. used, λ is. refl) }

pub used-some : (tree : PageTree) (m : Contents) (page : ℕ) → IsUsed m page → ((j : ℕ) → j < 128 → chunk_in tree.chunks.items j ≡ page_chunk m page j) → (j : ℕ) × (j < 128) × (chunk_in tree.chunks.items j ≢ replicate 32 0)
used-some tree m page used chunks = let found = used-chunk m page used in (found.0, found.1, λ e. found.2 (sym (chunks found.0 found.1) ∙ e))

-- memory is the same in a page
pub page-moved : (o : Option PageTree) (m n : Contents) (page : ℕ) → SamePage m n page → IsPageOf o m page → IsPageOf o n page
page-moved o m n page same is = record {
  chunks = λ j low. is.chunks j low ∙ (page_chunk-is m page j
      ∙ (bytes-same (λ i. byte_at m (32 * (128 * page + j) + i)) (λ i. byte_at n (32 * (128 * page + j) + i)) 0 32 (λ i from to. same (32 * (128 * page + j) + i) (omega arith))
      ∙ sym (page_chunk-is n page j)));
  used = (λ is'. used-same m n page same (is.used.0 is'), λ used. is.used.1 (used-same n m page (λ a at. sym (same a at)) used));
}

-- a page is filled if and only if it is used
module _ (root : RootLaw) (some : SomeLaw) (m : Contents) (page : ℕ) where
  pub unused-filled : ¬ IsUsed m page → is_filled m page ≡ false
  unused-filled unused = none-changed some (differs None m page) (λ j low. different-same (chunk_in zero_chunks j) (page_chunk m page j) (zero-at j low ∙ sym (unused-chunk m page j low unused)))

  pub used-filled : IsUsed m page → is_filled m page ≡ true
  used-filled used = let found = used-chunk m page used in root (differs None m page) 7 found.0 found.1 (different-apart (chunk_in zero_chunks found.0) (page_chunk m page found.0) (λ e. found.2 (sym e ∙ zero-at found.0 found.1)))

  -- a page that was kept and is of zeros now has changed
  pub emptied : (digest : List ℕ → List ℕ) (tree : PageTree) → IsMade digest tree → ¬ IsUsed m page → has_changed (Some tree) m page ≡ true
  emptied digest tree made unused =
      let found = made.some in
      root (differs (Some tree) m page) 7 found.0 found.1 (different-apart (chunk_in tree.chunks.items found.0) (page_chunk m page found.0) (λ e. found.2 (e ∙ unused-chunk m page found.0 found.1 unused)))

  pub was-kept : (digest : List ℕ → List ℕ) (before : Option PageTree) → IsMadeTree digest before → ¬ IsUsed m page → is_some before ≡ has_changed before m page
  was-kept digest (Some tree) made unused = sym (emptied digest tree made unused)
  was-kept digest None made unused = sym (unused-filled unused)

-- the heap over chunks of zeros
pub zero-heap : (digest : List ℕ → List ℕ) (nodes : List Digest32) (chunks : List (List ℕ)) → chunks ≡ zero_chunks
    → IsHeap digest nodes 7 (λ _. leaf_text (replicate 32 0)) → IsHeap digest nodes 7 (leaf_of chunks)
zero-heap digest nodes chunks is heap = record {
  whole = heap.whole;
  leaves = λ k low. heap.leaves k low ∙ ap (λ c. digest (leaf_text c)) (sym (ap (λ (cs : List (List ℕ)). chunk_in cs k) is ∙ zero-at k low));
  joined = heap.joined;
}

pub one-more : {A : Type 0} (x : A) (n : ℕ) → replicate n x ++ x ∷ [] ≡ replicate (n + 1) x
one-more x n = replicate-append-replicate n 1 x
