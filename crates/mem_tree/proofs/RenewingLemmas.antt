-- The leaves of a page are renewed, from the first one up.
use Rattle.std.proofs.Common.{◌≡◌, ◌≢◌, ℕ, ◌+◌, ◌<◌, ◌≤◌, List, [], Bool, true, false, true≢false, length, set, refl, sym, ap, ◌∙◌, arith, ⊎_elim, get_or-set_same, get_or-set_other}
use Rattle.std.proofs.Math.ListN.{length-set}
use Rattle.std.proofs.lemmas.Bool.{cases_eq}
use Rattle.rd_base.specs.declared.digest.Digest32.{Digest32}
use Rattle.mem_plain.specs.Contents.{Contents}
use Rattle.digest_core.specs.Text.{leaf_text}
use Rattle.merkle_nodes.specs.Node.{digest_at}
use Rattle.merkle_nodes.specs.Heap.{HasLeaves, is_marked}
use Rattle.merkle_nodes.specs.Renewals.{how_many}
use Rattle.mem_tree.specs.Page.{chunk_in, leaf_of, page_chunk}
use Rattle.mem_tree.specs.Costs.{are_different}
use Rattle.mem_tree.proofs.CostLemmas.{many-next, many-none}
use Rattle.mem_tree.proofs.PlaceLemmas.{place-here, place-elsewhere, mark-here, mark-elsewhere}

-- a chunk of a list
module _ (chunks : List (List ℕ)) (place : ℕ) (x : List ℕ) where
  chunk-here : place < length chunks → chunk_in (set chunks place x) place ≡ x
  chunk-here fits = get_or-set_same chunks place x [] fits

  chunk-elsewhere : (i : ℕ) → i ≢ place → chunk_in (set chunks place x) i ≡ chunk_in chunks i
  chunk-elsewhere i apart = get_or-set_other chunks place i x [] apart

-- one place more of a list whose places are a function's
pub places-set : (f : ℕ → List ℕ) (nodes : List Digest32) (n : ℕ) (x : Digest32) → n < length nodes → x.0 ≡ f n
    → ((i : ℕ) → i < n → digest_at nodes i ≡ f i) → (i : ℕ) → i < n + 1 → digest_at (set nodes n x) i ≡ f i
places-set f nodes n x fits is before i lt = ⊎_elim
    (λ same. ap (digest_at (set nodes n x)) same ∙ (place-here nodes n x fits ∙ (is ∙ ap f (sym same))))
    (λ apart. place-elsewhere nodes n x i apart ∙ before i (omega arith))
    (cases_eq i n)

-- what holds while they are renewed: those below j are
pub record IsRenewing (digest : List ℕ → List ℕ) (old : List Digest32) (first : List (List ℕ)) (m : Contents) (page start : ℕ) (nodes : List Digest32) (chunks : List (List ℕ)) (marks : List Bool) (steps j : ℕ) : Type 0 where
  pub len : length nodes ≡ 256
  pub parts : length chunks ≡ 128
  pub all : length marks ≡ 256
  pub leaves : HasLeaves digest nodes 128 (leaf_of chunks) 128
  pub chunks_are : (i : ℕ) → i < j → chunk_in chunks i ≡ page_chunk m page i
  pub rest : (i : ℕ) → j ≤ i → chunk_in chunks i ≡ chunk_in first i
  pub kept : (i : ℕ) → is_marked marks i ≡ false → digest_at nodes i ≡ digest_at old i
  pub low : (i : ℕ) → i < 128 → is_marked marks i ≡ false
  pub marks_are : (i : ℕ) → i < j → is_marked marks (128 + i) ≡ are_different (chunk_in first i) (page_chunk m page i)
  pub unmarked : (i : ℕ) → 128 + j ≤ i → is_marked marks i ≡ false
  pub made : steps ≡ start + how_many (λ i. is_marked marks (128 + i)) j

module _ (digest : List ℕ → List ℕ) (old : List Digest32) (first : List (List ℕ)) (m : Contents) (page start : ℕ) (nodes : List Digest32) (chunks : List (List ℕ)) (marks : List Bool) (steps j : ℕ)
    (lt : j < 128) (is : IsRenewing digest old first m page start nodes chunks marks steps j) where
  pub renewing-set : (x : Digest32) (chunk : List ℕ) → x.0 ≡ digest (leaf_text chunk) → chunk ≡ page_chunk m page j → are_different (chunk_in chunks j) chunk ≡ true
      → IsRenewing digest old first m page start (set nodes (128 + j) x) (set chunks j chunk) (set marks (128 + j) true) (steps + 1) (j + 1)
  renewing-set x chunk leaf here differ =
      let place = 128 + j in
      let fits : place < length marks = omega (arith, is.all) in
      record {
        len = length-set nodes place x ∙ is.len;
        parts = length-set chunks j chunk ∙ is.parts;
        all = length-set marks place true ∙ is.all;
        leaves = λ i low. ⊎_elim
            (λ same. ap (λ q. digest_at (set nodes place x) (128 + q)) same ∙ (place-here nodes place x (omega (arith, is.len)) ∙ (leaf
            ∙ ap (λ c. digest (leaf_text c)) (sym (ap (chunk_in (set chunks j chunk)) same ∙ chunk-here chunks j chunk (omega (arith, is.parts)))))))
            (λ apart. place-elsewhere nodes place x (128 + i) (λ e. apart (omega arith)) ∙ (is.leaves i low
            ∙ ap (λ c. digest (leaf_text c)) (sym (chunk-elsewhere chunks j chunk i apart))))
            (cases_eq i j);
        chunks_are = λ i low. ⊎_elim
            (λ same. ap (chunk_in (set chunks j chunk)) same ∙ (chunk-here chunks j chunk (omega (arith, is.parts)) ∙ (here ∙ ap (page_chunk m page) (sym same))))
            (λ apart. chunk-elsewhere chunks j chunk i apart ∙ is.chunks_are i (omega arith))
            (cases_eq i j);
        rest = λ i from. chunk-elsewhere chunks j chunk i (λ e. absurd (omega arith)) ∙ is.rest i (omega arith);
        kept = λ i not. place-elsewhere nodes place x i (other fits i not) ∙ is.kept i (before fits i not);
        low = λ i low. mark-elsewhere marks place i (λ e. absurd (omega arith)) ∙ is.low i low;
        marks_are = λ i low. ⊎_elim
            (λ same. ap (λ q. is_marked (set marks place true) (128 + q)) same ∙ (mark-here marks place fits
            ∙ sym (ap (λ q. are_different (chunk_in first q) (page_chunk m page q)) same ∙ (ap (are_different (chunk_in first j)) (sym here) ∙ (ap (λ c. are_different c chunk) (sym (is.rest j (omega arith))) ∙ differ)))))
            (λ apart. mark-elsewhere marks place (128 + i) (λ e. apart (omega arith)) ∙ is.marks_are i (omega arith))
            (cases_eq i j);
        unmarked = λ i from. mark-elsewhere marks place i (λ e. absurd (omega arith)) ∙ is.unmarked i (omega arith);
        made = let next = many-next (λ i. is_marked (set marks place true) (128 + i)) (λ i. is_marked marks (128 + i)) j true (λ i low. mark-elsewhere marks place (128 + i) (λ e. absurd (omega arith))) (mark-here marks place fits) in omega (arith, is.made);
      }
    where
      other : 128 + j < length marks → (i : ℕ) → is_marked (set marks (128 + j) true) i ≡ false → i ≢ 128 + j
      other fits i not same = true≢false (sym (mark-here marks (128 + j) fits) ∙ (ap (is_marked (set marks (128 + j) true)) (sym same) ∙ not))

      before : 128 + j < length marks → (i : ℕ) → is_marked (set marks (128 + j) true) i ≡ false → is_marked marks i ≡ false
      before fits i not = sym (mark-elsewhere marks (128 + j) i (other fits i not)) ∙ not

  pub renewing-stay : chunk_in chunks j ≡ page_chunk m page j → are_different (chunk_in chunks j) (page_chunk m page j) ≡ false → IsRenewing digest old first m page start nodes chunks marks steps (j + 1)
  renewing-stay here differ = record {
    len = is.len;
    parts = is.parts;
    all = is.all;
    leaves = is.leaves;
    chunks_are = λ i low. ⊎_elim
        (λ same. ap (chunk_in chunks) same ∙ (here ∙ ap (page_chunk m page) (sym same)))
        (λ apart. is.chunks_are i (omega arith))
        (cases_eq i j);
    rest = λ i from. is.rest i (omega arith);
    kept = is.kept;
    low = is.low;
    marks_are = λ i low. ⊎_elim
        (λ same. is.unmarked (128 + i) (omega arith)
        ∙ sym (ap (λ q. are_different (chunk_in first q) (page_chunk m page q)) same ∙ (ap (λ c. are_different c (page_chunk m page j)) (sym (is.rest j (omega arith))) ∙ differ)))
        (λ apart. is.marks_are i (omega arith))
        (cases_eq i j);
    unmarked = λ i from. is.unmarked i (omega arith);
    made = let next = many-next (λ i. is_marked marks (128 + i)) (λ i. is_marked marks (128 + i)) j false (λ i low. refl) (is.unmarked (128 + j) (omega arith)) in omega (arith, is.made);
  }

-- before the first one
pub renewing-first : (digest : List ℕ → List ℕ) (nodes : List Digest32) (chunks : List (List ℕ)) (marks : List Bool) (m : Contents) (page steps : ℕ)
    → length nodes ≡ 256 → length chunks ≡ 128 → length marks ≡ 256 → HasLeaves digest nodes 128 (leaf_of chunks) 128 → ((i : ℕ) → is_marked marks i ≡ false)
    → IsRenewing digest nodes chunks m page steps nodes chunks marks steps 0
renewing-first digest nodes chunks marks m page steps len parts all leaves unmarked = record {
  len = len;
  parts = parts;
  all = all;
  leaves = leaves;
  chunks_are = λ i low. absurd (omega arith);
  rest = λ i from. refl;
  kept = λ i not. refl;
  low = λ i low. unmarked i;
  marks_are = λ i low. absurd (omega arith);
  unmarked = λ i from. unmarked i;
  made = let none = many-none (λ i. is_marked marks (128 + i)) 0 (λ i low. absurd (omega arith)) in omega arith;
}
