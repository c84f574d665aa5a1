-- The leaves of a heap are renewed, from the first one up.
use Rattle.std.proofs.Common.{◌≡◌, ◌≢◌, ℕ, ◌+◌, ◌*◌, ◌<◌, ◌≤◌, ◌⊎◌, List, Bool, true, false, true≢false, length, set, refl, sym, ap, ◌∙◌, arith, ⊎_elim}
use Rattle.std.proofs.Math.ListN.{length-set}
use Rattle.std.proofs.lemmas.Bool.{cases_eq, cases_lt}
use Rattle.rd_base.specs.declared.digest.Digest32.{Digest32}
use Rattle.merkle_nodes.specs.Node.{digest_at}
use Rattle.merkle_nodes.specs.Heap.{HasLeaves, is_marked}
use Rattle.merkle_nodes.specs.Renewals.{how_many}
use Rattle.mem_tree.proofs.CostLemmas.{many-next, many-none}
use Rattle.mem_tree.proofs.PlaceLemmas.{place-here, place-elsewhere, mark-here, mark-elsewhere}

-- what holds while they are renewed: those below j are, of a heap with `width` leaves
pub record IsRenewing (digest : List ℕ → List ℕ) (old : List Digest32) (leaf : ℕ → List ℕ) (changed : ℕ → Bool) (width start : ℕ) (nodes : List Digest32) (marks : List Bool) (steps j : ℕ) : Type 0 where
  pub len : length nodes ≡ 2 * width
  pub all : length marks ≡ 2 * width
  pub leaves : (i : ℕ) → i < j → digest_at nodes (width + i) ≡ digest (leaf i)
  pub kept : (i : ℕ) → is_marked marks i ≡ false → digest_at nodes i ≡ digest_at old i
  pub low : (i : ℕ) → i < width → is_marked marks i ≡ false
  pub marks_are : (i : ℕ) → i < j → is_marked marks (width + i) ≡ changed i
  pub unmarked : (i : ℕ) → width + j ≤ i → is_marked marks i ≡ false
  pub made : steps ≡ start + how_many (λ i. is_marked marks (width + i)) j

pub renewing-first : (digest : List ℕ → List ℕ) (old : List Digest32) (leaf : ℕ → List ℕ) (changed : ℕ → Bool) (width start : ℕ) (marks : List Bool) → length old ≡ 2 * width → length marks ≡ 2 * width
    → ((i : ℕ) → is_marked marks i ≡ false) → IsRenewing digest old leaf changed width start old marks start 0
renewing-first digest old leaf changed width start marks len all none = record {
  len = len;
  all = all;
  leaves = λ i low. absurd (omega arith);
  kept = λ i not. refl;
  low = λ i low. none i;
  marks_are = λ i low. absurd (omega arith);
  unmarked = λ i from. none i;
  made = let zero' = many-none (λ i. is_marked marks (width + i)) 0 (λ i low. absurd (omega arith)) in omega arith;
}

module _ (digest : List ℕ → List ℕ) (old : List Digest32) (leaf : ℕ → List ℕ) (changed : ℕ → Bool) (width start : ℕ) (nodes : List Digest32) (marks : List Bool) (steps j : ℕ)
    (lt : j < width) (is : IsRenewing digest old leaf changed width start nodes marks steps j) where
  pub renewing-set : (x : Digest32) → x.0 ≡ digest (leaf j) → changed j ≡ true
      → IsRenewing digest old leaf changed width start (set nodes (width + j) x) (set marks (width + j) true) (steps + 1) (j + 1)
  renewing-set x here change =
      let place = width + j in
      let fits : place < length marks = omega (arith, is.all) in
      record {
        len = length-set nodes place x ∙ is.len;
        all = length-set marks place true ∙ is.all;
        leaves = λ i low. ⊎_elim
            (λ same. ap (λ q. digest_at (set nodes place x) (width + q)) same ∙ (place-here nodes place x (omega (arith, is.len)) ∙ (here ∙ ap (λ q. digest (leaf q)) (sym same))))
            (λ apart. place-elsewhere nodes place x (width + i) (λ e. apart (omega arith)) ∙ is.leaves i (omega arith))
            (cases_eq i j);
        kept = λ i not. place-elsewhere nodes place x i (other fits i not) ∙ is.kept i (before fits i not);
        low = λ i low. mark-elsewhere marks place i (λ e. absurd (omega arith)) ∙ is.low i low;
        marks_are = λ i low. ⊎_elim
            (λ same. ap (λ q. is_marked (set marks place true) (width + q)) same ∙ (mark-here marks place fits ∙ sym (ap changed same ∙ change)))
            (λ apart. mark-elsewhere marks place (width + i) (λ e. apart (omega arith)) ∙ is.marks_are i (omega arith))
            (cases_eq i j);
        unmarked = λ i from. mark-elsewhere marks place i (λ e. absurd (omega arith)) ∙ is.unmarked i (omega arith);
        made = let next = many-next (λ i. is_marked (set marks place true) (width + i)) (λ i. is_marked marks (width + i)) j true (λ i low. mark-elsewhere marks place (width + i) (λ e. absurd (omega arith))) (mark-here marks place fits) in omega (arith, is.made);
      }
    where
      other : width + j < length marks → (i : ℕ) → is_marked (set marks (width + j) true) i ≡ false → i ≢ width + j
      other fits i not same = true≢false (sym (mark-here marks (width + j) fits) ∙ (ap (is_marked (set marks (width + j) true)) (sym same) ∙ not))

      before : width + j < length marks → (i : ℕ) → is_marked (set marks (width + j) true) i ≡ false → is_marked marks i ≡ false
      before fits i not = sym (mark-elsewhere marks (width + j) i (other fits i not)) ∙ not

  pub renewing-stay : digest_at old (width + j) ≡ digest (leaf j) → changed j ≡ false → IsRenewing digest old leaf changed width start nodes marks steps (j + 1)
  renewing-stay here change = record {
    len = is.len;
    all = is.all;
    leaves = λ i low. ⊎_elim
        (λ same. ap (λ q. digest_at nodes (width + q)) same ∙ (is.kept (width + j) (is.unmarked (width + j) (omega arith)) ∙ (here ∙ ap (λ q. digest (leaf q)) (sym same))))
        (λ apart. is.leaves i (omega arith))
        (cases_eq i j);
    kept = is.kept;
    low = is.low;
    marks_are = λ i low. ⊎_elim
        (λ same. is.unmarked (width + i) (omega arith) ∙ sym (ap changed same ∙ change))
        (λ apart. is.marks_are i (omega arith))
        (cases_eq i j);
    unmarked = λ i from. is.unmarked i (omega arith);
    made = let next = many-next (λ i. is_marked marks (width + i)) (λ i. is_marked marks (width + i)) j false (λ i low. refl) (is.unmarked (width + j) (omega arith)) in omega (arith, is.made);
  }

-- the leaves that aren't renewed are those of the heap before
pub renewed-all : (digest : List ℕ → List ℕ) (old : List Digest32) (leaf : ℕ → List ℕ) (changed : ℕ → Bool) (width start : ℕ) (nodes : List Digest32) (marks : List Bool) (steps j : ℕ)
    → IsRenewing digest old leaf changed width start nodes marks steps j → ((i : ℕ) → j ≤ i → i < width → digest_at old (width + i) ≡ digest (leaf i)) → HasLeaves digest nodes width leaf width
renewed-all digest old leaf changed width start nodes marks steps j is rest = λ i low. go i low (cases_lt i j)
  where
    go : (i : ℕ) → i < width → (i < j) ⊎ (j ≤ i) → digest_at nodes (width + i) ≡ digest (leaf i)
    go i low either = ⊎_elim (λ less. is.leaves i less) (λ more. is.kept (width + i) (is.unmarked (width + i) (omega arith)) ∙ rest i more low) either
