-- The nodes of a heap are made anew, from the last one down.
use Rattle.std.proofs.Common.{◌≡◌, ◌≢◌, ℕ, suc, ◌+◌, ◌*◌, ◌-◌, ◌<◌, ◌≤◌, List, length, set, Bool, true, false, true≢false, ◌||◌, cond, refl, sym, ap, ◌∙◌, subst, arith, ⊎_elim}
use Rattle.std.proofs.Math.ListN.{length-set}
use Rattle.std.proofs.lemmas.Bool.{cases_eq}
use Rattle.rd_base.specs.declared.digest.Digest32.{Digest32}
use Rattle.digest_core.specs.Text.{node_text}
use Rattle.merkle_nodes.specs.Node.{digest_at}
use Rattle.merkle_nodes.specs.Heap.{AreJoined, IsJoinedAt, is_marked}
use Rattle.merkle_nodes.specs.Renewals.{how_many}
use Rattle.merkle_nodes.proofs.HeapLemmas.{place-here, place-elsewhere, mark-here, mark-elsewhere, joined-kept}
use Rattle.merkle_nodes.proofs.RenewalLemmas.{many-same, many-first}

abbrev bit : Bool → ℕ
bit b = cond b 1 0

-- what holds while those from a place on are renewed
pub record IsRenewing (digest : List ℕ → List ℕ) (old : List Digest32) (first : List Bool) (width start : ℕ) (nodes : List Digest32) (marks : List Bool) (steps from : ℕ) : Type 0 where
  pub len : length nodes ≡ 2 * width
  pub all : length marks ≡ 2 * width
  pub pending : (i : ℕ) → 1 ≤ i → i < from → is_marked marks (2 * i) ≡ false → is_marked marks (2 * i + 1) ≡ false → IsJoinedAt digest nodes i
  pub unmarked : (i : ℕ) → i < from → is_marked marks i ≡ false
  pub joined : AreJoined digest nodes width from
  pub leaves : (i : ℕ) → width ≤ i → digest_at nodes i ≡ digest_at old i
  pub kept : (i : ℕ) → is_marked marks i ≡ false → digest_at nodes i ≡ digest_at old i
  pub above : (i : ℕ) → from ≤ i → i < width → is_marked marks i ≡ (is_marked marks (2 * i) || is_marked marks (2 * i + 1))
  pub below : (i : ℕ) → width ≤ i → is_marked marks i ≡ is_marked first i
  pub made : steps ≡ start + how_many (λ k. is_marked marks (from + k)) (width - from)

module _ (digest : List ℕ → List ℕ) (old : List Digest32) (first : List Bool) (width start : ℕ) (nodes : List Digest32) (marks : List Bool) (steps place : ℕ)
    (some : 1 ≤ place) (low : place < width) (is : IsRenewing digest old first width start nodes marks steps (place + 1)) where
  count : (ms : List Bool) → ((i : ℕ) → place + 1 ≤ i → is_marked ms i ≡ is_marked marks i)
      → how_many (λ k. is_marked ms (place + k)) (width - place) ≡ cond (is_marked ms place) 1 0 + how_many (λ k. is_marked marks (place + 1 + k)) (width - (place + 1))
  count ms same =
      let span : width - place ≡ suc (width - (place + 1)) = omega arith in
      let here : place + 0 ≡ place = omega arith in
      let rest = many-same (λ k. is_marked ms (place + (1 + k))) (λ k. is_marked marks (place + 1 + k)) (width - (place + 1)) (λ k below. let at : place + (1 + k) ≡ place + 1 + k = omega arith in ap (is_marked ms) at ∙ same (place + 1 + k) (omega arith)) in
      ap (how_many (λ k. is_marked ms (place + k))) span ∙ (many-first (λ k. is_marked ms (place + k)) (width - (place + 1))
      ∙ (ap (λ i. cond (is_marked ms i) 1 0 + how_many (λ k. is_marked ms (place + (1 + k))) (width - (place + 1))) here
      ∙ ap (λ x. cond (is_marked ms place) 1 0 + x) rest))

  -- neither node below has changed
  pub renewing-stay : is_marked marks (2 * place) ≡ false → is_marked marks (2 * place + 1) ≡ false → IsRenewing digest old first width start nodes marks steps place
  renewing-stay left right =
      let unmarked = is.unmarked place (omega arith) in
      record {
        len = is.len;
        all = is.all;
        pending = λ i from lt. is.pending i from (omega arith);
        unmarked = λ i lt. is.unmarked i (omega arith);
        joined = λ i from lt. ⊎_elim
            (λ same. subst (IsJoinedAt digest nodes) (sym same) (is.pending place some (omega arith) left right))
            (λ apart. is.joined i (omega arith) lt)
            (cases_eq i place);
        leaves = is.leaves;
        kept = is.kept;
        above = λ i from lt. ⊎_elim
            (λ same. subst (λ j. is_marked marks j ≡ (is_marked marks (2 * j) || is_marked marks (2 * j + 1))) (sym same)
            (unmarked ∙ sym (ap (λ b. b || is_marked marks (2 * place + 1)) left ∙ right)))
            (λ apart. is.above i (omega arith) lt)
            (cases_eq i place);
        below = is.below;
        made = let all = count marks (λ i from. refl) in let none : bit (is_marked marks place) ≡ 0 = ap bit unmarked in omega (arith, is.made);
      }

  -- one of the two has
  pub renewing-set : (x : Digest32) → x.0 ≡ digest (node_text (digest_at nodes (2 * place)) (digest_at nodes (2 * place + 1)))
      → (is_marked marks (2 * place) || is_marked marks (2 * place + 1)) ≡ true → IsRenewing digest old first width start (set nodes place x) (set marks place true) (steps + 1) place
  renewing-set x is_node changed =
      let fits : place < length nodes = omega (arith, is.len) in
      let fits' : place < length marks = omega (arith, is.all) in
      let here = mark-here marks place fits' in
      record {
        len = length-set nodes place x ∙ is.len;
        all = length-set marks place true ∙ is.all;
        pending = λ i from lt left right.
            joined-kept digest nodes place x i (λ e. absurd (omega arith)) (other fits' (2 * i) left) (other fits' (2 * i + 1) right)
            (is.pending i from (omega arith) (before fits' (2 * i) left) (before fits' (2 * i + 1) right));
        unmarked = λ i lt. mark-elsewhere marks place i (λ e. absurd (omega arith)) ∙ is.unmarked i (omega arith);
        joined = λ i from lt. ⊎_elim
            (λ same. subst (IsJoinedAt digest (set nodes place x)) (sym same)
            (place-here nodes place x fits ∙ (is_node
            ∙ (ap (λ a. digest (node_text a (digest_at nodes (2 * place + 1)))) (sym (place-elsewhere nodes place x (2 * place) (λ e. absurd (omega arith))))
            ∙ ap (λ b. digest (node_text (digest_at (set nodes place x) (2 * place)) b)) (sym (place-elsewhere nodes place x (2 * place + 1) (λ e. absurd (omega arith))))))))
            (λ apart. joined-kept digest nodes place x i apart (λ e. absurd (omega arith)) (λ e. absurd (omega arith)) (is.joined i (omega arith) lt))
            (cases_eq i place);
        leaves = λ i high. place-elsewhere nodes place x i (λ e. absurd (omega arith)) ∙ is.leaves i high;
        kept = λ i not. place-elsewhere nodes place x i (other fits' i not) ∙ is.kept i (before fits' i not);
        above = λ i from lt. ⊎_elim
            (λ same. subst (λ j. is_marked (set marks place true) j ≡ (is_marked (set marks place true) (2 * j) || is_marked (set marks place true) (2 * j + 1))) (sym same)
            (here ∙ sym (over place (λ e. absurd (omega arith)) (λ e. absurd (omega arith)) ∙ changed)))
            (λ apart. mark-elsewhere marks place i apart ∙ (is.above i (omega arith) lt ∙ sym (over i (λ e. absurd (omega arith)) (λ e. absurd (omega arith)))))
            (cases_eq i place);
        below = λ i high. mark-elsewhere marks place i (λ e. absurd (omega arith)) ∙ is.below i high;
        made = let all = count (set marks place true) (λ i from. mark-elsewhere marks place i (λ e. absurd (omega arith))) in let one : bit (is_marked (set marks place true) place) ≡ 1 = ap bit here in omega (arith, is.made);
      }
    where
      other : place < length marks → (i : ℕ) → is_marked (set marks place true) i ≡ false → i ≢ place
      other fits i not same = true≢false (sym (mark-here marks place fits) ∙ (ap (is_marked (set marks place true)) (sym same) ∙ not))

      before : place < length marks → (i : ℕ) → is_marked (set marks place true) i ≡ false → is_marked marks i ≡ false
      before fits i not = sym (mark-elsewhere marks place i (other fits i not)) ∙ not

      over : (i : ℕ) → 2 * i ≢ place → 2 * i + 1 ≢ place → (is_marked (set marks place true) (2 * i) || is_marked (set marks place true) (2 * i + 1)) ≡ (is_marked marks (2 * i) || is_marked marks (2 * i + 1))
      over i left right = ap (λ b. b || is_marked (set marks place true) (2 * i + 1)) (mark-elsewhere marks place (2 * i) left) ∙ ap (λ b. is_marked marks (2 * i) || b) (mark-elsewhere marks place (2 * i + 1) right)

-- before the first one
pub renewing-first : (digest : List ℕ → List ℕ) (nodes : List Digest32) (marks : List Bool) (width steps : ℕ) → length nodes ≡ 2 * width → length marks ≡ 2 * width
    → ((i : ℕ) → 1 ≤ i → i < width → is_marked marks (2 * i) ≡ false → is_marked marks (2 * i + 1) ≡ false → IsJoinedAt digest nodes i)
    → ((i : ℕ) → i < width → is_marked marks i ≡ false) → IsRenewing digest nodes marks width steps nodes marks steps width
unfolding how_many
renewing-first digest nodes marks width steps len all pending unmarked = record {
  len = len;
  all = all;
  pending = pending;
  unmarked = unmarked;
  joined = λ i from lt. absurd (omega arith);
  leaves = λ i high. refl;
  kept = λ i not. refl;
  above = λ i from lt. absurd (omega arith);
  below = λ i high. refl;
  made = let none : width - width ≡ 0 = omega arith in let zero' = ap (how_many (λ k. is_marked marks (width + k))) none in omega arith;
}

-- after the last one
module _ (digest : List ℕ → List ℕ) (old : List Digest32) (first : List Bool) (width start : ℕ) (nodes : List Digest32) (marks : List Bool) (steps from : ℕ)
    (end : from ≡ 1) (is : IsRenewing digest old first width start nodes marks steps from) where
  pub renewed-joined : AreJoined digest nodes width 1
  renewed-joined i some lt = is.joined i (omega arith) lt

  pub renewed-above : (i : ℕ) → 1 ≤ i → i < width → is_marked marks i ≡ (is_marked marks (2 * i) || is_marked marks (2 * i + 1))
  renewed-above i some lt = is.above i (omega arith) lt

  pub renewed-made : steps ≡ start + how_many (λ k. is_marked marks (1 + k)) (width - 1)
  renewed-made = is.made ∙ ap (λ (j : ℕ). start + how_many (λ k. is_marked marks (j + k)) (width - j)) end
