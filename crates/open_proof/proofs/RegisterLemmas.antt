-- The register file that opened registers show, and the tree of registers after a step.
use Rattle.std.proofs.Common.{◌≡◌, ◌≢◌, ℕ, ◌/◌, ◌^◌, ◌<◌, List, [], ◌∷◌, map, length, slice_index, Bool, true, false, true≢false, cond, eqb, refl, sym, ap, subst, ◌∙◌, arith, ⊎_elim, get_or-set_same, get_or-set_other}
use Rattle.std.proofs.Math.ListN.{length-set}
use Rattle.std.proofs.lemmas.Bool.{cases_eq, eq-eqb, ne_eqb, eqb-true, eqb-false, or_from, or_right, or_cases}
use Rattle.rd_base.specs.Regs.{with_register}
use Rattle.rd_base.specs.declared.opened.RegOpening.{RegOpening}
use Rattle.digest_core.specs.Text.{register_text}
use Rattle.merkle_nodes.specs.Node.{node, digest_at}
use Rattle.merkle_nodes.specs.Opening.{opened}
use Rattle.rv_step.specs.Alike.{has_register}
use Rattle.rv_step.specs.Effect.{x}
use Rattle.rv_step.specs.Named.{AreRegisters}
use Rattle.mem_tree.specs.RegisterTree.{register_leaf, registers_root}
use Rattle.open_proof.specs.Facts.{file_of, values_of}
use Rattle.open_proof.specs.Next.{root_changed}
use Rattle.open_proof.specs.Shown.{AreShown}
use Rattle.open_proof.specs.LawsBelow.{TreeLaws}

-- the file that named registers make
pub file-size : (rs vs : List ℕ) → length (file_of rs vs) ≡ 32
file-size [] vs = refl
file-size (r ∷ rs) [] = refl
file-size (r ∷ rs) (v ∷ vs) = ⊎_elim
    (λ zero. rw (eq-eqb r 0 zero) (file-size rs vs))
    (λ some. rw (ne_eqb r 0 some) (length-set (file_of rs vs) r v ∙ file-size rs vs))
    (cases_eq r 0)

pub file-zero : (rs vs : List ℕ) → x (file_of rs vs) 0 ≡ 0
file-zero [] vs = refl
file-zero (r ∷ rs) [] = refl
file-zero (r ∷ rs) (v ∷ vs) = ⊎_elim
    (λ zero. rw (eq-eqb r 0 zero) (file-zero rs vs))
    (λ some. rw (ne_eqb r 0 some) (get_or-set_other (file_of rs vs) r 0 v 0 (λ e. some (sym e)) ∙ file-zero rs vs))
    (cases_eq r 0)

file-here : (file : List ℕ) (q v : ℕ) → q ≢ 0 → q < length file → x (with_register file q v) q ≡ v
file-here file q v some low = rw (ne_eqb q 0 some) (get_or-set_same file q v 0 low)

file-later : (file : List ℕ) (q v r : ℕ) → r ≢ q → x (with_register file q v) r ≡ x file r
file-later file q v r other = ⊎_elim
    (λ none. rw (eq-eqb q 0 none) refl)
    (λ some. rw (ne_eqb q 0 some) (get_or-set_other file q r v 0 other))
    (cases_eq q 0)

pub file-shows : (f : ℕ → ℕ) → f 0 ≡ 0 → (rs : List ℕ) → AreRegisters rs → (r : ℕ) → has_register rs r ≡ true → x (file_of rs (map f rs)) r ≡ f r
file-shows f zeros [] low r in_it = absurd (true≢false (sym in_it))
file-shows f zeros (q ∷ rs) low r in_it =
    let file = file_of rs (map f rs) in
    let fits : q < length file = subst (λ (n : ℕ). q < n) (sym (file-size rs (map f rs))) low.0 in
    ⊎_elim
    (λ here. ⊎_elim
    (λ none.
    let is : r ≡ 0 = here ∙ none in
    let zero-holds : x (file_of (q ∷ rs) (map f (q ∷ rs))) 0 ≡ f 0 = file-zero (q ∷ rs) (map f (q ∷ rs)) ∙ sym zeros in
    subst (λ (k : ℕ). x (file_of (q ∷ rs) (map f (q ∷ rs))) k ≡ f k) (sym is) zero-holds)
    (λ some.
    let holds : x (with_register file q (f q)) q ≡ f q = file-here file q (f q) some fits in
    subst (λ (k : ℕ). x (with_register file q (f q)) k ≡ f k) (sym here) holds)
    (cases_eq q 0))
    (λ other.
    let rest : has_register rs r ≡ true = ⊎_elim (λ same. absurd (other (sym (eqb-true q r same)))) (λ later. later) (or_cases (eqb q r) (has_register rs r) in_it) in
    file-later file q (f q) r other ∙ file-shows f zeros rs low.1 r rest)
    (cases_eq r q)

pub map-same : (f g : ℕ → ℕ) (rs : List ℕ) → ((r : ℕ) → has_register rs r ≡ true → f r ≡ g r) → map f rs ≡ map g rs
map-same f g [] same = refl
map-same f g (r ∷ rs) same =
    let first = same r (rw (eq-eqb r r refl) refl) in
    let rest = map-same f g rs (λ q in_it. same q (or_right (eqb r q) (has_register rs q) in_it)) in
    cc

pub values-are : (digest : List ℕ → List ℕ) (xs rs : List ℕ) (os : List RegOpening) → AreShown digest xs rs os → values_of os ≡ map (x xs) rs
values-are digest xs [] [] shown = refl
values-are digest xs [] (o ∷ os) shown = absurd shown
values-are digest xs (r ∷ rs) [] shown = absurd shown
values-are digest xs (r ∷ rs) (o ∷ os) shown = let first = shown.0 in let rest = values-are digest xs rs os shown.2 in cc

pub leaf-is : (xs : List ℕ) (r : ℕ) → register_leaf xs r ≡ register_text (slice_index xs r)
unfolding register_leaf
leaf-is xs r = refl

leaf-same : (xs ys : List ℕ) (r : ℕ) → x ys r ≡ x xs r → register_leaf xs r ≡ register_leaf ys r
leaf-same xs ys r same = leaf-is xs r ∙ (ap register_text (sym same) ∙ sym (leaf-is ys r))

-- the tree follows the register that changed: xs before and ys after the step, f and t the same of the shown file
module _ (laws : TreeLaws) (digest : List ℕ → List ℕ) (xs ys f t : List ℕ)
    (alike : (r : ℕ) → x f r ≡ x xs r → x t r ≡ x ys r)
    (one : (r q : ℕ) → x ys r ≢ x xs r → q ≢ r → x ys q ≡ x xs q) where
  pub tree-follows : (rs : List ℕ) (os : List RegOpening) → AreRegisters rs → AreShown digest xs rs os → ((r : ℕ) → has_register rs r ≡ true → x f r ≡ x xs r)
      → ((r : ℕ) → has_register rs r ≡ false → x ys r ≡ x xs r) → root_changed digest (registers_root digest xs) rs os f t ≡ registers_root digest ys
  tree-follows [] [] low shown agree elsewhere = laws.same digest (register_leaf xs) (register_leaf ys) 5 0 (λ j under. leaf-same xs ys j (elsewhere j refl))
  tree-follows [] (o ∷ os) low shown agree elsewhere = absurd shown
  tree-follows (r ∷ rs) [] low shown agree elsewhere = absurd shown
  tree-follows (r ∷ rs) (o ∷ os) low shown agree elsewhere =
      let here : x f r ≡ x xs r = agree r (rw (eq-eqb r r refl) refl) in
      let after : x t r ≡ x ys r = alike r here in
      go here after
      (λ stays. tree-follows rs os low.1 shown.2 (λ q in_it. agree q (or_right (eqb r q) (has_register rs q) in_it))
      (λ q out. ⊎_elim (λ same. subst (λ k. x ys k ≡ x xs k) (sym same) stays) (λ other. elsewhere q (or_from (eqb r q) (has_register rs q) (ne_eqb r q (λ e. other (sym e))) out)) (cases_eq q r)))
      (eqb (x f r) (x t r)) refl
    where
      go : x f r ≡ x xs r → x t r ≡ x ys r → (x ys r ≡ x xs r → root_changed digest (registers_root digest xs) rs os f t ≡ registers_root digest ys) → (b : Bool) → eqb (x f r) (x t r) ≡ b
          → cond b (root_changed digest (registers_root digest xs) rs os f t) (digest (opened digest (register_text (x t r)) (digest_at o.path.0) 5 r)) ≡ registers_root digest ys
      go here after rest true test = rest (sym after ∙ (sym (eqb-true (x f r) (x t r) test) ∙ here))
      go here after rest false test =
          let changed : x ys r ≢ x xs r = λ same. eqb-false (x f r) (x t r) test (here ∙ (sym same ∙ sym after)) in
          let small : r < 32 = low.0 in
          let top : r / 2 ^ 5 ≡ 0 = omega arith in
          ap (λ text. digest (opened digest text (digest_at o.path.0) 5 r)) (ap register_text after ∙ sym (leaf-is ys r))
          ∙ (laws.changed digest (register_leaf xs) (register_leaf ys) (digest_at o.path.0) 5 r (λ j apart. leaf-same xs ys j (one r j changed apart)) shown.1
          ∙ ap (node digest (register_leaf ys) 5) top)
