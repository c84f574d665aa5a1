-- The strings of a way are its string and those of the rest above it.
use Rattle.std.proofs.Common.{◌≡◌, ℕ, zero, suc, ◌+◌, ◌/◌, ◌%◌, ◌^◌, List, [], ◌∷◌, length, Option, Some, None, true, false, refl, sym, ap, ◌∙◌, add-one}
use Rattle.std.proofs.Math.Nat.{div-one, div-div-eq-div-mul, pow-suc, mul_comm}
use Rattle.rd_base.specs.declared.digest.Digest32.{Digest32}
use Rattle.merkle_nodes.specs.Node.{digest_at}
use Rattle.merkle_nodes.specs.Opening.{joined, opened}
use Rattle.out_chain.specs.Collision.{collides, first_collision}
use Rattle.open_proof.specs.Opened.{texts_from}
use Rattle.open_proof.specs.Ways.{Way, way_text, way_texts}
use Rattle.open_proof.specs.Slots.{way_above_with, way_above}
use Rattle.open_proof.proofs.CodeLemmas.{collision-first, collision-later}

place : (k l : ℕ) → k / 2 ^ suc l ≡ k / 2 / 2 ^ l
place k l = ap (λ n. k / n) (pow-suc 2 l ∙ mul_comm (2 ^ l) 2) ∙ sym (div-div-eq-div-mul k 2 (2 ^ l))

-- a path from the second level on
shift : (digest : List ℕ → List ℕ) (leaf : List ℕ) (s : Digest32) (ss : List Digest32) (k l : ℕ)
    → opened digest leaf (digest_at (s ∷ ss)) (suc l) k ≡ opened digest (joined (k % 2) (digest leaf) s.0) (digest_at ss) l (k / 2)
unfolding opened
shift digest leaf s ss k zero = ap (λ q. joined (q % 2) (digest leaf) s.0) (div-one k)
shift digest leaf s ss k (suc l) =
    ap (λ q. joined (q % 2) (digest (opened digest leaf (digest_at (s ∷ ss)) (suc l) k)) (digest_at ss l)) (place k l)
    ∙ ap (λ t. joined (k / 2 / 2 ^ l % 2) (digest t) (digest_at ss l)) (shift digest leaf s ss k l)

texts-shift : (f g : ℕ → List ℕ) (n l m : ℕ) → m ≡ l + 1 → ((i : ℕ) → f (suc i) ≡ g i) → texts_from f m n ≡ texts_from g l n
unfolding texts_from
texts-shift f g zero l m next same = refl
texts-shift f g (suc n) l m next same =
    ap (λ t. t ∷ texts_from f (m + 1) n) (ap f (next ∙ add-one l) ∙ same l) ∙ ap (λ ts. g l ∷ ts) (texts-shift f g n (l + 1) (m + 1) (ap (λ k. k + 1) next) same)

rest_texts : (List ℕ → List ℕ) → Option Way → List (List ℕ)
rest_texts digest None = []
rest_texts digest (Some w) = way_texts digest w

texts-of : (digest : List ℕ → List ℕ) (text : List ℕ) (index : ℕ) (siblings : List Digest32) (root : List ℕ)
    → texts_from (λ l. opened digest text (digest_at siblings) l index) 0 (length siblings + 1) ≡ text ∷ rest_texts digest (way_above_with index root (digest text) siblings)
unfolding texts_from opened rest_texts
texts-of digest text index [] root = refl
texts-of digest text index (s ∷ ss) root =
    let f : ℕ → List ℕ = λ l. opened digest text (digest_at (s ∷ ss)) l index in
    let g : ℕ → List ℕ = λ l. opened digest (joined (index % 2) (digest text) s.0) (digest_at ss) l (index / 2) in
    ap (texts_from f 0) (add-one (suc (length ss)))
    ∙ ap (λ ts. text ∷ ts) (texts-shift f g (suc (length ss)) 0 1 refl (λ i. shift digest text s ss index i) ∙ ap (texts_from g 0) (sym (add-one (length ss))))

way-texts : (digest : List ℕ → List ℕ) (w : Way) → w.levels ≡ length w.siblings → way_texts digest w ≡ w.text ∷ rest_texts digest (way_above w (digest w.text))
way-texts digest w whole = ap (λ n. texts_from (way_text digest w) 0 (n + 1)) whole ∙ texts-of digest w.text w.index w.siblings w.root

-- two ways whose strings collide
pub ways-first : (digest : List ℕ → List ℕ) (v w : Way) → v.levels ≡ length v.siblings → w.levels ≡ length w.siblings
    → collides digest v.text w.text ≡ true → Some (v.text, w.text) ≡ first_collision digest (way_texts digest v) (way_texts digest w)
ways-first digest v w v_whole w_whole test =
    sym (collision-first digest v.text w.text (rest_texts digest (way_above v (digest v.text))) (rest_texts digest (way_above w (digest w.text))) test)
    ∙ (ap (λ xs. first_collision digest xs (w.text ∷ rest_texts digest (way_above w (digest w.text)))) (sym (way-texts digest v v_whole))
    ∙ ap (first_collision digest (way_texts digest v)) (sym (way-texts digest w w_whole)))

-- two ways whose strings don't
ways-later : (digest : List ℕ → List ℕ) (v w : Way) → v.levels ≡ length v.siblings → w.levels ≡ length w.siblings → collides digest v.text w.text ≡ false
    → first_collision digest (rest_texts digest (way_above v (digest v.text))) (rest_texts digest (way_above w (digest w.text))) ≡ first_collision digest (way_texts digest v) (way_texts digest w)
ways-later digest v w v_whole w_whole test =
    sym (collision-later digest v.text w.text (rest_texts digest (way_above v (digest v.text))) (rest_texts digest (way_above w (digest w.text))) test)
    ∙ (ap (λ xs. first_collision digest xs (w.text ∷ rest_texts digest (way_above w (digest w.text)))) (sym (way-texts digest v v_whole))
    ∙ ap (first_collision digest (way_texts digest v)) (sym (way-texts digest w w_whole)))

without : (digest : List ℕ → List ℕ) (xs : List (List ℕ)) → None ≡ first_collision digest xs []
unfolding first_collision
without digest [] = refl
without digest (x ∷ xs) = refl

of-none : (digest : List ℕ → List ℕ) (ys : List (List ℕ)) → None ≡ first_collision digest [] ys
unfolding first_collision
of-none digest ys = refl

-- the rest of the first way, or of the second, is none; or both go on
pub ways-end : (digest : List ℕ → List ℕ) (v w : Way) → v.levels ≡ length v.siblings → w.levels ≡ length w.siblings → collides digest v.text w.text ≡ false
    → None ≡ way_above v (digest v.text) → None ≡ first_collision digest (way_texts digest v) (way_texts digest w)
unfolding rest_texts
ways-end digest v w v_whole w_whole test none =
    of-none digest (rest_texts digest (way_above w (digest w.text)))
    ∙ (ap (λ o. first_collision digest (rest_texts digest o) (rest_texts digest (way_above w (digest w.text)))) none ∙ ways-later digest v w v_whole w_whole test)

pub ways-end_second : (digest : List ℕ → List ℕ) (v w : Way) → v.levels ≡ length v.siblings → w.levels ≡ length w.siblings → collides digest v.text w.text ≡ false
    → None ≡ way_above w (digest w.text) → None ≡ first_collision digest (way_texts digest v) (way_texts digest w)
unfolding rest_texts
ways-end_second digest v w v_whole w_whole test none =
    without digest (rest_texts digest (way_above v (digest v.text)))
    ∙ (ap (λ o. first_collision digest (rest_texts digest (way_above v (digest v.text))) (rest_texts digest o)) none ∙ ways-later digest v w v_whole w_whole test)

pub ways-on : (digest : List ℕ → List ℕ) (v w p q : Way) → v.levels ≡ length v.siblings → w.levels ≡ length w.siblings → collides digest v.text w.text ≡ false
    → Some p ≡ way_above v (digest v.text) → Some q ≡ way_above w (digest w.text)
    → first_collision digest (way_texts digest p) (way_texts digest q) ≡ first_collision digest (way_texts digest v) (way_texts digest w)
unfolding rest_texts
ways-on digest v w p q v_whole w_whole test first second =
    ap (λ o. first_collision digest (rest_texts digest o) (way_texts digest q)) first
    ∙ (ap (λ o. first_collision digest (rest_texts digest (way_above v (digest v.text))) (rest_texts digest o)) second ∙ ways-later digest v w v_whole w_whole test)
