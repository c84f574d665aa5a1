-- What an opened leaf shows of a tree whose root it opens: it is the tree's, or one of its strings and a different one of the tree have
-- one digest.
use Rattle.std.proofs.Common.{◌≡◌, ℕ, zero, suc, ◌+◌, ◌/◌, ◌^◌, ◌<◌, ◌≤◌, ◌⊎◌, inl, inr, List, [], ◌∷◌, ◌++◌, length, slice_index, Option, Some, None, is_some, Bool, true, false, true≢false, Contains, refl, sym, ap, ◌∙◌, arith, ⊎_elim}
use Rattle.std.specs.Prelude.{bytes_eq}
use Rattle.std.proofs.lemmas.Bool.{cases_eq}
use Rattle.std.proofs.lemmas.List.Elements.{Contains-append_left, Contains-append_right}
use Rattle.std.proofs.lemmas.Slice.Eq.{bytes_eq-Decides}
use Rattle.rd_base.specs.declared.digest.Digest32.{Digest32}
use Rattle.rd_base.specs.declared.opened.InOpening.{InOpening}
use Rattle.rd_base.specs.declared.opened.Opening.{Opening}
use Rattle.rd_base.specs.declared.opened.RegOpening.{RegOpening}
use Rattle.mem_plain.specs.Contents.{Contents}
use Rattle.digest_core.specs.Text.{leaf_text, register_text}
use Rattle.digest_core.specs.TextLaws.{cons_parts, register_text_same}
use Rattle.merkle_nodes.specs.Node.{node, beside, digest_at}
use Rattle.merkle_nodes.specs.Opening.{opened, AreSiblings}
use Rattle.merkle_nodes.specs.PathLaws.{opens-climbs, climbs-opens, one_opening}
use Rattle.merkle_nodes.specs.Split.{IsSplit}
use Rattle.merkle_nodes.specs.TreeStrings.{IsTreeString}
use Rattle.mem_tree.specs.Memory.{memory_leaf, memory_node}
use Rattle.rv_step.specs.Named.{AreRegisters}
use Rattle.mem_tree.specs.RegisterTree.{register_leaf, registers_root}
use Rattle.mem_tree.specs.InputTree.{input_leaf, input_root}
use Rattle.open_proof.specs.Opened.{texts_from}
use Rattle.open_proof.specs.OpenedChunk.{IsShownAt}
use Rattle.open_proof.specs.LawsBelow.{TreeLaws}
use Rattle.open_proof.specs.Openings.{chunk_way, chunk_ways, register_way, each_way, input_way, input_ways}
use Rattle.open_proof.specs.RangeLaws.{IsPathOf, ChunkRange, InputRange, EachRange}
use Rattle.open_proof.specs.Shown.{AreShown, ShowsInput}
use Rattle.open_proof.specs.Ways.{Way, WayOpens, way_text, way_texts, WaysOpen, ways_texts}
use Rattle.open_proof.specs.declared.facts.HeldInput.{HeldInput}
use Rattle.open_proof.proofs.RegisterLemmas.{leaf-is}

-- an address below 2^32, and a byte's number below 2^20
abbrev pub IsLowAt : ℕ → Option ℕ → Type 0
IsLowAt top (Some k) = k < top
IsLowAt top None = Unit {0}

-- strings of one digest are one, or such a pair
pub same-or-split : (digest : List ℕ → List ℕ) (x y : List ℕ) → digest x ≡ digest y → (x ≡ y) ⊎ IsSplit digest x y
same-or-split digest x y one = go (bytes_eq x y) refl
  where
    go : (t : Bool) → bytes_eq x y ≡ t → (x ≡ y) ⊎ IsSplit digest x y
    go true test = inl ((bytes_eq-Decides x y).0 test)
    go false test = inr (record { differ = λ same. true≢false (sym ((bytes_eq-Decides x y).1 same) ∙ test); agree = one })

-- strings from a level on
texts-contain : (f : ℕ → List ℕ) (m n l : ℕ) → m ≤ l → l < m + n → Contains (texts_from f m n) (f l)
unfolding texts_from
texts-contain f m zero l low high = absurd (omega arith)
texts-contain f m (suc n) l low high = ⊎_elim
    (λ here. (0, omega arith, ap f (sym here)))
    (λ later. let rest = texts-contain f (m + 1) n l (omega arith) (omega arith) in (suc rest.0, omega arith, rest.2))
    (cases_eq l m)

-- two different strings of one digest, one of these and one of a tree
abbrev pub Found : (List ℕ → List ℕ) → List (List ℕ) → (ℕ → List ℕ) → ℕ → Type 0
Found digest texts leaf n = (x : List ℕ) × (y : List ℕ) × IsSplit digest x y × Contains texts x × IsTreeString digest leaf n y

found-left : (digest : List ℕ → List ℕ) (xs ys : List (List ℕ)) (leaf : ℕ → List ℕ) (n : ℕ) → Found digest xs leaf n → Found digest (xs ++ ys) leaf n
found-left digest xs ys leaf n f = (f.0, f.1, f.2, Contains-append_left xs ys f.0 f.3, f.4)

found-right : (digest : List ℕ → List ℕ) (xs ys : List (List ℕ)) (leaf : ℕ → List ℕ) (n : ℕ) → Found digest ys leaf n → Found digest (xs ++ ys) leaf n
found-right digest xs ys leaf n f = (f.0, f.1, f.2, Contains-append_right xs ys f.0 f.3, f.4)

module _ (trees : TreeLaws) (digest : List ℕ → List ℕ) where
  -- the true leaf with the tree's siblings opens the root
  true-opens : (leaf : ℕ → List ℕ) (n k : ℕ) (a : List ℕ) (p : List Digest32) (root : List ℕ) → k / 2 ^ n ≡ 0 → root ≡ node digest leaf n 0 → a ≡ leaf k → AreSiblings digest leaf n k (digest_at p)
      → WayOpens digest (record { text = a; index = k; siblings = p; levels = n; root = root })
  true-opens leaf n k a p root top is_root same along =
      climbs-opens digest a (digest_at p) n k root (is_root ∙ (ap (node digest leaf n) (sym top) ∙ (sym (trees.climbs digest leaf (digest_at p) n k along)
      ∙ ap (λ t. digest (opened digest t (digest_at p) n k)) (sym same))))

  pub shown-chunk-opens : (m : Contents) (root : List ℕ) (o : Option Opening) (address : Option ℕ) → IsLowAt (2 ^ 32) address → root ≡ memory_node digest m 27 0 → IsShownAt digest m o address → WaysOpen digest (chunk_ways root o address)
  unfolding memory_leaf
  shown-chunk-opens m root (Some o) (Some addr) low is_root shown = (true-opens (memory_leaf m) 27 (addr / 32) (leaf_text o.chunk) o.path.0 root (omega arith) is_root (ap leaf_text shown.chunk) shown.path, tt)
  shown-chunk-opens m root None (Some addr) low is_root shown = tt
  shown-chunk-opens m root (Some o) None low is_root shown = tt
  shown-chunk-opens m root None None low is_root shown = tt

  pub shown-registers-open : (xs root : List ℕ) (rs : List ℕ) (os : List RegOpening) → AreRegisters rs → root ≡ registers_root digest xs → AreShown digest xs rs os → WaysOpen digest (each_way root rs os)
  shown-registers-open xs root [] [] low is_root shown = tt
  shown-registers-open xs root [] (o ∷ os) low is_root shown = tt
  shown-registers-open xs root (r ∷ rs) [] low is_root shown = tt
  shown-registers-open xs root (r ∷ rs) (o ∷ os) low is_root shown =
      let small : r < 32 = low.0 in
      (true-opens (register_leaf xs) 5 r (register_text o.value) o.path.0 root (omega arith) is_root (ap register_text shown.0 ∙ sym (leaf-is xs r)) shown.1, shown-registers-open xs root rs os low.1 is_root shown.2)

  pub shown-input-opens : (input : List ℕ) (tree : Option HeldInput) (o : Option InOpening) (byte : Option ℕ) → IsLowAt (2 ^ 20) byte → ((t : HeldInput) → tree ≡ Some t → t.root.0 ≡ input_root digest input) → ShowsInput digest input o byte
      → WaysOpen digest (input_ways tree o byte)
  shown-input-opens input (Some t) (Some o) (Some k) low is_root shown = (true-opens (input_leaf input) 15 (k / 32) (leaf_text o.chunk) o.path.0 t.root.0 (omega arith) (is_root t refl) (ap leaf_text shown.0) shown.1, tt)
  shown-input-opens input (Some t) (Some o) None low is_root shown = tt
  shown-input-opens input (Some t) None byte low is_root shown = tt
  shown-input-opens input None o byte low is_root shown = tt

  module _ (is_digest : (bytes : List ℕ) → length (digest bytes) ≡ 32) where
    pub node-size : (leaf : ℕ → List ℕ) (l k : ℕ) → length (node digest leaf l k) ≡ 32
    unfolding node
    node-size leaf zero k = is_digest _
    node-size leaf (suc l) k = is_digest _

    way-or-found : (leaf : ℕ → List ℕ) (n k : ℕ) (a : List ℕ) (p : List Digest32) (root : List ℕ) → IsPathOf n p → k < 2 ^ n → k / 2 ^ n ≡ 0 → root ≡ node digest leaf n 0
        → WayOpens digest (record { text = a; index = k; siblings = p; levels = n; root = root })
        → ((a ≡ leaf k) × AreSiblings digest leaf n k (digest_at p)) ⊎ Found digest (way_texts digest (record { text = a; index = k; siblings = p; levels = n; root = root })) leaf n
    way-or-found leaf n k a p root path below top is_root opens =
        let w : Way = record { text = a; index = k; siblings = p; levels = n; root = root } in
        let truth = λ (j : ℕ). node digest leaf j (beside (k / 2 ^ j)) in
        let meet = sym (opens-climbs digest a (digest_at p) n k root opens) ∙ (is_root ∙ (ap (node digest leaf n) (sym top) ∙ sym (trees.climbs digest leaf truth n k (λ j lower. refl)))) in
        ⊎_elim
        (λ whole. inl (whole.0, whole.1))
        (λ split. inr (
          way_text digest w split.0,
          opened digest (leaf k) truth split.0 k,
          split.2,
          texts-contain (way_text digest w) 0 (n + 1) split.0 (omega arith) (omega arith),
          trees.strings digest leaf truth n split.0 k split.1 below (λ j lower. refl),
        ))
        (one_opening digest is_digest a (leaf k) (digest_at p) truth k n (λ l lower. path.sizes l lower ∙ sym (node-size leaf l (beside (k / 2 ^ l)))) meet)

    pub chunk-or-found : (m : Contents) (root : List ℕ) (o : Option Opening) (address : Option ℕ) → IsLowAt (2 ^ 32) address → ChunkRange o → is_some o ≡ is_some address → root ≡ memory_node digest m 27 0
        → WaysOpen digest (chunk_ways root o address) → IsShownAt digest m o address ⊎ Found digest (ways_texts digest (chunk_ways root o address)) (memory_leaf m) 27
    unfolding memory_leaf
    chunk-or-found m root None None low range shape is_root opens = inl tt
    chunk-or-found m root (Some o) None low range shape is_root opens = inl tt
    chunk-or-found m root None (Some addr) low range shape is_root opens = absurd (true≢false (sym shape))
    chunk-or-found m root (Some o) (Some addr) low range shape is_root opens = ⊎_elim
        (λ whole. inl (record { chunk = (cons_parts 0 0 _ _ whole.0).1; path = whole.1 }))
        (λ found. inr (found-left digest (way_texts digest (chunk_way root o addr)) [] (memory_leaf m) 27 found))
        (way-or-found (memory_leaf m) 27 (addr / 32) (leaf_text o.chunk) o.path.0 root range (omega arith) (omega arith) is_root opens.0)

    pub registers-or-found : (xs root : List ℕ) → ((r : ℕ) → slice_index xs r < 2 ^ 32) → root ≡ registers_root digest xs → (rs : List ℕ) (os : List RegOpening) → AreRegisters rs → EachRange os → length os ≡ length rs
        → WaysOpen digest (each_way root rs os) → AreShown digest xs rs os ⊎ Found digest (ways_texts digest (each_way root rs os)) (register_leaf xs) 5
    registers-or-found xs root words is_root [] [] low range size opens = inl tt
    registers-or-found xs root words is_root [] (o ∷ os) low range size opens = absurd (omega arith)
    registers-or-found xs root words is_root (r ∷ rs) [] low range size opens = absurd (omega arith)
    registers-or-found xs root words is_root (r ∷ rs) (o ∷ os) low range size opens =
        let small : r < 32 = low.0 in
        ⊎_elim
        (λ whole. ⊎_elim
        (λ others. inl (register_text_same o.value (slice_index xs r) range.0 (words r) (whole.0 ∙ leaf-is xs r), whole.1, others))
        (λ found. inr (found-right digest (way_texts digest (register_way root r o)) (ways_texts digest (each_way root rs os)) (register_leaf xs) 5 found))
        (registers-or-found xs root words is_root rs os low.1 range.2 (omega arith) opens.1))
        (λ found. inr (found-left digest (way_texts digest (register_way root r o)) (ways_texts digest (each_way root rs os)) (register_leaf xs) 5 found))
        (way-or-found (register_leaf xs) 5 r (register_text o.value) o.path.0 root range.1 small (omega arith) is_root opens.0)

    pub input-or-found : (input : List ℕ) (tree : Option HeldInput) (o : Option InOpening) (byte : Option ℕ) → IsLowAt (2 ^ 20) byte → InputRange o → is_some o ≡ is_some byte → (tree ≡ None → is_some byte ≡ false)
        → ((t : HeldInput) → tree ≡ Some t → t.root.0 ≡ input_root digest input)
        → WaysOpen digest (input_ways tree o byte) → ShowsInput digest input o byte ⊎ Found digest (ways_texts digest (input_ways tree o byte)) (input_leaf input) 15
    input-or-found input tree None None low range shape offered is_root opens = inl tt
    input-or-found input tree (Some o) None low range shape offered is_root opens = inl tt
    input-or-found input tree None (Some k) low range shape offered is_root opens = absurd (true≢false (sym shape))
    input-or-found input None (Some o) (Some k) low range shape offered is_root opens = absurd (true≢false (offered refl))
    input-or-found input (Some t) (Some o) (Some k) low range shape offered is_root opens = ⊎_elim
        (λ whole. inl ((cons_parts 0 0 _ _ whole.0).1, whole.1))
        (λ found. inr (found-left digest (way_texts digest (input_way t.root.0 o k)) [] (input_leaf input) 15 found))
        (way-or-found (input_leaf input) 15 (k / 32) (leaf_text o.chunk) o.path.0 t.root.0 range (omega arith) (omega arith) (is_root t refl) opens.0)
