-- The plain proof of a valid state is in the ranges of its types, in each version.
use Rattle.std.proofs.Common.{◌≡◌, ℕ, zero, suc, ◌+◌, ◌*◌, ◌/◌, ◌%◌, ◌^◌, ◌<◌, eqb, ltb, List, [], ◌∷◌, map, length, slice_index, Option, Some, None, true, ◌&&◌, refl, ap, ◌∙◌, subst, arith}
use Rattle.std.proofs.lemmas.Bool.{and_from}
use Rattle.std.proofs.lemmas.Bool.Decides.{Decides-eqb, Decides-ltb}
use Rattle.std.proofs.lemmas.List.FromFn.{length-map-range_with_len, get_or-map-range_with_len}
use Rattle.std.specs.List.{range_with_len}
use Rattle.rd_base.specs.declared.digest.Digest32.{Digest32}
use Rattle.rd_base.specs.declared.status.Status.{Status}
use Rattle.rd_base.specs.declared.status.Status.TheVariants.{Running, Exited, Trapped}
use Rattle.rd_base.specs.Scheme.{scheme_of}
use Rattle.rd_base.specs.declared.scheme.InputScheme.{InputScheme}
use Rattle.rd_base.specs.declared.scheme.InputScheme.TheVariants as input
use Rattle.rd_base.specs.declared.scheme.RegisterScheme.{RegisterScheme}
use Rattle.rd_base.specs.declared.scheme.RegisterScheme.TheVariants as registers
use Rattle.digest_core.specs.Chain.{chain_of}
use Rattle.digest_core.specs.Text.{status_code}
use Rattle.mem_plain.specs.Contents.{Contents, byte_at, chunk_at}
use Rattle.merkle_nodes.specs.Node.{node, beside}
use Rattle.mem_tree.specs.Memory.{memory_node}
use Rattle.rv_step.specs.Alike.{named_at}
use Rattle.rv_step.specs.State.{State}
use Rattle.rd_base.specs.Status.{HasWordCode}
use Rattle.rv_step.specs.Valid.{IsValid}
use Rattle.state_commit.specs.StateRoot.{ctl_of, memory_digest}
use Rattle.mem_tree.specs.RegisterTree.{register_node, registers_root}
use Rattle.mem_tree.specs.InputTree.{input_chunk, input_node, input_root}
use Rattle.open_proof.specs.InRange.{are_digests, is_opening_in_range, is_ctl_in_range, is_input_in_range, are_openings_in_range, are_registers_in_range, is_tree_in_range, are_facts_in_range, is_in_range}
use Rattle.open_proof.specs.OpenedChunk.{siblings_of, opening_at, fetch_of_state}
use Rattle.open_proof.specs.RangeLaws.{words_are, digests_are}
use Rattle.open_proof.specs.Facts.{facts_of}
use Rattle.open_proof.specs.PlainProof.{register_siblings, opened_register, input_siblings, input_opening_at, registers_opened, plain_facts, plain_proof}
use Rattle.open_proof.specs.Shown.{tree_by, operand_of_state, input_of_state}
use Rattle.open_proof.specs.declared.facts.Facts.{Facts}

is-true : (x y : ℕ) → x ≡ y → eqb x y ≡ true
is-true x y same = (Decides-eqb x y).1 same

-- the control fields of a valid state
pub code-fits : (s : Status) → HasWordCode s → status_code s < 2 ^ 32
code-fits Running word = omega arith
code-fits (Exited code) word = word
code-fits (Trapped code) word = word

pub length-fits : (output : List ℕ) → length output % 2 ^ 64 < 2 ^ 64
length-fits output = omega arith

-- a path of digests of 32 bytes, by the digest at each of its levels
levels : (along : ℕ → Digest32) (n : ℕ) → length (map along (range_with_len 0 n)) ≡ n
levels along n = length-map-range_with_len along 0 n

sizes : (along : ℕ → Digest32) (n : ℕ) → ((l : ℕ) → length (along l).0 ≡ 32) → are_digests (map along (range_with_len 0 n)) ≡ true
sizes along n size = digests_are (map along (range_with_len 0 n)) (λ l below.
    let low : l < n = subst (λ k. l < k) (levels along n) below in
    ap (λ (d : Digest32). length d.0) (get_or-map-range_with_len along 0 n l l (record { 0 = [] }) low (omega arith)) ∙ size l)

-- what is held is in range where each part is
parts-true : (f : Facts) → length f.mem.0 ≡ 32 → is_tree_in_range f.input_tree ≡ true → are_registers_in_range f.regs ≡ true → is_ctl_in_range f.ctl ≡ true
    → is_opening_in_range f.fetch ≡ true → is_opening_in_range f.operand ≡ true → is_input_in_range f.input ≡ true → are_facts_in_range f ≡ true
unfolding are_facts_in_range
parts-true f mem tree regs ctl fetch operand input =
    and_from _ _ (and_from _ _ (and_from _ _ (and_from _ _ (and_from _ _ (and_from _ _ (is-true (length f.mem.0) 32 mem) tree) regs) ctl) fetch) operand) input

module _ (digest : List ℕ → List ℕ) (is_digest : (bytes : List ℕ) → length (digest bytes) ≡ 32) where
  node-size : (leaf : ℕ → List ℕ) (l k : ℕ) → length (node digest leaf l k) ≡ 32
  unfolding node
  node-size leaf zero k = is_digest _
  node-size leaf (suc l) k = is_digest _

  pub memory-size : (s : State) → length (memory_digest digest s) ≡ 32
  memory-size s = node-size _ 27 0

  pub registers-size : (xs : List ℕ) → length (registers_root digest xs) ≡ 32
  registers-size xs = node-size _ 5 0

  input-size : (input : List ℕ) → length (input_root digest input) ≡ 32
  input-size input = node-size _ 15 0

  chunk-path : (m : Contents) (k : ℕ) → (length (siblings_of digest m k) ≡ 27) × (are_digests (siblings_of digest m k) ≡ true)
  unfolding siblings_of
  chunk-path m k =
      let along : ℕ → Digest32 = λ l. record { 0 = memory_node digest m l (beside (k / 2 ^ l)) } in
      (levels along 27, sizes along 27 (λ l. node-size _ l (beside (k / 2 ^ l))))

  chunk-range : (m : Contents) (address : Option ℕ) → is_opening_in_range (opening_at digest m address) ≡ true
  chunk-range m None = refl
  chunk-range m (Some addr) =
      let k = addr / 32 in
      let path = chunk-path m k in
      let size : length (chunk_at m k) ≡ 32 = length-map-range_with_len (λ j. byte_at m (32 * k + j)) 0 32 in
      and_from (eqb (length (chunk_at m k)) 32 && eqb (length (siblings_of digest m k)) 27) (are_digests (siblings_of digest m k))
      (and_from (eqb (length (chunk_at m k)) 32) (eqb (length (siblings_of digest m k)) 27) (is-true _ 32 size) (is-true _ 27 path.0)) path.1

  register-path : (xs : List ℕ) (r : ℕ) → (length (register_siblings digest xs r) ≡ 5) × (are_digests (register_siblings digest xs r) ≡ true)
  unfolding register_siblings
  register-path xs r =
      let along : ℕ → Digest32 = λ l. record { 0 = register_node digest xs l (beside (r / 2 ^ l)) } in
      (levels along 5, sizes along 5 (λ l. node-size _ l (beside (r / 2 ^ l))))

  each-range : (xs : List ℕ) → ((r : ℕ) → slice_index xs r < 2 ^ 32) → (rs : List ℕ) → are_openings_in_range (map (opened_register digest xs) rs) ≡ true
  each-range xs words [] = refl
  each-range xs words (r ∷ rs) =
      let path = register-path xs r in
      let value : ltb (slice_index xs r) (2 ^ 32) ≡ true = (Decides-ltb (slice_index xs r) (2 ^ 32)).1 (words r) in
      and_from (ltb (slice_index xs r) (2 ^ 32) && eqb (length (register_siblings digest xs r)) 5 && are_digests (register_siblings digest xs r)) (are_openings_in_range (map (opened_register digest xs) rs))
      (and_from (ltb (slice_index xs r) (2 ^ 32) && eqb (length (register_siblings digest xs r)) 5) (are_digests (register_siblings digest xs r))
      (and_from (ltb (slice_index xs r) (2 ^ 32)) (eqb (length (register_siblings digest xs r)) 5) value (is-true _ 5 path.0)) path.1)
      (each-range xs words rs)

  input-path : (input : List ℕ) (k : ℕ) → (length (input_siblings digest input k) ≡ 15) × (are_digests (input_siblings digest input k) ≡ true)
  unfolding input_siblings
  input-path input k =
      let along : ℕ → Digest32 = λ l. record { 0 = input_node digest input l (beside (k / 2 ^ l)) } in
      (levels along 15, sizes along 15 (λ l. node-size _ l (beside (k / 2 ^ l))))

  input-chunk-size : (input : List ℕ) (k : ℕ) → length (input_chunk input k) ≡ 32
  unfolding input_chunk
  input-chunk-size input k = length-map-range_with_len (λ i. slice_index input (32 * k + i)) 0 32

  input-range : (xs : List ℕ) (byte : Option ℕ) → is_input_in_range (input_opening_at digest xs byte) ≡ true
  input-range xs None = refl
  input-range xs (Some b) =
      let k = b / 32 in
      let path = input-path xs k in
      and_from (eqb (length (input_chunk xs k)) 32 && eqb (length (input_siblings digest xs k)) 15) (are_digests (input_siblings digest xs k))
      (and_from (eqb (length (input_chunk xs k)) 32) (eqb (length (input_siblings digest xs k)) 15) (is-true _ 32 (input-chunk-size xs k)) (is-true _ 15 path.0)) path.1

  module _ (chained : (output : List ℕ) → length (chain_of digest output) ≡ 32) (s : State) (valid : IsValid s) where
    ctl-range : is_ctl_in_range (ctl_of digest s) ≡ true
    ctl-range =
        and_from _ _ (and_from _ _ (and_from _ _ ((Decides-ltb s.pc (2 ^ 32)).1 valid.pc) ((Decides-ltb (status_code s.status) (2 ^ 32)).1 (code-fits s.status valid.status)))
        ((Decides-ltb (ctl_of digest s).out_len (2 ^ 64)).1 (length-fits s.output))) (is-true (length (chain_of digest s.output)) 32 (chained s.output))

    registers-range : (held : RegisterScheme) → are_registers_in_range (registers_opened digest held s.regs (named_at s)) ≡ true
    registers-range registers.Whole = and_from _ _ (is-true (length s.regs) 32 valid.regs.thirty_two) (words_are s.regs valid.regs.words)
    registers-range registers.Tree = and_from _ _ (is-true _ 32 (registers-size s.regs)) (each-range s.regs valid.regs.words (named_at s))

    tree-range : (held : InputScheme) → is_tree_in_range (tree_by digest held s.input) ≡ true
    tree-range input.InMemory = refl
    tree-range input.Tree =
        let short = valid.short in
        let fits : length s.input < 2 ^ 32 = omega (arith, short) in
        and_from _ _ ((Decides-ltb (length s.input) (2 ^ 32)).1 fits) (is-true _ 32 (input-size s.input))

    pub plain-in-range : facts_of (plain_proof digest s) ≡ plain_facts digest s → is_in_range (plain_proof digest s) ≡ true
    plain-in-range holds =
        ap are_facts_in_range holds
        ∙ parts-true (plain_facts digest s) (memory-size s) (tree-range (scheme_of s.version).input) (registers-range (scheme_of s.version).registers) ctl-range
        (chunk-range s.memory (fetch_of_state s)) (chunk-range s.memory (operand_of_state s)) (input-range s.input (input_of_state digest s))
