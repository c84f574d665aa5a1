-- Two valid states with one root are the same in all that it commits to, or two different strings of them have one digest.
use Rattle.std.proofs.Common.{◌≡◌, ℕ, zero, suc, ◌+◌, ◌*◌, ◌/◌, ◌%◌, ◌^◌, ◌<◌, ◌≤◌, ◌⊎◌, inl, inr, List, [], ◌∷◌, length, slice_index, refl, sym, ap, ◌∙◌, arith, ⊎_elim}
use Rattle.std.proofs.lemmas.List.FromFn.{get_or-map-range_with_len}
use Rattle.mem_plain.specs.Contents.{Contents, byte_at, chunk_at, with_byte, tabulated}
use Rattle.mem_plain.specs.Memory.{IsMemory}
use Rattle.digest_core.specs.Text.{status_code, registers_text}
use Rattle.digest_core.specs.TextLaws.{cons_parts, control_text_same, registers_text_same, register_text_same, state_text_same, storage_text_same}
use Rattle.digest_core.specs.Chain.{chain_of}
use Rattle.rd_base.specs.Scheme.{scheme_of}
use Rattle.rd_base.specs.declared.scheme.InputScheme.{InputScheme}
use Rattle.rd_base.specs.declared.scheme.InputScheme.TheVariants as input
use Rattle.rd_base.specs.declared.scheme.RegisterScheme.{RegisterScheme}
use Rattle.rd_base.specs.declared.scheme.RegisterScheme.TheVariants as registers
use Rattle.rd_base.specs.declared.scheme.Scheme.{Scheme}
use Rattle.rd_base.specs.declared.status.Status.{Status}
use Rattle.rd_base.specs.declared.status.Status.TheVariants.{Running, Exited, Trapped}
use Rattle.merkle_nodes.specs.Node.{node}
use Rattle.merkle_nodes.specs.Split.{IsSplit}
use Rattle.merkle_nodes.specs.TreeStrings.{TreesSplit}
use Rattle.out_chain.specs.Root.{control_text_of}
use Rattle.out_chain.specs.Collision.{LinksSplit}
use Rattle.rv_step.specs.Loaded.{beside_memory}
use Rattle.rv_step.specs.State.{State}
use Rattle.rd_base.specs.Status.{HasWordCode}
use Rattle.rv_step.specs.Valid.{IsValid}
use Rattle.mem_tree.specs.Memory.{memory_leaf}
use Rattle.mem_tree.specs.RegisterTree.{register_leaf, registers_root}
use Rattle.mem_tree.specs.InputTree.{input_chunk, input_leaf, input_root}
use Rattle.state_commit.specs.StateRoot.{ctl_of, memory_digest, registers_by, registers_digest, storage_of, storage_by, storage_digest, state_text_in, root_in}
use Rattle.state_commit.specs.Strings.{IsStringIn}
use Rattle.state_commit.specs.Strings.IsStringIn.{is_state, is_control, is_memory, is_link, is_registers, is_register, is_storage, is_input}
use Rattle.state_commit.specs.Binding.{committed_part, StatesSplit}

-- the laws of the crates below, as they state them
abbrev pub TreeLaw : Type 0
TreeLaw = (digest : List ℕ → List ℕ) → ((bytes : List ℕ) → length (digest bytes) ≡ 32) → (leaf other : ℕ → List ℕ) (n : ℕ) →
    node digest leaf n 0 ≡ node digest other n 0 → ((k : ℕ) → k < 2 ^ n → leaf k ≡ other k) ⊎ TreesSplit digest leaf other n

abbrev pub StringLaw : Type 0
StringLaw = (digest : List ℕ → List ℕ) (x y : List ℕ) → digest x ≡ digest y → (x ≡ y) ⊎ IsSplit digest x y

abbrev pub ChainLaw : Type 0
ChainLaw = (digest : List ℕ → List ℕ) → ((bytes : List ℕ) → length (digest bytes) ≡ 32) → (xs ys : List ℕ) → length xs ≡ length ys →
    chain_of digest xs ≡ chain_of digest ys →
    (xs ≡ ys) ⊎ LinksSplit digest xs ys

-- contents whose bytes are the same, place by place
tabulated-same : (f h : ℕ → ℕ) (n : ℕ) → ((a : ℕ) → a < n → f a ≡ h a) → tabulated f n ≡ tabulated h n
unfolding tabulated
tabulated-same f h zero same = refl
tabulated-same f h (suc n) same = ap (λ m. with_byte m n (f n)) (tabulated-same f h n (λ a low. same a (omega arith))) ∙ ap (with_byte (tabulated h n) n) (same n (omega arith))

lists-same : (xs ys : List ℕ) → length xs ≡ length ys → ((i : ℕ) → i < length xs → slice_index xs i ≡ slice_index ys i) → xs ≡ ys
lists-same [] [] size same = refl
lists-same [] (y ∷ ys) size same = absurd (omega arith)
lists-same (x ∷ xs) [] size same = absurd (omega arith)
lists-same (x ∷ xs) (y ∷ ys) size same =
    let head : x ≡ y = same 0 (omega arith) in
    let tail = lists-same xs ys (omega arith) (λ i low. same (suc i) (omega arith)) in
    ap (λ z. z ∷ xs) head ∙ ap (λ zs. y ∷ zs) tail

chunk-byte : (m : Contents) (k place : ℕ) → place < 32 → slice_index (chunk_at m k) place ≡ byte_at m (32 * k + place)
chunk-byte m k place low = get_or-map-range_with_len (λ i. byte_at m (32 * k + i)) 0 32 place place 0 low (omega arith)

memory-same : (m n : Contents) → IsMemory m → IsMemory n → ((k : ℕ) → k < 2 ^ 27 → memory_leaf m k ≡ memory_leaf n k) → m ≡ n
unfolding memory_leaf
memory-same m n is_m is_n leaves = sym is_m.whole ∙ (tabulated-same (byte_at m) (byte_at n) (2 ^ 32) byte ∙ is_n.whole)
  where
    byte : (a : ℕ) → a < 2 ^ 32 → byte_at m a ≡ byte_at n a
    byte a low =
        let k = a / 32 in
        let at : 32 * k + a % 32 ≡ a = omega arith in
        let place : a % 32 < 32 = omega arith in
        let chunks : chunk_at m k ≡ chunk_at n k = (cons_parts 0 0 _ _ (leaves k (omega arith))).1 in
        ap (byte_at m) (sym at) ∙ (sym (chunk-byte m k (a % 32) place) ∙ (ap (λ (c : List ℕ). slice_index c (a % 32)) chunks ∙ (chunk-byte n k (a % 32) place ∙ ap (byte_at n) at)))

input-byte : (input : List ℕ) (k place : ℕ) → place < 32 → slice_index (input_chunk input k) place ≡ slice_index input (32 * k + place)
unfolding input_chunk
input-byte input k place low = get_or-map-range_with_len (λ i. slice_index input (32 * k + i)) 0 32 place place 0 low (omega arith)

input-same : (xs ys : List ℕ) → length xs ≤ 1048576 → length xs ≡ length ys → ((k : ℕ) → k < 2 ^ 15 → input_leaf xs k ≡ input_leaf ys k) → xs ≡ ys
input-same xs ys short size leaves = lists-same xs ys size byte
  where
    byte : (a : ℕ) → a < length xs → slice_index xs a ≡ slice_index ys a
    byte a low =
        let k = a / 32 in
        let at : 32 * k + a % 32 ≡ a = omega arith in
        let place : a % 32 < 32 = omega arith in
        let chunks : input_chunk xs k ≡ input_chunk ys k = (cons_parts 0 0 _ _ (leaves k (omega arith))).1 in
        ap (slice_index xs) (sym at) ∙ (sym (input-byte xs k (a % 32) place) ∙ (ap (λ (c : List ℕ). slice_index c (a % 32)) chunks ∙ (input-byte ys k (a % 32) place ∙ ap (slice_index ys) at)))

registers-same : (xs ys : List ℕ) → length xs ≡ 32 → length ys ≡ 32 → ((r : ℕ) → slice_index xs r < 2 ^ 32) → ((r : ℕ) → slice_index ys r < 2 ^ 32)
    → ((r : ℕ) → r < 2 ^ 5 → register_leaf xs r ≡ register_leaf ys r) → xs ≡ ys
unfolding register_leaf
registers-same xs ys size other words others leaves =
    lists-same xs ys (size ∙ sym other) (λ r low. register_text_same (slice_index xs r) (slice_index ys r) (words r) (others r) (leaves r (omega arith)))

code-fits : (s : Status) → HasWordCode s → status_code s < 2 ^ 32
code-fits Running word = omega arith
code-fits (Exited code) word = word
code-fits (Trapped code) word = word

-- a digest has 32 bytes, whichever of two it is
module _ (digest : List ℕ → List ℕ) (is_digest : (bytes : List ℕ) → length (digest bytes) ≡ 32) where
  node-size : (leaf : ℕ → List ℕ) (l k : ℕ) → length (node digest leaf l k) ≡ 32
  unfolding node
  node-size leaf zero k = is_digest _
  node-size leaf (suc l) k = is_digest _

  registers-size : (held : RegisterScheme) (xs : List ℕ) → length (registers_by digest held xs) ≡ 32
  registers-size registers.Whole xs = is_digest _
  registers-size registers.Tree xs = node-size (register_leaf xs) 5 0

  memory-size : (s : State) → length (memory_digest digest s) ≡ 32
  memory-size s = node-size (memory_leaf s.memory) 27 0

  storage-size : (held : InputScheme) (s : State) → length (storage_by digest held (memory_digest digest s) (length s.input) (input_root digest s.input)) ≡ 32
  storage-size input.InMemory s = memory-size s
  storage-size input.Tree s = is_digest _

-- one of two, and what follows from it, or a split
and-then : {A B C : Type 0} → A ⊎ C → (A → B ⊎ C) → B ⊎ C
and-then first next = ⊎_elim next (λ split. inr split) first

module _ (trees : TreeLaw) (strings : StringLaw) (chains : ChainLaw) (digest : List ℕ → List ℕ) (is_digest : (bytes : List ℕ) → length (digest bytes) ≡ 32)
    (s t : State) (s_valid : IsValid s) (t_valid : IsValid t) (one_version : s.version ≡ t.version) (s_short : length s.output < 2 ^ 64) (t_short : length t.output < 2 ^ 64) where
  -- strings of both states with one digest are one, or split
  strings-bind : (x y : List ℕ) → IsStringIn digest s.version s x → IsStringIn digest t.version t y → digest x ≡ digest y → (x ≡ y) ⊎ StatesSplit digest s t
  strings-bind x y of_x of_y one = ⊎_elim (λ same. inl same) (λ split. inr (record { first = x; second = y; of_first = of_x; of_second = of_y; split = split })) (strings digest x y one)

  trees-bind : (leaf other : ℕ → List ℕ) (n : ℕ) → ((split : TreesSplit digest leaf other n) → IsStringIn digest s.version s split.first × IsStringIn digest t.version t split.second)
      → node digest leaf n 0 ≡ node digest other n 0 → ((k : ℕ) → k < 2 ^ n → leaf k ≡ other k) ⊎ StatesSplit digest s t
  trees-bind leaf other n are one = ⊎_elim
      (λ same. inl same)
      (λ split. inr (record { first = split.first; second = split.second; of_first = (are split).0; of_second = (are split).1; split = split.split }))
      (trees digest is_digest leaf other n one)

  output-bound : length s.output ≡ length t.output → chain_of digest s.output ≡ chain_of digest t.output → (s.output ≡ t.output) ⊎ StatesSplit digest s t
  output-bound size one = ⊎_elim
      (λ same. inl same)
      (λ split. inr (record {
        first = split.first;
        second = split.second;
        of_first = is_link split.of_first;
        of_second = is_link split.of_second;
        split = record { differ = split.differ; agree = split.one_digest };
      }))
      (chains digest is_digest s.output t.output size one)

  memory-bound : memory_digest digest s ≡ memory_digest digest t → (s.memory ≡ t.memory) ⊎ StatesSplit digest s t
  memory-bound one = and-then
      (trees-bind (memory_leaf s.memory) (memory_leaf t.memory) 27 (λ split. (is_memory split.of_first, is_memory split.of_second)) one)
      (λ leaves. inl (memory-same s.memory t.memory s_valid.memory t_valid.memory leaves))

  registers-bound : (held : RegisterScheme) → (scheme_of s.version).registers ≡ held → (scheme_of t.version).registers ≡ held
      → registers_by digest held s.regs ≡ registers_by digest held t.regs → (s.regs ≡ t.regs) ⊎ StatesSplit digest s t
  registers-bound registers.Whole is other one = and-then
      (strings-bind (registers_text s.regs) (registers_text t.regs) (is_registers is refl) (is_registers other refl) one)
      (λ same. inl (registers_text_same s.regs t.regs s_valid.regs.words t_valid.regs.words same))
  registers-bound registers.Tree is other one = and-then
      (trees-bind (register_leaf s.regs) (register_leaf t.regs) 5 (λ split. (is_register is split.of_first, is_register other split.of_second)) one)
      (λ leaves. inl (registers-same s.regs t.regs s_valid.regs.thirty_two t_valid.regs.thirty_two s_valid.regs.words t_valid.regs.words leaves))

  -- memory, and of the input what is beside it
  storage-bound : (held : InputScheme) → (scheme_of s.version).input ≡ held → (scheme_of t.version).input ≡ held
      → storage_by digest held (memory_digest digest s) (length s.input) (input_root digest s.input) ≡ storage_by digest held (memory_digest digest t) (length t.input) (input_root digest t.input)
      → ((s.memory ≡ t.memory) × (beside_memory held s.input ≡ beside_memory held t.input)) ⊎ StatesSplit digest s t
  storage-bound input.InMemory is other one = and-then (memory-bound one) (λ memory. inl (memory, refl))
  storage-bound input.Tree is other one = and-then
      (strings-bind (storage_of digest s) (storage_of digest t) (is_storage is refl) (is_storage other refl) one)
      (λ same.
      let s_length = s_valid.short in
      let t_length = t_valid.short in
      let parts = storage_text_same (memory_digest digest s) (memory_digest digest t) _ _ (length s.input) (length t.input)
      (memory-size digest is_digest s ∙ sym (memory-size digest is_digest t)) (omega arith) (omega arith) same in
      and-then (memory-bound parts.0) (λ memory.
      and-then
      (trees-bind (input_leaf s.input) (input_leaf t.input) 15 (λ split. (is_input is split.of_first, is_input other split.of_second)) parts.2)
      (λ leaves. inl (memory, input-same s.input t.input s_valid.short parts.1 leaves))))

  control-bound : digest (control_text_of (ctl_of digest s)) ≡ digest (control_text_of (ctl_of digest t))
      → ((s.pc ≡ t.pc) × (s.status ≡ t.status) × (length s.output ≡ length t.output) × (chain_of digest s.output ≡ chain_of digest t.output)) ⊎ StatesSplit digest s t
  control-bound one = and-then
      (strings-bind (control_text_of (ctl_of digest s)) (control_text_of (ctl_of digest t)) (is_control refl) (is_control refl) one)
      (λ same.
      let parts = control_text_same s.pc t.pc s.status t.status (length s.output % 2 ^ 64) (length t.output % 2 ^ 64) (chain_of digest s.output) (chain_of digest t.output)
      s_valid.pc t_valid.pc (code-fits s.status s_valid.status) (code-fits t.status t_valid.status) (omega arith) (omega arith) same in
      let remainders = parts.2 in
      inl (parts.0, parts.1, omega arith, parts.3))

  pub bound : root_in digest s.version s ≡ root_in digest t.version t → (committed_part s ≡ committed_part t) ⊎ StatesSplit digest s t
  bound one = and-then (strings-bind (state_text_in digest s.version s) (state_text_in digest t.version t) (is_state refl) (is_state refl) one) (λ texts.
      let held = ap scheme_of (sym one_version) in
      let input_held = ap (λ (v : Scheme). v.input) held in
      let registers_held = ap (λ (v : Scheme). v.registers) held in
      let parts = state_text_same (storage_digest digest s.version s) (registers_digest digest s.version s.regs) (digest (control_text_of (ctl_of digest s)))
      (storage_digest digest t.version t) (registers_digest digest t.version t.regs) (digest (control_text_of (ctl_of digest t)))
      (storage-size digest is_digest (scheme_of s.version).input s ∙ sym (storage-size digest is_digest (scheme_of t.version).input t))
      (registers-size digest is_digest (scheme_of s.version).registers s.regs ∙ sym (registers-size digest is_digest (scheme_of t.version).registers t.regs)) (cons_parts 4 4 _ _ texts).1 in
      and-then (storage-bound (scheme_of s.version).input refl input_held (parts.0 ∙ ap (λ v. storage_by digest v (memory_digest digest t) (length t.input) (input_root digest t.input)) input_held)) (λ (memory, input).
      and-then (registers-bound (scheme_of s.version).registers refl registers_held (parts.1 ∙ ap (λ v. registers_by digest v t.regs) registers_held)) (λ regs.
      and-then (control-bound parts.2) (λ (pc, status, size, chain).
      and-then (output-bound size chain) (λ output.
      let beside = input ∙ ap (λ v. beside_memory v t.input) (sym input_held) in
      inl (λ i. record { regs = regs i; pc = pc i; memory = memory i; status = status i; output = output i; version = one_version i; input = beside i }))))))
