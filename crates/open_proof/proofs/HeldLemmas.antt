-- A step depends on what is opened alone.
use Rattle.std.proofs.Common.{◌≡◌, ◌≢◌, ℕ, zero, suc, ◌+◌, ◌*◌, ◌-◌, ◌/◌, ◌%◌, ◌^◌, ◌<◌, ◌≤◌, List, [], ◌∷◌, ◌++◌, length, slice_index, Option, Some, None, Bool, true, false, cond, eqb, ltb, ◌&&◌, refl, sym, ap, ◌∙◌, subst, arith, ⊎_elim, length-append}
use Rattle.std.specs.Prelude.{slice_index_or}
use Rattle.std.proofs.lemmas.Bool.{eqb-true, cases_lt, lt-ltb, le-ltb}
use Rattle.rd_base.specs.Status.{is_running}
use Rattle.rd_base.specs.Scheme.{scheme_of}
use Rattle.rd_base.specs.declared.scheme.InputScheme.{InputScheme}
use Rattle.rd_base.specs.declared.scheme.InputScheme.TheVariants as input
use Rattle.rd_base.specs.declared.status.Status.{Status}
use Rattle.rd_base.specs.declared.opened.Opening.{Opening}
use Rattle.rd_base.specs.declared.opened.InOpening.{InOpening}
use Rattle.rv_decode.specs.Reading.{reading_of}
use Rattle.rv_decode.specs.declared.instr.Instr.{Instr}
use Rattle.mem_plain.specs.Contents.{Contents, chunk_at, number_at, with_number}
use Rattle.mem_plain.specs.Page.{number_in, with_number_in}
use Rattle.digest_core.specs.Text.{leaf_text}
use Rattle.merkle_nodes.specs.Node.{digest_at}
use Rattle.merkle_nodes.specs.Opening.{opened}
use Rattle.mem_tree.specs.Memory.{memory_node}
use Rattle.rv_step.specs.State.{State}
use Rattle.rv_step.specs.Effect.{effect_with}
use Rattle.rv_step.specs.Offer.{byte_or_ones, offered}
use Rattle.rv_step.specs.NextEffect.{Seen, seen_of, address_fetched, effect_at, effect_of_word, fetched, next_effect, read_at}
use Rattle.rv_step.specs.NextNeed.{needed_by, next_need}
use Rattle.rv_step.specs.Step.{step, after_effect, after_next}
use Rattle.rv_step.specs.Parts.{needed_in, finished, Finishes, KeepsMemory, IsAccess, IsAligned}
use Rattle.rv_step.specs.declared.effect.Effect.{Effect}
use Rattle.rv_step.specs.declared.effect.Effect.TheVariants.{Write, Jump, Branch, Next, Store, Put, Exit, Trap}
use Rattle.rv_step.specs.declared.asked.Need.{Need}
use Rattle.rv_step.specs.declared.asked.Need.TheVariants as need
use Rattle.mem_tree.specs.InputTree.{input_root}
use Rattle.open_proof.specs.Held.{held_of, held_after, path_text, chunk_with}
use Rattle.open_proof.specs.Called.{address_needed}
use Rattle.open_proof.specs.OpenedChunk.{IsShown, IsShownAt, fetch_of_state}
use Rattle.open_proof.specs.Facts.{byte_needed}
use Rattle.open_proof.specs.Next.{held_by, step_held}
use Rattle.open_proof.specs.SeenHeld.{number_shown, offering, opened_byte, byte_shown, seen_held}
use Rattle.open_proof.specs.Shown.{tree_by, tree_of_state, ShowsInput}
use Rattle.open_proof.specs.LawsBelow.{StepLaws}
use Rattle.open_proof.specs.declared.facts.HeldInput.{HeldInput}

-- an address that is fetched is a multiple of 4, and lies where pc lies
abbrev pub IsWordAt : ℕ → Option ℕ → Type 0
IsWordAt pc (Some addr) = (addr % 4 ≡ 0) × (addr ≡ pc)
IsWordAt pc None = Unit {0}

pub word-fetched : (status : Status) (pc : ℕ) → IsWordAt pc (address_fetched status pc)
word-fetched status pc = go (is_running status) (eqb (pc % 4) 0) refl
  where
    go : (r b : Bool) → eqb (pc % 4) 0 ≡ b → IsWordAt pc (cond (r && b) (Some pc) None)
    go true true test = (eqb-true (pc % 4) 0 test, refl)
    go true false test = tt
    go false b test = tt

-- an access lies in one chunk
pub within : (addr width : ℕ) → IsAccess addr width → addr % 32 + width ≤ 32
within addr width access = ⊎_elim (λ one. omega arith) (λ more. ⊎_elim
    (λ two. let even : addr % 2 ≡ 0 = ap (λ w. addr % w) (sym two) ∙ access.1 in omega arith)
    (λ four. let even : addr % 4 ≡ 0 = ap (λ w. addr % w) (sym four) ∙ access.1 in omega arith) more) access.0

counted : (xs : List ℕ) (b : ℕ) → (length xs % 2 ^ 64 + 1) % 2 ^ 64 ≡ length (xs ++ b ∷ []) % 2 ^ 64
counted xs b = let long : length (xs ++ b ∷ []) ≡ length xs + 1 = length-append xs (b ∷ []) in omega arith

-- a byte that an input has, and one that it doesn't have
byte-inside : (xs : List ℕ) (k d : ℕ) → k < length xs → slice_index xs k ≡ slice_index_or xs k d
byte-inside [] k d low = absurd (omega arith)
byte-inside (x ∷ xs) zero d low = refl
byte-inside (x ∷ xs) (suc k) d low = byte-inside xs k d (omega arith)

byte-outside : (xs : List ℕ) (k d : ℕ) → length xs ≤ k → slice_index_or xs k d ≡ d
byte-outside [] k d far = refl
byte-outside (x ∷ xs) zero d far = absurd (omega arith)
byte-outside (x ∷ xs) (suc k) d far = byte-outside xs k d (omega arith)

module _ (laws : StepLaws) (digest : List ℕ → List ℕ) where
  module _ (m : Contents) (o : Opening) (addr width : ℕ) (shown : IsShown digest m o addr) (fits : addr % 32 + width ≤ 32) where
    whole : 32 * (addr / 32) + addr % 32 ≡ addr
    whole = omega arith

    pub shown-number : number_shown (Some o) addr width ≡ number_at m addr width
    shown-number =
        ap (λ bytes. number_in bytes (addr % 32) width) shown.chunk
        ∙ (laws.read m (addr / 32) (addr % 32) width fits ∙ ap (λ a. number_at m a width) whole)

    shown-stored : (value : ℕ) → addr < 2 ^ 32 → digest (path_text digest (chunk_with o addr width value) addr 27) ≡ memory_node digest (with_number m addr width value) 27 0
    shown-stored value low =
        let after = with_number m addr width value in
        let stored : with_number_in o.chunk (addr % 32) width value ≡ chunk_at after (addr / 32) =
        ap (λ bytes. with_number_in bytes (addr % 32) width value) shown.chunk
        ∙ (laws.stored m (addr / 32) (addr % 32) width value fits ∙ ap (λ a. chunk_at (with_number m a width value) (addr / 32)) whole) in
        let elsewhere : (j : ℕ) → j ≢ addr / 32 → chunk_at m j ≡ chunk_at after j =
        λ j apart. sym (ap (λ a. chunk_at (with_number m a width value) j) (sym whole) ∙ laws.elsewhere m (addr / 32) (addr % 32) width value j fits apart) in
        let top : addr / 32 / 2 ^ 27 ≡ 0 = omega arith in
        ap (λ bytes. digest (opened digest (leaf_text bytes) (digest_at o.path.0) 27 (addr / 32))) stored
        ∙ (laws.changed digest m after (digest_at o.path.0) 27 (addr / 32) elsewhere shown.path ∙ ap (memory_node digest after 27) top)

  -- the instruction that is fetched
  read-same : (m : Contents) (chunk : Option Opening) (pc : ℕ) (address : Option ℕ) → IsWordAt pc address → IsShownAt digest m chunk address
      → read_at (λ addr. number_shown chunk addr 4) address ≡ read_at (λ addr. number_at m addr 4) address
  read-same m (Some o) pc (Some addr) word shown =
      let even : addr % 4 ≡ 0 = word.0 in
      ap reading_of (shown-number m o addr 4 shown (omega arith))
  read-same m None pc (Some addr) word shown = absurd shown
  read-same m (Some o) pc None word shown = refl
  read-same m None pc None word shown = refl

  pub fetched-same : (s : State) (chunk : Option Opening) → IsShownAt digest s.memory chunk (fetch_of_state s)
      → read_at (λ addr. number_shown chunk addr 4) (fetch_of_state s) ≡ fetched (seen_of s)
  fetched-same s chunk shown = read-same s.memory chunk s.pc (fetch_of_state s) (word-fetched s.status s.pc) shown

  -- an effect that keeps memory
  held-kept : (operand : Option Opening) (s : State) (e : Effect) → KeepsMemory e → held_after digest operand (held_of digest s) e ≡ held_of digest (after_effect s e)
  held-kept (Some o) s (Write rd value) kept = refl
  held-kept (Some o) s (Jump rd target) kept = refl
  held-kept (Some o) s (Branch target) kept = refl
  held-kept (Some o) s Next kept = refl
  held-kept (Some o) s (Store addr width value) kept = absurd kept
  held-kept (Some o) s (Put byte) kept = rw (counted s.output byte, sym (laws.more digest s.output byte)) refl
  held-kept (Some o) s (Exit code) kept = refl
  held-kept (Some o) s (Trap code) kept = refl
  held-kept None s (Write rd value) kept = refl
  held-kept None s (Jump rd target) kept = refl
  held-kept None s (Branch target) kept = refl
  held-kept None s Next kept = refl
  held-kept None s (Store addr width value) kept = absurd kept
  held-kept None s (Put byte) kept = rw (counted s.output byte, sym (laws.more digest s.output byte)) refl
  held-kept None s (Exit code) kept = refl
  held-kept None s (Trap code) kept = refl

  -- an effect by what it needs, on what is opened: e is the state's, and f the one that is shown
  held-met : (operand : Option Opening) (s : State) (e f : Effect) (finish : ℕ → Effect) (read : ℕ → ℕ → ℕ) (byte other : ℕ → ℕ) (n : Need)
      → ((addr width : ℕ) → read addr width ≡ number_at s.memory addr width) → IsAligned n → IsShownAt digest s.memory operand (address_needed n)
      → ((k : ℕ) → n ≡ need.Input k → other k ≡ byte k) → Finishes e finish read byte n → Finishes f finish (number_shown operand) other n
      → held_after digest operand (held_of digest s) f ≡ held_of digest (after_effect s e)
  held-met operand s e f finish read byte other need.Nothing reads access shown bytes met meets =
      ap (held_after digest operand (held_of digest s)) (meets.0 0 ∙ sym (met.0 0)) ∙ held-kept operand s e met.1
  held-met None s e f finish read byte other (need.Load addr width) reads access shown bytes met meets = absurd shown
  held-met (Some o) s e f finish read byte other (need.Load addr width) reads access shown bytes met meets =
      let number = shown-number s.memory o addr width shown (within addr width access) ∙ sym (reads addr width) in
      ap (held_after digest (Some o) (held_of digest s)) (meets.0 ∙ (ap finish number ∙ sym met.0)) ∙ held-kept (Some o) s e met.1
  held-met None s e f finish read byte other (need.Store addr width value) reads access shown bytes met meets = absurd shown
  held-met (Some o) s e f finish read byte other (need.Store addr width value) reads access shown bytes met meets =
      ap (held_after digest (Some o) (held_of digest s)) meets.0
      ∙ (ap (λ memory. record (held_after digest (Some o) (held_of digest s) (Store addr width value)) { mem = memory })
      (shown-stored s.memory o addr width shown (within addr width access) value access.2)
      ∙ ap (λ e'. held_of digest (after_effect s e')) (sym met.0))
  held-met operand s e f finish read byte other (need.Input index) reads access shown bytes met meets =
      ap (held_after digest operand (held_of digest s)) (meets.0 ∙ (ap finish (bytes index refl) ∙ sym met.0)) ∙ held-kept operand s e met.1
  held-met operand s e f finish read byte other (need.Trap code) reads access shown bytes met meets =
      ap (held_after digest operand (held_of digest s)) meets
      ∙ (held-kept operand s (Trap code) tt ∙ ap (λ e'. held_of digest (after_effect s e')) (sym met))

  -- a byte of the input, as far as it is shown
  shown-byte : (input : List ℕ) (t : HeldInput) (chunk : Option InOpening) (k : ℕ) → t.len ≡ length input → ShowsInput digest input chunk (byte_needed (Some t) (need.Input k))
      → byte_shown (Some t) chunk k ≡ byte_or_ones input k
  shown-byte input t chunk k len shown = ⊎_elim
      (λ low. inside chunk (lt-ltb k t.len low) low (subst (ShowsInput digest input chunk) (ap (λ b. cond b (Some k) None) (lt-ltb k t.len low)) shown))
      (λ high. ap (λ b. cond b (opened_byte chunk k) (2 ^ 32 - 1)) (le-ltb k t.len high) ∙ sym (byte-outside input k (2 ^ 32 - 1) (omega arith)))
      (cases_lt k t.len)
    where
      inside : (chunk : Option InOpening) → ltb k t.len ≡ true → k < t.len → ShowsInput digest input chunk (Some k) → byte_shown (Some t) chunk k ≡ byte_or_ones input k
      inside None test low shown = absurd shown
      inside (Some o) test low shown =
          let whole : 32 * (k / 32) + k % 32 ≡ k = omega arith in
          ap (λ b. cond b (slice_index o.chunk (k % 32)) (2 ^ 32 - 1)) test
          ∙ (ap (λ (c : List ℕ). slice_index c (k % 32)) shown.0
          ∙ (laws.input_byte input (k / 32) (k % 32) (omega arith) ∙ (ap (slice_index input) whole ∙ byte-inside input k (2 ^ 32 - 1) (omega arith))))

  -- what is held after an instruction
  held-instr : (operand : Option Opening) (chunk : Option InOpening) (s : State) (i : Instr) → IsShownAt digest s.memory operand (address_needed (needed_in (scheme_of s.version).input s.regs i))
      → ShowsInput digest s.input chunk (byte_needed (tree_of_state digest s) (needed_in (scheme_of s.version).input s.regs i))
      → held_after digest operand (held_of digest s) (effect_with (offered (offering (tree_of_state digest s)) (byte_shown (tree_of_state digest s) chunk)) s.regs s.pc (number_shown operand) i) ≡ held_of digest (after_effect s (effect_at s i))
  held-instr operand chunk s i = go (scheme_of s.version).input
    where
      read : ℕ → ℕ → ℕ
      read addr width = number_at s.memory addr width

      go : (held : InputScheme) → IsShownAt digest s.memory operand (address_needed (needed_in held s.regs i)) → ShowsInput digest s.input chunk (byte_needed (tree_by digest held s.input) (needed_in held s.regs i))
          → held_after digest operand (held_of digest s) (effect_with (offered (offering (tree_by digest held s.input)) (byte_shown (tree_by digest held s.input) chunk)) s.regs s.pc (number_shown operand) i)
          ≡ held_of digest (after_effect s (effect_with (offered held (byte_or_ones s.input)) s.regs s.pc read i))
      go input.Tree shown shows =
          let t : HeldInput = record { len = length s.input; root = record { 0 = input_root digest s.input } } in
          held-met operand s _ _ (λ loaded. finished s.regs s.pc loaded i) read (byte_or_ones s.input) (byte_shown (Some t) chunk) (needed_in input.Tree s.regs i) (λ addr width. refl) (laws.aligned input.Tree s.regs i) shown
          (λ k is. shown-byte s.input t chunk k refl (subst (λ n. ShowsInput digest s.input chunk (byte_needed (Some t) n)) is shows))
          (laws.any_offer input.Tree (byte_or_ones s.input) s.regs s.pc read i) (laws.any_offer input.Tree (byte_shown (Some t) chunk) s.regs s.pc (number_shown operand) i)
      go input.InMemory shown shows =
          held-met operand s _ _ (λ loaded. finished s.regs s.pc loaded i) read (byte_shown None chunk) (byte_shown None chunk) (needed_in input.InMemory s.regs i) (λ addr width. refl) (laws.aligned input.InMemory s.regs i) shown
          (λ k is. refl)
          (laws.any_offer input.InMemory (byte_shown None chunk) s.regs s.pc read i) (laws.any_offer input.InMemory (byte_shown None chunk) s.regs s.pc (number_shown operand) i)

  held-word : (fetch operand : Option Opening) (chunk : Option InOpening) (s : State) (o : Option Instr) → IsShownAt digest s.memory operand (address_needed (needed_by (scheme_of s.version).input s.regs o))
      → ShowsInput digest s.input chunk (byte_needed (tree_of_state digest s) (needed_by (scheme_of s.version).input s.regs o))
      → held_after digest operand (held_of digest s) (effect_of_word (seen_held fetch operand (tree_of_state digest s) chunk (held_of digest s)) o) ≡ held_of digest (after_effect s (effect_of_word (seen_of s) o))
  held-word fetch operand chunk s None shown shows = held-kept operand s (Trap 2) tt
  held-word fetch operand chunk s (Some i) shown shows = held-instr operand chunk s i shown shows

  -- what is held after a step is the step on what is held
  pub held-step : (fetch operand : Option Opening) (chunk : Option InOpening) (s : State) → IsShownAt digest s.memory fetch (fetch_of_state s)
      → IsShownAt digest s.memory operand (address_needed (next_need (seen_of s))) → ShowsInput digest s.input chunk (byte_needed (tree_of_state digest s) (next_need (seen_of s)))
      → step_held digest fetch operand (tree_of_state digest s) chunk (held_of digest s) ≡ held_of digest (step s)
  unfolding step next_effect
  held-step fetch operand chunk s = go (is_running s.status) (eqb (s.pc % 4) 0) fetch refl
    where
      need_at : Option ℕ → Need
      need_at address = needed_by (scheme_of s.version).input s.regs (read_at (λ addr. number_at s.memory addr 4) address)

      seen : Option Opening → Seen
      seen f = seen_held f operand (tree_of_state digest s) chunk (held_of digest s)

      go : (r b : Bool) (f : Option Opening) → eqb (s.pc % 4) 0 ≡ b → IsShownAt digest s.memory f (cond (r && b) (Some s.pc) None)
          → IsShownAt digest s.memory operand (address_needed (need_at (cond (r && b) (Some s.pc) None)))
          → ShowsInput digest s.input chunk (byte_needed (tree_of_state digest s) (need_at (cond (r && b) (Some s.pc) None)))
          → held_by digest operand (held_of digest s) (cond r (Some (cond b (effect_of_word (seen f) (reading_of (number_shown f s.pc 4))) (Trap 0))) None)
          ≡ held_of digest (after_next s (cond r (Some (cond b (effect_of_word (seen_of s) (reading_of (number_at s.memory s.pc 4))) (Trap 0))) None))
      go true true (Some f) test fetched shown shows =
          let multiple : s.pc % 4 ≡ 0 = eqb-true (s.pc % 4) 0 test in
          ap (λ n. held_after digest operand (held_of digest s) (effect_of_word (seen (Some f)) (reading_of n))) (shown-number s.memory f s.pc 4 fetched (omega arith))
          ∙ held-word (Some f) operand chunk s (reading_of (number_at s.memory s.pc 4)) shown shows
      go true true None test fetched shown shows = absurd fetched
      go true false f test fetched shown shows = held-kept operand s (Trap 0) tt
      go false b f test fetched shown shows = refl
