-- A proof that leads from the root of a state shows the state, or a string that it opens and a different string of the state have one
-- digest; and the plain proof shows the state.
use Rattle.std.proofs.Common.{◌≡◌, ◌≢◌, ℕ, zero, suc, ◌/◌, ◌^◌, ◌<◌, ◌≤◌, ◌⊎◌, inl, inr, List, [], ◌∷◌, map, length, Option, Some, None, is_some, ltb, cond, Bool, true, false, Contains, refl, sym, ap, subst, ◌∙◌, arith, ⊎_elim}
use Rattle.std.proofs.lemmas.Bool.{ltb-true}
use Rattle.std.proofs.lemmas.List.Elements.{Contains-append_left, Contains-append_right}
use Rattle.std.proofs.lemmas.List.FromFn.{get_or-map-range_with_len}
use Rattle.rd_base.specs.Scheme.{scheme_of}
use Rattle.rd_base.specs.declared.scheme.InputScheme.{InputScheme}
use Rattle.rd_base.specs.declared.scheme.InputScheme.TheVariants as input
use Rattle.rd_base.specs.declared.scheme.RegisterScheme.{RegisterScheme}
use Rattle.rd_base.specs.declared.scheme.RegisterScheme.TheVariants as registers
use Rattle.rd_base.specs.declared.status.Ctl.{Ctl}
use Rattle.rd_base.specs.declared.digest.Digest32.{Digest32}
use Rattle.rd_base.specs.declared.proof.Proof.{Proof}
use Rattle.rd_base.specs.declared.proof.Proof.TheVariants.{V1, V2, V3}
use Rattle.rd_base.specs.declared.status.Status.{Status}
use Rattle.rd_base.specs.declared.status.Status.TheVariants.{Running, Exited, Trapped}
use Rattle.rv_decode.specs.declared.instr.Instr.{Instr}
use Rattle.digest_core.specs.Text.{registers_text, storage_text, status_code}
use Rattle.digest_core.specs.TextLaws.{cons_parts, registers_text_same, control_text_same, state_text_same, storage_text_same}
use Rattle.merkle_nodes.specs.Node.{beside, digest_at}
use Rattle.merkle_nodes.specs.Split.{IsSplit}
use Rattle.mem_tree.specs.Memory.{memory_leaf, memory_node}
use Rattle.out_chain.specs.Root.{control_text_of, parts_text}
use Rattle.out_chain.specs.ClaimLaws.{contains-head, contains-tail}
use Rattle.rv_step.specs.Alike.{named_at}
use Rattle.rv_step.specs.Named.{named_by}
use Rattle.rv_step.specs.Parts.{needed_in, IsAligned}
use Rattle.rv_step.specs.State.{State}
use Rattle.rv_step.specs.Step.{step}
use Rattle.rd_base.specs.Status.{HasWordCode}
use Rattle.rv_step.specs.Valid.{IsValid}
use Rattle.rv_step.specs.declared.asked.Need.{Need}
use Rattle.rv_step.specs.declared.asked.Need.TheVariants as need
use Rattle.rv_step.specs.Fetching.{fetch_address}
use Rattle.rv_step.specs.NextEffect.{seen_of, fetched}
use Rattle.rv_step.specs.NextNeed.{needed_by, next_need}
use Rattle.state_commit.specs.StateRoot.{ctl_of, memory_digest, registers_by, registers_digest, storage_of, storage_by, storage_digest, state_text_in, root_in}
use Rattle.state_commit.specs.Strings.{IsStringIn}
use Rattle.state_commit.specs.Strings.IsStringIn.{is_state, is_control, is_memory, is_registers, is_register, is_storage, is_input}
use Rattle.mem_tree.specs.RegisterTree.{register_leaf, register_node, registers_root}
use Rattle.mem_tree.specs.InputTree.{input_node, input_root}
use Rattle.open_proof.specs.Called.{address_needed}
use Rattle.open_proof.specs.OpenedChunk.{IsShownAt, opening_at, siblings_of, fetch_of_state}
use Rattle.open_proof.specs.Conditions.{AllHold, LeadsFrom, conditions}
use Rattle.open_proof.specs.Facts.{facts_of, proof_of, fetched_of, named_called, file_shown, file_of_facts, needed_of, operand_called, byte_needed, input_called}
use Rattle.open_proof.specs.InRange.{is_in_range}
use Rattle.open_proof.specs.SeenHeld.{offering}
use Rattle.open_proof.specs.Next.{storage_texts, storage_held, registers_held, text_before, root_before}
use Rattle.open_proof.specs.Openings.{AreCounted, fetch_ways, named_ways, operand_ways, read_ways, register_ways, input_ways}
use Rattle.open_proof.specs.PlainProof.{register_siblings, opened_register, input_siblings, input_opening_at, registers_opened, plain_facts, plain_proof}
use Rattle.open_proof.specs.RangeLaws.{FactsRange, TreeRange, RegistersRange, facts-range}
use Rattle.open_proof.specs.Shown.{tree_by, tree_of_state, operand_of_state, input_of_state, AreShown, ShowsRegisters, ShowsInput, ShowsState}
use Rattle.open_proof.specs.StateCollision.{IsStateCollision}
use Rattle.open_proof.specs.Strings.{registers_texts, part_texts, opened_by_facts}
use Rattle.open_proof.specs.Ways.{WaysOpen, ways_texts}
use Rattle.open_proof.specs.LawsBelow.{StepLaws, RegisterLaws, TreeLaws}
use Rattle.open_proof.specs.declared.facts.Facts.{Facts}
use Rattle.open_proof.specs.declared.facts.HeldInput.{HeldInput}
use Rattle.open_proof.specs.declared.facts.HeldRegisters.{HeldRegisters}
use Rattle.open_proof.specs.declared.facts.HeldRegisters.TheVariants.{Whole, Opened}
use Rattle.open_proof.proofs.HeldLemmas.{IsWordAt, word-fetched}
use Rattle.open_proof.proofs.LeadLemmas.{offers-as-held, storage-same, shown-word, names-low, need-shown, shown-leads}
use Rattle.open_proof.proofs.WayLemmas.{IsLowAt, same-or-split, node-size, chunk-or-found, registers-or-found, input-or-found, shown-chunk-opens, shown-registers-open, shown-input-opens}

-- a proof holds registers and input as its version has them
abbrev HeldAs : ℕ → HeldRegisters → Type 0
HeldAs version (Whole xs) = (scheme_of version).registers ≡ registers.Whole
HeldAs version (Opened root named) = (scheme_of version).registers ≡ registers.Tree

abbrev TreeAs : ℕ → Option HeldInput → Type 0
TreeAs version (Some t) = (scheme_of version).input ≡ input.Tree
TreeAs version None = (scheme_of version).input ≡ input.InMemory

held-as : (proof : Proof) → HeldAs (facts_of proof).version (facts_of proof).regs × TreeAs (facts_of proof).version (facts_of proof).input_tree
held-as (V1 p) = (refl, refl)
held-as (V2 p) = (refl, refl)
held-as (V3 p) = (refl, refl)

-- what is needed is below 2^32, and a byte that is needed one of the input's
low-needed : (n : Need) → IsAligned n → IsLowAt (2 ^ 32) (address_needed n)
low-needed need.Nothing access = tt
low-needed (need.Load addr width) access = access.2
low-needed (need.Store addr width value) access = access.2
low-needed (need.Input index) access = tt
low-needed (need.Trap code) access = tt

low-operand : StepLaws → (held : InputScheme) (xs : List ℕ) (o : Option Instr) → IsLowAt (2 ^ 32) (address_needed (needed_by held xs o))
low-operand steps held xs None = tt
low-operand steps held xs (Some i) = low-needed (needed_in held xs i) (steps.aligned held xs i)

low-byte : (tree : Option HeldInput) (n : Need) → ((t : HeldInput) → tree ≡ Some t → t.len ≤ 1048576) → IsLowAt (2 ^ 20) (byte_needed tree n)
low-byte None n short = tt
low-byte (Some t) need.Nothing short = tt
low-byte (Some t) (need.Load addr width) short = tt
low-byte (Some t) (need.Store addr width value) short = tt
low-byte (Some t) (need.Trap code) short = tt
low-byte (Some t) (need.Input k) short = go (ltb k t.len) refl
  where
    go : (b : Bool) → ltb k t.len ≡ b → IsLowAt (2 ^ 20) (cond b (Some k) None)
    go true test = let less = ltb-true k t.len test in let most = short t refl in omega arith
    go false test = tt

low-fetch : (ctl : Ctl) → ctl.pc < 2 ^ 32 → IsLowAt (2 ^ 32) (fetch_address ctl)
low-fetch ctl low = go (fetch_address ctl) (word-fetched ctl.status ctl.pc)
  where
    go : (o : Option ℕ) → IsWordAt ctl.pc o → IsLowAt (2 ^ 32) o
    go (Some addr) word = subst (λ n. n < 2 ^ 32) (sym word.1) low
    go None word = tt

code-of : (status : Status) → HasWordCode status → status_code status < 2 ^ 32
code-of Running word = omega arith
code-of (Exited code) word = word
code-of (Trapped code) word = word

-- the tree of a state, as its version has it
tree-is : (digest : List ℕ → List ℕ) (s : State) (t : HeldInput) → tree_of_state digest s ≡ Some t → (t.len ≡ length s.input) × (t.root.0 ≡ input_root digest s.input)
tree-is digest s t = go (scheme_of s.version).input
  where
    go : (held : InputScheme) → tree_by digest held s.input ≡ Some t → (t.len ≡ length s.input) × (t.root.0 ≡ input_root digest s.input)
    go input.Tree is =
        let same : record { len = length s.input; root = record { 0 = input_root digest s.input } } ≡ t = cc in
        (ap (λ (h : HeldInput). h.len) (sym same), ap (λ (h : HeldInput). h.root.0) (sym same))
    go input.InMemory is = absurd cc

-- the strings of the parts are among those that are opened
module _ (digest : List ℕ → List ℕ) (f : Facts) (x : List ℕ) where
  among-part : Contains (part_texts digest f) x → Contains (opened_by_facts digest f) x
  unfolding opened_by_facts
  among-part among = Contains-append_left (part_texts digest f) _ x among

  among-fetch : Contains (ways_texts digest (fetch_ways f)) x → Contains (opened_by_facts digest f) x
  unfolding opened_by_facts
  among-fetch among = Contains-append_right (part_texts digest f) _ x (Contains-append_left (ways_texts digest (fetch_ways f)) _ x among)

  among-named : Contains (ways_texts digest (named_ways f)) x → Contains (opened_by_facts digest f) x
  unfolding opened_by_facts
  among-named among = Contains-append_right (part_texts digest f) _ x (Contains-append_right (ways_texts digest (fetch_ways f)) _ x (Contains-append_left (ways_texts digest (named_ways f)) _ x among))

  among-operand : Contains (ways_texts digest (operand_ways f)) x → Contains (opened_by_facts digest f) x
  unfolding opened_by_facts
  among-operand among = Contains-append_right (part_texts digest f) _ x (Contains-append_right (ways_texts digest (fetch_ways f)) _ x (Contains-append_right (ways_texts digest (named_ways f)) _ x
      (Contains-append_left (ways_texts digest (operand_ways f)) _ x among)))

  among-read : Contains (ways_texts digest (read_ways f)) x → Contains (opened_by_facts digest f) x
  unfolding opened_by_facts
  among-read among = Contains-append_right (part_texts digest f) _ x (Contains-append_right (ways_texts digest (fetch_ways f)) _ x (Contains-append_right (ways_texts digest (named_ways f)) _ x
      (Contains-append_right (ways_texts digest (operand_ways f)) _ x among)))

  among-storage : Contains (storage_texts f.input_tree f.mem.0) x → Contains (opened_by_facts digest f) x
  among-storage among = among-part (contains-tail x (text_before digest f) _ (Contains-append_left (storage_texts f.input_tree f.mem.0) _ x among))

  among-registers : Contains (registers_texts f.regs) x → Contains (opened_by_facts digest f) x
  among-registers among = among-part (contains-tail x (text_before digest f) _ (Contains-append_right (storage_texts f.input_tree f.mem.0) _ x (Contains-append_left (registers_texts f.regs) _ x among)))

  among-control : Contains (control_text_of f.ctl ∷ []) x → Contains (opened_by_facts digest f) x
  among-control among = among-part (contains-tail x (text_before digest f) _ (Contains-append_right (storage_texts f.input_tree f.mem.0) _ x (Contains-append_right (registers_texts f.regs) _ x among)))

-- the proof that has a state's parts holds them
pub plain-holds : (digest : List ℕ → List ℕ) (s : State) → IsValid s → facts_of (plain_proof digest s) ≡ plain_facts digest s
unfolding plain_proof
plain-holds digest s valid = go s.version valid.version.0 valid.version.1
  where
    by : ℕ → Facts
    by v = plain_facts digest (record s { version = v })

    go : (v : ℕ) → 1 ≤ v → v ≤ 3 → facts_of (proof_of (by v)) ≡ by v
    go zero low high = absurd (omega arith)
    go (suc zero) low high = refl
    go (suc (suc zero)) low high = refl
    go (suc (suc (suc zero))) low high = refl
    go (suc (suc (suc (suc v)))) low high = absurd (omega arith)

-- the plain openings of memory, of which that at pc shows the instruction that the state fetches
module _ (digest : List ℕ → List ℕ) (s : State) where
  siblings-along : (k l : ℕ) → l < 27 → digest_at (siblings_of digest s.memory k) l ≡ memory_node digest s.memory l (beside (k / 2 ^ l))
  unfolding siblings_of
  siblings-along k l below =
      ap (λ (d : Digest32). d.0) (get_or-map-range_with_len (λ j. record { 0 = memory_node digest s.memory j (beside (k / 2 ^ j)) }) 0 27 l l (record { 0 = [] }) below (omega arith))

  plain-chunk : (address : Option ℕ) → IsShownAt digest s.memory (opening_at digest s.memory address) address
  plain-chunk (Some addr) = record { chunk = refl; path = λ l below. siblings-along (addr / 32) l below }
  plain-chunk None = tt

  pub plain-names : StepLaws → named_called (plain_facts digest s) ≡ named_at s
  plain-names steps = ap named_by (shown-word steps digest s (plain_facts digest s) refl (plain-chunk (fetch_of_state s)))

module _ (steps : StepLaws) (laws : RegisterLaws) (trees : TreeLaws) (digest : List ℕ → List ℕ) (s : State) (valid : IsValid s) where
  -- what the instruction needs is what the state's needs
  needed-same : (f : Facts) (regs : HeldRegisters) → f.regs ≡ regs → f.input_tree ≡ tree_of_state digest s → fetched_of f ≡ fetched (seen_of s) → ShowsRegisters digest s regs → needed_of f ≡ next_need (seen_of s)
  needed-same f regs is tree word shows =
      ap (λ (t : Option HeldInput). needed_by (offering t) (file_of_facts f) (fetched_of f)) tree
      ∙ (ap (λ h. needed_by h (file_of_facts f) (fetched_of f)) (offers-as-held digest s)
      ∙ (ap (λ (r : HeldRegisters). needed_by held (file_shown (named_called f) r) (fetched_of f)) is
      ∙ (ap (λ o. needed_by held (file_shown (named_by o) regs) o) word ∙ by-file regs shows)))
    where
      held : InputScheme
      held = (scheme_of s.version).input

      by-file : (regs : HeldRegisters) → ShowsRegisters digest s regs → needed_by held (file_shown (named_at s) regs) (fetched (seen_of s)) ≡ next_need (seen_of s)
      by-file (Whole xs) shows = ap (λ l. needed_by held l (fetched (seen_of s))) shows.1
      by-file (Opened root os) shows = need-shown steps laws trees digest s valid os shows.2

  tree-known : (f : Facts) → f.input_tree ≡ tree_of_state digest s → (t : HeldInput) → f.input_tree ≡ Some t → (t.len ≡ length s.input) × (t.root.0 ≡ input_root digest s.input)
  tree-known f tree t is = tree-is digest s t (sym tree ∙ is)

  unoffered : (f : Facts) → f.input_tree ≡ None → is_some (input_called f) ≡ false
  unoffered f none = ap (λ (t : Option HeldInput). is_some (byte_needed t (needed_of f))) none

  -- a proof that shows the state and has exactly what the state calls for meets the conditions
  pub record IsShaped (f : Facts) : Type 0 where
    pub version : f.version ≡ s.version
    pub fetch : is_some f.fetch ≡ is_some (fetch_of_state s)
    pub counted : AreCounted (named_at s) f.regs
    pub operand : is_some f.operand ≡ is_some (operand_of_state s)
    pub input : is_some f.input ≡ is_some (input_of_state digest s)

  registers-shown : (regs : HeldRegisters) → ShowsRegisters digest s regs → registers_held digest regs ≡ registers_digest digest s.version s.regs
  registers-shown (Whole xs) shows = ap (λ l. digest (registers_text l)) shows.1 ∙ ap (λ h. registers_by digest h s.regs) (sym shows.0)
  registers-shown (Opened root os) shows = shows.1 ∙ ap (λ h. registers_by digest h s.regs) (sym shows.0)

  named-open : (names : List ℕ) (regs : HeldRegisters) → names ≡ named_at s → ShowsRegisters digest s regs → WaysOpen digest (register_ways names regs)
  named-open names (Whole xs) is shows = tt
  named-open names (Opened root os) is shows =
      subst (λ (l : List ℕ). WaysOpen digest (register_ways l (Opened root os))) (sym is) (shown-registers-open trees digest s.regs root.0 (named_at s) os (names-low steps laws trees digest s valid) shows.1 shows.2)

  root-shown : (f : Facts) → ShowsState digest f s → root_before digest f ≡ root_in digest s.version s
  root-shown f shows =
      ap (λ (t : Option HeldInput). digest (parts_text digest (storage_held digest t f.mem.0) (registers_held digest f.regs) f.ctl)) shows.tree
      ∙ (ap (λ m. digest (parts_text digest (storage_held digest (tree_of_state digest s) m) (registers_held digest f.regs) f.ctl)) shows.mem
      ∙ (ap (λ m. digest (parts_text digest m (registers_held digest f.regs) f.ctl)) (storage-same digest s s refl)
      ∙ (ap (λ r. digest (parts_text digest (storage_digest digest s.version s) r f.ctl)) (registers-shown f.regs shows.regs)
      ∙ ap (λ (c : Ctl). digest (parts_text digest (storage_digest digest s.version s) (registers_digest digest s.version s.regs) c)) shows.ctl)))

  pub shown-holds : (f : Facts) (a : Digest32) → ShowsState digest f s → IsShaped f → a.0 ≡ root_in digest s.version s → AllHold (conditions digest s.version a f)
  shown-holds f a shows shaped root =
      let address : fetch_address f.ctl ≡ fetch_of_state s = ap fetch_address shows.ctl in
      let word = shown-word steps digest s f shows.ctl shows.fetch in
      let names : named_called f ≡ named_at s = ap named_by word in
      let needed = needed-same f f.regs refl shows.tree word shows.regs in
      let operand_is : operand_called f ≡ operand_of_state s = ap address_needed needed in
      let input_is : input_called f ≡ input_of_state digest s = ap (λ (t : Option HeldInput). byte_needed t (needed_of f)) shows.tree ∙ ap (byte_needed (tree_of_state digest s)) needed in (
        shaped.version,
        (
          shaped.fetch ∙ ap is_some (sym address),
          (
            root ∙ sym (root-shown f shows),
            (
              shown-chunk-opens trees digest s.memory f.mem.0 f.fetch (fetch_address f.ctl) (low-fetch f.ctl (subst (λ (c : Ctl). c.pc < 2 ^ 32) (sym shows.ctl) valid.pc)) shows.mem (subst (IsShownAt digest s.memory f.fetch) (sym address) shows.fetch),
              (
                subst (λ (l : List ℕ). AreCounted l f.regs) (sym names) shaped.counted,
                (
                  named-open (named_called f) f.regs names shows.regs,
                  (
                    shaped.operand ∙ ap is_some (sym operand_is),
                    (
                      shown-chunk-opens trees digest s.memory f.mem.0 f.operand (operand_called f) (low-operand steps (offering f.input_tree) (file_of_facts f) (fetched_of f)) shows.mem (subst (IsShownAt digest s.memory f.operand) (sym operand_is) shows.operand),
                      (
                        shaped.input ∙ ap is_some (sym input_is),
                        (
                          shown-input-opens trees digest s.input f.input_tree f.input (input_called f) (low-byte f.input_tree (needed_of f) (λ t is. let short = valid.short in let known = tree-known f shows.tree t is in omega (arith, known.0)))
                              (λ t is. (tree-known f shows.tree t is).1) (subst (ShowsInput digest s.input f.input) (sym input_is) shows.input),
                          tt,
                        ),
                      ),
                    ),
                  ),
                ),
              ),
            ),
          ),
        ),
      )

  -- the plain openings
  chunk-shape : (address : Option ℕ) → is_some (opening_at digest s.memory address) ≡ is_some address
  chunk-shape (Some addr) = refl
  chunk-shape None = refl

  register-along : (r l : ℕ) → l < 5 → digest_at (register_siblings digest s.regs r) l ≡ register_node digest s.regs l (beside (r / 2 ^ l))
  unfolding register_siblings
  register-along r l below =
      ap (λ (d : Digest32). d.0) (get_or-map-range_with_len (λ j. record { 0 = register_node digest s.regs j (beside (r / 2 ^ j)) }) 0 5 l l (record { 0 = [] }) below (omega arith))

  plain-named : (rs : List ℕ) → AreShown digest s.regs rs (map (opened_register digest s.regs) rs)
  plain-named [] = tt
  plain-named (r ∷ rs) = (refl, λ l below. register-along r l below, plain-named rs)

  plain-count : (rs : List ℕ) → length (map (opened_register digest s.regs) rs) ≡ length rs
  plain-count [] = refl
  plain-count (r ∷ rs) = let rest = plain-count rs in omega arith

  input-along : (k l : ℕ) → l < 15 → digest_at (input_siblings digest s.input k) l ≡ input_node digest s.input l (beside (k / 2 ^ l))
  unfolding input_siblings
  input-along k l below =
      ap (λ (d : Digest32). d.0) (get_or-map-range_with_len (λ j. record { 0 = input_node digest s.input j (beside (k / 2 ^ j)) }) 0 15 l l (record { 0 = [] }) below (omega arith))

  plain-input : (byte : Option ℕ) → ShowsInput digest s.input (input_opening_at digest s.input byte) byte
  plain-input (Some k) = (refl, λ l below. input-along (k / 32) l below)
  plain-input None = tt

  input-shape : (byte : Option ℕ) → is_some (input_opening_at digest s.input byte) ≡ is_some byte
  input-shape (Some k) = refl
  input-shape None = refl

  plain-registers : (held : RegisterScheme) → (scheme_of s.version).registers ≡ held → ShowsRegisters digest s (registers_opened digest held s.regs (named_at s))
  plain-registers registers.Whole is = (is, refl)
  plain-registers registers.Tree is = (is, refl, plain-named (named_at s))

  registers-shape : (held : RegisterScheme) → AreCounted (named_at s) (registers_opened digest held s.regs (named_at s))
  registers-shape registers.Whole = tt
  registers-shape registers.Tree = plain-count (named_at s)

  facts-show : ShowsState digest (plain_facts digest s) s × IsShaped (plain_facts digest s)
  facts-show = (
    record {
      mem = refl;
      tree = refl;
      ctl = refl;
      fetch = plain-chunk digest s (fetch_of_state s);
      regs = plain-registers (scheme_of s.version).registers refl;
      operand = plain-chunk digest s (operand_of_state s);
      input = plain-input (input_of_state digest s);
    },
    record {
      version = refl;
      fetch = chunk-shape (fetch_of_state s);
      counted = registers-shape (scheme_of s.version).registers;
      operand = chunk-shape (operand_of_state s);
      input = input-shape (input_of_state digest s);
    },
  )

  pub plain-shows : ShowsState digest (facts_of (plain_proof digest s)) s × IsShaped (facts_of (plain_proof digest s))
  plain-shows = subst (λ (f : Facts). ShowsState digest f s × IsShaped f) (sym (plain-holds digest s valid)) facts-show

  pub plain-leads : (a b : Digest32) → a.0 ≡ root_in digest s.version s → b.0 ≡ root_in digest s.version (step s) → LeadsFrom digest s.version a (facts_of (plain_proof digest s)) b
  plain-leads a b start end =
      let plain = plain-shows in
      record { hold = shown-holds (facts_of (plain_proof digest s)) a plain.0 plain.1 start; root = end ∙ sym (shown-leads steps laws trees digest s valid (facts_of (plain_proof digest s)) plain.0) }

module _ (steps : StepLaws) (laws : RegisterLaws) (trees : TreeLaws) (digest : List ℕ → List ℕ) (is_digest : (bytes : List ℕ) → length (digest bytes) ≡ 32) (s : State) (valid : IsValid s) where
  abbrev Collides : Facts → Type 0
  Collides f = (pair : List ℕ × List ℕ) × IsStateCollision digest f s pair

  collision : (f : Facts) (x y : List ℕ) → IsSplit digest x y → Contains (opened_by_facts digest f) x → IsStringIn digest s.version s y → Collides f
  collision f x y split opened of_state = ((x, y), record { differ = split.differ; one_digest = split.agree; opened = opened; of_state = of_state })

  -- the digests of what is stored
  memory-size : length (memory_digest digest s) ≡ 32
  memory-size = node-size trees digest is_digest (memory_leaf s.memory) 27 0

  storage-size : (held : InputScheme) → length (storage_by digest held (memory_digest digest s) (length s.input) (input_root digest s.input)) ≡ 32
  storage-size input.Tree = is_digest _
  storage-size input.InMemory = memory-size

  registers-size : (held : RegisterScheme) → length (registers_by digest held s.regs) ≡ 32
  registers-size registers.Whole = is_digest _
  registers-size registers.Tree = node-size trees digest is_digest (register_leaf s.regs) 5 0

  held-storage-size : (tree : Option HeldInput) (mem : List ℕ) → length mem ≡ 32 → length (storage_held digest tree mem) ≡ 32
  held-storage-size (Some t) mem size = is_digest _
  held-storage-size None mem size = size

  held-registers-size : (regs : HeldRegisters) → RegistersRange regs → length (registers_held digest regs) ≡ 32
  held-registers-size (Whole xs) range = is_digest _
  held-registers-size (Opened root named) range = range.0

  -- the registers, as the parts decide them
  abbrev HasRegisters : HeldRegisters → Type 0
  HasRegisters (Whole xs) = ((scheme_of s.version).registers ≡ registers.Whole) × (xs ≡ s.regs)
  HasRegisters (Opened root named) = ((scheme_of s.version).registers ≡ registers.Tree) × (root.0 ≡ registers_root digest s.regs)

  registers-or-split : (f : Facts) (regs : HeldRegisters) → f.regs ≡ regs → HeldAs s.version regs → RegistersRange regs → registers_held digest regs ≡ registers_digest digest s.version s.regs → HasRegisters regs ⊎ Collides f
  registers-or-split f (Whole xs) is version range same = ⊎_elim
      (λ text. inl (version, registers_text_same xs s.regs range valid.regs.words text))
      (λ split. inr (collision f _ _ split (among-registers digest f _ (subst (λ (r : HeldRegisters). Contains (registers_texts r) (registers_text xs)) (sym is) (contains-head _ []))) (is_registers version refl)))
      (same-or-split digest (registers_text xs) (registers_text s.regs) (same ∙ ap (λ h. registers_by digest h s.regs) version))
  registers-or-split f (Opened root named) is version range same =
      inl (version, same ∙ ap (λ h. registers_by digest h s.regs) version)

  -- and what is stored
  abbrev HasStorage : Option HeldInput → List ℕ → Type 0
  HasStorage tree mem = (mem ≡ memory_digest digest s) × (tree ≡ tree_of_state digest s)

  abbrev the_tree : HeldInput
  the_tree = record { len = length s.input; root = record { 0 = input_root digest s.input } }

  storage-or-split : (f : Facts) (tree : Option HeldInput) → f.input_tree ≡ tree → TreeAs s.version tree → TreeRange tree → length f.mem.0 ≡ 32 → storage_held digest tree f.mem.0 ≡ storage_digest digest s.version s → HasStorage tree f.mem.0 ⊎ Collides f
  storage-or-split f (Some t) is version range size same =
      let short = valid.short in
      ⊎_elim
      (λ text.
      let parts = storage_text_same f.mem.0 (memory_digest digest s) t.root.0 (input_root digest s.input) t.len (length s.input) (size ∙ sym memory-size) range.0 (omega arith) text in
      let len = parts.1 in
      let root = parts.2 in
      let one : t ≡ the_tree = λ i. record { len = len i; root = record { 0 = root i } } in
      inl (parts.0, ap Some one ∙ ap (λ h. tree_by digest h s.input) (sym version)))
      (λ split. inr (collision f _ _ split (among-storage digest f _ (subst (λ (o : Option HeldInput). Contains (storage_texts o f.mem.0) (storage_text f.mem.0 t.len t.root.0)) (sym is) (contains-head _ []))) (is_storage version refl)))
      (same-or-split digest (storage_text f.mem.0 t.len t.root.0) (storage_of digest s) (same ∙ ap (λ h. storage_by digest h (memory_digest digest s) (length s.input) (input_root digest s.input)) version))
  storage-or-split f None is version range size same =
      inl (same ∙ ap (λ h. storage_by digest h (memory_digest digest s) (length s.input) (input_root digest s.input)) version, ap (λ h. tree_by digest h s.input) (sym version))

  ctl-same : (c d : Ctl) → c.pc ≡ d.pc → c.status ≡ d.status → c.out_len ≡ d.out_len → c.chain.0 ≡ d.chain.0 → c ≡ d
  ctl-same c d pc status out_len chain = λ i. record { pc = pc i; status = status i; out_len = out_len i; chain = record { 0 = chain i } }

  control-or-split : (f : Facts) → FactsRange f → digest (control_text_of f.ctl) ≡ digest (control_text_of (ctl_of digest s)) → (f.ctl ≡ ctl_of digest s) ⊎ Collides f
  control-or-split f range same =
      let c = ctl_of digest s in
      ⊎_elim
      (λ text.
      let fields = control_text_same f.ctl.pc c.pc f.ctl.status c.status f.ctl.out_len c.out_len f.ctl.chain.0 c.chain.0 range.pc valid.pc range.code (code-of s.status valid.status) range.out_len (omega arith) text in
      inl (ctl-same f.ctl c fields.0 fields.1 fields.2 fields.3))
      (λ split. inr (collision f _ _ split (among-control digest f _ (contains-head _ [])) (is_control refl)))
      (same-or-split digest (control_text_of f.ctl) (control_text_of c) same)

  -- the parts are those of the state
  pub record HasParts (f : Facts) : Type 0 where
    pub mem : f.mem.0 ≡ memory_digest digest s
    pub tree : f.input_tree ≡ tree_of_state digest s
    pub ctl : f.ctl ≡ ctl_of digest s
    pub regs : HasRegisters f.regs

  parts-or-found : (f : Facts) → HeldAs s.version f.regs → TreeAs s.version f.input_tree → FactsRange f → root_before digest f ≡ root_in digest s.version s → HasParts f ⊎ Collides f
  parts-or-found f held tree range roots = ⊎_elim
      (λ text.
      let parts = state_text_same (storage_held digest f.input_tree f.mem.0) (registers_held digest f.regs) (digest (control_text_of f.ctl)) (storage_digest digest s.version s) (registers_digest digest s.version s.regs) (digest (control_text_of (ctl_of digest s)))
      (held-storage-size f.input_tree f.mem.0 range.mem ∙ sym (storage-size (scheme_of s.version).input)) (held-registers-size f.regs range.regs ∙ sym (registers-size (scheme_of s.version).registers)) (cons_parts 4 4 _ _ text).1 in
      ⊎_elim
      (λ storage. ⊎_elim
      (λ registers. ⊎_elim
      (λ ctl. inl (record { mem = storage.0; tree = storage.1; ctl = ctl; regs = registers }))
      inr (control-or-split f range parts.2))
      inr (registers-or-split f f.regs refl held range.regs parts.1))
      inr (storage-or-split f f.input_tree refl tree range.tree range.mem parts.0))
      (λ split. inr (collision f _ _ split (among-part digest f _ (contains-head _ _)) (is_state refl)))
      (same-or-split digest (text_before digest f) (state_text_in digest s.version s) roots)

  -- the registers that are opened are those that the state's instruction names
  named-or-found : (f : Facts) (regs : HeldRegisters) → f.regs ≡ regs → HasRegisters regs → RegistersRange regs → named_called f ≡ named_at s → AreCounted (named_called f) regs → WaysOpen digest (register_ways (named_called f) regs)
      → ShowsRegisters digest s regs ⊎ Collides f
  named-or-found f (Whole xs) is has range names counted opens = inl has
  named-or-found f (Opened root os) is has range names counted opens = ⊎_elim
      (λ shown. inl (has.0, has.1, shown))
      (λ found. inr (collision f found.0 found.1 found.2
      (among-named digest f found.0 (subst (λ (r : HeldRegisters). Contains (ways_texts digest (register_ways (named_called f) r)) found.0) (sym is)
      (subst (λ (l : List ℕ). Contains (ways_texts digest (register_ways l (Opened root os))) found.0) (sym names) found.3)))
      (is_register has.0 found.4)))
      (registers-or-found trees digest is_digest s.regs root.0 valid.regs.words has.1 (named_at s) os (names-low steps laws trees digest s valid) range.1 (subst (λ (l : List ℕ). length os ≡ length l) names counted)
      (subst (λ (l : List ℕ). WaysOpen digest (register_ways l (Opened root os))) names opens))

  -- a proof without a tree of the input opens no string of one
  in-nothing : (x : List ℕ) → Contains [] x → ⊥
  in-nothing x found = absurd (let below = found.1 in omega arith)

  has-tree : (f : Facts) (x : List ℕ) → Contains (ways_texts digest (read_ways f)) x → f.input_tree ≢ None
  has-tree f x among none = in-nothing x (subst (λ (t : Option HeldInput). Contains (ways_texts digest (input_ways t f.input (input_called f))) x) none among)

  version-of : (tree : Option HeldInput) → TreeAs s.version tree → tree ≢ None → (scheme_of s.version).input ≡ input.Tree
  version-of (Some t) held some = held
  version-of None held some = absurd (some refl)

  -- the state is shown
  pub shows-or-found : (f : Facts) (a b : Digest32) → HeldAs s.version f.regs → TreeAs s.version f.input_tree → FactsRange f → a.0 ≡ root_in digest s.version s → LeadsFrom digest s.version a f b → ShowsState digest f s ⊎ Collides f
  shows-or-found f a b held tree range root leads =
      let h = leads.hold in
      ⊎_elim
      (λ parts.
      let address : fetch_address f.ctl ≡ fetch_of_state s = ap fetch_address parts.ctl in
      ⊎_elim
      (λ fetch'.
      let fetch = subst (IsShownAt digest s.memory f.fetch) address fetch' in
      let word = shown-word steps digest s f parts.ctl fetch in
      let names : named_called f ≡ named_at s = ap named_by word in
      ⊎_elim
      (λ regs.
      let needed = needed-same steps laws trees digest s valid f f.regs refl parts.tree word regs in
      let operand_is : operand_called f ≡ operand_of_state s = ap address_needed needed in
      let input_is : input_called f ≡ input_of_state digest s = ap (λ (t : Option HeldInput). byte_needed t (needed_of f)) parts.tree ∙ ap (byte_needed (tree_of_state digest s)) needed in
      ⊎_elim
      (λ operand. ⊎_elim
      (λ input. inl (record { mem = parts.mem; tree = parts.tree; ctl = parts.ctl; fetch = fetch; regs = regs; operand = subst (IsShownAt digest s.memory f.operand) operand_is operand; input = subst (ShowsInput digest s.input f.input) input_is input }))
      (λ found. inr (collision f found.0 found.1 found.2 (among-read digest f found.0 found.3) (is_input (version-of f.input_tree tree (has-tree f found.0 found.3)) found.4)))
      (input-or-found trees digest is_digest s.input f.input_tree f.input (input_called f) (low-byte f.input_tree (needed_of f) (λ t is. let short = valid.short in let known = tree-known steps laws trees digest s valid f parts.tree t is in omega (arith, known.0)))
      range.input h.1.1.1.1.1.1.1.1.0 (unoffered steps laws trees digest s valid f) (λ t is. (tree-known steps laws trees digest s valid f parts.tree t is).1) h.1.1.1.1.1.1.1.1.1.0))
      (λ found. inr (collision f found.0 found.1 found.2 (among-operand digest f found.0 found.3) (is_memory found.4)))
      (chunk-or-found trees digest is_digest s.memory f.mem.0 f.operand (operand_called f) (low-operand steps (offering f.input_tree) (file_of_facts f) (fetched_of f)) range.operand h.1.1.1.1.1.1.0 parts.mem h.1.1.1.1.1.1.1.0))
      inr (named-or-found f f.regs refl parts.regs range.regs names h.1.1.1.1.0 h.1.1.1.1.1.0))
      (λ found. inr (collision f found.0 found.1 found.2 (among-fetch digest f found.0 found.3) (is_memory found.4)))
      (chunk-or-found trees digest is_digest s.memory f.mem.0 f.fetch (fetch_address f.ctl) (low-fetch f.ctl range.pc) range.fetch h.1.0 parts.mem h.1.1.1.0))
      inr (parts-or-found f held tree range (sym h.1.1.0 ∙ root))

  pub leads-or-found : (proof : Proof) (a b : Digest32) → is_in_range proof ≡ true → a.0 ≡ root_in digest s.version s → LeadsFrom digest s.version a (facts_of proof) b
      → (b.0 ≡ root_in digest s.version (step s)) ⊎ Collides (facts_of proof)
  leads-or-found proof a b range root leads =
      let f = facts_of proof in
      let held = held-as proof in
      let version : f.version ≡ s.version = leads.hold.0 in
      ⊎_elim
      (λ shows. inl (leads.root ∙ shown-leads steps laws trees digest s valid f shows))
      inr
      (shows-or-found f a b (subst (λ (v : ℕ). HeldAs v f.regs) version held.0) (subst (λ (v : ℕ). TreeAs v f.input_tree) version held.1) (facts-range f range) root leads)
