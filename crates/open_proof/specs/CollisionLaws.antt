-- Derived: two different proofs that lead from one root have two different strings of one digest. The law `proofs_from_one_root` has the
-- same as clauses.
use Rattle.std.proofs.Common.{◌≡◌, ◌≢◌, ℕ, zero, suc, ◌+◌, ◌/◌, ◌<◌, ◌≤◌, ◌⊎◌, inl, inr, List, [], ◌∷◌, length, Option, Some, None, is_some, Bool, true, false, true≢false, ◌&&◌, Contains, refl, sym, ap, ◌∙◌, subst, arith, ⊎_elim}
use Rattle.std.specs.Prelude.{bytes_eq, if◌then◌else◌}
use Rattle.std.specs.Option.{option_or}
use Rattle.std.proofs.lemmas.Bool.{cases_eq, eq-eqb}
use Rattle.std.proofs.lemmas.List.{ext_get_or}
use Rattle.std.proofs.lemmas.List.Elements.{Contains-append_left, Contains-append_right}
use Rattle.std.proofs.lemmas.Slice.Eq.{bytes_eq-Decides}
use Rattle.rd_base.specs.declared.status.Ctl.{Ctl}
use Rattle.rd_base.specs.declared.digest.Digest32.{Digest32}
use Rattle.rd_base.specs.declared.opened.InOpening.{InOpening}
use Rattle.rd_base.specs.declared.opened.Opening.{Opening}
use Rattle.rd_base.specs.declared.opened.RegOpening.{RegOpening}
use Rattle.rd_base.specs.declared.proof.Proof.{Proof}
use Rattle.rd_base.specs.declared.proof.Proof.TheVariants.{V1, V2, V3}
use Rattle.digest_core.specs.Text.{registers_text, register_text, storage_text}
use Rattle.digest_core.specs.TextLaws.{cons_parts, registers_text_same, register_text_same, control_text_same, state_text_same, storage_text_same}
use Rattle.merkle_nodes.specs.Node.{digest_at}
use Rattle.merkle_nodes.specs.PathLaws.{opens-climbs, one_opening}
use Rattle.out_chain.specs.Root.{control_text_of}
use Rattle.out_chain.specs.Collision.{first_collision}
use Rattle.out_chain.specs.ClaimLaws.{collision-none, collision_of_same, first-collides, contains-tail}
use Rattle.rv_step.specs.Fetching.{fetch_address}
use Rattle.open_proof.specs.Opened.{texts_from}
use Rattle.open_proof.specs.Conditions.{LeadsFrom}
use Rattle.open_proof.specs.Facts.{facts_of, proof_of, named_called, needed_of, operand_called, byte_needed, input_called}
use Rattle.open_proof.specs.InRange.{is_in_range}
use Rattle.open_proof.specs.Next.{storage_texts, storage_held, registers_held, text_before, root_before, root_next}
use Rattle.open_proof.specs.Openings.{chunk_way, chunk_ways, register_way, each_way, input_way, input_ways, fetch_ways, named_ways, operand_ways, read_ways, AreCounted}
use Rattle.open_proof.specs.RangeLaws.{IsPathOf, ChunkRange, InputRange, EachRange, RegistersRange, TreeRange, FactsRange, facts-range}
use Rattle.open_proof.specs.Strings.{registers_texts, part_texts, opened_by_facts}
use Rattle.open_proof.specs.Ways.{Way, WayOpens, way_text, way_texts, WaysOpen, ways_texts}
use Rattle.open_proof.specs.declared.facts.Facts.{Facts}
use Rattle.open_proof.specs.declared.facts.HeldInput.{HeldInput}
use Rattle.open_proof.specs.declared.facts.HeldRegisters.{HeldRegisters}
use Rattle.open_proof.specs.declared.facts.HeldRegisters.TheVariants.{Whole, Opened}
use Rattle.open_proof.specs.Collision.{ways_collision, parts_collision, all_ways_collision, opened_collision, opens_in, step_collision, IsStepCollision}

-- neither of two is there, or one is
none-there : {A : Type 0} (first other : Option A) → option_or first other ≡ None → (first ≡ None) × (other ≡ None)
none-there (Some x) other none = absurd cc
none-there None other none = (refl, none)

either-there : {A : Type 0} (first other : Option A) (x : A) → option_or first other ≡ Some x → (first ≡ Some x) ⊎ (other ≡ Some x)
either-there (Some found) other x some = inl some
either-there None other x some = inr some

-- strings of two paths that don't collide
texts-agree : (digest : List ℕ → List ℕ) (f g : ℕ → List ℕ) (m n : ℕ) → first_collision digest (texts_from f m n) (texts_from g m n) ≡ None
    → (l : ℕ) → m ≤ l → l < m + n → digest (f l) ≡ digest (g l) → f l ≡ g l
unfolding texts_from
texts-agree digest f g m zero none l low high one = absurd (omega arith)
texts-agree digest f g m (suc n) none l low high one =
    let here = collision-none digest (f m) (g m) (texts_from f (m + 1) n) (texts_from g (m + 1) n) none in
    ⊎_elim
    (λ same. ap f same ∙ (here.0 (ap (λ i. digest (f i)) (sym same) ∙ (one ∙ ap (λ i. digest (g i)) same)) ∙ ap g (sym same)))
    (λ later. texts-agree digest f g (m + 1) n here.1 l (omega arith) (omega arith) one)
    (cases_eq l m)

same-digest : (x y : Digest32) → x.0 ≡ y.0 → x ≡ y
same-digest x y same = λ i. record { 0 = same i }

path-same : (n : ℕ) (p q : List Digest32) → IsPathOf n p → IsPathOf n q → ((l : ℕ) → l < n → digest_at p l ≡ digest_at q l) → p ≡ q
path-same n p q p_path q_path same = ext_get_or (record { 0 = [] }) p q (p_path.levels ∙ sym q_path.levels) (λ l below. same-digest _ _ (same l (subst (λ (k : ℕ). l < k) p_path.levels below)))

-- what a proof opens beside its parts, and that two proofs have no collision there
pub record IsOpen (digest : List ℕ → List ℕ) (f : Facts) : Type 0 where
  pub fetch_shaped : is_some f.fetch ≡ is_some (fetch_address f.ctl)
  pub fetch_opens : WaysOpen digest (fetch_ways f)
  pub counted : AreCounted (named_called f) f.regs
  pub named_open : WaysOpen digest (named_ways f)
  pub operand_shaped : is_some f.operand ≡ is_some (operand_called f)
  pub operand_opens : WaysOpen digest (operand_ways f)
  pub input_shaped : is_some f.input ≡ is_some (input_called f)
  pub input_opens : WaysOpen digest (read_ways f)

pub record NoCollision (digest : List ℕ → List ℕ) (x y : Facts) : Type 0 where
  pub fetch : ways_collision digest (fetch_ways x) (fetch_ways y) ≡ None
  pub registers : ways_collision digest (named_ways x) (named_ways y) ≡ None
  pub operand : ways_collision digest (operand_ways x) (operand_ways y) ≡ None
  pub input : ways_collision digest (read_ways x) (read_ways y) ≡ None

-- both have the input as a tree or none, and both hold all registers or the root of their tree
abbrev SameTree : Option HeldInput → Option HeldInput → Type 0
SameTree (Some t) (Some u) = Unit {0}
SameTree None None = Unit {0}
SameTree t u = ⊥

abbrev SameRegisters : HeldRegisters → HeldRegisters → Type 0
SameRegisters (Whole xs) (Whole ys) = Unit {0}
SameRegisters (Opened root named) (Opened other more) = Unit {0}
SameRegisters x y = ⊥

abbrev AreAlike : Facts → Facts → Type 0
AreAlike x y = SameTree x.input_tree y.input_tree × SameRegisters x.regs y.regs

-- the registers, as far as the parts decide them
abbrev Meets : HeldRegisters → HeldRegisters → Type 0
Meets (Whole xs) (Whole ys) = xs ≡ ys
Meets (Opened root os) (Opened other ps) = root ≡ other
Meets x y = ⊥

abbrev facts_by : ℕ → Digest32 → Option HeldInput → HeldRegisters → Ctl → Option Opening → Option Opening → Option InOpening → Facts
facts_by version mem tree regs ctl fetch operand input = record { version = version; mem = mem; input_tree = tree; regs = regs; ctl = ctl; fetch = fetch; operand = operand; input = input }

module _ (digest : List ℕ → List ℕ) (is_digest : (bytes : List ℕ) → length (digest bytes) ≡ 32) where
  alone : (v w : List ℕ) → first_collision digest (v ∷ []) (w ∷ []) ≡ None → digest v ≡ digest w → v ≡ w
  alone v w none one = (collision-none digest v w [] [] none).0 one

  -- two ways along one index to one root that have no collision are one
  way-same : (n k : ℕ) (root a b : List ℕ) (p q : List Digest32) → IsPathOf n p → IsPathOf n q
      → WayOpens digest (record { text = a; index = k; siblings = p; levels = n; root = root }) → WayOpens digest (record { text = b; index = k; siblings = q; levels = n; root = root })
      → first_collision digest (way_texts digest (record { text = a; index = k; siblings = p; levels = n; root = root })) (way_texts digest (record { text = b; index = k; siblings = q; levels = n; root = root })) ≡ None
      → (a ≡ b) × (p ≡ q)
  way-same n k root a b p q p_path q_path first second none =
      let v : Way = record { text = a; index = k; siblings = p; levels = n; root = root } in
      let w : Way = record { text = b; index = k; siblings = q; levels = n; root = root } in
      ⊎_elim
      (λ whole. (whole.0, path-same n p q p_path q_path whole.1))
      (λ split. absurd (split.2.differ (texts-agree digest (way_text digest v) (way_text digest w) 0 (n + 1) none split.0 (omega arith) (omega arith) split.2.agree)))
      (one_opening digest is_digest a b (digest_at p) (digest_at q) k n (λ l below. p_path.sizes l below ∙ sym (q_path.sizes l below))
      (sym (opens-climbs digest a (digest_at p) n k root first) ∙ opens-climbs digest b (digest_at q) n k root second))

  chunk-same : (root : List ℕ) (x y : Option Opening) (address : Option ℕ) → ChunkRange x → ChunkRange y → is_some x ≡ is_some address → is_some y ≡ is_some address
      → WaysOpen digest (chunk_ways root x address) → WaysOpen digest (chunk_ways root y address) → ways_collision digest (chunk_ways root x address) (chunk_ways root y address) ≡ None → x ≡ y
  chunk-same root None None address x_range y_range x_shape y_shape x_opens y_opens none = refl
  chunk-same root None (Some y) None x_range y_range x_shape y_shape x_opens y_opens none = absurd (true≢false y_shape)
  chunk-same root None (Some y) (Some k) x_range y_range x_shape y_shape x_opens y_opens none = absurd (true≢false (sym x_shape))
  chunk-same root (Some x) y None x_range y_range x_shape y_shape x_opens y_opens none = absurd (true≢false x_shape)
  chunk-same root (Some x) None (Some k) x_range y_range x_shape y_shape x_opens y_opens none = absurd (true≢false (sym y_shape))
  chunk-same root (Some x) (Some y) (Some k) x_range y_range x_shape y_shape x_opens y_opens none =
      let both = way-same 27 (k / 32) root (0 ∷ x.chunk) (0 ∷ y.chunk) x.path.0 y.path.0 x_range y_range x_opens.0 y_opens.0
      (none-there (first_collision digest (way_texts digest (chunk_way root x k)) (way_texts digest (chunk_way root y k))) None none).0 in
      let chunk : x.chunk ≡ y.chunk = (cons_parts 0 0 x.chunk y.chunk both.0).1 in
      let path : x.path.0 ≡ y.path.0 = both.1 in
      ap Some (λ i. record { chunk = chunk i; path = record { 0 = path i } })

  each-same : (root : List ℕ) (rs : List ℕ) (os ps : List RegOpening) → EachRange os → EachRange ps → length os ≡ length rs → length ps ≡ length rs
      → WaysOpen digest (each_way root rs os) → WaysOpen digest (each_way root rs ps) → ways_collision digest (each_way root rs os) (each_way root rs ps) ≡ None → os ≡ ps
  each-same root [] [] [] o_range p_range o_size p_size o_opens p_opens none = refl
  each-same root [] [] (p ∷ ps) o_range p_range o_size p_size o_opens p_opens none = absurd (omega arith)
  each-same root [] (o ∷ os) ps o_range p_range o_size p_size o_opens p_opens none = absurd (omega arith)
  each-same root (r ∷ rs) [] ps o_range p_range o_size p_size o_opens p_opens none = absurd (omega arith)
  each-same root (r ∷ rs) (o ∷ os) [] o_range p_range o_size p_size o_opens p_opens none = absurd (omega arith)
  each-same root (r ∷ rs) (o ∷ os) (p ∷ ps) o_range p_range o_size p_size o_opens p_opens none =
      let parts = none-there (first_collision digest (way_texts digest (register_way root r o)) (way_texts digest (register_way root r p))) (ways_collision digest (each_way root rs os) (each_way root rs ps)) none in
      let both = way-same 5 r root (register_text o.value) (register_text p.value) o.path.0 p.path.0 o_range.1 p_range.1 o_opens.0 p_opens.0 parts.0 in
      let value : o.value ≡ p.value = register_text_same o.value p.value o_range.0 p_range.0 both.0 in
      let path : o.path.0 ≡ p.path.0 = both.1 in
      let here : o ≡ p = λ i. record { value = value i; path = record { 0 = path i } } in
      let rest = each-same root rs os ps o_range.2 p_range.2 (omega arith) (omega arith) o_opens.1 p_opens.1 parts.1 in
      cc

  input-same : (t : Option HeldInput) (x y : Option InOpening) (byte : Option ℕ) → InputRange x → InputRange y → is_some x ≡ is_some byte → is_some y ≡ is_some byte
      → (t ≡ None → is_some byte ≡ false) → WaysOpen digest (input_ways t x byte) → WaysOpen digest (input_ways t y byte) → ways_collision digest (input_ways t x byte) (input_ways t y byte) ≡ None → x ≡ y
  input-same t None None byte x_range y_range x_shape y_shape offered x_opens y_opens none = refl
  input-same t None (Some y) None x_range y_range x_shape y_shape offered x_opens y_opens none = absurd (true≢false y_shape)
  input-same t None (Some y) (Some k) x_range y_range x_shape y_shape offered x_opens y_opens none = absurd (true≢false (sym x_shape))
  input-same t (Some x) y None x_range y_range x_shape y_shape offered x_opens y_opens none = absurd (true≢false x_shape)
  input-same t (Some x) None (Some k) x_range y_range x_shape y_shape offered x_opens y_opens none = absurd (true≢false (sym y_shape))
  input-same None (Some x) (Some y) (Some k) x_range y_range x_shape y_shape offered x_opens y_opens none = absurd (true≢false (offered refl))
  input-same (Some t) (Some x) (Some y) (Some k) x_range y_range x_shape y_shape offered x_opens y_opens none =
      let both = way-same 15 (k / 32) t.root.0 (0 ∷ x.chunk) (0 ∷ y.chunk) x.path.0 y.path.0 x_range y_range x_opens.0 y_opens.0
      (none-there (first_collision digest (way_texts digest (input_way t.root.0 x k)) (way_texts digest (input_way t.root.0 y k))) None none).0 in
      let chunk : x.chunk ≡ y.chunk = (cons_parts 0 0 x.chunk y.chunk both.0).1 in
      let path : x.path.0 ≡ y.path.0 = both.1 in
      ap Some (λ i. record { chunk = chunk i; path = record { 0 = path i } })

  unoffered : (f : Facts) → f.input_tree ≡ None → is_some (input_called f) ≡ false
  unoffered f none = ap (λ (t : Option HeldInput). is_some (byte_needed t (needed_of f))) none

  -- proofs that are the same but for their last openings
  last-same : (version : ℕ) (mem : Digest32) (tree : Option HeldInput) (regs : HeldRegisters) (ctl : Ctl) (fetch xo yo : Option Opening) (xi yi : Option InOpening)
      → ChunkRange xo → ChunkRange yo → InputRange xi → InputRange yi
      → IsOpen digest (facts_by version mem tree regs ctl fetch xo xi) → IsOpen digest (facts_by version mem tree regs ctl fetch yo yi)
      → NoCollision digest (facts_by version mem tree regs ctl fetch xo xi) (facts_by version mem tree regs ctl fetch yo yi)
      → facts_by version mem tree regs ctl fetch xo xi ≡ facts_by version mem tree regs ctl fetch yo yi
  last-same version mem tree regs ctl fetch xo yo xi yi xo_range yo_range xi_range yi_range x_open y_open none =
      let x = facts_by version mem tree regs ctl fetch xo xi in
      let operand = chunk-same mem.0 xo yo (operand_called x) xo_range yo_range x_open.operand_shaped y_open.operand_shaped x_open.operand_opens y_open.operand_opens none.operand in
      let input = input-same tree xi yi (input_called x) xi_range yi_range x_open.input_shaped y_open.input_shaped (unoffered x) x_open.input_opens y_open.input_opens none.input in
      λ i. facts_by version mem tree regs ctl fetch (operand i) (input i)

  -- but for their opened registers and what follows
  named-same : (version : ℕ) (mem : Digest32) (tree : Option HeldInput) (root : Digest32) (os ps : List RegOpening) (ctl : Ctl) (fetch xo yo : Option Opening) (xi yi : Option InOpening)
      → EachRange os → EachRange ps → ChunkRange xo → ChunkRange yo → InputRange xi → InputRange yi
      → IsOpen digest (facts_by version mem tree (Opened root os) ctl fetch xo xi) → IsOpen digest (facts_by version mem tree (Opened root ps) ctl fetch yo yi)
      → NoCollision digest (facts_by version mem tree (Opened root os) ctl fetch xo xi) (facts_by version mem tree (Opened root ps) ctl fetch yo yi)
      → facts_by version mem tree (Opened root os) ctl fetch xo xi ≡ facts_by version mem tree (Opened root ps) ctl fetch yo yi
  named-same version mem tree root os ps ctl fetch xo yo xi yi os_range ps_range xo_range yo_range xi_range yi_range x_open y_open none =
      let x = facts_by version mem tree (Opened root os) ctl fetch xo xi in
      let named : os ≡ ps = each-same root.0 (named_called x) os ps os_range ps_range x_open.counted y_open.counted x_open.named_open y_open.named_open none.registers in
      let y_open' = subst (λ (l : List RegOpening). IsOpen digest (facts_by version mem tree (Opened root l) ctl fetch yo yi)) (sym named) y_open in
      let none' = subst (λ (l : List RegOpening). NoCollision digest x (facts_by version mem tree (Opened root l) ctl fetch yo yi)) (sym named) none in
      last-same version mem tree (Opened root os) ctl fetch xo yo xi yi xo_range yo_range xi_range yi_range x_open y_open' none'
      ∙ ap (λ (l : List RegOpening). facts_by version mem tree (Opened root l) ctl fetch yo yi) named

  registers-same : (version : ℕ) (mem : Digest32) (tree : Option HeldInput) (x y : HeldRegisters) (ctl : Ctl) (fetch xo yo : Option Opening) (xi yi : Option InOpening)
      → Meets x y → RegistersRange x → RegistersRange y → ChunkRange xo → ChunkRange yo → InputRange xi → InputRange yi
      → IsOpen digest (facts_by version mem tree x ctl fetch xo xi) → IsOpen digest (facts_by version mem tree y ctl fetch yo yi)
      → NoCollision digest (facts_by version mem tree x ctl fetch xo xi) (facts_by version mem tree y ctl fetch yo yi)
      → facts_by version mem tree x ctl fetch xo xi ≡ facts_by version mem tree y ctl fetch yo yi
  registers-same version mem tree (Whole xs) (Opened other ps) ctl fetch xo yo xi yi meets x_range y_range xo_range yo_range xi_range yi_range x_open y_open none = absurd meets
  registers-same version mem tree (Opened root os) (Whole ys) ctl fetch xo yo xi yi meets x_range y_range xo_range yo_range xi_range yi_range x_open y_open none = absurd meets
  registers-same version mem tree (Whole xs) (Whole ys) ctl fetch xo yo xi yi meets x_range y_range xo_range yo_range xi_range yi_range x_open y_open none =
      let y_open' = subst (λ (l : List ℕ). IsOpen digest (facts_by version mem tree (Whole l) ctl fetch yo yi)) (sym meets) y_open in
      let none' = subst (λ (l : List ℕ). NoCollision digest (facts_by version mem tree (Whole xs) ctl fetch xo xi) (facts_by version mem tree (Whole l) ctl fetch yo yi)) (sym meets) none in
      last-same version mem tree (Whole xs) ctl fetch xo yo xi yi xo_range yo_range xi_range yi_range x_open y_open' none'
      ∙ ap (λ (l : List ℕ). facts_by version mem tree (Whole l) ctl fetch yo yi) meets
  registers-same version mem tree (Opened root os) (Opened other ps) ctl fetch xo yo xi yi meets x_range y_range xo_range yo_range xi_range yi_range x_open y_open none =
      let y_open' = subst (λ (r : Digest32). IsOpen digest (facts_by version mem tree (Opened r ps) ctl fetch yo yi)) (sym meets) y_open in
      let none' = subst (λ (r : Digest32). NoCollision digest (facts_by version mem tree (Opened root os) ctl fetch xo xi) (facts_by version mem tree (Opened r ps) ctl fetch yo yi)) (sym meets) none in
      named-same version mem tree root os ps ctl fetch xo yo xi yi x_range.1 y_range.1 xo_range yo_range xi_range yi_range x_open y_open' none'
      ∙ ap (λ (r : Digest32). facts_by version mem tree (Opened r ps) ctl fetch yo yi) meets

  -- the parts
  ctl-same : (c d : Ctl) → c.pc ≡ d.pc → c.status ≡ d.status → c.out_len ≡ d.out_len → c.chain.0 ≡ d.chain.0 → c ≡ d
  ctl-same c d pc status out_len chain = λ i. record { pc = pc i; status = status i; out_len = out_len i; chain = record { 0 = chain i } }

  storage-size : (tree : Option HeldInput) (mem : List ℕ) → length mem ≡ 32 → length (storage_held digest tree mem) ≡ 32
  storage-size (Some t) mem size = is_digest _
  storage-size None mem size = size

  registers-size : (regs : HeldRegisters) → RegistersRange regs → length (registers_held digest regs) ≡ 32
  registers-size (Whole xs) range = is_digest _
  registers-size (Opened root named) range = range.0

  storage-same : (t u : Option HeldInput) (m n : List ℕ) → SameTree t u → TreeRange t → TreeRange u → length m ≡ 32 → length n ≡ 32 → storage_held digest t m ≡ storage_held digest u n
      → first_collision digest (storage_texts t m) (storage_texts u n) ≡ None → (t ≡ u) × (m ≡ n)
  storage-same None None m n alike t_range u_range m_size n_size same none = (refl, same)
  storage-same None (Some u) m n alike t_range u_range m_size n_size same none = absurd alike
  storage-same (Some t) None m n alike t_range u_range m_size n_size same none = absurd alike
  storage-same (Some t) (Some u) m n alike t_range u_range m_size n_size same none =
      let parts = storage_text_same m n t.root.0 u.root.0 t.len u.len (m_size ∙ sym n_size) t_range.0 u_range.0 (alone (storage_text m t.len t.root.0) (storage_text n u.len u.root.0) none same) in
      let len = parts.1 in
      let root = parts.2 in
      (ap Some (λ i. record { len = len i; root = record { 0 = root i } }), parts.0)

  whole-same : (x y : HeldRegisters) → SameRegisters x y → RegistersRange x → RegistersRange y → registers_held digest x ≡ registers_held digest y → first_collision digest (registers_texts x) (registers_texts y) ≡ None → Meets x y
  whole-same (Whole xs) (Whole ys) alike x_range y_range same none = registers_text_same xs ys x_range y_range (alone (registers_text xs) (registers_text ys) none same)
  whole-same (Whole xs) (Opened other ps) alike x_range y_range same none = absurd alike
  whole-same (Opened root os) (Whole ys) alike x_range y_range same none = absurd alike
  whole-same (Opened root os) (Opened other ps) alike x_range y_range same none = same-digest root other same

  is-open : (version : ℕ) (a : Digest32) (f : Facts) (b : Digest32) → LeadsFrom digest version a f b → IsOpen digest f
  is-open version a f b leads =
      let h = leads.hold in
      record {
        fetch_shaped = h.1.0;
        fetch_opens = h.1.1.1.0;
        counted = h.1.1.1.1.0;
        named_open = h.1.1.1.1.1.0;
        operand_shaped = h.1.1.1.1.1.1.0;
        operand_opens = h.1.1.1.1.1.1.1.0;
        input_shaped = h.1.1.1.1.1.1.1.1.0;
        input_opens = h.1.1.1.1.1.1.1.1.1.0;
      }

  pub facts-same : (version : ℕ) (a b c : Digest32) (x y : Facts) → AreAlike x y → FactsRange x → FactsRange y → LeadsFrom digest version a x b → LeadsFrom digest version a y c
      → opened_collision digest x y ≡ None → x ≡ y
  facts-same version a b c x y alike x_range y_range x_leads y_leads none =
      let both = none-there (parts_collision digest x y) (all_ways_collision digest x y) none in
      let first = none-there _ _ both.0 in
      let second = none-there _ _ first.1 in
      let third = none-there _ _ second.1 in
      let fetches = none-there _ _ both.1 in
      let names = none-there _ _ fetches.1 in
      let lasts = none-there _ _ names.1 in
      let texts = alone (text_before digest x) (text_before digest y) first.0 (sym x_leads.hold.1.1.0 ∙ y_leads.hold.1.1.0) in
      let parts = state_text_same (storage_held digest x.input_tree x.mem.0) (registers_held digest x.regs) (digest (control_text_of x.ctl)) (storage_held digest y.input_tree y.mem.0) (registers_held digest y.regs) (digest (control_text_of y.ctl))
      (storage-size x.input_tree x.mem.0 x_range.mem ∙ sym (storage-size y.input_tree y.mem.0 y_range.mem)) (registers-size x.regs x_range.regs ∙ sym (registers-size y.regs y_range.regs)) (cons_parts 4 4 _ _ texts).1 in
      let fields = control_text_same x.ctl.pc y.ctl.pc x.ctl.status y.ctl.status x.ctl.out_len y.ctl.out_len x.ctl.chain.0 y.ctl.chain.0
      x_range.pc y_range.pc x_range.code y_range.code x_range.out_len y_range.out_len (alone (control_text_of x.ctl) (control_text_of y.ctl) third.1 parts.2) in
      let ctl : x.ctl ≡ y.ctl = ctl-same x.ctl y.ctl fields.0 fields.1 fields.2 fields.3 in
      let store = storage-same x.input_tree y.input_tree x.mem.0 y.mem.0 alike.0 x_range.tree y_range.tree x_range.mem y_range.mem parts.0 second.0 in
      let mem : x.mem ≡ y.mem = same-digest x.mem y.mem store.1 in
      let tree : x.input_tree ≡ y.input_tree = store.0 in
      let meets = whole-same x.regs y.regs alike.1 x_range.regs y_range.regs parts.1 third.0 in
      let number : x.version ≡ y.version = x_leads.hold.0 ∙ sym y_leads.hold.0 in
      let moved : y ≡ facts_by x.version x.mem x.input_tree y.regs x.ctl y.fetch y.operand y.input =
      λ i. facts_by (sym number i) (sym mem i) (sym tree i) y.regs (sym ctl i) y.fetch y.operand y.input in
      let x_open = is-open version a x b x_leads in
      let y_open = subst (IsOpen digest) moved (is-open version a y c y_leads) in
      let no : NoCollision digest x y = record { fetch = fetches.0; registers = names.0; operand = lasts.0; input = lasts.1 } in
      let none' = subst (NoCollision digest x) moved no in
      let fetch : x.fetch ≡ y.fetch = chunk-same x.mem.0 x.fetch y.fetch (fetch_address x.ctl) x_range.fetch y_range.fetch x_open.fetch_shaped y_open.fetch_shaped x_open.fetch_opens y_open.fetch_opens none'.fetch in
      let y_open' = subst (λ (o : Option Opening). IsOpen digest (facts_by x.version x.mem x.input_tree y.regs x.ctl o y.operand y.input)) (sym fetch) y_open in
      let none'' = subst (λ (o : Option Opening). NoCollision digest x (facts_by x.version x.mem x.input_tree y.regs x.ctl o y.operand y.input)) (sym fetch) none' in
      registers-same x.version x.mem x.input_tree x.regs y.regs x.ctl x.fetch x.operand y.operand x.input y.input meets x_range.regs y_range.regs x_range.operand y_range.operand x_range.input y_range.input x_open y_open' none''
      ∙ (ap (λ (o : Option Opening). facts_by x.version x.mem x.input_tree y.regs x.ctl o y.operand y.input) fetch ∙ sym moved)

-- proofs of one version hold alike, and those that hold the same are the same
alike-of : (x y : Proof) → (facts_of x).version ≡ (facts_of y).version → AreAlike (facts_of x) (facts_of y)
alike-of (V1 x) (V1 y) same = (tt, tt)
alike-of (V2 x) (V2 y) same = (tt, tt)
alike-of (V3 x) (V3 y) same = (tt, tt)
alike-of (V1 x) (V2 y) same = absurd (omega arith)
alike-of (V1 x) (V3 y) same = absurd (omega arith)
alike-of (V2 x) (V1 y) same = absurd (omega arith)
alike-of (V2 x) (V3 y) same = absurd (omega arith)
alike-of (V3 x) (V1 y) same = absurd (omega arith)
alike-of (V3 x) (V2 y) same = absurd (omega arith)

-- a proof is the one that holds what it holds
held-again : (x : Proof) → proof_of (facts_of x) ≡ x
held-again (V1 x) = refl
held-again (V2 x) = refl
held-again (V3 x) = refl

proof-same : (x y : Proof) → facts_of x ≡ facts_of y → x ≡ y
proof-same x y same = sym (held-again x) ∙ (ap proof_of same ∙ held-again y)

opens-true : (digest : List ℕ → List ℕ) (version : ℕ) (a b : Digest32) (f : Facts) → LeadsFrom digest version a f b → opens_in digest version a f ≡ true
opens-true digest version a b f leads =
    ap (λ t. t && bytes_eq a.0 (root_before digest f)) (eq-eqb f.version version leads.hold.0) ∙ (bytes_eq-Decides a.0 (root_before digest f)).1 leads.hold.1.1.0

pub proofs_without_collision : (digest : List ℕ → List ℕ) → ((bytes : List ℕ) → length (digest bytes) ≡ 32) → (version : ℕ) (a b c : Digest32) (x y : Proof) → is_in_range x ≡ true → is_in_range y ≡ true
    → LeadsFrom digest version a (facts_of x) b → LeadsFrom digest version a (facts_of y) c → step_collision digest version a (facts_of x) (facts_of y) ≡ None → x ≡ y
unfolding step_collision
proofs_without_collision digest is_digest version a b c x y x_range y_range x_leads y_leads none =
    let f = facts_of x in
    let g = facts_of y in
    let open_both : opened_collision digest f g ≡ None =
    sym (ap (λ t. if t && opens_in digest version a g then opened_collision digest f g else None) (opens-true digest version a b f x_leads)
    ∙ ap (λ t. if t then opened_collision digest f g else None) (opens-true digest version a c g y_leads)) ∙ none in
    proof-same x y (facts-same digest is_digest version a b c f g (alike-of x y (x_leads.hold.0 ∙ sym y_leads.hold.0)) (facts-range f x_range) (facts-range g y_range) x_leads y_leads open_both)

pub proofs_apart : (digest : List ℕ → List ℕ) → ((bytes : List ℕ) → length (digest bytes) ≡ 32) → (version : ℕ) (a b c : Digest32) (x y : Proof) → is_in_range x ≡ true → is_in_range y ≡ true
    → LeadsFrom digest version a (facts_of x) b → LeadsFrom digest version a (facts_of y) c → b ≢ c → (pair : List ℕ × List ℕ) × (step_collision digest version a (facts_of x) (facts_of y) ≡ Some pair)
proofs_apart digest is_digest version a b c x y x_range y_range x_leads y_leads differ = go (step_collision digest version a (facts_of x) (facts_of y)) refl
  where
    go : (o : Option (List ℕ × List ℕ)) → step_collision digest version a (facts_of x) (facts_of y) ≡ o → (pair : List ℕ × List ℕ) × (step_collision digest version a (facts_of x) (facts_of y) ≡ Some pair)
    go (Some pair) is = (pair, is)
    go None is =
        let same = proofs_without_collision digest is_digest version a b c x y x_range y_range x_leads y_leads is in
        absurd (differ (same-digest b c (x_leads.root ∙ (ap (λ (p : Proof). root_next digest (facts_of p)) same ∙ sym y_leads.root))))

-- a proof has no collision with itself
ways-same : (digest : List ℕ → List ℕ) (ws : List Way) → ways_collision digest ws ws ≡ None
ways-same digest [] = refl
ways-same digest (w ∷ ws) = ap (λ found. option_or found (ways_collision digest ws ws)) (collision_of_same digest (way_texts digest w)) ∙ ways-same digest ws

pub no_collision_of_one_proof : (digest : List ℕ → List ℕ) (version : ℕ) (a : Digest32) (x : Facts) → step_collision digest version a x x ≡ None
unfolding step_collision
no_collision_of_one_proof digest version a x = go (opens_in digest version a x)
  where
    neither : (first other : Option (List ℕ × List ℕ)) → first ≡ None → other ≡ None → option_or first other ≡ None
    neither first other one two = ap (λ o. option_or o other) one ∙ two

    nothing : opened_collision digest x x ≡ None
    nothing = neither (parts_collision digest x x) (all_ways_collision digest x x)
        (neither _ _ (collision_of_same digest (text_before digest x ∷ []))
        (neither _ _ (collision_of_same digest (storage_texts x.input_tree x.mem.0))
        (neither _ _ (collision_of_same digest (registers_texts x.regs)) (collision_of_same digest (control_text_of x.ctl ∷ [])))))
        (neither _ _ (ways-same digest (fetch_ways x)) (neither _ _ (ways-same digest (named_ways x)) (neither _ _ (ways-same digest (operand_ways x)) (ways-same digest (read_ways x)))))

    go : (t : Bool) → (if t && t then opened_collision digest x x else None) ≡ None
    go true = nothing
    go false = refl

-- the strings of the parts and of the ways are among those that a proof opens
module _ (digest : List ℕ → List ℕ) (f : Facts) (x : List ℕ) where
  among-part : Contains (part_texts digest f) x → Contains (opened_by_facts digest f) x
  unfolding opened_by_facts
  among-part among = Contains-append_left (part_texts digest f) _ x among

  among-fetch : Contains (ways_texts digest (fetch_ways f)) x → Contains (opened_by_facts digest f) x
  unfolding opened_by_facts
  among-fetch among = Contains-append_right (part_texts digest f) _ x (Contains-append_left (ways_texts digest (fetch_ways f)) _ x among)

  among-named : Contains (ways_texts digest (named_ways f)) x → Contains (opened_by_facts digest f) x
  unfolding opened_by_facts
  among-named among = Contains-append_right (part_texts digest f) _ x (Contains-append_right (ways_texts digest (fetch_ways f)) _ x (Contains-append_left (ways_texts digest (named_ways f)) _ x among))

  among-operand : Contains (ways_texts digest (operand_ways f)) x → Contains (opened_by_facts digest f) x
  unfolding opened_by_facts
  among-operand among = Contains-append_right (part_texts digest f) _ x (Contains-append_right (ways_texts digest (fetch_ways f)) _ x (Contains-append_right (ways_texts digest (named_ways f)) _ x
      (Contains-append_left (ways_texts digest (operand_ways f)) _ x among)))

  among-read : Contains (ways_texts digest (read_ways f)) x → Contains (opened_by_facts digest f) x
  unfolding opened_by_facts
  among-read among = Contains-append_right (part_texts digest f) _ x (Contains-append_right (ways_texts digest (fetch_ways f)) _ x (Contains-append_right (ways_texts digest (named_ways f)) _ x
      (Contains-append_right (ways_texts digest (operand_ways f)) _ x among)))

  among-state : Contains (text_before digest f ∷ []) x → Contains (opened_by_facts digest f) x
  among-state among = among-part (Contains-append_left (text_before digest f ∷ []) _ x among)

  among-storage : Contains (storage_texts f.input_tree f.mem.0) x → Contains (opened_by_facts digest f) x
  among-storage among = among-part (contains-tail x (text_before digest f) _ (Contains-append_left (storage_texts f.input_tree f.mem.0) _ x among))

  among-registers : Contains (registers_texts f.regs) x → Contains (opened_by_facts digest f) x
  among-registers among = among-part (contains-tail x (text_before digest f) _ (Contains-append_right (storage_texts f.input_tree f.mem.0) _ x (Contains-append_left (registers_texts f.regs) _ x among)))

  among-control : Contains (control_text_of f.ctl ∷ []) x → Contains (opened_by_facts digest f) x
  among-control among = among-part (contains-tail x (text_before digest f) _ (Contains-append_right (storage_texts f.input_tree f.mem.0) _ x (Contains-append_right (registers_texts f.regs) _ x among)))

-- what is called a collision is one
module _ (digest : List ℕ → List ℕ) (x y : Facts) (pair : List ℕ × List ℕ) where
  collides : (xs ys : List (List ℕ)) → ((t : List ℕ) → Contains xs t → Contains (opened_by_facts digest x) t) → ((t : List ℕ) → Contains ys t → Contains (opened_by_facts digest y) t)
      → first_collision digest xs ys ≡ Some pair → IsStepCollision digest x y pair
  collides xs ys x_opens y_opens some =
      let found = first-collides digest xs ys pair some in
      record { differ = found.0; one_digest = found.1; first_opened = x_opens pair.0 found.2; second_opened = y_opens pair.1 found.3 }

  ways-collide : (vs ws : List Way) → ((t : List ℕ) → Contains (ways_texts digest vs) t → Contains (opened_by_facts digest x) t) → ((t : List ℕ) → Contains (ways_texts digest ws) t → Contains (opened_by_facts digest y) t)
      → ways_collision digest vs ws ≡ Some pair → IsStepCollision digest x y pair
  ways-collide [] ws x_opens y_opens some = absurd cc
  ways-collide (v ∷ vs) [] x_opens y_opens some = absurd cc
  ways-collide (v ∷ vs) (w ∷ ws) x_opens y_opens some = ⊎_elim
      (λ here. collides (way_texts digest v) (way_texts digest w) (λ t among. x_opens t (Contains-append_left (way_texts digest v) (ways_texts digest vs) t among)) (λ t among. y_opens t (Contains-append_left (way_texts digest w) (ways_texts digest ws) t among)) here)
      (λ later. ways-collide vs ws (λ t among. x_opens t (Contains-append_right (way_texts digest v) (ways_texts digest vs) t among)) (λ t among. y_opens t (Contains-append_right (way_texts digest w) (ways_texts digest ws) t among)) later)
      (either-there (first_collision digest (way_texts digest v) (way_texts digest w)) (ways_collision digest vs ws) pair some)

  parts-collide : parts_collision digest x y ≡ Some pair → IsStepCollision digest x y pair
  parts-collide some = ⊎_elim (collides _ _ (among-state digest x) (among-state digest y))
      (λ later. ⊎_elim (collides _ _ (among-storage digest x) (among-storage digest y))
      (λ last. ⊎_elim (collides _ _ (among-registers digest x) (among-registers digest y)) (collides _ _ (among-control digest x) (among-control digest y)) (either-there _ _ pair last))
      (either-there _ _ pair later))
      (either-there _ _ pair some)

  all-collide : all_ways_collision digest x y ≡ Some pair → IsStepCollision digest x y pair
  all-collide some = ⊎_elim (ways-collide (fetch_ways x) (fetch_ways y) (among-fetch digest x) (among-fetch digest y))
      (λ later. ⊎_elim (ways-collide (named_ways x) (named_ways y) (among-named digest x) (among-named digest y))
      (λ last. ⊎_elim (ways-collide (operand_ways x) (operand_ways y) (among-operand digest x) (among-operand digest y)) (ways-collide (read_ways x) (read_ways y) (among-read digest x) (among-read digest y)) (either-there _ _ pair last))
      (either-there _ _ pair later))
      (either-there _ _ pair some)

  pub proofs_collide : (version : ℕ) (a : Digest32) → step_collision digest version a x y ≡ Some pair → IsStepCollision digest x y pair
  unfolding step_collision
  proofs_collide version a = go (opens_in digest version a x && opens_in digest version a y)
    where
      go : (t : Bool) → (if t then opened_collision digest x y else None) ≡ Some pair → IsStepCollision digest x y pair
      go true some = ⊎_elim parts-collide all-collide (either-there (parts_collision digest x y) (all_ways_collision digest x y) pair some)
      go false some = absurd cc
