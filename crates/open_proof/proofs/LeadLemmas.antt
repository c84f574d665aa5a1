-- The step on what is shown of a state leads to the root of the next state: where registers are opened, by the step from the state
-- whose unnamed registers are 0.
use Rattle.std.proofs.Common.{◌≡◌, ℕ, List, map, length, Option, Some, None, true, refl, sym, ap, subst, ◌∙◌}
use Rattle.rd_base.specs.Scheme.{scheme_of}
use Rattle.rd_base.specs.declared.scheme.InputScheme.{InputScheme}
use Rattle.rd_base.specs.declared.scheme.InputScheme.TheVariants as input
use Rattle.rd_base.specs.declared.scheme.RegisterScheme.TheVariants as registers
use Rattle.rd_base.specs.declared.digest.Digest32.{Digest32}
use Rattle.rd_base.specs.declared.opened.RegOpening.{RegOpening}
use Rattle.rv_decode.specs.declared.instr.Instr.{Instr}
use Rattle.digest_core.specs.Text.{registers_text, storage_text}
use Rattle.merkle_nodes.specs.Node.{node}
use Rattle.mem_tree.specs.Memory.{memory_leaf}
use Rattle.out_chain.specs.Root.{parts_text}
use Rattle.rv_step.specs.Alike.{named_at, with_registers, Shows, has_register}
use Rattle.rv_step.specs.Effect.{x}
use Rattle.rv_step.specs.Named.{named_by, AreRegisters}
use Rattle.rv_step.specs.State.{State}
use Rattle.rv_step.specs.Step.{step}
use Rattle.rv_step.specs.Valid.{IsValid}
use Rattle.rv_step.specs.Fetching.{fetch_address}
use Rattle.rv_step.specs.NextEffect.{seen_of, fetched, read_at}
use Rattle.rv_step.specs.NextNeed.{needed_by, next_need}
use Rattle.state_commit.specs.StateRoot.{ctl_of, memory_digest, registers_by, storage_by, storage_digest, root_in}
use Rattle.mem_tree.specs.InputTree.{input_root}
use Rattle.mem_tree.specs.RegisterTree.{registers_root}
use Rattle.open_proof.specs.Held.{held_of}
use Rattle.open_proof.specs.Called.{address_needed}
use Rattle.open_proof.specs.OpenedChunk.{IsShownAt, fetch_of_state}
use Rattle.open_proof.specs.Facts.{fetched_of, named_called, file_of, values_of, file_shown, file_of_facts, byte_needed}
use Rattle.open_proof.specs.Next.{step_held, storage_held, root_changed, held_shown, held_next, root_of_next, root_next}
use Rattle.open_proof.specs.Shown.{tree_by, tree_of_state, AreShown, ShowsRegisters, ShowsInput, ShowsState}
use Rattle.open_proof.specs.SeenHeld.{number_shown, offering}
use Rattle.open_proof.specs.LawsBelow.{StepLaws, RegisterLaws, TreeLaws}
use Rattle.open_proof.specs.declared.facts.Facts.{Facts}
use Rattle.open_proof.specs.declared.facts.HeldInput.{HeldInput}
use Rattle.open_proof.specs.declared.facts.HeldRegisters.{HeldRegisters}
use Rattle.open_proof.specs.declared.facts.HeldRegisters.TheVariants.{Whole, Opened}
use Rattle.open_proof.proofs.HeldLemmas.{fetched-same, held-step}
use Rattle.open_proof.proofs.RegisterLemmas.{file-size, file-zero, file-shows, map-same, values-are, tree-follows}

-- how the input is held, by the tree of a state
offers : (digest : List ℕ → List ℕ) (held : InputScheme) (xs : List ℕ) → offering (tree_by digest held xs) ≡ held
offers digest input.Tree xs = refl
offers digest input.InMemory xs = refl

pub offers-as-held : (digest : List ℕ → List ℕ) (s : State) → offering (tree_of_state digest s) ≡ (scheme_of s.version).input
offers-as-held digest s = offers digest (scheme_of s.version).input s.input

-- what an instruction needs depends on the registers that it names alone
need-alike : RegisterLaws → (held : InputScheme) (xs ys : List ℕ) (o : Option Instr) → x xs 0 ≡ x ys 0 → map (x xs) (named_by o) ≡ map (x ys) (named_by o) → needed_by held xs o ≡ needed_by held ys o
need-alike laws held xs ys None zeros same = refl
need-alike laws held xs ys (Some i) zeros same = laws.needed held xs ys i zeros same

-- what is stored, where the input is held as the state has it
pub storage-same : (digest : List ℕ → List ℕ) (s t : State) → t.input ≡ s.input → storage_held digest (tree_of_state digest s) (memory_digest digest t) ≡ storage_digest digest s.version t
storage-same digest s t same = go (scheme_of s.version).input
  where
    go : (held : InputScheme) → storage_held digest (tree_by digest held s.input) (memory_digest digest t) ≡ storage_by digest held (memory_digest digest t) (length t.input) (input_root digest t.input)
    go input.Tree = ap (λ xs. digest (storage_text (memory_digest digest t) (length xs) (input_root digest xs))) (sym same)
    go input.InMemory = refl

-- the instruction that a proof shows is the one that the state fetches
pub shown-word : StepLaws → (digest : List ℕ → List ℕ) (s : State) (facts : Facts) → facts.ctl ≡ ctl_of digest s → IsShownAt digest s.memory facts.fetch (fetch_of_state s) → fetched_of facts ≡ fetched (seen_of s)
shown-word steps digest s facts ctl fetch =
    ap (λ c. read_at (λ addr. number_shown facts.fetch addr 4) (fetch_address c)) ctl ∙ fetched-same steps digest s facts.fetch fetch

-- what a proof shows is a state's: first the registers that are named, then the file
module _ (steps : StepLaws) (laws : RegisterLaws) (trees : TreeLaws) (digest : List ℕ → List ℕ) (s : State) (valid : IsValid s) where
  pub names-low : AreRegisters (named_at s)
  names-low = laws.registers (fetched (seen_of s))

  -- the file of opened registers shows the state's
  module _ (os : List RegOpening) (shown : AreShown digest s.regs (named_at s) os) where
    abbrev pub file : List ℕ
    file = file_of (named_at s) (values_of os)

    agree : (r : ℕ) → has_register (named_at s) r ≡ true → x file r ≡ x s.regs r
    agree r in_it = ap (λ vs. x (file_of (named_at s) vs) r) (values-are digest s.regs (named_at s) os shown) ∙ file-shows (x s.regs) valid.regs.zero_first (named_at s) names-low r in_it

    zeros : x file 0 ≡ x s.regs 0
    zeros = file-zero (named_at s) (values_of os) ∙ sym valid.regs.zero_first

    named-same : map (x file) (named_at s) ≡ map (x s.regs) (named_at s)
    named-same = map-same (x file) (x s.regs) (named_at s) agree

    file-is-shown : Shows file s
    file-is-shown = record { size = file-size (named_at s) (values_of os) ∙ sym valid.regs.thirty_two; zero_first = zeros; named = named-same }

    pub need-shown : needed_by (scheme_of s.version).input file (fetched (seen_of s)) ≡ next_need (seen_of s)
    need-shown = need-alike laws (scheme_of s.version).input file s.regs (fetched (seen_of s)) zeros named-same

  -- the root after the step, where all registers are held
  whole-leads : (facts : Facts) → ShowsState digest facts s → (xs : List ℕ) → facts.regs ≡ Whole xs → (scheme_of s.version).registers ≡ registers.Whole → xs ≡ s.regs → root_next digest facts ≡ root_in digest s.version (step s)
  whole-leads facts shows xs whole version same =
      let names = named_called facts in
      let file : file_of_facts facts ≡ s.regs = ap (file_shown names) whole ∙ same in
      let held : held_shown facts ≡ held_of digest s = λ i. record { mem = shows.mem i; regs = file i; ctl = shows.ctl i } in
      let next : held_next digest facts ≡ held_of digest (step s) =
      ap (λ (t : Option HeldInput). step_held digest facts.fetch facts.operand t facts.input (held_shown facts)) shows.tree
      ∙ (ap (step_held digest facts.fetch facts.operand (tree_of_state digest s) facts.input) held
      ∙ held-step steps digest facts.fetch facts.operand facts.input s shows.fetch shows.operand shows.input) in
      ap (λ p. root_of_next digest facts.input_tree names facts.regs (file_of_facts facts) p) next
      ∙ (ap (λ (t : Option HeldInput). root_of_next digest t names facts.regs (file_of_facts facts) (held_of digest (step s))) shows.tree
      ∙ (ap (λ (r : HeldRegisters). root_of_next digest (tree_of_state digest s) names r (file_of_facts facts) (held_of digest (step s))) whole
      ∙ (ap (λ m. digest (parts_text digest m (digest (registers_text (step s).regs)) (ctl_of digest (step s)))) (storage-same digest s (step s) (laws.input s))
      ∙ ap (λ h. digest (parts_text digest (storage_digest digest s.version (step s)) (registers_by digest h (step s).regs) (ctl_of digest (step s)))) (sym version))))

  -- and where they are opened
  opened-leads : (facts : Facts) → ShowsState digest facts s → (root : Digest32) (os : List RegOpening) → facts.regs ≡ Opened root os → (scheme_of s.version).registers ≡ registers.Tree → root.0 ≡ registers_root digest s.regs → AreShown digest s.regs (named_at s) os
      → root_next digest facts ≡ root_in digest s.version (step s)
  opened-leads facts shows root os opened version is_root shown =
      let rs = named_at s in
      let f = file os shown in
      let s' = with_registers f s in
      let t = laws.alike f s (file-is-shown os shown) in
      let u = laws.changes s in
      let names : named_called facts ≡ rs = ap named_by (shown-word steps digest s facts shows.ctl shows.fetch) in
      let file' : file_of_facts facts ≡ f = ap (λ l. file_shown l facts.regs) names ∙ ap (file_shown rs) opened in
      let held : held_shown facts ≡ held_of digest s' = λ i. record { mem = shows.mem i; regs = file' i; ctl = shows.ctl i } in
      let needed = need-shown os shown in
      let step' = held-step steps digest facts.fetch facts.operand facts.input s' shows.fetch
      (subst (λ n. IsShownAt digest s.memory facts.operand (address_needed n)) (sym needed) shows.operand)
      (subst (λ n. ShowsInput digest s.input facts.input (byte_needed (tree_of_state digest s) n)) (sym needed) shows.input) in
      let next : held_next digest facts ≡ held_of digest (step s') =
      ap (λ (t : Option HeldInput). step_held digest facts.fetch facts.operand t facts.input (held_shown facts)) shows.tree
      ∙ (ap (step_held digest facts.fetch facts.operand (tree_of_state digest s) facts.input) held ∙ step') in
      let tree : root_changed digest root.0 rs os f (step s').regs ≡ registers_root digest (step s).regs =
      ap (λ r. root_changed digest r rs os f (step s').regs) is_root
      ∙ tree-follows trees digest s.regs (step s).regs f (step s').regs t.regs u.one rs os names-low shown (agree os shown) u.elsewhere in
      let ctl : ctl_of digest (step s') ≡ ctl_of digest (step s) =
      λ i. ctl_of digest (record { regs = (step s).regs; pc = t.pc i; memory = t.memory i; status = t.status i; output = t.output i; version = t.version i; input = t.input i }) in
      ap (λ p. root_of_next digest facts.input_tree (named_called facts) facts.regs (file_of_facts facts) p) next
      ∙ (ap (λ (t : Option HeldInput). root_of_next digest t (named_called facts) facts.regs (file_of_facts facts) (held_of digest (step s'))) shows.tree
      ∙ (ap (λ l. root_of_next digest (tree_of_state digest s) l facts.regs (file_of_facts facts) (held_of digest (step s'))) names
      ∙ (ap (λ (r : HeldRegisters). root_of_next digest (tree_of_state digest s) rs r (file_of_facts facts) (held_of digest (step s'))) opened
      ∙ (ap (λ l. root_of_next digest (tree_of_state digest s) rs (Opened root os) l (held_of digest (step s'))) file'
      ∙ (ap (λ r. digest (parts_text digest (storage_held digest (tree_of_state digest s) (memory_digest digest (step s'))) r (ctl_of digest (step s')))) tree
      ∙ (ap (λ m. digest (parts_text digest (storage_held digest (tree_of_state digest s) (node digest (memory_leaf m) 27 0)) (registers_root digest (step s).regs) (ctl_of digest (step s')))) t.memory
      ∙ (ap (λ m. digest (parts_text digest m (registers_root digest (step s).regs) (ctl_of digest (step s')))) (storage-same digest s (step s) (laws.input s))
      ∙ (ap (λ c. digest (parts_text digest (storage_digest digest s.version (step s)) (registers_root digest (step s).regs) c)) ctl
      ∙ ap (λ h. digest (parts_text digest (storage_digest digest s.version (step s)) (registers_by digest h (step s).regs) (ctl_of digest (step s)))) (sym version)))))))))

  pub shown-leads : (facts : Facts) → ShowsState digest facts s → root_next digest facts ≡ root_in digest s.version (step s)
  shown-leads facts shows = go facts.regs refl shows.regs
    where
      go : (regs : HeldRegisters) → facts.regs ≡ regs → ShowsRegisters digest s regs → root_next digest facts ≡ root_in digest s.version (step s)
      go (Whole xs) is shown = whole-leads facts shows xs is shown.0 shown.1
      go (Opened root os) is shown = opened-leads facts shows root os is shown.0 shown.1 shown.2
