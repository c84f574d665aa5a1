-- A true answer of the machine's run has a wire form.
use Rattle.std.proofs.Common.{◌≡◌, ℕ, zero, suc, ◌+◌, ◌*◌, ◌-◌, ◌/◌, ◌%◌, ◌^◌, ◌<◌, ◌≤◌, Bool, true, false, List, [], ◌∷◌, ◌++◌, map, length, replicate, slice_index, Option, Some, None, refl, sym, ap, ◌∙◌, subst, arith, length-append}
use Rattle.std.proofs.lemmas.List.{length-map}
use Rattle.std.specs.Prelude.{◌==◌, not, ◌&&◌}
use Rattle.std.specs.List.{range_with_len, AllByRecursion}
use Rattle.rd_base.specs.declared.digest.Digest32.{Digest32}
use Rattle.rd_base.specs.declared.answer.Answer.TheVariants as answer
use Rattle.rd_base.specs.declared.claim.Claim as claims
use Rattle.rd_base.specs.declared.opened.RegOpening.{RegOpening}
use Rattle.rd_base.specs.declared.proof.Proof.{Proof}
use Rattle.rd_base.specs.declared.status.Status.{Status}
use Rattle.rd_base.specs.declared.status.Status.TheVariants.{Running, Exited, Trapped}
use Rattle.rd_base.specs.declared.scheme.InputScheme.{InputScheme}
use Rattle.rd_base.specs.declared.scheme.InputScheme.TheVariants as inputs
use Rattle.rd_base.specs.declared.scheme.RegisterScheme.{RegisterScheme}
use Rattle.rd_base.specs.declared.scheme.RegisterScheme.TheVariants as registers_
use Rattle.rd_base.specs.Scheme.{scheme_of}
use Rattle.rd_base.specs.Status.{HasWordCode}
use Rattle.rv_decode.specs.declared.instr.Instr.{Instr}
use Rattle.mem_plain.specs.Contents.{Contents, byte_at}
use Rattle.digest_core.specs.Text.{link_text, storage_text, registers_text}
use Rattle.digest_core.specs.Chain.{chain_after, chain_of}
use Rattle.merkle_nodes.specs.Node.{node, beside}
use Rattle.mem_tree.specs.Memory.{memory_leaf, memory_node}
use Rattle.mem_tree.specs.RegisterTree.{register_leaf, register_node}
use Rattle.mem_tree.specs.InputTree.{input_chunk, input_leaf, input_node, input_root}
use Rattle.rv_step.specs.State.{State}
use Rattle.rv_step.specs.Step.{step, state_at}
use Rattle.rv_step.specs.Valid.{IsValid, IsRegisterFile}
use Rattle.rv_step.specs.Named.{if_named, once, named, named_by, first_source, second_source, destination}
use Rattle.rv_step.specs.Alike.{named_at}
use Rattle.rv_step.specs.NextEffect.{seen_of, fetched}
use Rattle.state_commit.specs.StateRoot.{ctl_of, memory_digest, registers_by, storage_by, root_in, state_text_in}
use Rattle.open_proof.specs.OpenedChunk.{siblings_of, opening_at, fetch_of_state}
use Rattle.open_proof.specs.Shown.{tree_by, operand_of_state, input_of_state}
use Rattle.open_proof.specs.Facts.{proof_by}
use Rattle.open_proof.specs.PlainProof.{register_siblings, opened_register, input_siblings, input_opening_at, registers_opened, plain_facts, plain_proof}
use Rattle.open_proof.specs.PlainClaim.{plain_claim}
use Rattle.open_proof.specs.declared.facts.Facts.{Facts}
use Rattle.open_proof.specs.declared.facts.HeldInput.{HeldInput}
use Rattle.open_proof.specs.declared.facts.HeldRegisters.{HeldRegisters}
use Rattle.open_proof.specs.declared.facts.HeldRegisters.TheVariants.{Whole, Opened}
use Rattle.bisect_game.specs.declared.settled.Kind.TheVariants as kind
use Rattle.bisect_game.specs.Bisection.{cuts_from, cuts}
use Rattle.step_referee.specs.MachineTruth.{machine_truth}
use Rattle.proof_wire.specs.Wire.{in_four_bytes, status, control, registers, block, digest, opening, input_opening, optional, flagged, proof_form, wire_form}
use Rattle.proof_wire.specs.Wire as wire
use Rattle.open_match.specs.Laws.{TrueAnswersHaveWireForms}

-- LISTS

length-range : (a n : ℕ) → length (range_with_len a n) ≡ n
length-range a zero = refl
length-range a (suc n) = ap suc (length-range (a + 1) n)

all-map : {A B : Type 0} (P : B → Type 0) (f : A → B) (xs : List A) → ((x : A) → P (f x)) → AllByRecursion P (map f xs)
all-map P f [] each = tt
all-map P f (x ∷ xs) each = (each x, all-map P f xs each)

small-map : (f : ℕ → ℕ) (xs : List ℕ) → ((k : ℕ) → f k < 256) → (k : ℕ) → slice_index (map f xs) k < 256
small-map f [] each k = omega arith
small-map f (x ∷ xs) each zero = each x
small-map f (x ∷ xs) each (suc k) = small-map f xs each k

small-zeros : (n k : ℕ) → slice_index (replicate n 0) k < 256
small-zeros zero k = omega arith
small-zeros (suc n) zero = omega arith
small-zeros (suc n) (suc k) = small-zeros n k

words-all : (xs : List ℕ) → ((r : ℕ) → slice_index xs r < 2 ^ 32) → AllByRecursion (λ x. (in_four_bytes x).fits) xs
words-all [] each = tt
words-all (x ∷ xs) each = (each 0, words-all xs (λ r. each (suc r)))

-- so many bytes
abbrev Block : ℕ → List ℕ → Type 0
Block n xs = (block n xs).fits

block-map : (f : ℕ → ℕ) (a n : ℕ) → ((k : ℕ) → f k < 256) → Block n (map f (range_with_len a n))
block-map f a n each = (length-map (range_with_len a n) f ∙ length-range a n, small-map f (range_with_len a n) each)

-- THE REGISTERS, THE STATUS AND THE FLAGS

registers-fit : (xs : List ℕ) → IsRegisterFile xs → (registers xs).fits
registers-fit [] file = absurd (omega (arith, file.thirty_two))
registers-fit (x ∷ xs) file =
    let zero_first : x ≡ 0 = file.zero_first in
    let rest : length xs ≡ 31 = omega (arith, file.thirty_two) in
    (ap (λ (y : ℕ). y ∷ []) zero_first, (rest, words-all xs (λ r. file.words (suc r))))

status-fits : (s : Status) → HasWordCode s → (status s).fits
status-fits Running code = (omega arith, omega arith)
status-fits (Exited n) code = (omega arith, code)
status-fits (Trapped n) code = (omega arith, code)

two-flags : {A B : Type 0} (f : Option A) (g : Option B) → flagged 1 f + flagged 2 g < 256
two-flags None None = omega arith
two-flags None (Some y) = omega arith
two-flags (Some x) None = omega arith
two-flags (Some x) (Some y) = omega arith

flag-small : {A : Type 0} (n : ℕ) (f : Option A) → flagged n f ≤ n
flag-small n None = omega arith
flag-small n (Some x) = omega arith

three-flags : {A B C : Type 0} (f : Option A) (g : Option B) (h : Option C) → flagged 1 f + flagged 2 g + flagged 4 h < 256
three-flags f g h = omega (arith, flag-small 1 f, flag-small 2 g, flag-small 4 h)

one-kept : (test : Bool) (r : ℕ) → length (if_named test r) ≤ 1
one-kept true r = omega arith
one-kept false r = omega arith

few-once : (a b c : ℕ) → length (once a b c) ≤ 3
few-once a b c =
    let second = not (b == 0) && not (b == a) in
    let third = not (c == 0) && not (c == a) && not (c == b) in
    let x = length-append (if_named (not (a == 0)) a) (if_named second b ++ if_named third c) in
    let y = length-append (if_named second b) (if_named third c) in
    omega (arith, x, y, one-kept (not (a == 0)) a, one-kept second b, one-kept third c)

few-by : (o : Option Instr) → length (named_by o) ≤ 3
unfolding named
few-by None = omega arith
few-by (Some i) = few-once (first_source i) (second_source i) (destination i)

few-named : (s : State) → length (named_at s) ≤ 3
few-named s = few-by (fetched (seen_of s))

cuts-long : (lo hi parts j n : ℕ) → length (cuts_from lo hi parts j n) ≡ n
cuts-long lo hi parts j zero = refl
cuts-long lo hi parts j (suc n) = ap suc (cuts-long lo hi parts (j + 1) n)

-- A PROOF of parts that have their forms

abbrev RegistersFit : HeldRegisters → Type 0
RegistersFit (Whole xs) = (registers xs).fits
RegistersFit (Opened root opened) = (digest root).fits × (length opened ≤ 3) × AllByRecursion (λ o. (wire.register_opening o).fits) opened

abbrev TreeFits : Option HeldInput → Type 0
TreeFits (Some t) = (t.len < 2 ^ 32) × (digest t.root).fits
TreeFits None = Unit {0}

record PartsFit (f : Facts) : Type 0 where
  mem : (digest f.mem).fits
  ctl : (control f.ctl).fits
  fetch : (optional opening f.fetch).fits
  operand : (optional opening f.operand).fits
  input : (optional input_opening f.input).fits

proof-fits : (f : Facts) (regs : HeldRegisters) (tree : Option HeldInput) → PartsFit f → RegistersFit regs → TreeFits tree → (proof_form (proof_by f regs tree)).fits
proof-fits f (Whole xs) tree parts held input = (omega arith, (parts.mem, (held, (parts.ctl, (two-flags f.fetch f.operand, (parts.fetch, parts.operand))))))
proof-fits f (Opened root opened) None parts held input =
    (omega arith, (parts.mem, (held.0, (parts.ctl, (two-flags f.fetch f.operand, ((held.1, omega (arith, held.1)), (parts.fetch, ((refl, held.2), parts.operand))))))))
proof-fits f (Opened root opened) (Some t) parts held input = (
  omega arith,
  (
    parts.mem,
    (
      input.0,
      (
        input.1,
        (
          held.0,
          (
            parts.ctl,
            (
              three-flags f.fetch f.operand f.input,
              ((held.1, omega (arith, held.1)), (parts.fetch, ((refl, held.2), (parts.operand, parts.input)))),
            ),
          ),
        ),
      ),
    ),
  ),
)

-- ANSWERS, by a digest function whose digests are 32 bytes
module _ (by : List ℕ → List ℕ) (is_digest : (bytes : List ℕ) → length (by bytes) ≡ 32) (is_bytes : (bytes : List ℕ) (k : ℕ) → slice_index (by bytes) k < 256) where
  digested : (bytes : List ℕ) → Block 32 (by bytes)
  digested bytes = (is_digest bytes, is_bytes bytes)

  node-block : (leaf : ℕ → List ℕ) (l k : ℕ) → Block 32 (node by leaf l k)
  unfolding node
  node-block leaf zero k = digested _
  node-block leaf (suc l) k = digested _

  path-fits : (f : ℕ → List ℕ) (n : ℕ) → ((l : ℕ) → Block 32 (f l)) → (wire.each digest n (map (λ l. record { 0 = f l }) (range_with_len 0 n))).fits
  path-fits f n each = (
    length-map (range_with_len 0 n) (λ l. record { 0 = f l }) ∙ length-range 0 n,
    all-map (λ (d : Digest32). (digest d).fits) (λ l. record { 0 = f l }) (range_with_len 0 n) each,
  )

  chunk-path : (m : Contents) (k : ℕ) → (wire.each digest 27 (siblings_of by m k)).fits
  unfolding siblings_of
  chunk-path m k = path-fits (λ l. memory_node by m l (beside (k / 2 ^ l))) 27 (λ l. node-block (memory_leaf m) l (beside (k / 2 ^ l)))

  register-path : (xs : List ℕ) (r : ℕ) → (wire.each digest 5 (register_siblings by xs r)).fits
  unfolding register_siblings
  register-path xs r = path-fits (λ l. register_node by xs l (beside (r / 2 ^ l))) 5 (λ l. node-block (register_leaf xs) l (beside (r / 2 ^ l)))

  input-path : (xs : List ℕ) (k : ℕ) → (wire.each digest 15 (input_siblings by xs k)).fits
  unfolding input_siblings
  input-path xs k = path-fits (λ l. input_node by xs l (beside (k / 2 ^ l))) 15 (λ l. node-block (input_leaf xs) l (beside (k / 2 ^ l)))

  chain-fits : (chain output : List ℕ) → Block 32 chain → Block 32 (chain_after by chain output)
  unfolding chain_after
  chain-fits chain [] start = start
  chain-fits chain (b ∷ bytes) start = chain-fits (by (link_text chain b)) bytes (digested (link_text chain b))

  output-chain : (output : List ℕ) → Block 32 (chain_of by output)
  unfolding chain_of
  output-chain output = chain-fits (replicate 32 0) output (refl, small-zeros 32)

  control-fits : (s : State) → IsValid s → (control (ctl_of by s)).fits
  control-fits s valid = (valid.pc, (status-fits s.status valid.status, (omega arith, output-chain s.output)))

  storage-block : (scheme : InputScheme) (memory : List ℕ) (len : ℕ) (root : List ℕ) → Block 32 memory → Block 32 (storage_by by scheme memory len root)
  storage-block inputs.InMemory memory len root is = is
  storage-block inputs.Tree memory len root is = digested (storage_text memory len root)

  registers-block : (scheme : RegisterScheme) (xs : List ℕ) → Block 32 (registers_by by scheme xs)
  registers-block registers_.Whole xs = digested (registers_text xs)
  registers-block registers_.Tree xs = node-block (register_leaf xs) 5 0

  memory-block : (s : State) → Block 32 (memory_digest by s)
  memory-block s = node-block (memory_leaf s.memory) 27 0

  -- the openings

  chunk-fits : (m : Contents) (addr : Option ℕ) → ((a : ℕ) → byte_at m a < 256) → (optional opening (opening_at by m addr)).fits
  chunk-fits m None bytes = tt
  chunk-fits m (Some addr) bytes = (block-map (λ k. byte_at m (32 * (addr / 32) + k)) 0 32 (λ k. bytes (32 * (addr / 32) + k)), chunk-path m (addr / 32))

  input-chunk : (xs : List ℕ) (k : ℕ) → ((k : ℕ) → slice_index xs k < 256) → Block 32 (input_chunk xs k)
  unfolding input_chunk
  input-chunk xs k bytes = block-map (λ i. slice_index xs (32 * k + i)) 0 32 (λ i. bytes (32 * k + i))

  input-fits : (xs : List ℕ) (k : Option ℕ) → ((k : ℕ) → slice_index xs k < 256) → (optional input_opening (input_opening_at by xs k)).fits
  input-fits xs None bytes = tt
  input-fits xs (Some k) bytes = (input-chunk xs (k / 32) bytes, input-path xs (k / 32))

  held-fit : (scheme : RegisterScheme) (xs names : List ℕ) → IsRegisterFile xs → length names ≤ 3 → RegistersFit (registers_opened by scheme xs names)
  held-fit registers_.Whole xs names file few = registers-fit xs file
  held-fit registers_.Tree xs names file few = (
    node-block (register_leaf xs) 5 0,
    omega (arith, length-map names (opened_register by xs), few),
    all-map (λ (o : RegOpening). (wire.register_opening o).fits) (opened_register by xs) names (λ r. (file.words r, register-path xs r)),
  )

  tree-fits : (scheme : InputScheme) (xs : List ℕ) → length xs ≤ 1048576 → TreeFits (tree_by by scheme xs)
  tree-fits inputs.InMemory xs short = tt
  tree-fits inputs.Tree xs short = (omega (arith, short), node-block (input_leaf xs) 15 0)

  -- the answers

  claim-fits : (s : State) → IsValid s → length s.output < 2 ^ 32 → (wire_form (answer.Claim (plain_claim by s))).fits
  claim-fits s valid short = (
    omega arith,
    (
      storage-block (scheme_of s.version).input (memory_digest by s) (length s.input) (input_root by s.input) (memory-block s),
      (registers-block (scheme_of s.version).registers s.regs, (control-fits s valid, (omega (arith, short), (short, (refl, valid.output))))),
    ),
  )

  plain-fits : (s : State) → IsValid s → (wire_form (answer.Step (plain_proof by s))).fits
  unfolding plain_proof
  plain-fits s valid =
      proof-fits (plain_facts by s) (plain_facts by s).regs (plain_facts by s).input_tree
      (record {
        mem = memory-block s;
        ctl = control-fits s valid;
        fetch = chunk-fits s.memory (fetch_of_state s) valid.memory.bytes;
        operand = chunk-fits s.memory (operand_of_state s) valid.memory.bytes;
        input = input-fits s.input (input_of_state by s) valid.input;
      })
      (held-fit (scheme_of s.version).registers s.regs (named_at s) valid.regs (few-named s))
      (tree-fits (scheme_of s.version).input s.input valid.short)

  root-fits : (s : State) → (wire_form (answer.Root (record { 0 = root_in by s.version s }))).fits
  root-fits s = (omega arith, digested (state_text_in by s.version s))

  roots-fit : (f : ℕ → Digest32) (steps : List ℕ) → ((i : ℕ) → (digest (f i)).fits) → 1 ≤ length steps → length steps ≤ 15 → (wire_form (answer.Roots (map f steps))).fits
  roots-fit f steps each some few =
      let long : length (map f steps) ≡ length steps = length-map steps f in
      (omega arith, ((omega (arith, long, some), omega (arith, long, few)), (omega (arith, long, few), (refl, all-map (λ (d : Digest32). (digest d).fits) f steps each))))

  valid-at : ((s : State) → IsValid s → IsValid (step s)) → (s : State) (i : ℕ) → IsValid s → IsValid (state_at s i)
  valid-at keeps s zero valid = valid
  valid-at keeps s (suc i) valid = keeps (state_at s i) (valid-at keeps s i valid)

  pub spelled : ((s : State) → IsValid s → IsValid (step s)) → TrueAnswersHaveWireForms by
  spelled keeps s bound kind.Claim (answer.Claim c) valid short within true_ =
      subst (λ (x : claims.Claim). (wire_form (answer.Claim x)).fits) (sym true_) (claim-fits (state_at s bound) (valid-at keeps s bound valid) short)
  spelled keeps s bound (kind.Root i) (answer.Root r) valid short within true_ =
      subst (λ (x : Digest32). (wire_form (answer.Root x)).fits) (sym true_) (root-fits (state_at s i))
  spelled keeps s bound (kind.Roots lo hi parts) (answer.Roots rs) valid short within true_ =
      let long : length (cuts lo hi parts) ≡ parts - 1 = cuts-long lo hi parts 1 (parts - 1) in
      subst (λ (xs : List Digest32). (wire_form (answer.Roots xs)).fits) (sym true_)
      (roots-fit (machine_truth by s bound).root (cuts lo hi parts) (λ i. (root-fits (state_at s i)).1) (omega (arith, long, within.parted)) (omega (arith, long, within.few_parts)))
  spelled keeps s bound (kind.Proof i) (answer.Step p) valid short within true_ =
      subst (λ (x : Proof). (wire_form (answer.Step x)).fits) (sym true_) (plain-fits (state_at s i) (valid-at keeps s i valid))
  spelled keeps s bound kind.Claim (answer.Root r) valid short within true_ = absurd true_
  spelled keeps s bound kind.Claim (answer.Roots rs) valid short within true_ = absurd true_
  spelled keeps s bound kind.Claim (answer.Step p) valid short within true_ = absurd true_
  spelled keeps s bound (kind.Root i) (answer.Claim c) valid short within true_ = absurd true_
  spelled keeps s bound (kind.Root i) (answer.Roots rs) valid short within true_ = absurd true_
  spelled keeps s bound (kind.Root i) (answer.Step p) valid short within true_ = absurd true_
  spelled keeps s bound (kind.Roots lo hi parts) (answer.Claim c) valid short within true_ = absurd true_
  spelled keeps s bound (kind.Roots lo hi parts) (answer.Root r) valid short within true_ = absurd true_
  spelled keeps s bound (kind.Roots lo hi parts) (answer.Step p) valid short within true_ = absurd true_
  spelled keeps s bound (kind.Proof i) (answer.Claim c) valid short within true_ = absurd true_
  spelled keeps s bound (kind.Proof i) (answer.Root r) valid short within true_ = absurd true_
  spelled keeps s bound (kind.Proof i) (answer.Roots rs) valid short within true_ = absurd true_
