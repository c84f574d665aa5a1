-- What a claim or a proof with a wire form opens are strings that a text can state.
use Rattle.std.proofs.Common.{◌≡◌, ℕ, zero, suc, ◌+◌, ◌<◌, ◌≤◌, ◌/◌, ◌%◌, ◌^◌, Bool, true, false, List, [], ◌∷◌, ◌++◌, length, replicate, slice_index, Option, Some, None, refl, arith}
use Rattle.std.specs.Prelude.{◌==◌}
use Rattle.std.specs.List.{AllByRecursion}
use Rattle.rd_base.specs.declared.digest.Digest32.{Digest32}
use Rattle.rd_base.specs.declared.claim.Claim as claims
use Rattle.rd_base.specs.declared.opened.Opening.{Opening}
use Rattle.rd_base.specs.declared.opened.RegOpening.{RegOpening}
use Rattle.rd_base.specs.declared.opened.InOpening.{InOpening}
use Rattle.rd_base.specs.declared.proof.Proof.{Proof}
use Rattle.rd_base.specs.declared.proof.Proof.TheVariants.{V1, V2, V3}
use Rattle.digest_core.specs.Text.{link_text}
use Rattle.merkle_nodes.specs.Node.{digest_at}
use Rattle.merkle_nodes.specs.Opening.{joined, opened}
use Rattle.out_chain.specs.Collision.{links_after, links_of, opened_by_claim}
use Rattle.out_chain.specs.Root.{control_text_of, claim_text}
use Rattle.rv_step.specs.Fetching.{fetch_address}
use Rattle.open_proof.specs.Opened.{texts_from}
use Rattle.open_proof.specs.Facts.{facts_of, named_called, operand_called, input_called}
use Rattle.open_proof.specs.Next.{storage_texts, storage_held, registers_held, text_before}
use Rattle.open_proof.specs.Openings.{chunk_way, chunk_ways, register_way, each_way, register_ways, input_way, input_ways, fetch_ways, named_ways, operand_ways, read_ways}
use Rattle.open_proof.specs.Strings.{registers_texts, opened_by_facts}
use Rattle.open_proof.specs.Ways.{Way, way_texts, ways_texts}
use Rattle.open_proof.specs.declared.facts.Facts.{Facts}
use Rattle.open_proof.specs.declared.facts.HeldInput.{HeldInput}
use Rattle.open_proof.specs.declared.facts.HeldRegisters.{HeldRegisters}
use Rattle.open_proof.specs.declared.facts.HeldRegisters.TheVariants.{Whole, Opened}
use Rattle.proof_wire.specs.Wire.{digest, registers, claim, optional, opening, register_opening, input_opening, proof_form}
use Rattle.transcript_text.specs.reader.InLimits.{IsString}
use Rattle.machine_audit.proofs.StringLemmas.{IsBlock, block-zeros, leaf-string, node-string, registers-string, control-string, state-string, link-string, register-string, storage-string, AreStrings, strings-both}

-- THE PARTS OF A PROOF with a wire form, in each version

abbrev TreeFits : Option HeldInput → Type 0
TreeFits (Some t) = IsBlock 32 t.root.0
TreeFits None = Unit {0}

abbrev RegistersFit : HeldRegisters → Type 0
RegistersFit (Whole xs) = length xs ≡ 32
RegistersFit (Opened root named) = IsBlock 32 root.0 × AllByRecursion (λ o. (register_opening o).fits) named

record FactsFit (facts : Facts) : Type 0 where
  mem : IsBlock 32 facts.mem.0
  tree : TreeFits facts.input_tree
  regs : RegistersFit facts.regs
  chain : IsBlock 32 facts.ctl.chain.0
  fetch : (optional opening facts.fetch).fits
  operand : (optional opening facts.operand).fits
  input : (optional input_opening facts.input).fits

thirty-two : (xs : List ℕ) → (registers xs).fits → length xs ≡ 32
thirty-two [] fits = absurd (cc)
thirty-two (x ∷ xs) fits = let rest : length xs ≡ 31 = fits.1.0 in omega (arith, rest)

facts-fit : (proof : Proof) → (proof_form proof).fits → FactsFit (facts_of proof)
facts-fit (V1 p) (tag, (mem, (regs, (ctl, (flags, (fetch, operand)))))) = record {
  mem = mem;
  tree = tt;
  regs = thirty-two p.regs regs;
  chain = ctl.1.1.1;
  fetch = fetch;
  operand = operand;
  input = tt;
}
facts-fit (V2 p) (tag, (mem, (regs, (ctl, (flags, (count, (fetch, (named, operand)))))))) = record {
  mem = mem;
  tree = tt;
  regs = (regs, named.1);
  chain = ctl.1.1.1;
  fetch = fetch;
  operand = operand;
  input = tt;
}
facts-fit (V3 p) (tag, (mem, (input_len, (input_root, (regs, (ctl, (flags, (count, (fetch, (named, (operand, input))))))))))) = record {
  mem = mem;
  tree = input_root;
  regs = (regs, named.1);
  chain = ctl.1.1.1;
  fetch = fetch;
  operand = operand;
  input = input;
}

path-blocks : (ds : List Digest32) → AllByRecursion (λ d. (digest d).fits) ds → (l : ℕ) → l < length ds → IsBlock 32 (digest_at ds l)
path-blocks [] all l below = absurd (omega (arith, below))
path-blocks (d ∷ ds) all zero below = all.0
path-blocks (d ∷ ds) all (suc l) below = path-blocks ds all.1 l (omega (arith, below))

path-of : (n : ℕ) (ds : List Digest32) → (length ds ≡ n) × AllByRecursion (λ d. (digest d).fits) ds → (l : ℕ) → l < n → IsBlock 32 (digest_at ds l)
path-of n ds path l below = path-blocks ds path.1 l (omega (arith, below, path.0))

module _ (by : List ℕ → List ℕ) (is_digest : (bytes : List ℕ) → length (by bytes) ≡ 32) (is_bytes : (bytes : List ℕ) (k : ℕ) → slice_index (by bytes) k < 256) where
  block-digest : (bytes : List ℕ) → IsBlock 32 (by bytes)
  block-digest bytes = (is_digest bytes, is_bytes bytes)

  -- THE STRINGS OF A WAY

  joined-string : (side : Bool) (child sibling : List ℕ) → IsBlock 32 child → IsBlock 32 sibling → (bit : ℕ) → (bit == 0) ≡ side → IsString (joined bit child sibling)
  joined-string true child sibling one other bit e = rw e (node-string child sibling one other)
  joined-string false child sibling one other bit e = rw e (node-string sibling child other one)

  opened-string : (leaf : List ℕ) (siblings : ℕ → List ℕ) (n k : ℕ) → IsString leaf → ((l : ℕ) → l < n → IsBlock 32 (siblings l)) → (l : ℕ) → l ≤ n → IsString (opened by leaf siblings l k)
  unfolding opened
  opened-string leaf siblings n k string path zero most = string
  opened-string leaf siblings n k string path (suc l) most =
      joined-string (k / 2 ^ l % 2 == 0) (by (opened by leaf siblings l k)) (siblings l) (block-digest (opened by leaf siblings l k)) (path l (omega (arith, most))) (k / 2 ^ l % 2) refl

  texts-strings : (text : ℕ → List ℕ) (l n : ℕ) → ((k : ℕ) → k < l + n → IsString (text k)) → AreStrings (texts_from text l n)
  unfolding texts_from
  texts-strings text l zero each = tt
  texts-strings text l (suc n) each = (each l (omega arith), texts-strings text (l + 1) n (λ k below. each k (omega (arith, below))))

  way-strings : (w : Way) → IsString w.text → ((l : ℕ) → l < w.levels → IsBlock 32 (digest_at w.siblings l)) → AreStrings (way_texts by w)
  way-strings w string path = texts-strings _ 0 (w.levels + 1) (λ k below. opened-string w.text (digest_at w.siblings) w.levels w.index string path k (omega (arith, below)))

  chunk-strings : (root : List ℕ) (o : Option Opening) (addr : Option ℕ) → (optional opening o).fits → AreStrings (ways_texts by (chunk_ways root o addr))
  chunk-strings root (Some o) (Some addr) fits =
      strings-both (way_texts by (chunk_way root o addr)) [] (way-strings (chunk_way root o addr) (leaf-string o.chunk fits.0) (path-of 27 o.path.0 fits.1)) tt
  chunk-strings root (Some o) None fits = tt
  chunk-strings root None (Some addr) fits = tt
  chunk-strings root None None fits = tt

  input-strings : (tree : Option HeldInput) (o : Option InOpening) (byte : Option ℕ) → (optional input_opening o).fits → AreStrings (ways_texts by (input_ways tree o byte))
  input-strings (Some t) (Some o) (Some k) fits =
      strings-both (way_texts by (input_way t.root.0 o k)) [] (way-strings (input_way t.root.0 o k) (leaf-string o.chunk fits.0) (path-of 15 o.path.0 fits.1)) tt
  input-strings (Some t) (Some o) None fits = tt
  input-strings (Some t) None byte fits = tt
  input-strings None o byte fits = tt

  each-strings : (root rs : List ℕ) (os : List RegOpening) → AllByRecursion (λ o. (register_opening o).fits) os → AreStrings (ways_texts by (each_way root rs os))
  each-strings root [] os all = tt
  each-strings root (r ∷ rs) [] all = tt
  each-strings root (r ∷ rs) (o ∷ os) all =
      strings-both (way_texts by (register_way root r o)) (ways_texts by (each_way root rs os)) (way-strings (register_way root r o) (register-string o.value) (path-of 5 o.path.0 all.0.1)) (each-strings root rs os all.1)

  registers-ways-strings : (rs : List ℕ) (regs : HeldRegisters) → RegistersFit regs → AreStrings (ways_texts by (register_ways rs regs))
  registers-ways-strings rs (Whole xs) fit = tt
  registers-ways-strings rs (Opened root named) fit = each-strings root.0 rs named fit.1

  -- THE STRINGS OF THE PARTS

  storage-block : (tree : Option HeldInput) (mem : List ℕ) → IsBlock 32 mem → IsBlock 32 (storage_held by tree mem)
  storage-block (Some t) mem is = block-digest _
  storage-block None mem is = is

  registers-block : (regs : HeldRegisters) → RegistersFit regs → IsBlock 32 (registers_held by regs)
  registers-block (Whole xs) fit = block-digest _
  registers-block (Opened root named) fit = fit.0

  storage-strings : (tree : Option HeldInput) (mem : List ℕ) → IsBlock 32 mem → TreeFits tree → AreStrings (storage_texts tree mem)
  storage-strings (Some t) mem is fits = (storage-string mem t.len t.root.0 is fits, tt)
  storage-strings None mem is fits = tt

  registers-strings : (regs : HeldRegisters) → RegistersFit regs → AreStrings (registers_texts regs)
  registers-strings (Whole xs) fit = (registers-string xs fit, tt)
  registers-strings (Opened root named) fit = tt

  facts-strings : (facts : Facts) → FactsFit facts → AreStrings (opened_by_facts by facts)
  unfolding opened_by_facts
  facts-strings facts fit =
      let state : IsString (text_before by facts) =
      state-string (storage_held by facts.input_tree facts.mem.0) (registers_held by facts.regs) (by (control_text_of facts.ctl))
      (storage-block facts.input_tree facts.mem.0 fit.mem) (registers-block facts.regs fit.regs) (block-digest (control_text_of facts.ctl)) in
      let control : IsString (control_text_of facts.ctl) = control-string facts.ctl.pc facts.ctl.status facts.ctl.out_len facts.ctl.chain.0 fit.chain in
      let stored : List (List ℕ) = storage_texts facts.input_tree facts.mem.0 in
      let files : List (List ℕ) = registers_texts facts.regs ++ (control_text_of facts.ctl ∷ []) in
      let fetches : List (List ℕ) = ways_texts by (fetch_ways facts) in
      let named : List (List ℕ) = ways_texts by (named_ways facts) in
      let operands : List (List ℕ) = ways_texts by (operand_ways facts) in
      let reads : List (List ℕ) = ways_texts by (read_ways facts) in
      let of_files : AreStrings files = strings-both (registers_texts facts.regs) (control_text_of facts.ctl ∷ []) (registers-strings facts.regs fit.regs) (control, tt) in
      let parts : AreStrings (stored ++ files) = strings-both stored files (storage-strings facts.input_tree facts.mem.0 fit.mem fit.tree) of_files in
      let of_operands : AreStrings (operands ++ reads) =
      strings-both operands reads (chunk-strings facts.mem.0 facts.operand (operand_called facts) fit.operand) (input-strings facts.input_tree facts.input (input_called facts) fit.input) in
      let of_named : AreStrings (named ++ (operands ++ reads)) = strings-both named (operands ++ reads) (registers-ways-strings (named_called facts) facts.regs fit.regs) of_operands in
      let of_ways : AreStrings (fetches ++ (named ++ (operands ++ reads))) =
      strings-both fetches (named ++ (operands ++ reads)) (chunk-strings facts.mem.0 facts.fetch (fetch_address facts.ctl) fit.fetch) of_named in
      (state, strings-both (stored ++ files) (fetches ++ (named ++ (operands ++ reads))) parts of_ways)

  pub proof-strings : (proof : Proof) → (proof_form proof).fits → AreStrings (opened_by_facts by (facts_of proof))
  proof-strings proof fits = facts-strings (facts_of proof) (facts-fit proof fits)

  -- THE STRINGS OF A CLAIM

  links-strings : (chain output : List ℕ) → IsBlock 32 chain → ((k : ℕ) → slice_index output k < 256) → AreStrings (links_after by chain output)
  unfolding links_after
  links-strings chain [] is small = tt
  links-strings chain (b ∷ output) is small =
      (link-string chain b is (small 0), links-strings (by (link_text chain b)) output (block-digest (link_text chain b)) (λ k. small (suc k)))

  pub claim-strings : (c : claims.Claim) → (claim c).fits → AreStrings (opened_by_claim by c)
  unfolding links_of
  claim-strings c (mem, (regs, (ctl, (count, (few, output))))) =
      let state : IsString (claim_text by c) = state-string c.mem.0 c.regs.0 (by (control_text_of c.ctl)) mem regs (block-digest (control_text_of c.ctl)) in
      let control : IsString (control_text_of c.ctl) = control-string c.ctl.pc c.ctl.status c.ctl.out_len c.ctl.chain.0 ctl.1.1.1 in
      (state, (control, links-strings (replicate 32 0) c.output (block-zeros 32) output.1))
