-- Derived: what the ranges of a proof's types say.
use Rattle.std.proofs.Common.{◌≡◌, ℕ, zero, suc, ◌^◌, ◌<◌, ltb, List, [], ◌∷◌, length, slice_index, true, ◌&&◌, eqb, refl, arith, Option, Some, None}
use Rattle.std.proofs.lemmas.Bool.Decides.{Decides-eqb, Decides-ltb}
use Rattle.std.proofs.lemmas.Bool.{and_parts, and_from}
use Rattle.rd_base.specs.declared.digest.Digest32.{Digest32}
use Rattle.merkle_nodes.specs.Node.{digest_at}
use Rattle.open_proof.specs.InRange.{are_words, are_digests, is_opening_in_range, is_ctl_in_range, is_input_in_range, are_openings_in_range, are_registers_in_range, is_tree_in_range, are_facts_in_range}
use Rattle.rd_base.specs.declared.opened.InOpening.{InOpening}
use Rattle.rd_base.specs.declared.opened.Opening.{Opening}
use Rattle.rd_base.specs.declared.opened.RegOpening.{RegOpening}
use Rattle.digest_core.specs.Text.{status_code}
use Rattle.open_proof.specs.declared.facts.Facts.{Facts}
use Rattle.open_proof.specs.declared.facts.HeldInput.{HeldInput}
use Rattle.open_proof.specs.declared.facts.HeldRegisters.{HeldRegisters}
use Rattle.open_proof.specs.declared.facts.HeldRegisters.TheVariants.{Whole, Opened}

pub words_are : (xs : List ℕ) → ((r : ℕ) → slice_index xs r < 2 ^ 32) → are_words xs ≡ true
unfolding are_words
words_are [] words = refl
words_are (x ∷ xs) words = and_from (ltb x (2 ^ 32)) (are_words xs) ((Decides-ltb x (2 ^ 32)).1 (words 0)) (words_are xs (λ r. words (suc r)))

pub digests_are : (ds : List Digest32) → ((l : ℕ) → l < length ds → length (digest_at ds l) ≡ 32) → are_digests ds ≡ true
unfolding are_digests
digests_are [] sizes = refl
digests_are (d ∷ ds) sizes =
    and_from (eqb (length d.0) 32) (are_digests ds) ((Decides-eqb (length d.0) 32).1 (sizes 0 (omega arith))) (digests_are ds (λ l below. sizes (suc l) (omega arith)))

-- a path has this many digests of 32 bytes
pub record IsPathOf (n : ℕ) (path : List Digest32) : Type 0 where
  pub levels : length path ≡ n
  pub sizes : (l : ℕ) → l < n → length (digest_at path l) ≡ 32

abbrev pub ChunkRange : Option Opening → Type 0
ChunkRange (Some o) = IsPathOf 27 o.path.0
ChunkRange None = Unit {0}

abbrev pub InputRange : Option InOpening → Type 0
InputRange (Some o) = IsPathOf 15 o.path.0
InputRange None = Unit {0}

abbrev pub EachRange : List RegOpening → Type 0
EachRange [] = Unit {0}
EachRange (o ∷ os) = (o.value < 2 ^ 32) × IsPathOf 5 o.path.0 × EachRange os

abbrev pub RegistersRange : HeldRegisters → Type 0
RegistersRange (Whole xs) = (r : ℕ) → slice_index xs r < 2 ^ 32
RegistersRange (Opened root named) = (length root.0 ≡ 32) × EachRange named

abbrev pub TreeRange : Option HeldInput → Type 0
TreeRange (Some t) = (t.len < 2 ^ 32) × (length t.root.0 ≡ 32)
TreeRange None = Unit {0}

pub record FactsRange (facts : Facts) : Type 0 where
  pub mem : length facts.mem.0 ≡ 32
  pub tree : TreeRange facts.input_tree
  pub regs : RegistersRange facts.regs
  pub pc : facts.ctl.pc < 2 ^ 32
  pub code : status_code facts.ctl.status < 2 ^ 32
  pub out_len : facts.ctl.out_len < 2 ^ 64
  pub fetch : ChunkRange facts.fetch
  pub operand : ChunkRange facts.operand
  pub input : InputRange facts.input

words-of : (xs : List ℕ) → are_words xs ≡ true → (r : ℕ) → slice_index xs r < 2 ^ 32
unfolding are_words
words-of [] test r = omega arith
words-of (x ∷ xs) test zero = (Decides-ltb x (2 ^ 32)).0 (and_parts (ltb x (2 ^ 32)) (are_words xs) test).0
words-of (x ∷ xs) test (suc r) = words-of xs (and_parts (ltb x (2 ^ 32)) (are_words xs) test).1 r

sizes-of : (ds : List Digest32) → are_digests ds ≡ true → (l : ℕ) → l < length ds → length (digest_at ds l) ≡ 32
unfolding are_digests
sizes-of [] test l below = absurd (omega arith)
sizes-of (d ∷ ds) test zero below = (Decides-eqb (length d.0) 32).0 (and_parts (eqb (length d.0) 32) (are_digests ds) test).0
sizes-of (d ∷ ds) test (suc l) below = sizes-of ds (and_parts (eqb (length d.0) 32) (are_digests ds) test).1 l (omega arith)

path-of : (n : ℕ) (path : List Digest32) → eqb (length path) n ≡ true → are_digests path ≡ true → IsPathOf n path
path-of n path size digests =
    let levels = (Decides-eqb (length path) n).0 size in
    record { levels = levels; sizes = λ l below. sizes-of path digests l (omega arith) }

chunk-of : (o : Option Opening) → is_opening_in_range o ≡ true → ChunkRange o
chunk-of None test = tt
chunk-of (Some o) test =
    let digests = and_parts ((eqb (length o.chunk) 32) && (eqb (length o.path.0) 27)) (are_digests o.path.0) test in
    path-of 27 o.path.0 (and_parts (eqb (length o.chunk) 32) (eqb (length o.path.0) 27) digests.0).1 digests.1

input-of : (o : Option InOpening) → is_input_in_range o ≡ true → InputRange o
input-of None test = tt
input-of (Some o) test =
    let digests = and_parts ((eqb (length o.chunk) 32) && (eqb (length o.path.0) 15)) (are_digests o.path.0) test in
    path-of 15 o.path.0 (and_parts (eqb (length o.chunk) 32) (eqb (length o.path.0) 15) digests.0).1 digests.1

each-of : (os : List RegOpening) → are_openings_in_range os ≡ true → EachRange os
each-of [] test = tt
each-of (o ∷ os) test =
    let rest = and_parts _ (are_openings_in_range os) test in
    let digests = and_parts _ (are_digests o.path.0) rest.0 in
    let value = and_parts (ltb o.value (2 ^ 32)) (eqb (length o.path.0) 5) digests.0 in
    ((Decides-ltb _ _).0 value.0, path-of 5 o.path.0 value.1 digests.1, each-of os rest.1)

registers-of : (regs : HeldRegisters) → are_registers_in_range regs ≡ true → RegistersRange regs
registers-of (Whole xs) test = words-of xs (and_parts (eqb (length xs) 32) (are_words xs) test).1
registers-of (Opened root named) test =
    let both = and_parts (eqb (length root.0) 32) (are_openings_in_range named) test in
    ((Decides-eqb _ _).0 both.0, each-of named both.1)

tree-of : (tree : Option HeldInput) → is_tree_in_range tree ≡ true → TreeRange tree
tree-of None test = tt
tree-of (Some t) test = let both = and_parts (ltb t.len (2 ^ 32)) (eqb (length t.root.0) 32) test in ((Decides-ltb _ _).0 both.0, (Decides-eqb _ _).0 both.1)

pub facts-range : (facts : Facts) → are_facts_in_range facts ≡ true → FactsRange facts
unfolding are_facts_in_range
facts-range facts test =
    let input = and_parts _ (is_input_in_range facts.input) test in
    let operand = and_parts _ (is_opening_in_range facts.operand) input.0 in
    let fetch = and_parts _ (is_opening_in_range facts.fetch) operand.0 in
    let ctl = and_parts _ (is_ctl_in_range facts.ctl) fetch.0 in
    let regs = and_parts _ (are_registers_in_range facts.regs) ctl.0 in
    let tree = and_parts (eqb (length facts.mem.0) 32) (is_tree_in_range facts.input_tree) regs.0 in
    let chain = and_parts _ (eqb (length facts.ctl.chain.0) 32) ctl.1 in
    let out_len = and_parts _ (ltb facts.ctl.out_len (2 ^ 64)) chain.0 in
    let pc = and_parts (ltb facts.ctl.pc (2 ^ 32)) (ltb (status_code facts.ctl.status) (2 ^ 32)) out_len.0 in
    record {
      mem = (Decides-eqb _ _).0 tree.0;
      tree = tree-of facts.input_tree tree.1;
      regs = registers-of facts.regs regs.1;
      pc = (Decides-ltb _ _).0 pc.0;
      code = (Decides-ltb _ _).0 pc.1;
      out_len = (Decides-ltb _ _).0 out_len.1;
      fetch = chunk-of facts.fetch fetch.1;
      operand = chunk-of facts.operand operand.1;
      input = input-of facts.input input.1;
    }
