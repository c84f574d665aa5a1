-- How often a check ticks at most.
use Rattle.std.proofs.Common.{◌≡◌, ℕ, ◌+◌, ◌*◌, ◌≤◌, List, [], ◌∷◌, ◌++◌, length, Option, Some, None, is_some, eqb, cond, Bool, true, false, true≢false, not, ◌&&◌, refl, sym, ap, ◌∙◌, arith, length-append}
use Rattle.std.proofs.lemmas.Bool.{eq-eqb}
use Rattle.rd_base.specs.declared.digest.Digest32.{Digest32}
use Rattle.rd_base.specs.declared.opened.Opening.{Opening}
use Rattle.rd_base.specs.declared.opened.InOpening.{InOpening}
use Rattle.rd_base.specs.declared.opened.RegOpening.{RegOpening}
use Rattle.rd_base.specs.declared.proof.Proof.{Proof}
use Rattle.rd_base.specs.declared.proof.Proof.TheVariants.{V1, V2, V3}
use Rattle.rd_base.specs.declared.scheme.InputScheme.{InputScheme}
use Rattle.rd_base.specs.declared.scheme.InputScheme.TheVariants as input
use Rattle.rv_decode.specs.Fields.{fields_of}
use Rattle.rv_decode.specs.declared.instr.Instr.{Instr}
use Rattle.rv_decode.specs.declared.instr.Instr.TheVariants.{Lb, Lh, Lw, Lbu, Lhu, Sb, Sh, Sw, Ecall}
use Rattle.rv_step.specs.Effect.{x}
use Rattle.rv_step.specs.Named.{first_source, second_source, destination, if_named, once, named, named_by}
use Rattle.rv_step.specs.NextNeed.{needed_by}
use Rattle.rv_step.specs.Parts.{byte_called, call_needed, needed_in}
use Rattle.rv_step.specs.Step.{regs_after}
use Rattle.rv_step.specs.declared.asked.Need.TheVariants as need
use Rattle.rv_step.specs.declared.effect.Effect.{Effect}
use Rattle.rv_step.specs.declared.effect.Effect.TheVariants.{Write, Jump, Branch, Next, Store, Put, Exit, Trap}
use Rattle.rv_step.specs.Fetching.{fetch_address}
use Rattle.open_proof.specs.Held.{Held}
use Rattle.open_proof.specs.Called.{address_needed}
use Rattle.open_proof.specs.Facts.{facts_of, fetched_of, named_called, file_of_facts, seen_shown, operand_called, byte_needed, input_called}
use Rattle.rv_step.specs.NextEffect.{next_effect}
use Rattle.open_proof.specs.Next.{held_by, held_shown}
use Rattle.open_proof.specs.SeenHeld.{offering}
use Rattle.open_proof.specs.Openings.{chunk_ways, each_way, input_ways}
use Rattle.open_proof.specs.Ways.{ways_digests}
use Rattle.open_proof.specs.declared.facts.Facts.{Facts}
use Rattle.open_proof.specs.declared.facts.HeldInput.{HeldInput}
use Rattle.step_referee.specs.Ticks.{chunk_count, digests_of_effect, digests_by, changed_digests, opening_digests, ticks_of, most_ticks, most_alone}
use Rattle.step_referee.specs.declared.check.StepCheck.{StepCheck}
use Rattle.step_referee.specs.declared.check.StepCheck.TheVariants as check

one-chunk : (o : Option Opening) → chunk_count o ≤ 1
one-chunk (Some o) = omega arith
one-chunk None = omega arith

no-chunk : (o : Option Opening) → is_some o ≡ false → chunk_count o ≡ 0
no-chunk (Some o) is = absurd (true≢false is)
no-chunk None is = refl

-- 1 where a chunk of the input is there
input_count : Option InOpening → ℕ
input_count (Some o) = 1
input_count None = 0

one-input : (o : Option InOpening) → input_count o ≤ 1
unfolding input_count
one-input (Some o) = omega arith
one-input None = omega arith

-- what the ways take
chunk-few : (root : List ℕ) (o : Option Opening) (address : Option ℕ) → ways_digests (chunk_ways root o address) ≤ 28 * chunk_count o
chunk-few root (Some o) (Some addr) = omega arith
chunk-few root (Some o) None = omega arith
chunk-few root None address = omega arith

each-few : (root rs : List ℕ) (os : List RegOpening) → ways_digests (each_way root rs os) ≤ 6 * length rs
each-few root [] os = omega arith
each-few root (r ∷ rs) [] = omega arith
each-few root (r ∷ rs) (o ∷ os) = let rest = each-few root rs os in omega arith

input-few : (tree : Option HeldInput) (o : Option InOpening) (byte : Option ℕ) → ways_digests (input_ways tree o byte) ≤ 16 * input_count o
unfolding input_count
input-few (Some t) (Some o) (Some k) = omega arith
input-few (Some t) (Some o) None = omega arith
input-few (Some t) None byte = omega arith
input-few None (Some o) byte = omega arith
input-few None None byte = omega arith

-- at most one opened register has changed, and none where nothing did
changed-few : (rs : List ℕ) (os : List RegOpening) (xs ys : List ℕ) → changed_digests rs os xs ys ≤ 6
changed-few [] os xs ys = omega arith
changed-few (r ∷ rs) [] xs ys = omega arith
changed-few (r ∷ rs) (o ∷ os) xs ys =
    elim (eqb (x xs r) (x ys r)) as (λ b. cond b (changed_digests rs os xs ys) 6 ≤ 6) [
      | true ↦ changed-few rs os xs ys
      | false ↦ omega arith
    ]

changed-none : (rs : List ℕ) (os : List RegOpening) (xs : List ℕ) → changed_digests rs os xs xs ≡ 0
changed-none [] os xs = refl
changed-none (r ∷ rs) [] xs = refl
changed-none (r ∷ rs) (o ∷ os) xs = rw (eq-eqb (x xs r) (x xs r) refl) (changed-none rs os xs)

module _ (digest : List ℕ → List ℕ) (operand : Option Opening) (rs : List ℕ) (os : List RegOpening) where
  -- a step stores, or puts a byte, or changes a register
  effect-cost : (xs : List ℕ) (pc : ℕ) (e : Effect) → digests_of_effect operand e + changed_digests rs os xs (regs_after xs pc e) ≤ 6 + 22 * chunk_count operand
  effect-cost xs pc (Write rd value) = let few = changed-few rs os xs (regs_after xs pc (Write rd value)) in omega arith
  effect-cost xs pc (Jump rd target) = let few = changed-few rs os xs (regs_after xs pc (Jump rd target)) in omega arith
  effect-cost xs pc (Branch target) = let none = changed-none rs os xs in omega arith
  effect-cost xs pc Next = let none = changed-none rs os xs in omega arith
  effect-cost xs pc (Store addr width value) = let none = changed-none rs os xs in let one = one-chunk operand in omega arith
  effect-cost xs pc (Put byte) = let none = changed-none rs os xs in omega arith
  effect-cost xs pc (Exit code) = let none = changed-none rs os xs in omega arith
  effect-cost xs pc (Trap code) = let none = changed-none rs os xs in omega arith

  step-cost : (p : Held) (next : Option Effect) → digests_by operand next + changed_digests rs os p.regs (held_by digest operand p next).regs ≤ 6 + 22 * chunk_count operand
  step-cost p (Some e) = effect-cost p.regs p.ctl.pc e
  step-cost p None = let none = changed-none rs os p.regs in omega arith

-- the step alone
effect-digests : (operand : Option Opening) (e : Effect) → digests_of_effect operand e ≤ 1 + 27 * chunk_count operand
effect-digests operand (Store addr width value) = let one = one-chunk operand in omega arith
effect-digests operand (Put byte) = omega arith
effect-digests operand e = omega arith

step-digests : (operand : Option Opening) (next : Option Effect) → digests_by operand next ≤ 1 + 27 * chunk_count operand
step-digests operand (Some e) = effect-digests operand e
step-digests operand None = omega arith

-- how many registers are named
if_named-length : (t : Bool) (r : ℕ) → length (if_named t r) ≤ 1
if_named-length true r = omega arith
if_named-length false r = omega arith

once-length : (a b c : ℕ) → length (once a b c) ≤ 3
once-length a b c =
    let first = if_named-length (not (eqb a 0)) a in
    let second = if_named-length (not (eqb b 0) && not (eqb b a)) b in
    let third = if_named-length (not (eqb c 0) && not (eqb c a) && not (eqb c b)) c in
    let inner = length-append (if_named (not (eqb b 0) && not (eqb b a)) b) (if_named (not (eqb c 0) && not (eqb c a) && not (eqb c b)) c) in
    let outer = length-append (if_named (not (eqb a 0)) a) (if_named (not (eqb b 0) && not (eqb b a)) b ++ if_named (not (eqb c 0) && not (eqb c a) && not (eqb c b)) c) in
    omega arith

once-second : (a c : ℕ) → length (once a 0 c) ≤ 2
once-second a c =
    let first = if_named-length (not (eqb a 0)) a in
    let third = if_named-length (not (eqb c 0) && not (eqb c a) && not (eqb c 0)) c in
    let outer = length-append (if_named (not (eqb a 0)) a) (if_named (not (eqb c 0) && not (eqb c a) && not (eqb c 0)) c) in
    omega arith

once-last : (a b : ℕ) → length (once a b 0) ≤ 2
once-last a b =
    let first = if_named-length (not (eqb a 0)) a in
    let second = if_named-length (not (eqb b 0) && not (eqb b a)) b in
    let inner = length-append (if_named (not (eqb b 0) && not (eqb b a)) b) [] in
    let outer = length-append (if_named (not (eqb a 0)) a) (if_named (not (eqb b 0) && not (eqb b a)) b ++ []) in
    omega arith

named-few : (o : Option Instr) → length (named_by o) ≤ 3
unfolding named
named-few None = omega arith
named-few (Some i) = once-length (first_source i) (second_source i) (destination i)

-- an instruction that reads or writes memory names two
call-address : (held : InputScheme) (number argument : ℕ) → address_needed (call_needed held number argument) ≡ None
call-address held number argument = go (eqb number 2) held
  where
    go : (a : Bool) (held : InputScheme) → address_needed (cond a (byte_called held argument) need.Nothing) ≡ None
    go true input.Tree = refl
    go true input.InMemory = refl
    go false held = refl

access-two : (held : InputScheme) (xs : List ℕ) (i : Instr) → is_some (address_needed (needed_in held xs i)) ≡ true → length (named i) ≤ 2
unfolding named needed_in fields_of first_source second_source destination
access-two held xs (Lb i) called = once-second i.rs1 i.rd
access-two held xs (Lh i) called = once-second i.rs1 i.rd
access-two held xs (Lw i) called = once-second i.rs1 i.rd
access-two held xs (Lbu i) called = once-second i.rs1 i.rd
access-two held xs (Lhu i) called = once-second i.rs1 i.rd
access-two held xs (Sb i) called = once-last i.rs1 i.rs2
access-two held xs (Sh i) called = once-last i.rs1 i.rs2
access-two held xs (Sw i) called = once-last i.rs1 i.rs2
access-two held xs Ecall called = absurd (true≢false (sym called ∙ ap is_some (call-address held (x xs 17) (x xs 10))))
access-two held xs i called = absurd (true≢false (sym called))

operand-two : (tree : Option HeldInput) (xs : List ℕ) (o : Option Instr) → is_some (address_needed (needed_by (offering tree) xs o)) ≡ true → length (named_by o) ≤ 2
operand-two tree xs None called = absurd (true≢false (sym called))
operand-two tree xs (Some i) called = access-two (offering tree) xs i called

-- one that reads the input names two, and calls for no chunk of memory
load-reads-none : (t : HeldInput) (b : Bool) (addr width code : ℕ) → byte_needed (Some t) (cond b (need.Load addr width) (need.Trap code)) ≡ None
load-reads-none t true addr width code = refl
load-reads-none t false addr width code = refl

store-reads-none : (t : HeldInput) (b : Bool) (addr width value code : ℕ) → byte_needed (Some t) (cond b (need.Store addr width value) (need.Trap code)) ≡ None
store-reads-none t true addr width value code = refl
store-reads-none t false addr width value code = refl

none-called : {A : Type 0} (o : Option ℕ) → o ≡ None → is_some o ≡ true → A
none-called o none called = absurd (true≢false (sym called ∙ ap is_some none))

read-two : (t : HeldInput) (xs : List ℕ) (i : Instr) → is_some (byte_needed (Some t) (needed_in input.Tree xs i)) ≡ true → (length (named i) ≤ 2) × (address_needed (needed_in input.Tree xs i) ≡ None)
unfolding named needed_in fields_of first_source second_source destination
read-two t xs (Lb i) called = none-called _ (load-reads-none t _ _ _ _) called
read-two t xs (Lh i) called = none-called _ (load-reads-none t _ _ _ _) called
read-two t xs (Lw i) called = none-called _ (load-reads-none t _ _ _ _) called
read-two t xs (Lbu i) called = none-called _ (load-reads-none t _ _ _ _) called
read-two t xs (Lhu i) called = none-called _ (load-reads-none t _ _ _ _) called
read-two t xs (Sb i) called = none-called _ (store-reads-none t _ _ _ _ _) called
read-two t xs (Sh i) called = none-called _ (store-reads-none t _ _ _ _ _) called
read-two t xs (Sw i) called = none-called _ (store-reads-none t _ _ _ _ _) called
read-two t xs Ecall called = (omega arith, call-address input.Tree (x xs 17) (x xs 10))
read-two t xs i called = absurd (true≢false (sym called))

input-two : (tree : Option HeldInput) (xs : List ℕ) (o : Option Instr) → is_some (byte_needed tree (needed_by (offering tree) xs o)) ≡ true → (length (named_by o) ≤ 2) × (address_needed (needed_by (offering tree) xs o) ≡ None)
input-two None xs o called = absurd (true≢false (sym called))
input-two (Some t) xs None called = absurd (true≢false (sym called))
input-two (Some t) xs (Some i) called = read-two t xs i called

-- a chunk of data leaves two registers
names-chunk : (tree : Option HeldInput) (xs : List ℕ) (o : Option Instr) (operand : Option Opening) → is_some operand ≡ is_some (address_needed (needed_by (offering tree) xs o))
    → length (named_by o) + chunk_count operand ≤ 3
names-chunk tree xs o None shaped = let few = named-few o in omega arith
names-chunk tree xs o (Some chunk) shaped = let two = operand-two tree xs o (sym shaped) in omega arith

-- and so does a chunk of the input, beside which there is none of data
names-input : (tree : Option HeldInput) (xs : List ℕ) (o : Option Instr) (operand : Option Opening) (input : Option InOpening) → is_some operand ≡ is_some (address_needed (needed_by (offering tree) xs o))
    → is_some input ≡ is_some (byte_needed tree (needed_by (offering tree) xs o)) → (length (named_by o) + input_count input ≤ 3) × (input_count input + chunk_count operand ≤ 1)
unfolding input_count
names-input tree xs o operand None shaped read = let few = named-few o in let one = one-chunk operand in (omega arith, omega arith)
names-input tree xs o operand (Some chunk) shaped read =
    let both = input-two tree xs o (sym read) in
    let two = both.0 in
    let none = no-chunk operand (shaped ∙ ap is_some both.1) in
    (omega arith, omega arith)

-- the conditions that bound the ticks
abbrev pub IsShaped : Facts → Type 0
IsShaped facts = (is_some facts.operand ≡ is_some (operand_called facts)) × (is_some facts.input ≡ is_some (input_called facts))

module _ (digest : List ℕ → List ℕ) where
  abbrev Bounds : Proof → ℕ → Type 0
  Bounds proof n = (n ≤ most_ticks proof) × (is_some (facts_of proof).operand ≡ false → n ≤ most_alone proof)

  -- of one that leads
  ticks-few : (proof : Proof) → IsShaped (facts_of proof) → Bounds proof (ticks_of digest (facts_of proof))
  ticks-few (V1 p) shaped =
      let facts = facts_of (V1 p) in
      let fetch = chunk-few facts.mem.0 facts.fetch (fetch_address facts.ctl) in
      let one = one-chunk facts.fetch in
      let operand = chunk-few facts.mem.0 facts.operand (operand_called facts) in
      let most = one-chunk facts.operand in
      let step = step-digests facts.operand (next_effect (seen_shown facts (file_of_facts facts))) in
      (omega arith, λ gone. let none = no-chunk facts.operand gone in omega arith)
  ticks-few (V2 p) shaped =
      let facts = facts_of (V2 p) in
      let rs = named_called facts in
      let fetch = chunk-few facts.mem.0 facts.fetch (fetch_address facts.ctl) in
      let one = one-chunk facts.fetch in
      let operand = chunk-few facts.mem.0 facts.operand (operand_called facts) in
      let most = one-chunk facts.operand in
      let registers = each-few p.regs.0 rs p.named in
      let names = names-chunk facts.input_tree (file_of_facts facts) (fetched_of facts) facts.operand shaped.0 in
      let step = step-cost digest facts.operand rs p.named (held_shown facts) (next_effect (seen_shown facts (file_of_facts facts))) in
      (omega arith, λ gone. let none = no-chunk facts.operand gone in omega arith)
  ticks-few (V3 p) shaped =
      let facts = facts_of (V3 p) in
      let rs = named_called facts in
      let fetch = chunk-few facts.mem.0 facts.fetch (fetch_address facts.ctl) in
      let one = one-chunk facts.fetch in
      let operand = chunk-few facts.mem.0 facts.operand (operand_called facts) in
      let most = one-chunk facts.operand in
      let registers = each-few p.regs.0 rs p.named in
      let read = input-few facts.input_tree facts.input (input_called facts) in
      let names = names-chunk facts.input_tree (file_of_facts facts) (fetched_of facts) facts.operand shaped.0 in
      let inputs = names-input facts.input_tree (file_of_facts facts) (fetched_of facts) facts.operand facts.input shaped.0 shaped.1 in
      let left = inputs.0 in
      let apart = inputs.1 in
      let step = step-cost digest facts.operand rs p.named (held_shown facts) (next_effect (seen_shown facts (file_of_facts facts))) in
      (omega arith, λ gone. let none = no-chunk facts.operand gone in omega arith)

  -- of one that is refused
  early-few : (proof : Proof) → Bounds proof (opening_digests (facts_of proof))
  early-few (V1 p) =
      let facts = facts_of (V1 p) in
      let fetch = chunk-few facts.mem.0 facts.fetch (fetch_address facts.ctl) in
      let one = one-chunk facts.fetch in
      let operand = chunk-few facts.mem.0 facts.operand (operand_called facts) in
      let most = one-chunk facts.operand in
      (omega arith, λ gone. let none = no-chunk facts.operand gone in omega arith)
  early-few (V2 p) =
      let facts = facts_of (V2 p) in
      let fetch = chunk-few facts.mem.0 facts.fetch (fetch_address facts.ctl) in
      let one = one-chunk facts.fetch in
      let operand = chunk-few facts.mem.0 facts.operand (operand_called facts) in
      let most = one-chunk facts.operand in
      let registers = each-few p.regs.0 (named_called facts) p.named in
      let few = named-few (fetched_of facts) in
      (omega arith, λ gone. let none = no-chunk facts.operand gone in omega arith)
  early-few (V3 p) =
      let facts = facts_of (V3 p) in
      let fetch = chunk-few facts.mem.0 facts.fetch (fetch_address facts.ctl) in
      let one = one-chunk facts.fetch in
      let operand = chunk-few facts.mem.0 facts.operand (operand_called facts) in
      let most = one-chunk facts.operand in
      let registers = each-few p.regs.0 (named_called facts) p.named in
      let few = named-few (fetched_of facts) in
      let read = input-few facts.input_tree facts.input (input_called facts) in
      let once = one-input facts.input in
      (omega arith, λ gone. let none = no-chunk facts.operand gone in omega arith)

  -- either way
  pub bounded : (proof : Proof) (r : StepCheck) (old new : ℕ)
      → ((b : Digest32) → r ≡ check.Leads b → (new ≡ old + ticks_of digest (facts_of proof)) × IsShaped (facts_of proof))
      → (r ≡ check.NotOpen → new ≤ old + opening_digests (facts_of proof)) → (r ≡ check.WrongShape → new ≤ old + opening_digests (facts_of proof))
      → (new ≤ old + most_ticks proof) × (is_some (facts_of proof).operand ≡ false → new ≤ old + most_alone proof)
  bounded proof (check.Leads b) old new leads not_open wrong_shape =
      let is = leads b refl in
      let exact = is.0 in
      let few = ticks-few proof is.1 in
      let most = few.0 in
      (omega arith, λ gone. let alone = few.1 gone in omega arith)
  bounded proof check.NotOpen old new leads not_open wrong_shape =
      let early = not_open refl in
      let few = early-few proof in
      let most = few.0 in
      (omega arith, λ gone. let alone = few.1 gone in omega arith)
  bounded proof check.WrongShape old new leads not_open wrong_shape =
      let early = wrong_shape refl in
      let few = early-few proof in
      let most = few.0 in
      (omega arith, λ gone. let alone = few.1 gone in omega arith)
