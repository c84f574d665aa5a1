-- A step reads and changes of the registers what its instruction names.
use Rattle.std.proofs.Common.{◌≡◌, ◌≢◌, ℕ, ◌%◌, List, ◌++◌, map, length, set, slice_index, Option, Some, None, eqb, cond, Bool, true, false, true≢false, not, ◌&&◌, refl, sym, ap, subst, ◌∙◌, arith, ⊎_elim, get_or-set_same, get_or-set_other}
use Rattle.std.proofs.lemmas.Bool.{cases_eq, cases_lt, eq-eqb, ne_eqb, or_parts, eqb-false}
use Rattle.std.proofs.lemmas.List.{set_past}
use Rattle.rd_base.specs.Scheme.{scheme_of}
use Rattle.rd_base.specs.Regs.{with_register}
use Rattle.rd_base.specs.Status.{is_running}
use Rattle.rv_decode.specs.Reading.{reading_of}
use Rattle.rv_decode.specs.declared.instr.Instr.{Instr}
use Rattle.mem_plain.specs.Contents.{number_at}
use Rattle.rv_step.specs.Effect.{x}
use Rattle.rv_step.specs.Offer.{byte_or_ones, offered}
use Rattle.rv_step.specs.State.{State}
use Rattle.rv_step.specs.NextEffect.{seen_of, effect_at, effect_of_word, next_effect, read_at}
use Rattle.rv_step.specs.Step.{step, after_next, after_effect, regs_after}
use Rattle.rv_step.specs.declared.effect.Effect.{Effect}
use Rattle.rv_step.specs.declared.effect.Effect.TheVariants.{Write, Jump, Branch, Next, Store, Put, Exit, Trap}
use Rattle.rv_step.specs.Named.{first_source, second_source, destination, if_named, once, named, named_by, WritesOnly}
use Rattle.rv_step.specs.Alike.{with_registers, Shows, StepAlike, has_register, ChangesNamed}
use Rattle.rv_step.proofs.NamedLemmas.{named-effect, effect-writes}

-- a write of one register to two files
written-alike : (xs ys : List ℕ) (rd value r : ℕ) → length xs ≡ length ys → x xs r ≡ x ys r → x (with_register xs rd value) r ≡ x (with_register ys rd value) r
written-alike xs ys rd value r size same = ⊎_elim
    (λ zero. rw (eq-eqb rd 0 zero) same)
    (λ some. rw (ne_eqb rd 0 some) (⊎_elim
    (λ here. subst (λ k. slice_index (set xs rd value) k ≡ slice_index (set ys rd value) k) (sym here) (⊎_elim
    (λ low. get_or-set_same xs rd value 0 low ∙ sym (get_or-set_same ys rd value 0 (omega arith)))
    (λ high. ap (λ l. slice_index l rd) (set_past xs rd value high) ∙ (subst (λ k. x xs k ≡ x ys k) here same ∙ sym (ap (λ l. slice_index l rd) (set_past ys rd value (omega arith)))))
    (cases_lt rd (length xs))))
    (λ other. get_or-set_other xs rd r value 0 other ∙ (same ∙ sym (get_or-set_other ys rd r value 0 other)))
    (cases_eq r rd)))
    (cases_eq rd 0)

written-elsewhere : (xs : List ℕ) (rd value r : ℕ) → (r ≢ rd) → x (with_register xs rd value) r ≡ x xs r
written-elsewhere xs rd value r other = ⊎_elim
    (λ zero. rw (eq-eqb rd 0 zero) refl)
    (λ some. rw (ne_eqb rd 0 some) (get_or-set_other xs rd r value 0 other))
    (cases_eq rd 0)

module _ (xs : List ℕ) (s : State) (size : length xs ≡ length s.regs) where
  pub effect-alike : (e : Effect) → StepAlike xs s (after_effect (with_registers xs s) e) (after_effect s e)
  effect-alike (Write rd value) = record { pc = refl; memory = refl; status = refl; output = refl; version = refl; input = refl; regs = λ r same. written-alike xs s.regs rd value r size same }
  effect-alike (Jump rd target) = record { pc = refl; memory = refl; status = refl; output = refl; version = refl; input = refl; regs = λ r same. written-alike xs s.regs rd _ r size same }
  effect-alike (Branch target) = record { pc = refl; memory = refl; status = refl; output = refl; version = refl; input = refl; regs = λ r same. same }
  effect-alike Next = record { pc = refl; memory = refl; status = refl; output = refl; version = refl; input = refl; regs = λ r same. same }
  effect-alike (Store addr width value) = record { pc = refl; memory = refl; status = refl; output = refl; version = refl; input = refl; regs = λ r same. same }
  effect-alike (Put byte) = record { pc = refl; memory = refl; status = refl; output = refl; version = refl; input = refl; regs = λ r same. same }
  effect-alike (Exit code) = record { pc = refl; memory = refl; status = refl; output = refl; version = refl; input = refl; regs = λ r same. same }
  effect-alike (Trap code) = record { pc = refl; memory = refl; status = refl; output = refl; version = refl; input = refl; regs = λ r same. same }

  word-alike : (o : Option Instr) → x xs 0 ≡ x s.regs 0 → map (x xs) (named_by o) ≡ map (x s.regs) (named_by o)
      → StepAlike xs s (after_effect (with_registers xs s) (effect_of_word (seen_of (with_registers xs s)) o)) (after_effect s (effect_of_word (seen_of s) o))
  word-alike None zeros same = effect-alike (Trap 2)
  word-alike (Some i) zeros same =
      subst (λ (e : Effect). StepAlike xs s (after_effect (with_registers xs s) e) (after_effect s (effect_at s i)))
      (sym (named-effect xs s.regs zeros (offered (scheme_of s.version).input (byte_or_ones s.input)) s.pc (λ addr width. number_at s.memory addr width) i same)) (effect-alike (effect_at s i))

pub steps-alike : (xs : List ℕ) (s : State) → Shows xs s → StepAlike xs s (step (with_registers xs s)) (step s)
unfolding step next_effect
steps-alike xs s shows = go (is_running s.status) (eqb (s.pc % 4) 0) shows.named
  where
    word : ℕ → ℕ
    word addr = number_at s.memory addr 4

    go : (r b : Bool) → map (x xs) (named_by (read_at word (cond (r && b) (Some s.pc) None))) ≡ map (x s.regs) (named_by (read_at word (cond (r && b) (Some s.pc) None)))
        → StepAlike xs s (after_next (with_registers xs s) (cond r (Some (cond b (effect_of_word (seen_of (with_registers xs s)) (reading_of (word s.pc))) (Trap 0))) None))
        (after_next s (cond r (Some (cond b (effect_of_word (seen_of s) (reading_of (word s.pc))) (Trap 0))) None))
    go true true same = word-alike xs s shows.size (reading_of (word s.pc)) shows.zero_first same
    go true false same = effect-alike xs s shows.size (Trap 0)
    go false b same = record { pc = refl; memory = refl; status = refl; output = refl; version = refl; input = refl; regs = λ r alike. alike }

-- what an effect changes
effect-elsewhere : (xs : List ℕ) (pc d : ℕ) (e : Effect) → WritesOnly d e → (r : ℕ) → r ≢ d → x (regs_after xs pc e) r ≡ x xs r
effect-elsewhere xs pc d (Write rd value) is r other = written-elsewhere xs rd value r (λ e. other (e ∙ is))
effect-elsewhere xs pc d (Jump rd target) is r other = written-elsewhere xs rd _ r (λ e. other (e ∙ is))
effect-elsewhere xs pc d e is r other = refl

written-zero : (xs : List ℕ) (rd value r : ℕ) → rd ≡ 0 → x (with_register xs rd value) r ≡ x xs r
written-zero xs rd value r zero = rw (eq-eqb rd 0 zero) refl

effect-zero : (xs : List ℕ) (pc d : ℕ) (e : Effect) → WritesOnly d e → d ≡ 0 → (r : ℕ) → x (regs_after xs pc e) r ≡ x xs r
effect-zero xs pc d (Write rd value) is zero r = written-zero xs rd value r (is ∙ zero)
effect-zero xs pc d (Jump rd target) is zero r = written-zero xs rd _ r (is ∙ zero)
effect-zero xs pc d e is zero r = refl

-- what isn't among three registers
among-if_named : (t : Bool) (q : ℕ) (rest : List ℕ) (r : ℕ) → has_register (if_named t q ++ rest) r ≡ false → (t ≡ true → q ≢ r) × (has_register rest r ≡ false)
among-if_named true q rest r out = let both = or_parts (eqb q r) (has_register rest r) out in (λ _ e. eqb-false q r both.0 e, both.1)
among-if_named false q rest r out = (λ test. absurd (true≢false (sym test)), out)

among-last : (t : Bool) (r : ℕ) → has_register (if_named t r) r ≡ false → t ≡ true → ⊥
among-last true r out test = let both = or_parts (eqb r r) false out in eqb-false r r both.0 refl
among-last false r out test = absurd (true≢false (sym test))

last-among : (a b c : ℕ) → has_register (once a b c) c ≡ false → c ≡ 0
last-among a b c out = ⊎_elim (λ zero. zero) (λ some. absurd (never some)) (cases_eq c 0)
  where
    never : c ≢ 0 → ⊥
    never some =
        let first = among-if_named (not (eqb a 0)) a (if_named (not (eqb b 0) && not (eqb b a)) b ++ if_named (not (eqb c 0) && not (eqb c a) && not (eqb c b)) c) c out in
        let second = among-if_named (not (eqb b 0) && not (eqb b a)) b (if_named (not (eqb c 0) && not (eqb c a) && not (eqb c b)) c) c first.1 in
        ⊎_elim
        (λ same. let a_some : a ≢ 0 = λ e. some (same ∙ e) in first.0 (rw (ne_eqb a 0 a_some) refl) (sym same))
        (λ apart. ⊎_elim
        (λ same. let b_some : b ≢ 0 = λ e. some (same ∙ e) in let b_apart : b ≢ a = λ e. apart (same ∙ e) in second.0 (rw (ne_eqb b 0 b_some, ne_eqb b a b_apart) refl) (sym same))
        (λ other. among-last (not (eqb c 0) && not (eqb c a) && not (eqb c b)) c second.1 (rw (ne_eqb c 0 some, ne_eqb c a apart, ne_eqb c b other) refl))
        (cases_eq c b))
        (cases_eq c a)

-- what changes after an effect
abbrev Changes : State → List ℕ → List ℕ → Type 0
Changes s rs after = ((r : ℕ) → has_register rs r ≡ false → x after r ≡ x s.regs r) × ((r q : ℕ) → x after r ≢ x s.regs r → q ≢ r → x after q ≡ x s.regs q)

word-changes : (s : State) (o : Option Instr) → Changes s (named_by o) (after_effect s (effect_of_word (seen_of s) o)).regs
unfolding named
word-changes s None = (λ r out. refl, λ r q changed apart. refl)
word-changes s (Some i) =
    let e = effect_at s i in
    let d = destination i in
    let only = effect-writes (offered (scheme_of s.version).input (byte_or_ones s.input)) s.regs s.pc (λ addr width. number_at s.memory addr width) i in (
      λ r out. ⊎_elim
          (λ here. effect-zero s.regs s.pc d e only (last-among (first_source i) (second_source i) d (subst (λ k. has_register (once (first_source i) (second_source i) d) k ≡ false) here out)) r)
          (λ other. effect-elsewhere s.regs s.pc d e only r other)
          (cases_eq r d),
      λ r q changed apart. ⊎_elim
          (λ here. effect-elsewhere s.regs s.pc d e only q (λ same. apart (same ∙ sym here)))
          (λ other. absurd (changed (effect-elsewhere s.regs s.pc d e only r other)))
          (cases_eq r d),
    )

pub step-changes : (s : State) → ChangesNamed s
unfolding step next_effect
step-changes s =
    let both = go (is_running s.status) (eqb (s.pc % 4) 0) in
    record { elsewhere = both.0; one = both.1 }
  where
    word : ℕ → ℕ
    word addr = number_at s.memory addr 4

    go : (r b : Bool)
        → Changes s (named_by (read_at word (cond (r && b) (Some s.pc) None))) (after_next s (cond r (Some (cond b (effect_of_word (seen_of s) (reading_of (word s.pc))) (Trap 0))) None)).regs
    go true true = word-changes s (reading_of (word s.pc))
    go true false = (λ r out. refl, λ r q changed apart. refl)
    go false b = (λ r out. refl, λ r q changed apart. refl)
