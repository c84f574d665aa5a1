-- The fault of a statement is the one with the least number among those that it has.
use Rattle.std.proofs.Common.{◌≡◌, ℕ, ◌≤◌, Bool, true, false, List, [], ◌∷◌, refl, ap, ◌∙◌, sym, subst, arith, ℤ, Option, Some, None, Result, Ok, Err, ◌⊎◌, inl, inr, ⊎_elim}
use Rattle.std.proofs.lemmas.Bool.{true≢false, false≢true, and_parts, ltb-true, ltb-false}
use Rattle.std.specs.Prelude.{◌↔◌, ◌==◌, ◌&&◌, ◌||◌, if◌then◌else◌, nat_lt}
use Rattle.rd_base.specs.Results.{◌>>=◌}
use Rattle.rv_text.specs.Characters.{is_blank, skip, is_empty, begins, is_name}
use Rattle.rv_text.specs.Numbers.{number_of_text, register_of_text}
use Rattle.rv_text.specs.Fields.{is_in, is_register, is_target}
use Rattle.rv_text.specs.Faults.{number_of_kind}
use Rattle.rv_text.specs.Operands.{ranged_or, Distances, slots_of, field_of, registered_in, operand_in, both, after_slot, operands_in, operands_of, next_operand, after_operand}
use Rattle.rv_text.specs.Rows.{row_named, word_by}
use Rattle.rv_text.specs.Lines.{first_word, after_first_word, word_of_row, word_of_statement, word_in}
use Rattle.rv_text.specs.Causes.{may_stand, stands_for, IsUnknownRegister, IsOutside, IsUndefined, SomeOperand, HasOtherOperands, HasMnemonic, HasFaultyOperand, HasOtherForm, no_word, no_blank, other_operands, HasFault, IsLeast, HasUnknownMnemonic}
use Rattle.rv_text.specs.declared.row.Row.{Row}
use Rattle.rv_text.specs.declared.field.Field.{Field}
use Rattle.rv_text.specs.declared.field.Field.TheVariants.{Rd, Rs1, Rs2, Immediate, Shift, StoreOffset, BranchTarget, JumpTarget, Upper, Word}
use Rattle.rv_text.specs.declared.form.Slot.{Slot}
use Rattle.rv_text.specs.declared.fault.FaultKind.{FaultKind}
use Rattle.rv_text.specs.declared.fault.FaultKind.TheVariants.{OtherForm, UnknownMnemonic, NoRegister, OutOfRange, Undefined, DefinedTwice}
use Rattle.std.specs.Option.{ok_or}

-- ---- kinds
kind_of : ℕ → FaultKind
kind_of n = if n == 1 then OtherForm else if n == 2 then UnknownMnemonic else if n == 3 then NoRegister else if n == 4 then OutOfRange else if n == 5 then Undefined else DefinedTwice

kind-back : (k : FaultKind) → kind_of (number_of_kind k) ≡ k
unfolding kind_of
kind-back OtherForm = refl
kind-back UnknownMnemonic = refl
kind-back NoRegister = refl
kind-back OutOfRange = refl
kind-back Undefined = refl
kind-back DefinedTwice = refl

pub same-kind : (j k : FaultKind) → number_of_kind j ≤ number_of_kind k → number_of_kind k ≤ number_of_kind j → j ≡ k
same-kind j k p q = let same : number_of_kind j ≡ number_of_kind k = omega arith in sym (kind-back j) ∙ ap kind_of same ∙ kind-back k

-- ---- what a result says of the faults that there are
-- there is none, or the result is the least of them
abbrev pub Judged : {A : Type 0} → (FaultKind → Type 0) → Result A FaultKind → Type 0
Judged has (Ok x) = (k : FaultKind) → has k → ⊥
Judged has (Err k) = IsLeast has k

module _ (H : FaultKind → Type 0) where
  pub none-of_six : (H OtherForm → ⊥) → (H UnknownMnemonic → ⊥) → (H NoRegister → ⊥) → (H OutOfRange → ⊥) → (H Undefined → ⊥) → (H DefinedTwice → ⊥) → (k : FaultKind) → H k → ⊥
  none-of_six a b c d e f OtherForm = a
  none-of_six a b c d e f UnknownMnemonic = b
  none-of_six a b c d e f NoRegister = c
  none-of_six a b c d e f OutOfRange = d
  none-of_six a b c d e f Undefined = e
  none-of_six a b c d e f DefinedTwice = f

  from-1 : (j : FaultKind) → H j → 1 ≤ number_of_kind j
  from-1 OtherForm h = omega arith
  from-1 UnknownMnemonic h = omega arith
  from-1 NoRegister h = omega arith
  from-1 OutOfRange h = omega arith
  from-1 Undefined h = omega arith
  from-1 DefinedTwice h = omega arith

  from-2 : (H OtherForm → ⊥) → (j : FaultKind) → H j → 2 ≤ number_of_kind j
  from-2 a OtherForm h = absurd (a h)
  from-2 a UnknownMnemonic h = omega arith
  from-2 a NoRegister h = omega arith
  from-2 a OutOfRange h = omega arith
  from-2 a Undefined h = omega arith
  from-2 a DefinedTwice h = omega arith

  from-3 : (H OtherForm → ⊥) → (H UnknownMnemonic → ⊥) → (j : FaultKind) → H j → 3 ≤ number_of_kind j
  from-3 a b OtherForm h = absurd (a h)
  from-3 a b UnknownMnemonic h = absurd (b h)
  from-3 a b NoRegister h = omega arith
  from-3 a b OutOfRange h = omega arith
  from-3 a b Undefined h = omega arith
  from-3 a b DefinedTwice h = omega arith

  from-4 : (H OtherForm → ⊥) → (H UnknownMnemonic → ⊥) → (H NoRegister → ⊥) → (j : FaultKind) → H j → 4 ≤ number_of_kind j
  from-4 a b c OtherForm h = absurd (a h)
  from-4 a b c UnknownMnemonic h = absurd (b h)
  from-4 a b c NoRegister h = absurd (c h)
  from-4 a b c OutOfRange h = omega arith
  from-4 a b c Undefined h = omega arith
  from-4 a b c DefinedTwice h = omega arith

  from-5 : (H OtherForm → ⊥) → (H UnknownMnemonic → ⊥) → (H NoRegister → ⊥) → (H OutOfRange → ⊥) → (j : FaultKind) → H j → 5 ≤ number_of_kind j
  from-5 a b c d OtherForm h = absurd (a h)
  from-5 a b c d UnknownMnemonic h = absurd (b h)
  from-5 a b c d NoRegister h = absurd (c h)
  from-5 a b c d OutOfRange h = absurd (d h)
  from-5 a b c d Undefined h = omega arith
  from-5 a b c d DefinedTwice h = omega arith

pub same-judged : {A : Type 0} (H G : FaultKind → Type 0) (r : Result A FaultKind) → ((k : FaultKind) → H k → G k) → ((k : FaultKind) → G k → H k) → Judged H r → Judged G r
same-judged H G (Ok x) to back h = λ k g. h k (back k g)
same-judged H G (Err k) to back h = record { is_there = to k h.is_there; is_least = λ j g. h.is_least j (back j g) }

pub then-judged : {A B : Type 0} (H : FaultKind → Type 0) (f : A → B) (r : Result A FaultKind) → Judged H r → Judged H (r >>= λ x. Ok (f x))
then-judged H f (Ok x) h = h
then-judged H f (Err k) h = h

-- of two faults the one with the lesser number
earlier-least : (H G : FaultKind → Type 0) (j k : FaultKind) → IsLeast H j → IsLeast G k → (t : Bool) → nat_lt (number_of_kind k) (number_of_kind j) ≡ t → IsLeast (λ i. H i ⊎ G i) (if t then k else j)
earlier-least H G j k h g true e = record {
  is_there = inr g.is_there;
  is_least = λ i there. ⊎_elim (λ a. omega (arith, ltb-true _ _ e, h.is_least i a)) (λ b. g.is_least i b) there;
}
earlier-least H G j k h g false e = record {
  is_there = inl h.is_there;
  is_least = λ i there. ⊎_elim (λ a. h.is_least i a) (λ b. omega (arith, ltb-false _ _ e, g.is_least i b)) there;
}

both-judged : (H G : FaultKind → Type 0) (r : Result ℤ FaultKind) (s : Result (List ℤ) FaultKind) → Judged H r → Judged G s → Judged (λ k. H k ⊎ G k) (both ◌∷◌ r s)
both-judged H G (Ok z) (Ok zs) h g = λ k there. ⊎_elim (h k) (g k) there
both-judged H G (Ok z) (Err k) h g = record { is_there = inr g.is_there; is_least = λ j there. ⊎_elim (λ a. absurd (h j a)) (λ b. g.is_least j b) there }
both-judged H G (Err j) (Ok zs) h g = record { is_there = inl h.is_there; is_least = λ i there. ⊎_elim (λ a. h.is_least i a) (λ b. absurd (g i b)) there }
both-judged H G (Err j) (Err k) h g = earlier-least H G j k h g (nat_lt (number_of_kind k) (number_of_kind j)) refl

-- ---- one operand
IsCause : Distances → Field → List ℕ → FaultKind → Type 0
IsCause d f operand OtherForm = may_stand f operand ≡ false
IsCause d f operand UnknownMnemonic = ⊥
IsCause d f operand NoRegister = IsUnknownRegister f operand
IsCause d f operand OutOfRange = IsOutside d f operand
IsCause d f operand Undefined = IsUndefined d f operand
IsCause d f operand DefinedTwice = ⊥

pub target-no_register : (f : Field) → is_target f ≡ true → is_register f ≡ true → ⊥
target-no_register Rd t r = absurd (false≢true t)
target-no_register Rs1 t r = absurd (false≢true t)
target-no_register Rs2 t r = absurd (false≢true t)
target-no_register Immediate t r = absurd (false≢true t)
target-no_register Shift t r = absurd (false≢true t)
target-no_register StoreOffset t r = absurd (false≢true t)
target-no_register BranchTarget t r = absurd (false≢true r)
target-no_register JumpTarget t r = absurd (false≢true r)
target-no_register Upper t r = absurd (false≢true t)
target-no_register Word t r = absurd (false≢true t)

module _ (d : Distances) (f : Field) (x : List ℕ) where
  no-outside_register : is_register f ≡ true → IsOutside d f x → ⊥
  no-outside_register r h = true≢false (sym r ∙ h.of_number)

  no-undefined_register : is_register f ≡ true → IsUndefined d f x → ⊥
  no-undefined_register r h = target-no_register f h.of_target r

  registered-judged : is_register f ≡ true → (n : Bool) → is_name x ≡ n → (o : Option ℤ) → register_of_text x ≡ o → Judged (IsCause d f x) (if n then ok_or o NoRegister else Err OtherForm)
  unfolding IsCause
  registered-judged r true n (Some z) o =
      none-of_six (IsCause d f x)
      (λ h. true≢false (sym (rw (r, n) refl) ∙ h)) (λ h. h)
      (λ h. let known : None ≡ Some z = sym h.is_unknown ∙ o in absurd cc)
      (no-outside_register r) (no-undefined_register r) (λ h. h)
  registered-judged r true n None o = record {
    is_there = record { of_register = r; is_a_name = n; is_unknown = o };
    is_least = from-3 (IsCause d f x) (λ h. true≢false (sym (rw (r, n) refl) ∙ h)) (λ h. h);
  }
  registered-judged r false n o e = record {
    is_there = rw (r, n) refl;
    is_least = from-1 (IsCause d f x);
  }

  distant-judged : is_register f ≡ false → (is_target f && is_name x) ≡ true → (o : Option ℤ) → d x ≡ o → Judged (IsCause d f x) (ranged_or Undefined f o)
  unfolding IsCause
  distant-judged r t (Some z) o = ranged-at (is_in f z) refl
    where
      form : may_stand f x ≡ false → ⊥
      form h = true≢false (sym (rw (r, t) refl) ∙ h)

      register : IsUnknownRegister f x → ⊥
      register h = true≢false (sym h.of_register ∙ r)

      number : stands_for d f x ≡ Some z
      number = rw t o

      ranged-at : (b : Bool) → is_in f z ≡ b → Judged (IsCause d f x) (if b then Ok z else Err OutOfRange)
      ranged-at true i =
          none-of_six (IsCause d f x) form (λ h. h) register
          (λ h. let same : Some z ≡ Some h.number = sym number ∙ h.stands in let is : z ≡ h.number = cc in true≢false (sym i ∙ ap (is_in f) is ∙ h.is_outside))
          (λ h. let known : None ≡ Some z = sym h.is_undefined ∙ o in absurd cc) (λ h. h)
      ranged-at false i = record {
        is_there = record { of_number = r; number = z; stands = number; is_outside = i };
        is_least = from-4 (IsCause d f x) form (λ h. h) register;
      }
  distant-judged r t None o =
      let parts = and_parts (is_target f) (is_name x) t in
      record {
        is_there = record { of_target = parts.0; is_a_name = parts.1; is_undefined = o };
        is_least = from-5 (IsCause d f x) (λ h. true≢false (sym (rw (r, t) refl) ∙ h)) (λ h. h) (λ h. true≢false (sym h.of_register ∙ r))
            (λ h. let none : stands_for d f x ≡ None = rw t o in let known : None ≡ Some h.number = sym none ∙ h.stands in absurd cc);
      }

  written-judged : is_register f ≡ false → (is_target f && is_name x) ≡ false → (o : Option ℤ) → number_of_text x ≡ o → Judged (IsCause d f x) (ranged_or OtherForm f o)
  unfolding IsCause
  written-judged r t (Some z) o = ranged-at (is_in f z) refl
    where
      form : may_stand f x ≡ false → ⊥
      form h = true≢false (sym (rw (r, t, o) refl) ∙ h)

      register : IsUnknownRegister f x → ⊥
      register h = true≢false (sym h.of_register ∙ r)

      number : stands_for d f x ≡ Some z
      number = rw t o

      undefined : IsUndefined d f x → ⊥
      undefined h = true≢false (sym (rw (h.of_target, h.is_a_name) refl) ∙ t)

      ranged-at : (b : Bool) → is_in f z ≡ b → Judged (IsCause d f x) (if b then Ok z else Err OutOfRange)
      ranged-at true i =
          none-of_six (IsCause d f x) form (λ h. h) register
          (λ h. let same : Some z ≡ Some h.number = sym number ∙ h.stands in let is : z ≡ h.number = cc in true≢false (sym i ∙ ap (is_in f) is ∙ h.is_outside))
          undefined (λ h. h)
      ranged-at false i = record {
        is_there = record { of_number = r; number = z; stands = number; is_outside = i };
        is_least = from-4 (IsCause d f x) form (λ h. h) register;
      }
  written-judged r t None o = record {
    is_there = rw (r, t, o) refl;
    is_least = from-1 (IsCause d f x);
  }

  operand-judged : Judged (IsCause d f x) (operand_in d f x)
  operand-judged = by (is_register f) refl
    where
      by-target : is_register f ≡ false → (t : Bool) → (is_target f && is_name x) ≡ t → Judged (IsCause d f x) (if t then (ranged_or Undefined f (d x)) else (ranged_or OtherForm f (number_of_text x)))
      by-target r true t = distant-judged r t (d x) refl
      by-target r false t = written-judged r t (number_of_text x) refl

      by : (b : Bool) → is_register f ≡ b → Judged (IsCause d f x) (if b then registered_in x else if is_target f && is_name x then (ranged_or Undefined f (d x)) else (ranged_or OtherForm f (number_of_text x)))
      by true r = registered-judged r (is_name x) refl (register_of_text x) refl
      by false r = by-target r (is_target f && is_name x) refl

-- ---- all operands
OperandFault : Distances → List Slot → List ℕ → FaultKind → Type 0
OperandFault d slots text OtherForm = HasOtherOperands slots text
OperandFault d slots text UnknownMnemonic = ⊥
OperandFault d slots text NoRegister = SomeOperand IsUnknownRegister slots text
OperandFault d slots text OutOfRange = SomeOperand (IsOutside d) slots text
OperandFault d slots text Undefined = SomeOperand (IsUndefined d) slots text
OperandFault d slots text DefinedTwice = ⊥

-- those behind a mark, which may be missing
BehindFault : Distances → List Slot → Option (List ℕ) → FaultKind → Type 0
BehindFault d slots (Some rest) k = OperandFault d slots rest k
BehindFault d slots None OtherForm = Unit {0}
BehindFault d slots None k = ⊥

module _ (d : Distances) (s : Slot) (slots : List Slot) (text : List ℕ) where
  to-behind : (o : Option (List ℕ)) → after_slot s (after_operand text) ≡ o → (k : FaultKind) → IsCause d (field_of s) (next_operand text) k ⊎ BehindFault d slots o k → OperandFault d (s ∷ slots) text k
  unfolding IsCause OperandFault BehindFault
  to-behind (Some rest) e OtherForm h = rw e h
  to-behind (Some rest) e UnknownMnemonic h = ⊎_elim (λ a. a) (λ b. b) h
  to-behind (Some rest) e NoRegister h = rw e h
  to-behind (Some rest) e OutOfRange h = rw e h
  to-behind (Some rest) e Undefined h = rw e h
  to-behind (Some rest) e DefinedTwice h = ⊎_elim (λ a. a) (λ b. b) h
  to-behind None e OtherForm h = rw e h
  to-behind None e UnknownMnemonic h = ⊎_elim (λ a. a) (λ b. b) h
  to-behind None e NoRegister h = rw e h
  to-behind None e OutOfRange h = rw e h
  to-behind None e Undefined h = rw e h
  to-behind None e DefinedTwice h = ⊎_elim (λ a. a) (λ b. b) h

  from-behind : (o : Option (List ℕ)) → after_slot s (after_operand text) ≡ o → (k : FaultKind) → OperandFault d (s ∷ slots) text k → IsCause d (field_of s) (next_operand text) k ⊎ BehindFault d slots o k
  unfolding IsCause OperandFault BehindFault
  from-behind (Some rest) e OtherForm h = rw e at h
  from-behind (Some rest) e UnknownMnemonic h = absurd h
  from-behind (Some rest) e NoRegister h = rw e at h
  from-behind (Some rest) e OutOfRange h = rw e at h
  from-behind (Some rest) e Undefined h = rw e at h
  from-behind (Some rest) e DefinedTwice h = absurd h
  from-behind None e OtherForm h = rw e at h
  from-behind None e UnknownMnemonic h = absurd h
  from-behind None e NoRegister h = rw e at h
  from-behind None e OutOfRange h = rw e at h
  from-behind None e Undefined h = rw e at h
  from-behind None e DefinedTwice h = absurd h

behind-judged : (d : Distances) (slots : List Slot) → ((rest : List ℕ) → Judged (OperandFault d slots rest) (operands_in d slots rest))
    → (o : Option (List ℕ)) → Judged (BehindFault d slots o) (ok_or o OtherForm >>= λ rest. operands_in d slots rest)
unfolding BehindFault
behind-judged d slots each (Some rest) = each rest
behind-judged d slots each None = record { is_there = tt; is_least = from-1 (BehindFault d slots None) }

ended-judged : (d : Distances) (text : List ℕ) (b : Bool) → is_empty (skip text) ≡ b → Judged {A = List ℤ} (OperandFault d [] text) (if b then Ok [] else Err OtherForm)
unfolding OperandFault
ended-judged d text true e = none-of_six (OperandFault d [] text) (λ h. true≢false (sym e ∙ h)) (λ h. h) (λ h. h) (λ h. h) (λ h. h) (λ h. h)
ended-judged d text false e = record { is_there = e; is_least = from-1 (OperandFault d [] text) }

operands-judged : (d : Distances) (slots : List Slot) (text : List ℕ) → Judged (OperandFault d slots text) (operands_in d slots text)
operands-judged d [] text = ended-judged d text (is_empty (skip text)) refl
operands-judged d (s ∷ slots) text =
    let o = after_slot s (after_operand text) in
    same-judged (λ k. IsCause d (field_of s) (next_operand text) k ⊎ BehindFault d slots o k) (OperandFault d (s ∷ slots) text) (operands_in d (s ∷ slots) text)
    (to-behind d s slots text o refl) (from-behind d s slots text o refl)
    (both-judged (IsCause d (field_of s) (next_operand text)) (BehindFault d slots o) (operand_in d (field_of s) (next_operand text)) (ok_or o OtherForm >>= λ rest. operands_in d slots rest)
    (operand-judged d (field_of s) (next_operand text))
    (behind-judged d slots (λ rest. operands-judged d slots rest) o))

-- ---- a statement
same-row : (a b : Row) (o : Option Row) → o ≡ Some a → o ≡ Some b → a ≡ b
same-row a b o p q = let same : Some a ≡ Some b = sym p ∙ q in cc

module _ (d : Distances) (text : List ℕ) (row : Row) (has : HasMnemonic text row) where
  statement-has : (k : FaultKind) → OperandFault d (slots_of row.form) (after_first_word text) k → HasFault d text k
  unfolding OperandFault
  statement-has OtherForm h = other_operands row has h
  statement-has UnknownMnemonic h = absurd h
  statement-has NoRegister h = record { row = row; has_mnemonic = has; operand = h }
  statement-has OutOfRange h = record { row = row; has_mnemonic = has; operand = h }
  statement-has Undefined h = record { row = row; has_mnemonic = has; operand = h }
  statement-has DefinedTwice h = absurd h

  other-form : (is_empty (slots_of row.form) || begins is_blank (after_first_word text)) ≡ true → HasOtherForm text → HasOtherOperands (slots_of row.form) (after_first_word text)
  other-form blank (no_word there none) = absurd (true≢false (sym none ∙ has.is_there))
  other-form blank (no_blank r h none) = absurd (true≢false (sym blank ∙ ap (λ (q : Row). is_empty (slots_of q.form) || begins is_blank (after_first_word text)) (same-row row r (row_named (first_word text)) has.is_row h.is_row) ∙ none))
  other-form blank (other_operands r h other) = subst (λ (q : Row). HasOtherOperands (slots_of q.form) (after_first_word text)) (same-row r row (row_named (first_word text)) h.is_row has.is_row) other

  faulty : (F : Field → List ℕ → Type 0) → HasFaultyOperand F text → SomeOperand F (slots_of row.form) (after_first_word text)
  faulty F h = subst (λ (q : Row). SomeOperand F (slots_of q.form) (after_first_word text)) (same-row h.row row (row_named (first_word text)) h.has_mnemonic.is_row has.is_row) h.operand

  known-mnemonic : HasUnknownMnemonic text → ⊥
  known-mnemonic h = let known : None ≡ Some row = sym h.is_unknown ∙ has.is_row in absurd cc

  operands-have : (is_empty (slots_of row.form) || begins is_blank (after_first_word text)) ≡ true → (k : FaultKind) → HasFault d text k → OperandFault d (slots_of row.form) (after_first_word text) k
  unfolding OperandFault
  operands-have blank OtherForm h = other-form blank h
  operands-have blank UnknownMnemonic h = known-mnemonic h
  operands-have blank NoRegister h = faulty IsUnknownRegister h
  operands-have blank OutOfRange h = faulty (IsOutside d) h
  operands-have blank Undefined h = faulty (IsUndefined d) h
  operands-have blank DefinedTwice h = h

  tested-judged : (b : Bool) → (is_empty (slots_of row.form) || begins is_blank (after_first_word text)) ≡ b → Judged (HasFault d text) (if b then operands_in d (slots_of row.form) (after_first_word text) else Err OtherForm)
  tested-judged true blank =
      same-judged (OperandFault d (slots_of row.form) (after_first_word text)) (HasFault d text) (operands_in d (slots_of row.form) (after_first_word text)) statement-has (operands-have blank)
      (operands-judged d (slots_of row.form) (after_first_word text))
  tested-judged false none = record { is_there = no_blank row has none; is_least = from-1 (HasFault d text) }

row-judged : (d : Distances) (text : List ℕ) → is_empty (first_word text) ≡ false → (o : Option Row) → row_named (first_word text) ≡ o → Judged (HasFault d text) (word_of_row d o (after_first_word text))
row-judged d text there (Some row) is =
    let has : HasMnemonic text row = record { is_there = there; is_row = is } in
    then-judged (HasFault d text) (word_by row) (operands_of d (slots_of row.form) (after_first_word text))
    (tested-judged d text row has (is_empty (slots_of row.form) || begins is_blank (after_first_word text)) refl)
row-judged d text there None is = record {
  is_there = record { is_there = there; is_unknown = is };
  is_least = from-2 (HasFault d text) no-form;
}
  where
    no-form : HasOtherForm text → ⊥
    no-form (no_word some none) = true≢false (sym none ∙ there)
    no-form (no_blank r h none) = let known : None ≡ Some r = sym is ∙ h.is_row in absurd cc
    no-form (other_operands r h other) = let known : None ≡ Some r = sym is ∙ h.is_row in absurd cc

first-judged : (d : Distances) (text : List ℕ) → is_empty text ≡ false → (b : Bool) → is_empty (first_word text) ≡ b → Judged (HasFault d text) (if b then Err OtherForm else word_of_row d (row_named (first_word text)) (after_first_word text))
first-judged d text some true none = record { is_there = no_word some none; is_least = from-1 (HasFault d text) }
first-judged d text some false there = row-judged d text there (row_named (first_word text)) refl

-- an empty statement has no fault
empty-faultless : (d : Distances) (k : FaultKind) → HasFault d [] k → ⊥
empty-faultless d OtherForm h = form h
  where
    form : HasOtherForm [] → ⊥
    form (no_word some none) = true≢false some
    form (no_blank r h none) = true≢false h.is_there
    form (other_operands r h other) = true≢false h.is_there
empty-faultless d UnknownMnemonic h = true≢false h.is_there
empty-faultless d NoRegister h = true≢false h.has_mnemonic.is_there
empty-faultless d OutOfRange h = true≢false h.has_mnemonic.is_there
empty-faultless d Undefined h = true≢false h.has_mnemonic.is_there
empty-faultless d DefinedTwice h = h

pub statement-judged : (d : Distances) (text : List ℕ) → Judged (HasFault d text) (word_in d text)
unfolding word_in
statement-judged d [] = empty-faultless d
statement-judged d (c ∷ cs) = then-judged (HasFault d (c ∷ cs)) (λ w. Some w) (word_of_statement d (c ∷ cs)) (first-judged d (c ∷ cs) refl (is_empty (first_word (c ∷ cs))) refl)

-- ---- the fault is the least one, and the least one is the fault
pub is-least : {A : Type 0} (H : FaultKind → Type 0) (r : Result A FaultKind) (k : FaultKind) → Judged H r → (r ≡ Err k) ↔ IsLeast H k
is-least {A} H r k judged = (λ e. subst (Judged {A = A} H) e judged, λ h. least-is r judged h)
  where
    least-is : (r : Result A FaultKind) → Judged H r → IsLeast H k → r ≡ Err k
    least-is (Ok x) none h = absurd (none k h.is_there)
    least-is (Err j) least h = ap (λ i. Err i) (same-kind j k (least.is_least k h.is_there) (h.is_least j least.is_there))
