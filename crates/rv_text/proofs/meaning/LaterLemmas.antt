-- Where a line passed before places were known, only its name can be at fault later.
use Rattle.std.proofs.Common.{◌≡◌, ℕ, Bool, true, false, List, [], ◌∷◌, refl, ap, ◌∙◌, sym, subst, ℤ, Option, Some, None, Result, Ok, Err, ◌⊎◌, inl, inr}
use Rattle.std.proofs.lemmas.Bool.{false≢true, true≢false}
use Rattle.std.specs.Prelude.{◌==◌, if◌then◌else◌, nat_lt, is_ok}
use Rattle.rd_base.specs.Results.{◌>>=◌}
use Rattle.rv_text.specs.Characters.{is_empty, is_name}
use Rattle.rv_text.specs.Numbers.{number_of_text}
use Rattle.rv_text.specs.Fields.{is_in, is_target}
use Rattle.rv_text.specs.Faults.{number_of_kind, earlier}
use Rattle.rv_text.specs.Operands.{ranged_or, Distances, slots_of, field_of, registered_in, operand_in, both, after_slot, operands_in, operands_of, next_operand, after_operand}
use Rattle.rv_text.specs.Rows.{row_named, word_by}
use Rattle.rv_text.specs.Lines.{first_word, after_first_word, word_of_row, word_of_statement, word_in}
use Rattle.rv_text.specs.Assembly.{near}
use Rattle.rv_text.specs.Causes.{IsUndefined, IsFar, Follows, SomeOperand, HasFaultyOperand}
use Rattle.rv_text.specs.declared.row.Row.{Row}
use Rattle.rv_text.specs.declared.field.Field.{Field}
use Rattle.rv_text.specs.declared.field.Field.TheVariants.{Rd, Rs1, Rs2, Immediate, Shift, StoreOffset, BranchTarget, JumpTarget, Upper, Word}
use Rattle.rv_text.specs.declared.form.Slot.{Slot}
use Rattle.rv_text.specs.declared.fault.FaultKind.{FaultKind}
use Rattle.rv_text.specs.declared.fault.FaultKind.TheVariants.{OtherForm, UnknownMnemonic, OutOfRange, Undefined}
use Rattle.std.specs.Option.{ok_or}

-- a result that is the same before and later, or a fault with this cause later
Later : {A : Type 0} → (FaultKind → Type 0) → Result A FaultKind → Result A FaultKind → Type 0
Later {A} Cause before after = (x : A) → before ≡ Ok x → (k : FaultKind) → after ≡ Err k → Cause k

not-both : {A : Type 0} (r : Result A FaultKind) (x : A) (k : FaultKind) → r ≡ Ok x → r ≡ Err k → ⊥
not-both r x k h e = true≢false (ap is_ok (sym h ∙ e))

same-later : {A : Type 0} (C : FaultKind → Type 0) (r : Result A FaultKind) → Later C r r
unfolding Later
same-later C r x h k e = elim (not-both r x k h e) [ ]

fault_or : {A : Type 0} → FaultKind → Result A FaultKind → FaultKind
fault_or k (Ok x) = k
fault_or k (Err e) = e

same-fault : {A : Type 0} (j k : FaultKind) → ◌≡◌ {A = Result A FaultKind} (Err j) (Err k) → j ≡ k
unfolding fault_or
same-fault j k e = ap (fault_or j) e

ok-not_err : {A : Type 0} (x : A) (k : FaultKind) → Ok x ≡ Err k → ⊥
ok-not_err x k e = true≢false (ap is_ok e)

err-not_ok : {A : Type 0} (x : A) (k : FaultKind) → Err k ≡ Ok x → ⊥
err-not_ok x k e = false≢true (ap is_ok e)

-- what follows from an operand that is a name which is undefined or far
abbrev Distant : (FaultKind → Type 0) → Distances → Field → List ℕ → Type 0
Distant C d f name = (IsUndefined d f name → C Undefined) × (IsFar d f name → C OutOfRange)

distant : (C : FaultKind → Type 0) (d : Distances) (f : Field) (name : List ℕ) → Distant C d f name → is_target f ≡ true → is_name name ≡ true
    → (o : Option ℤ) → d name ≡ o → (k : FaultKind) → (ranged_or Undefined f o) ≡ Err k → C k
distant C d f name c target named None is k e = subst C (same-fault Undefined k e) (c.0 (record { of_target = target; is_a_name = named; is_undefined = is }))
distant C d f name c target named (Some z) is k e = ranged-at (is_in f z) refl e
  where
    ranged-at : (b : Bool) → is_in f z ≡ b → (if b then Ok z else Err OutOfRange) ≡ Err k → C k
    ranged-at true i e = elim (ok-not_err z k e) [ ]
    ranged-at false i e =
        subst C (same-fault OutOfRange k e) (c.1 (record { of_target = target; is_a_name = named; distance = z; is_distance = is; is_far = i }))

target-later : (C : FaultKind → Type 0) (f : Field) (b : Bool) (o p q : Option ℤ) → (b ≡ true → (k : FaultKind) → (ranged_or Undefined f p) ≡ Err k → C k) → Later C (if b then (ranged_or Undefined f o) else (ranged_or OtherForm f q)) (if b then (ranged_or Undefined f p) else (ranged_or OtherForm f q))
unfolding Later
target-later C f true o p q c = λ x h k e. c refl k e
target-later C f false o p q c = λ x h k e. elim (not-both (ranged_or OtherForm f q) x k h e) [ ]

operand-later : (C : FaultKind → Type 0) (d : Distances) (f : Field) (text : List ℕ) → Distant C d f text → Later C (operand_in near f text) (operand_in d f text)
operand-later C d Rd text c = same-later C (registered_in text)
operand-later C d Rs1 text c = same-later C (registered_in text)
operand-later C d Rs2 text c = same-later C (registered_in text)
operand-later C d Immediate text c = same-later C (ranged_or OtherForm Immediate (number_of_text text))
operand-later C d Shift text c = same-later C (ranged_or OtherForm Shift (number_of_text text))
operand-later C d StoreOffset text c = same-later C (ranged_or OtherForm StoreOffset (number_of_text text))
operand-later C d BranchTarget text c = target-later C BranchTarget (is_name text) (near text) (d text) (number_of_text text) (λ named. distant C d BranchTarget text c refl named (d text) refl)
operand-later C d JumpTarget text c = target-later C JumpTarget (is_name text) (near text) (d text) (number_of_text text) (λ named. distant C d JumpTarget text c refl named (d text) refl)
operand-later C d Upper text c = same-later C (ranged_or OtherForm Upper (number_of_text text))
operand-later C d Word text c = same-later C (ranged_or OtherForm Word (number_of_text text))

earlier-cause : (C : FaultKind → Type 0) (b : Bool) (j k : FaultKind) → C j → C k → C (if b then k else j)
earlier-cause C true j k h i = i
earlier-cause C false j k h i = h

both-later : (C : FaultKind → Type 0) (r s : Result ℤ FaultKind) (rs ss : Result (List ℤ) FaultKind) → Later C r s → Later C rs ss → Later C (both ◌∷◌ r rs) (both ◌∷◌ s ss)
unfolding Later
both-later C (Ok z) (Ok y) (Ok zs) (Ok ys) h i = λ x e k f. elim (ok-not_err (y ∷ ys) k f) [ ]
both-later C (Ok z) (Ok y) (Ok zs) (Err j) h i = λ x e k f. subst C (same-fault j k f) (i zs refl j refl)
both-later C (Ok z) (Err j) (Ok zs) (Ok ys) h i = λ x e k f. subst C (same-fault j k f) (h z refl j refl)
both-later C (Ok z) (Err j) (Ok zs) (Err l) h i = λ x e k f. subst C (same-fault (earlier j l) k f) (earlier-cause C (nat_lt (number_of_kind l) (number_of_kind j)) j l (h z refl j refl) (i zs refl l refl))
both-later C (Ok z) s (Err j) ss h i = λ x e. elim (err-not_ok x j e) [ ]
both-later C (Err j) s (Ok zs) ss h i = λ x e. elim (err-not_ok x j e) [ ]
both-later C (Err j) s (Err l) ss h i = λ x e. elim (err-not_ok x (earlier j l) e) [ ]

-- what follows if some operand is such a name
abbrev Standing : (FaultKind → Type 0) → Distances → List Slot → List ℕ → Type 0
Standing C d slots text = (SomeOperand (IsUndefined d) slots text → C Undefined) × (SomeOperand (IsFar d) slots text → C OutOfRange)

behind-later : (C : FaultKind → Type 0) (d : Distances) (slots : List Slot) (o : Option (List ℕ)) → ((text : List ℕ) → Standing C d slots text → Later C (operands_in near slots text) (operands_in d slots text))
    → (Follows o (λ rest. SomeOperand (IsUndefined d) slots rest) → C Undefined) × (Follows o (λ rest. SomeOperand (IsFar d) slots rest) → C OutOfRange)
    → Later C (ok_or o OtherForm >>= λ rest. operands_in near slots rest) (ok_or o OtherForm >>= λ rest. operands_in d slots rest)
behind-later C d slots (Some text) h c = h text c
behind-later C d slots None h c = same-later C (Err OtherForm)

operands-later : (C : FaultKind → Type 0) (d : Distances) (slots : List Slot) (text : List ℕ) → Standing C d slots text → Later C (operands_in near slots text) (operands_in d slots text)
operands-later C d [] text c = same-later C (operands_in d [] text)
operands-later C d (s ∷ slots) text c =
    both-later C (operand_in near (field_of s) (next_operand text)) (operand_in d (field_of s) (next_operand text)) _ _
    (operand-later C d (field_of s) (next_operand text) (λ h. c.0 (inl h), λ h. c.1 (inl h)))
    (behind-later C d slots (after_slot s (after_operand text)) (λ t. operands-later C d slots t) (λ h. c.0 (inr h), λ h. c.1 (inr h)))

tested-later : {A : Type 0} (C : FaultKind → Type 0) (b : Bool) (r s : Result A FaultKind) → Later C r s → Later C (if b then r else Err OtherForm) (if b then s else Err OtherForm)
tested-later C true r s h = h
tested-later C false r s h = same-later C (Err OtherForm)

then-later : {A B : Type 0} (C : FaultKind → Type 0) (f : A → B) (r s : Result A FaultKind) → Later C r s → Later C (r >>= λ x. Ok (f x)) (s >>= λ x. Ok (f x))
unfolding Later
then-later C f (Ok y) (Ok z) h = λ x e k g. elim (ok-not_err (f z) k g) [ ]
then-later C f (Ok y) (Err j) h = λ x e k g. subst C (same-fault j k g) (h y refl j refl)
then-later C f (Err j) s h = λ x e. elim (err-not_ok x j e) [ ]

row-later : (C : FaultKind → Type 0) (d : Distances) (o : Option Row) (text : List ℕ) → ((r : Row) → o ≡ Some r → Standing C d (slots_of r.form) text) → Later C (word_of_row near o text) (word_of_row d o text)
row-later C d (Some r) text c =
    then-later C (word_by r) (operands_of near (slots_of r.form) text) (operands_of d (slots_of r.form) text) (tested-later C _ _ _ (operands-later C d (slots_of r.form) text (c r refl)))
row-later C d None text c = same-later C (Err UnknownMnemonic)

unless-later : {A : Type 0} (C : FaultKind → Type 0) (b : Bool) (q r s : Result A FaultKind) → Later C r s → Later C (if b then q else r) (if b then q else s)
unless-later C true q r s h = same-later C q
unless-later C false q r s h = h

named-there : (name : List ℕ) (row : Row) → row_named name ≡ Some row → is_empty name ≡ false
unfolding row_named
named-there [] row e = absurd cc
named-there (c ∷ cs) row e = refl

has-faulty : (F : Field → List ℕ → Type 0) (text : List ℕ) (r : Row) → row_named (first_word text) ≡ Some r → SomeOperand F (slots_of r.form) (after_first_word text) → HasFaultyOperand F text
has-faulty F text r is operand = record { row = r; has_mnemonic = record { is_there = named-there (first_word text) r is; is_row = is }; operand = operand }

-- what follows if the target of a statement is such a name
abbrev OfTarget : (FaultKind → Type 0) → Distances → List ℕ → Type 0
OfTarget C d text = (HasFaultyOperand (IsUndefined d) text → C Undefined) × (HasFaultyOperand (IsFar d) text → C OutOfRange)

word-later : (C : FaultKind → Type 0) (d : Distances) (text : List ℕ) → OfTarget C d text → (w : Option ℕ) (k : FaultKind) → word_in near text ≡ Ok w → word_in d text ≡ Err k → C k
unfolding word_in Later
word-later C d text c w k h e =
    unless-later C (is_empty text) (Ok None) _ _ (then-later C (λ w. Some w) (word_of_statement near text) (word_of_statement d text)
    (unless-later C (is_empty (first_word text)) (Err OtherForm) _ _
    (row-later C d (row_named (first_word text)) (after_first_word text) (λ r is. (λ h. c.0 (has-faulty (IsUndefined d) text r is h), λ h. c.1 (has-faulty (IsFar d) text r is h)))))) w h k e

-- ---- what is at fault
-- of a name: nothing defines it, or its distance is out of range
Cause : Distances → List ℕ → FaultKind → Type 0
Cause d text k = ((k ≡ Undefined) × HasFaultyOperand (IsUndefined d) text) ⊎ ((k ≡ OutOfRange) × HasFaultyOperand (IsFar d) text)

word-cause : (d : Distances) (text : List ℕ) (w : Option ℕ) (k : FaultKind) → word_in near text ≡ Ok w → word_in d text ≡ Err k → Cause d text k
unfolding Cause
word-cause d text = word-later (Cause d text) d text (λ h. inl (refl, h), λ h. inr (refl, h))

of-name : (d : Distances) (text : List ℕ) (k : FaultKind) → Cause d text k → (k ≡ Undefined) ⊎ (k ≡ OutOfRange)
unfolding Cause
of-name d text k (inl h) = inl h.0
of-name d text k (inr h) = inr h.0

undefined-not_far : Undefined ≡ OutOfRange → ⊥
undefined-not_far e = false≢true (ap (λ k. number_of_kind k == 4) e)

of-undefined : (d : Distances) (text : List ℕ) → Cause d text Undefined → HasFaultyOperand (IsUndefined d) text
unfolding Cause
of-undefined d text (inl h) = h.1
of-undefined d text (inr h) = elim (undefined-not_far h.0) [ ]

of-far : (d : Distances) (text : List ℕ) → Cause d text OutOfRange → HasFaultyOperand (IsFar d) text
unfolding Cause
of-far d text (inl h) = elim (undefined-not_far (sym h.0)) [ ]
of-far d text (inr h) = h.1

pub name-later : (d : Distances) (text : List ℕ) (w : Option ℕ) (k : FaultKind) → word_in near text ≡ Ok w → word_in d text ≡ Err k → (k ≡ Undefined) ⊎ (k ≡ OutOfRange)
name-later d text w k h e = of-name d text k (word-cause d text w k h e)

pub undefined-later : (d : Distances) (text : List ℕ) (w : Option ℕ) → word_in near text ≡ Ok w → word_in d text ≡ Err Undefined → HasFaultyOperand (IsUndefined d) text
undefined-later d text w h e = of-undefined d text (word-cause d text w Undefined h e)

pub far-later : (d : Distances) (text : List ℕ) (w : Option ℕ) → word_in near text ≡ Ok w → word_in d text ≡ Err OutOfRange → HasFaultyOperand (IsFar d) text
far-later d text w h e = of-far d text (word-cause d text w OutOfRange h e)
