-- A mnemonic is unknown if and only if no row has it: no operand has this fault.
use Rattle.std.proofs.Common.{◌≡◌, ℕ, Bool, true, false, List, [], ◌∷◌, refl, ap, ℤ, Option, Some, None, Result, Ok, Err}
use Rattle.std.specs.Prelude.{◌↔◌, if◌then◌else◌, ◌&&◌, ◌||◌, nat_lt}
use Rattle.rd_base.specs.Results.{◌>>=◌}
use Rattle.rv_text.specs.Characters.{is_blank, begins, skip, is_empty, is_name}
use Rattle.rv_text.specs.Numbers.{number_of_text, register_of_text}
use Rattle.rv_text.specs.Fields.{is_in, is_register, is_target}
use Rattle.rv_text.specs.Faults.{number_of_kind, earlier}
use Rattle.rv_text.specs.Operands.{ranged_or, Distances, slots_of, field_of, ranged, registered_in, operand_in, both, after_slot, operands_in, operands_of, next_operand, after_operand}
use Rattle.rv_text.specs.Rows.{row_named, word_by}
use Rattle.rv_text.specs.Lines.{first_word, after_first_word, word_of_row, word_of_statement, word_in}
use Rattle.rv_text.specs.Causes.{HasUnknownMnemonic}
use Rattle.rv_text.specs.declared.row.Row.{Row}
use Rattle.rv_text.specs.declared.field.Field.{Field}
use Rattle.rv_text.specs.declared.form.Slot.{Slot}
use Rattle.rv_text.specs.declared.fault.FaultKind.{FaultKind}
use Rattle.rv_text.specs.declared.fault.FaultKind.TheVariants.{OtherForm, NoRegister, UnknownMnemonic, OutOfRange, Undefined}
use Rattle.std.specs.Option.{ok_or}

-- not this fault
Known : {A : Type 0} → Result A FaultKind → Type 0
Known r = r ≡ Err UnknownMnemonic → ⊥

known-ok : {A : Type 0} (x : A) → Known (Ok x)
unfolding Known
known-ok x e = absurd cc

known-err : (A : Type 0) (k : FaultKind) → (k ≡ UnknownMnemonic → ⊥) → Known {A = A} (Err k)
unfolding Known
known-err A k h e = h cc

known-kind : (A : Type 0) (k : FaultKind) → Known {A = A} (Err k) → k ≡ UnknownMnemonic → ⊥
unfolding Known
known-kind A k h e = h (ap (λ j. Err j) e)

known-either : {A : Type 0} (b : Bool) (r s : Result A FaultKind) → Known r → Known s → Known (if b then r else s)
known-either true r s h i = h
known-either false r s h i = i

known-form : (A : Type 0) → Known {A = A} (Err OtherForm)
known-form A = known-err A OtherForm (λ e. absurd cc)

known-ranged : (f : Field) (z : ℤ) → Known (ranged f z)
known-ranged f z = known-either (is_in f z) (Ok z) (Err OutOfRange) (known-ok z) (known-err _ OutOfRange (λ e. absurd cc))

known-written : (f : Field) (o : Option ℤ) → Known (ranged_or OtherForm f o)
known-written f (Some z) = known-ranged f z
known-written f None = known-form _

known-distant : (f : Field) (o : Option ℤ) → Known (ranged_or Undefined f o)
known-distant f (Some z) = known-ranged f z
known-distant f None = known-err _ Undefined (λ e. absurd cc)

known-registered : (o : Option ℤ) → Known (ok_or o NoRegister)
known-registered (Some z) = known-ok z
known-registered None = known-err _ NoRegister (λ e. absurd cc)

known-operand : (d : Distances) (f : Field) (text : List ℕ) → Known (operand_in d f text)
known-operand d f text =
    known-either (is_register f) (registered_in text) _ (known-either (is_name text) (ok_or (register_of_text text) NoRegister) (Err OtherForm) (known-registered (register_of_text text)) (known-form _))
    (known-either (is_target f && is_name text) (ranged_or Undefined f (d text)) (ranged_or OtherForm f (number_of_text text)) (known-distant f (d text)) (known-written f (number_of_text text)))

known-earlier : (b : Bool) (j k : FaultKind) → (j ≡ UnknownMnemonic → ⊥) → (k ≡ UnknownMnemonic → ⊥) → (if b then k else j) ≡ UnknownMnemonic → ⊥
known-earlier true j k h i = i
known-earlier false j k h i = h

known-both : (r : Result ℤ FaultKind) (rs : Result (List ℤ) FaultKind) → Known r → Known rs → Known (both ◌∷◌ r rs)
known-both (Ok z) (Ok zs) h i = known-ok (z ∷ zs)
known-both (Ok z) (Err k) h i = known-err _ k (known-kind _ k i)
known-both (Err j) (Ok zs) h i = known-err _ j (known-kind _ j h)
known-both (Err j) (Err k) h i = known-err _ (earlier j k) (known-earlier (nat_lt (number_of_kind k) (number_of_kind j)) j k (known-kind _ j h) (known-kind _ k i))

known-behind : (d : Distances) (slots : List Slot) (o : Option (List ℕ)) → ((text : List ℕ) → Known (operands_in d slots text)) → Known (ok_or o OtherForm >>= λ rest. operands_in d slots rest)
known-behind d slots (Some text) h = h text
known-behind d slots None h = known-form _

known-operands : (d : Distances) (slots : List Slot) (text : List ℕ) → Known (operands_in d slots text)
known-operands d [] text = known-either (is_empty (skip text)) (Ok []) (Err OtherForm) (known-ok []) (known-form _)
known-operands d (s ∷ slots) text =
    known-both (operand_in d (field_of s) (next_operand text)) _ (known-operand d (field_of s) (next_operand text)) (known-behind d slots (after_slot s (after_operand text)) (λ t. known-operands d slots t))

known-then : {A B : Type 0} (f : A → B) (r : Result A FaultKind) → Known r → Known (r >>= λ x. Ok (f x))
known-then f (Ok x) h = known-ok (f x)
known-then f (Err k) h = known-err _ k (known-kind _ k h)

known-row : (d : Distances) (r : Row) (text : List ℕ) → Known (word_of_row d (Some r) text)
known-row d r text =
    known-then (word_by r) (operands_of d (slots_of r.form) text)
    (known-either (is_empty (slots_of r.form) || begins is_blank text) (operands_in d (slots_of r.form) text) (Err OtherForm) (known-operands d (slots_of r.form) text) (known-form _))

-- ---- where the fault comes
statement-unknown : (d : Distances) (b : Bool) (o : Option Row) (text : List ℕ) → (if b then Err OtherForm else word_of_row d o text) ≡ Err UnknownMnemonic → (b ≡ false) × (o ≡ None)
unfolding Known
statement-unknown d true o text e = absurd (known-form ℕ e)
statement-unknown d false (Some r) text e = absurd (known-row d r text e)
statement-unknown d false None text e = (refl, refl)

then-fault : {A B : Type 0} (f : A → B) (r : Result A FaultKind) (k : FaultKind) → (r >>= λ x. Ok (f x)) ≡ Err k → r ≡ Err k
then-fault f (Ok x) k e = absurd cc
then-fault f (Err j) k e = let same : j ≡ k = cc in ap (λ i. Err i) same

else-fault : {A : Type 0} (b : Bool) (x : A) (r : Result A FaultKind) (k : FaultKind) → (if b then Ok x else r) ≡ Err k → r ≡ Err k
else-fault true x r k e = absurd cc
else-fault false x r k e = e

is-unknown : (d : Distances) (text : List ℕ) → word_in d text ≡ Err UnknownMnemonic → HasUnknownMnemonic text
unfolding word_in
is-unknown d text e =
    let statement = then-fault (λ w. Some w) (word_of_statement d text) UnknownMnemonic (else-fault (is_empty text) None _ UnknownMnemonic e) in
    let parts = statement-unknown d (is_empty (first_word text)) (row_named (first_word text)) (after_first_word text) statement in
    record { is_there = parts.0; is_unknown = parts.1 }

unknown-statement : (d : Distances) (b : Bool) (o : Option Row) (text : List ℕ) → b ≡ false → o ≡ None → (if b then Err OtherForm else word_of_row d o text) ≡ Err UnknownMnemonic
unknown-statement d false None text there unknown = refl
unknown-statement d false (Some r) text there unknown = absurd cc
unknown-statement d true o text there unknown = absurd cc

unknown-is : (d : Distances) (text : List ℕ) → HasUnknownMnemonic text → word_in d text ≡ Err UnknownMnemonic
unfolding word_in
unknown-is d [] h = let there = h.is_there in absurd cc
unknown-is d (c ∷ cs) h =
    ap (λ r. r >>= λ w. Ok (Some w)) (unknown-statement d (is_empty (first_word (c ∷ cs))) (row_named (first_word (c ∷ cs))) (after_first_word (c ∷ cs)) h.is_there h.is_unknown)

pub unknown : (d : Distances) (text : List ℕ) → (word_in d text ≡ Err UnknownMnemonic) ↔ HasUnknownMnemonic text
unknown d text = (is-unknown d text, unknown-is d text)
