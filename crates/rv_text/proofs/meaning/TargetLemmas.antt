-- Where a line passed before places were known, a name that is far or undefined is the fault of the line later.
use Rattle.std.proofs.Common.{◌≡◌, ℕ, List, [], ◌∷◌, refl, ap, ◌∙◌, subst, arith, Option, Some, None, Result, Ok, Err, inl, inr, ⊎_elim}
use Rattle.std.proofs.lemmas.Bool.{false_from_ne_true}
use Rattle.std.specs.Prelude.{◌↔◌}
use Rattle.rv_text.specs.Fields.{is_register}
use Rattle.rv_text.specs.Operands.{Distances, slots_of, field_of, next_operand, after_slot, after_operand}
use Rattle.rv_text.specs.Lines.{after_first_word, word_in}
use Rattle.rv_text.specs.Assembly.{near}
use Rattle.rv_text.specs.Causes.{IsOutside, IsUndefined, IsFar, Follows, SomeOperand, HasFaultyOperand, HasFault, IsLeast}
use Rattle.rv_text.specs.declared.field.Field.{Field}
use Rattle.rv_text.specs.declared.form.Slot.{Slot}
use Rattle.rv_text.specs.declared.fault.FaultKind.{FaultKind}
use Rattle.rv_text.specs.declared.fault.FaultKind.TheVariants.{OutOfRange, Undefined}
use Rattle.rv_text.proofs.meaning.CauseLemmas.{Judged, target-no_register, statement-judged}
use Rattle.rv_text.proofs.meaning.OneTargetLemmas.{undefined-not_far}
use Rattle.rv_text.proofs.meaning.LaterLemmas.{name-later, undefined-later, far-later}

behind-some : (F G : Field → List ℕ → Type 0) (slots : List Slot) → ((text : List ℕ) → SomeOperand F slots text → SomeOperand G slots text)
    → (o : Option (List ℕ)) → Follows o (λ rest. SomeOperand F slots rest) → Follows o (λ rest. SomeOperand G slots rest)
behind-some F G slots each (Some rest) h = each rest h
behind-some F G slots each None h = absurd h

also-some : (F G : Field → List ℕ → Type 0) → ((f : Field) (x : List ℕ) → F f x → G f x) → (slots : List Slot) (text : List ℕ) → SomeOperand F slots text → SomeOperand G slots text
also-some F G also [] text h = absurd h
also-some F G also (s ∷ slots) text (inl first) = inl (also (field_of s) (next_operand text) first)
also-some F G also (s ∷ slots) text (inr follows) = inr (behind-some F G slots (also-some F G also slots) (after_slot s (after_operand text)) follows)

far-outside : (d : Distances) (f : Field) (x : List ℕ) → IsFar d f x → IsOutside d f x
far-outside d f x is = record {
  of_number = false_from_ne_true (is_register f) (target-no_register f is.of_target);
  number = is.distance;
  stands = rw (is.of_target, is.is_a_name) is.is_distance;
  is_outside = is.is_far;
}

far-fault : (d : Distances) (text : List ℕ) → HasFaultyOperand (IsFar d) text → HasFault d text OutOfRange
far-fault d text h = record {
  row = h.row;
  has_mnemonic = h.has_mnemonic;
  operand = also-some (IsFar d) (IsOutside d) (far-outside d) (slots_of h.row.form) (after_first_word text) h.operand;
}

far-first : (d : Distances) (text : List ℕ) → IsLeast (HasFault d text) Undefined → HasFaultyOperand (IsFar d) text → ⊥
far-first d text least h = let more = least.is_least OutOfRange (far-fault d text h) in absurd (omega arith)

far-fails : (d : Distances) (text : List ℕ) (w : Option ℕ) → word_in near text ≡ Ok w → HasFaultyOperand (IsFar d) text → word_in d text ≡ Err OutOfRange
far-fails d text w passed h = by (word_in d text) refl (statement-judged d text)
  where
    by : (r : Result (Option ℕ) FaultKind) → word_in d text ≡ r → Judged (HasFault d text) r → r ≡ Err OutOfRange
    by (Ok x) e none = absurd (none OutOfRange (far-fault d text h))
    by (Err k) e least = ⊎_elim
        (λ undefined. absurd (far-first d text (subst (IsLeast (HasFault d text)) undefined least) h))
        (λ far. ap (λ j. Err j) far)
        (name-later d text w k passed e)

undefined-fails : (d : Distances) (text : List ℕ) (w : Option ℕ) → word_in near text ≡ Ok w → HasFaultyOperand (IsUndefined d) text → (HasFaultyOperand (IsFar d) text → ⊥) → word_in d text ≡ Err Undefined
undefined-fails d text w passed h near_by = by (word_in d text) refl (statement-judged d text)
  where
    by : (r : Result (Option ℕ) FaultKind) → word_in d text ≡ r → Judged (HasFault d text) r → r ≡ Err Undefined
    by (Ok x) e none = absurd (none Undefined h)
    by (Err k) e least = ⊎_elim
        (λ undefined. ap (λ j. Err j) undefined)
        (λ far. absurd (near_by (far-later d text w passed (e ∙ ap (λ j. Err j) far))))
        (name-later d text w k passed e)

pub far-exactly : (d : Distances) (text : List ℕ) (w : Option ℕ) → word_in near text ≡ Ok w → (word_in d text ≡ Err OutOfRange) ↔ HasFaultyOperand (IsFar d) text
far-exactly d text w passed = (far-later d text w passed, far-fails d text w passed)

pub undefined-exactly : (d : Distances) (text : List ℕ) (w : Option ℕ) → word_in near text ≡ Ok w → (word_in d text ≡ Err Undefined) ↔ HasFaultyOperand (IsUndefined d) text
undefined-exactly d text w passed = (undefined-later d text w passed, λ h. undefined-fails d text w passed h (undefined-not_far d text h))
