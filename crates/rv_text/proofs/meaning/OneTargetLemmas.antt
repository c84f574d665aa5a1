-- A statement has one target at most.
use Rattle.std.proofs.Common.{◌≡◌, Bool, true, false, not, ◌&&◌, List, [], ◌∷◌, ℕ, refl, sym, ap, subst, ◌∙◌, Option, Some, None, inl, inr, cond}
use Rattle.std.proofs.lemmas.Bool.{and_parts, false≢true}
use Rattle.std.proofs.lemmas.Option.{same_Some}
use Rattle.rv_text.specs.Fields.{is_target}
use Rattle.rv_text.specs.Operands.{Distances, slots_of, field_of, after_slot, next_operand, after_operand}
use Rattle.rv_text.specs.Lines.{after_first_word}
use Rattle.rv_text.specs.Causes.{IsUndefined, IsFar, Follows, SomeOperand, HasFaultyOperand}
use Rattle.rv_text.specs.declared.row.Row.{Row}
use Rattle.rv_text.specs.declared.field.Field.{Field}
use Rattle.rv_text.specs.declared.form.Form.{Form}
use Rattle.rv_text.specs.declared.form.Form.TheVariants as form
use Rattle.rv_text.specs.declared.form.Slot.{Slot}

abbrev has_none : List Slot → Bool
has_none [] = true
has_none (s ∷ slots) = not (is_target (field_of s)) && has_none slots

abbrev has_one : List Slot → Bool
has_one [] = true
has_one (s ∷ slots) = cond (is_target (field_of s)) (has_none slots) (has_one slots)

forms-have-one : (f : Form) → has_one (slots_of f) ≡ true
forms-have-one form.Registers = refl
forms-have-one form.Immediate = refl
forms-have-one form.Shift = refl
forms-have-one form.Based = refl
forms-have-one form.Store = refl
forms-have-one form.Branch = refl
forms-have-one form.Jump = refl
forms-have-one form.Upper = refl
forms-have-one form.Alone = refl
forms-have-one form.Word = refl

not-target : (b : Bool) → not b ≡ true → b ≡ true → ⊥
not-target true is other = false≢true is
not-target false is other = false≢true other

-- no operand stands in the place of a target

behind-none : (P : List ℕ → Type 0) (o : Option (List ℕ)) → ((rest : List ℕ) → P rest → ⊥) → Follows o P → ⊥
behind-none P (Some rest) never is = never rest is
behind-none P None never is = is

-- what is only said of operands in the place of a target
abbrev OfTargets : (Field → List ℕ → Type 0) → Type 0
OfTargets P = (f : Field) (x : List ℕ) → P f x → is_target f ≡ true

none : (P : Field → List ℕ → Type 0) → OfTargets P → (slots : List Slot) (text : List ℕ) → has_none slots ≡ true → SomeOperand P slots text → ⊥
none P target [] text free is = is
none P target (s ∷ slots) text free (inl here) =
    not-target (is_target (field_of s)) (and_parts (not (is_target (field_of s))) (has_none slots) free).0 (target (field_of s) (next_operand text) here)
none P target (s ∷ slots) text free (inr follows) =
    behind-none (λ rest. SomeOperand P slots rest) (after_slot s (after_operand text))
    (λ rest is. none P target slots rest (and_parts (not (is_target (field_of s))) (has_none slots) free).1 is) follows

-- of two that stand in such a place both are said of one operand

behind-both : (P Q : List ℕ → Type 0) (o : Option (List ℕ)) → ((rest : List ℕ) → P rest → Q rest → ⊥) → Follows o P → Follows o Q → ⊥
behind-both P Q (Some rest) never a b = never rest a b
behind-both P Q None never a b = a

one-behind : (b : Bool) (x y : Bool) → cond b x y ≡ true → b ≡ true → x ≡ true
one-behind true x y is here = is
one-behind false x y is here = absurd (false≢true here)

one-later : (s : Slot) (slots : List Slot) → has_one (s ∷ slots) ≡ true → (is_target (field_of s) ≡ false) → has_one slots ≡ true
one-later s slots is other = ap (λ b. cond b (has_none slots) (has_one slots)) (sym other) ∙ is

module _ (P Q : Field → List ℕ → Type 0) (target : OfTargets P) (other : OfTargets Q) (never : (f : Field) (x : List ℕ) → P f x → Q f x → ⊥) where
  rest-apart : (s : Slot) (slots : List Slot) → has_one (s ∷ slots) ≡ true → ((rest : List ℕ) → has_one slots ≡ true → SomeOperand P slots rest → SomeOperand Q slots rest → ⊥)
      → (here : Bool) → is_target (field_of s) ≡ here → (rest : List ℕ) → SomeOperand P slots rest → SomeOperand Q slots rest → ⊥
  rest-apart s slots one again true here rest x y = none P target slots rest (one-behind (is_target (field_of s)) (has_none slots) (has_one slots) one here) x
  rest-apart s slots one again false here rest x y = again rest (one-later s slots one here) x y

  not-both : (slots : List Slot) (text : List ℕ) → has_one slots ≡ true → SomeOperand P slots text → SomeOperand Q slots text → ⊥
  not-both [] text one a b = a
  not-both (s ∷ slots) text one (inl first) (inl second) = never (field_of s) (next_operand text) first second
  not-both (s ∷ slots) text one (inl first) (inr later) =
      behind-none (λ rest. SomeOperand Q slots rest) (after_slot s (after_operand text))
      (λ rest is. none Q other slots rest (one-behind (is_target (field_of s)) (has_none slots) (has_one slots) one (target (field_of s) (next_operand text) first)) is) later
  not-both (s ∷ slots) text one (inr later) (inl first) =
      behind-none (λ rest. SomeOperand P slots rest) (after_slot s (after_operand text))
      (λ rest is. none P target slots rest (one-behind (is_target (field_of s)) (has_none slots) (has_one slots) one (other (field_of s) (next_operand text) first)) is) later
  not-both (s ∷ slots) text one (inr a) (inr b) =
      behind-both (λ rest. SomeOperand P slots rest) (λ rest. SomeOperand Q slots rest) (after_slot s (after_operand text))
      (rest-apart s slots one (λ rest one_left x y. not-both slots rest one_left x y) (is_target (field_of s)) refl) a b

none-known : {A : Type 0} (x : A) → None ≡ Some x → ⊥
none-known x is = absurd (cc is)

pub undefined-not_far : (d : Distances) (text : List ℕ) → HasFaultyOperand (IsUndefined d) text → HasFaultyOperand (IsFar d) text → ⊥
undefined-not_far d text undefined far =
    let rows : undefined.row ≡ far.row = same_Some undefined.row far.row (sym undefined.has_mnemonic.is_row ∙ far.has_mnemonic.is_row) in
    not-both (IsUndefined d) (IsFar d) (λ f x is. is.of_target) (λ f x is. is.of_target) (λ f x one other. none-known other.distance (sym one.is_undefined ∙ other.is_distance))
    (slots_of far.row.form) (after_first_word text) (forms-have-one far.row.form)
    (subst (λ (r : Row). SomeOperand (IsUndefined d) (slots_of r.form) (after_first_word text)) rows undefined.operand) far.operand
