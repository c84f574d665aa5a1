-- What is written in slots is read back by them: one induction over the slots, for every form.
use Rattle.std.proofs.Common.{◌≡◌, ℕ, ◌^◌, ◌<◌, true, false, List, [], ◌∷◌, ◌++◌, refl, ap, ◌∙◌, sym, arith, ℤ, pos, negsuc, Option, option_map, unsigned_abs, Result, Ok, Err}
use Rattle.std.specs.List.{list_all}
use Rattle.std.proofs.lemmas.Bool.{false≢true, and_parts}
use Rattle.std.proofs.lemmas.Bool.Decides.{nat_tests}
use Rattle.std.proofs.lemmas.Int.{ints}
use Rattle.std.specs.Prelude.{decimal, if◌then◌else◌}
use Rattle.std.specs.Fmt.{signed_decimal}
use Rattle.rv_text.specs.Characters.{is_of_operand, run, behind, skip, begins, is_name}
use Rattle.rv_text.specs.Numbers.{number_of_text, register_of_text}
use Rattle.rv_text.specs.Fields.{within, is_in}
use Rattle.rv_text.specs.Operands.{ranged_or, Distances, field_of, ranged, operand_in, operands_in, both, next_operand, after_operand, after_slot, after_mark, operand_text, mark_text, operands_text}
use Rattle.rv_text.specs.declared.field.Field.{Field}
use Rattle.rv_text.specs.declared.field.Field.TheVariants.{Rd, Rs1, Rs2, Immediate, Shift, StoreOffset, BranchTarget, JumpTarget, Upper, Word}
use Rattle.rv_text.specs.declared.form.Mark.{Mark}
use Rattle.rv_text.specs.declared.form.Mark.TheVariants.{Comma, Open, Close}
use Rattle.rv_text.specs.declared.form.Slot.{Slot}
use Rattle.rv_text.specs.declared.form.Slot.TheVariants.{Last, UpTo}
use Rattle.rv_text.specs.declared.fault.FaultKind.{FaultKind}
use Rattle.rv_text.specs.declared.fault.FaultKind.TheVariants.{OtherForm, NoRegister}
use Rattle.rv_text.proofs.Runs.{run-append, behind-append, skip-none, run-no_blank}
use Rattle.rv_text.proofs.PassLemmas.{append-none}
use Rattle.rv_text.proofs.digits.NumberLemmas.{digits-name, digits-operand, decimal-digits, number-signed, register-decimal, signed-operand, signed-first, signed-no_name}
use Rattle.rv_text.proofs.digits.HexLemmas.{hex-digits_operand, hex-in_digits}
use Rattle.rv_text.proofs.read_back.SpellingLemmas.{fit}
use Rattle.std.specs.Option.{ok_or}
use Rattle.rd_base.specs.Results.{◌>>=◌}

-- one operand: its text is a run of operand characters, and is read as its value
pub record Reads (f : Field) (z : ℤ) (text : List ℕ) : Type 0 where
  pub is_run : list_all is_of_operand text ≡ true
  pub is_there : begins is_of_operand text ≡ true
  pub is_read : (d : Distances) → operand_in d f text ≡ Ok z

small : (f : Field) (z : ℤ) → is_in f z ≡ true → unsigned_abs z < 2 ^ 32
small Rd z h = grind (arith, nat_tests, ints)
small Rs1 z h = grind (arith, nat_tests, ints)
small Rs2 z h = grind (arith, nat_tests, ints)
small Immediate z h = grind (arith, nat_tests, ints)
small Shift z h = grind (arith, nat_tests, ints)
small StoreOffset z h = grind (arith, nat_tests, ints)
small BranchTarget z h = grind (arith, nat_tests, ints)
small JumpTarget z h = grind (arith, nat_tests, ints)
small Upper z h = grind (arith, nat_tests, ints)
small Word z h = grind (arith, nat_tests, ints)

below-32 : (n : ℕ) → within (pos 0) (pos 31) (pos n) ≡ true → n < 32
below-32 n h = grind (arith, nat_tests, ints)

in-range-read : (f : Field) (z : ℤ) → is_in f z ≡ true → ranged f z ≡ Ok z
in-range-read f z h = rw h refl

number-read : (f : Field) (z : ℤ) → is_in f z ≡ true → (ranged_or OtherForm f (number_of_text (signed_decimal z))) ≡ Ok z
number-read f z h = let s = small f z h in ap (λ o. ranged_or OtherForm f o) (number-signed z (omega arith)) ∙ in-range-read f z h

decimal-reads : (f : Field) (z : ℤ) → is_in f z ≡ true → ((d : Distances) → operand_in d f (signed_decimal z) ≡ (ranged_or OtherForm f (number_of_text (signed_decimal z)))) → Reads f z (signed_decimal z)
decimal-reads f z h is = record {
  is_run = signed-operand z (small f z h);
  is_there = signed-first z (small f z h);
  is_read = λ d. is d ∙ number-read f z h;
}

register-reads : (f : Field) (n : ℕ) → n < 32 → ((d : Distances) → operand_in d f (120 ∷ decimal n) ≡ (if is_name (120 ∷ decimal n) then ok_or (register_of_text (120 ∷ decimal n)) NoRegister else Err OtherForm)) → Reads f (pos n) (120 ∷ decimal n)
register-reads f n h is = record {
  is_run = digits-operand (decimal n) (decimal-digits n (omega arith));
  is_there = refl;
  is_read = λ d. is d ∙ rw (digits-name (decimal n) (decimal-digits n (omega arith)), register-decimal n h) refl;
}

pub reads : (f : Field) (z : ℤ) → is_in f z ≡ true → Reads f z (operand_text f z)
reads Rd (pos n) h = register-reads Rd n (below-32 n h) (λ d. refl)
reads Rd (negsuc n) h = elim (false≢true h) [ ]
reads Rs1 (pos n) h = register-reads Rs1 n (below-32 n h) (λ d. refl)
reads Rs1 (negsuc n) h = elim (false≢true h) [ ]
reads Rs2 (pos n) h = register-reads Rs2 n (below-32 n h) (λ d. refl)
reads Rs2 (negsuc n) h = elim (false≢true h) [ ]
reads Immediate z h = decimal-reads Immediate z h (λ d. refl)
reads Shift z h = decimal-reads Shift z h (λ d. refl)
reads StoreOffset z h = decimal-reads StoreOffset z h (λ d. refl)
reads BranchTarget z h = decimal-reads BranchTarget z h (λ d. rw (signed-no_name z (small BranchTarget z h)) refl)
reads JumpTarget z h = decimal-reads JumpTarget z h (λ d. rw (signed-no_name z (small JumpTarget z h)) refl)
reads Upper z h = decimal-reads Upper z h (λ d. refl)
reads Word (pos n) h = record {
  is_run = hex-digits_operand 8 n;
  is_there = refl;
  is_read = λ d. ap (λ o. (ranged_or OtherForm Word (option_map pos o))) (hex-in_digits n (small Word (pos n) h)) ∙ in-range-read Word (pos n) h;
}
reads Word (negsuc n) h = elim (false≢true h) [ ]

-- ---- an operand at the head of a text
next-there : (xs ys : List ℕ) → list_all is_of_operand xs ≡ true → begins is_of_operand xs ≡ true → begins is_of_operand ys ≡ false → next_operand (xs ++ ys) ≡ xs
next-there xs ys a b e = ap (run is_of_operand) (skip-none (xs ++ ys) (run-no_blank xs ys b)) ∙ run-append is_of_operand xs ys a e

after-there : (xs ys : List ℕ) → list_all is_of_operand xs ≡ true → begins is_of_operand xs ≡ true → begins is_of_operand ys ≡ false → after_operand (xs ++ ys) ≡ skip ys
after-there xs ys a b e = ap (λ t. skip (behind is_of_operand t)) (skip-none (xs ++ ys) (run-no_blank xs ys b)) ∙ ap skip (behind-append is_of_operand xs ys a e)

mark-ends : (m : Mark) (ys : List ℕ) → begins is_of_operand (mark_text m ++ ys) ≡ false
mark-ends Comma ys = refl
mark-ends Open ys = refl
mark-ends Close ys = refl

-- a blank before the operands makes no difference
pub blank-before : (d : Distances) (slots : List Slot) (text : List ℕ) → operands_in d slots (32 ∷ text) ≡ operands_in d slots text
blank-before d [] text = refl
blank-before d (s ∷ slots) text = refl

abbrev onward : Distances → List Slot → Option (List ℕ) → Result (List ℤ) FaultKind
onward d slots o = (ok_or o OtherForm >>= λ rest. operands_in d slots rest)

marked : (d : Distances) (m : Mark) (rest : List ℕ) (slots : List Slot) → onward d slots (after_mark m (skip (mark_text m ++ rest))) ≡ operands_in d slots rest
marked d Comma rest slots = blank-before d slots rest
marked d Open rest slots = refl
marked d Close rest slots = refl

step : (d : Distances) (s : Slot) (slots : List Slot) (text xs ys : List ℕ) (r : Result ℤ FaultKind) → next_operand text ≡ xs → after_operand text ≡ ys → operand_in d (field_of s) xs ≡ r → operands_in d (s ∷ slots) text ≡ both ◌∷◌ r (onward d slots (after_slot s ys))
step d s slots text xs ys r a b e = ap (λ t. both ◌∷◌ (operand_in d (field_of s) t) (onward d slots (after_slot s (after_operand text)))) a ∙ (ap (λ t. both ◌∷◌ (operand_in d (field_of s) xs) (onward d slots (after_slot s t))) b ∙ ap (λ q. both ◌∷◌ q (onward d slots (after_slot s ys))) e)

-- ---- all operands
pub operands-read : (d : Distances) (slots : List Slot) (zs : List ℤ) → fit slots zs ≡ true → operands_in d slots (operands_text slots zs) ≡ Ok zs
operands-read d [] [] h = refl
operands-read d [] (z ∷ zs) h = elim (false≢true h) [ ]
operands-read d (Last f ∷ []) (z ∷ []) h =
    let r = reads f z h in
    let same = append-none (operand_text f z) in
    let next = ap next_operand (sym same) ∙ next-there (operand_text f z) [] r.is_run r.is_there refl in
    let after = ap after_operand (sym same) ∙ after-there (operand_text f z) [] r.is_run r.is_there refl in
    step d (Last f) [] (operand_text f z) (operand_text f z) [] (Ok z) next after (r.is_read d)
operands-read d (UpTo f m ∷ slots) (z ∷ zs) h =
    let p = and_parts (is_in f z) (fit slots zs) h in
    let r = reads f z p.0 in
    let rest = operands_text slots zs in
    let ys = mark_text m ++ rest in
    let next = next-there (operand_text f z) ys r.is_run r.is_there (mark-ends m rest) in
    let after = after-there (operand_text f z) ys r.is_run r.is_there (mark-ends m rest) in
    step d (UpTo f m) slots (operand_text f z ++ ys) (operand_text f z) (skip ys) (Ok z) next after (r.is_read d)
    ∙ ap (both ◌∷◌ (Ok z)) (marked d m rest slots ∙ operands-read d slots zs p.1)
operands-read d (Last f ∷ []) [] h = elim (false≢true h) [ ]
operands-read d (Last f ∷ []) (z ∷ y ∷ zs) h = elim (false≢true h) [ ]
operands-read d (Last f ∷ s ∷ slots) [] h = elim (false≢true h) [ ]
operands-read d (Last f ∷ s ∷ slots) (z ∷ zs) h = elim (false≢true h) [ ]
operands-read d (UpTo f m ∷ slots) [] h = elim (false≢true h) [ ]
