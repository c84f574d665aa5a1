-- Numbers as they are printed are read back.
use Rattle.std.proofs.Common.{◌≡◌, ℕ, zero, suc, ◌^◌, ◌<◌, ◌&&◌, true, false, List, [], ◌∷◌, length, get_or, refl, ap, ◌∙◌, arith, ℤ, pos, negsuc, Some, ◌⊎◌, unsigned_abs, inl}
use Rattle.std.specs.List.{list_all}
use Rattle.std.proofs.lemmas.Bool.Decides.{nat_tests}
use Rattle.std.proofs.lemmas.Str.Parse.{IsNumeralModel, numerals_by_value, tells_all_ascii_digits}
use Rattle.std.proofs.lemmas.Fmt.{digits_decimal, digits_value-decimal, first_decimal, decimal_digit, decimal_nonempty}
use Rattle.std.specs.Prelude.{decimal}
use Rattle.std.specs.Char.{is_ascii_digit}
use Rattle.std.specs.Fmt.{signed_decimal}
use Rattle.std.specs.Str.{all_ascii_digits}
use Rattle.std.specs.Str.Parse.{digits_value}
use Rattle.rv_text.specs.Characters.{is_of_operand, is_of_name, begins, is_name}
use Rattle.rv_text.specs.Numbers.{is_natural, natural_of_text, number_of_text, register_of_text}

own : IsNumeralModel (λ ds. all_ascii_digits ds ≡ true) (digits_value 10)
own = numerals_by_value _ tells_all_ascii_digits

every-digits : (ds : List ℕ) → list_all is_ascii_digit ds ≡ all_ascii_digits ds
every-digits [] = refl
every-digits (c ∷ cs) = ap (λ b. is_ascii_digit c && b) (every-digits cs)

pub digits-name : (ds : List ℕ) → all_ascii_digits ds ≡ true → list_all is_of_name ds ≡ true
digits-name [] h = refl
digits-name (c ∷ cs) h = grind (arith, digits-name cs)

pub digits-operand : (ds : List ℕ) → all_ascii_digits ds ≡ true → list_all is_of_operand ds ≡ true
digits-operand [] h = refl
digits-operand (c ∷ cs) h = grind (arith, digits-operand cs)

natural-is : (ds : List ℕ) → list_all is_ascii_digit ds ≡ true → 0 < length ds → ((48 < get_or ds 0 0) ⊎ (ds ≡ 48 ∷ [])) → is_natural ds ≡ true
natural-is [] h l e = let never : ⊥ = omega arith in elim never [ ]
natural-is (c ∷ cs) h l e = grind (arith, nat_tests)

pub decimal-digits : (n : ℕ) → n < 2 ^ 64 → all_ascii_digits (decimal n) ≡ true
decimal-digits n h = digits_decimal own n h

natural-decimal_is : (n : ℕ) → n < 2 ^ 64 → is_natural (decimal n) ≡ true
natural-decimal_is zero h = rw (decimal_digit 0 (omega arith)) refl
natural-decimal_is (suc n) h = natural-is (decimal (suc n)) (every-digits (decimal (suc n)) ∙ decimal-digits (suc n) h) (decimal_nonempty (suc n) h) (inl (first_decimal (suc n) (omega arith) h))

pub natural-decimal : (n : ℕ) → n < 2 ^ 64 → natural_of_text (decimal n) ≡ Some n
natural-decimal n h = grind (arith, natural-decimal_is n h, digits_value-decimal own n h)

-- a natural number begins neither with `-` nor with `0x`
number-natural : (ds : List ℕ) (n : ℕ) → all_ascii_digits ds ≡ true → natural_of_text ds ≡ Some n → number_of_text ds ≡ Some (pos n)
number-natural [] n h e = grind arith
number-natural (c ∷ []) n h e = grind (arith, nat_tests)
number-natural (c ∷ d ∷ ds) n h e = grind (arith, nat_tests)

pub number-signed : (z : ℤ) → unsigned_abs z < 2 ^ 63 → number_of_text (signed_decimal z) ≡ Some z
number-signed (pos n) h = number-natural (decimal n) n (decimal-digits n (omega arith)) (natural-decimal n (omega arith))
number-signed (negsuc n) h = rw (natural-decimal (suc n) (omega arith)) refl

pub register-decimal : (n : ℕ) → n < 32 → register_of_text (120 ∷ decimal n) ≡ Some (pos n)
register-decimal n h = rw (natural-decimal n (omega arith)) (grind (arith, nat_tests))

pub signed-operand : (z : ℤ) → unsigned_abs z < 2 ^ 32 → list_all is_of_operand (signed_decimal z) ≡ true
signed-operand (pos n) h = digits-operand (decimal n) (decimal-digits n (omega arith))
signed-operand (negsuc n) h = digits-operand (decimal (suc n)) (decimal-digits (suc n) (omega arith))

first-of : (ds : List ℕ) → all_ascii_digits ds ≡ true → 0 < length ds → begins is_of_operand ds ≡ true
first-of [] h l = let never : ⊥ = omega arith in elim never [ ]
first-of (c ∷ cs) h l = grind (arith, nat_tests)

pub signed-first : (z : ℤ) → unsigned_abs z < 2 ^ 32 → begins is_of_operand (signed_decimal z) ≡ true
signed-first (pos n) h = first-of (decimal n) (decimal-digits n (omega arith)) (decimal_nonempty n (omega arith))
signed-first (negsuc n) h = refl

digits-no_name : (ds : List ℕ) → all_ascii_digits ds ≡ true → is_name ds ≡ false
digits-no_name [] h = refl
digits-no_name (c ∷ cs) h = grind (arith, nat_tests)

pub signed-no_name : (z : ℤ) → unsigned_abs z < 2 ^ 32 → is_name (signed_decimal z) ≡ false
signed-no_name (pos n) h = digits-no_name (decimal n) (decimal-digits n (omega arith))
signed-no_name (negsuc n) h = refl
