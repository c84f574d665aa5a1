-- Hexadecimal digits are read back.
use Rattle.std.proofs.Common.{◌≡◌, ℕ, zero, suc, ◌+◌, ◌-◌, ◌*◌, ◌/◌, ◌%◌, ◌^◌, ◌<◌, ◌≤◌, ◌==◌, Bool, true, false, List, [], ◌∷◌, ◌++◌, length, refl, ap, sym, ◌∙◌, arith, Some, pow-suc, length-append, append_assoc}
use Rattle.std.specs.List.{list_all}
use Rattle.std.specs.Prelude.{if◌then◌else◌, replicate}
use Rattle.std.proofs.lemmas.Bool.{eqb-true, eqb-false}
use Rattle.std.proofs.lemmas.Bool.Decides.{nat_tests}
use Rattle.std.proofs.lemmas.List.{append-nil}
use Rattle.std.specs.Fmt.{char_count, digit_glyph, digits, digits_onto, format_spec, padded_integral}
use Rattle.std.specs.Char.{digit_value, is_ascii_hexdigit}
use Rattle.std.specs.Str.Parse.{digits_value, digits_value_after}
use Rattle.rv_text.specs.Characters.{is_of_operand}
use Rattle.rv_text.specs.Numbers.{hex_of_text}
use Rattle.rv_text.specs.Operands.{hex_digit, hex_digits}

hex-append : (n : ℕ) (xs : List ℕ) (c : ℕ) → digits_value_after 16 n (xs ++ c ∷ []) ≡ digits_value_after 16 n xs * 16 + digit_value c
hex-append n [] c = refl
hex-append n (x ∷ xs) c = hex-append (n * 16 + digit_value x) xs c

digit-value : (d : ℕ) → d < 16 → digit_value (hex_digit d) ≡ d
digit-value d h = grind (arith, nat_tests)

digit-hex : (d : ℕ) → d < 16 → is_ascii_hexdigit (hex_digit d) ≡ true
digit-hex d h = grind (arith, nat_tests)

digit-operand : (d : ℕ) → d < 16 → is_of_operand (hex_digit d) ≡ true
digit-operand d h = grind (arith, nat_tests)

hex-value : (k n : ℕ) → n < 16 ^ k → digits_value 16 (hex_digits k n) ≡ n
unfolding hex_digits
hex-value zero n h = omega arith
hex-value (suc k) n h =
    let high = hex-value k (n / 16) (omega (arith, pow-suc 16 k)) in
    let low = digit-value (n % 16) (omega arith) in
    hex-append 0 (hex_digits k (n / 16)) (hex_digit (n % 16)) ∙ rw (high, low) (omega arith)

every-append : (p : ℕ → Bool) (xs : List ℕ) (c : ℕ) → list_all p xs ≡ true → p c ≡ true → list_all p (xs ++ c ∷ []) ≡ true
every-append p [] c h k = grind arith
every-append p (x ∷ xs) c h k = grind (arith, every-append p xs c)

hex-digits_hex : (k n : ℕ) → list_all is_ascii_hexdigit (hex_digits k n) ≡ true
unfolding hex_digits
hex-digits_hex zero n = refl
hex-digits_hex (suc k) n = every-append is_ascii_hexdigit (hex_digits k (n / 16)) (hex_digit (n % 16)) (hex-digits_hex k (n / 16)) (digit-hex (n % 16) (omega arith))

pub hex-digits_operand : (k n : ℕ) → list_all is_of_operand (hex_digits k n) ≡ true
unfolding hex_digits
hex-digits_operand zero n = refl
hex-digits_operand (suc k) n = every-append is_of_operand (hex_digits k (n / 16)) (hex_digit (n % 16)) (hex-digits_operand k (n / 16)) (digit-operand (n % 16) (omega arith))

hex-length : (k n : ℕ) → length (hex_digits k n) ≡ k
unfolding hex_digits
hex-length zero n = refl
hex-length (suc k) n = grind (arith, length-append, hex-length k (n / 16))

hex-in_list : (ds : List ℕ) → 0 < length ds → list_all is_ascii_hexdigit ds ≡ true → hex_of_text ds ≡ Some (digits_value 16 ds)
hex-in_list [] l h = let never : ⊥ = omega arith in elim never [ ]
hex-in_list (c ∷ cs) l h = rw h refl

hex-positive : (n : ℕ) → 0 < length (hex_digits 8 n)
hex-positive n = rw (hex-length 8 n) (omega arith)

pub hex-in_digits : (n : ℕ) → n < 2 ^ 32 → hex_of_text (hex_digits 8 n) ≡ Some n
hex-in_digits n h = hex-in_list (hex_digits 8 n) (hex-positive n) (hex-digits_hex 8 n) ∙ ap (λ m. Some m) (hex-value 8 n (omega arith))

-- ---- the digits that `{:x}` writes, filled with zeros to a width, are these
abbrev zeros : ℕ → List ℕ
zeros k = replicate k 48

zeros-last : (k : ℕ) → zeros k ++ 48 ∷ [] ≡ 48 ∷ zeros k
zeros-last zero = refl
zeros-last (suc k) = ap (λ t. 48 ∷ t) (zeros-last k)

hex-zero : (k : ℕ) → hex_digits k 0 ≡ zeros k
unfolding hex_digits
hex-zero zero = refl
hex-zero (suc k) = ap (λ t. t ++ 48 ∷ []) (hex-zero k) ∙ zeros-last k

same-digit : (d : ℕ) → digit_glyph false d ≡ hex_digit d
same-digit d = grind (arith, nat_tests)

-- digits of a number before others, and zeros that make them as many as a width asks for
record Filled (k n : ℕ) (others shown : List ℕ) : Type 0 where
  count : ℕ
  is_count : length shown ≡ count + length others
  is_within : count ≤ k
  same : zeros (k - count) ++ shown ≡ hex_digits k n ++ others

last-filled : (k n : ℕ) (others : List ℕ) → n < 16 → Filled (suc k) n others (digit_glyph false (n % 16) ∷ others)
unfolding hex_digits
last-filled k n others small =
    let none : n / 16 ≡ 0 = omega arith in
    let left : suc k - 1 ≡ k = omega arith in
    record {
      count = 1;
      is_count = omega arith;
      is_within = omega arith;
      same =
          ap (λ m. zeros m ++ digit_glyph false (n % 16) ∷ others) left
          ∙ (ap (λ d. zeros k ++ d ∷ others) (same-digit (n % 16))
          ∙ (sym (append_assoc (zeros k) (hex_digit (n % 16) ∷ []) others)
          ∙ ap (λ t. (t ++ hex_digit (n % 16) ∷ []) ++ others) (sym (hex-zero k) ∙ ap (hex_digits k) (sym none))));
    }

next-filled : (k n : ℕ) (others shown : List ℕ) → Filled k (n / 16) (digit_glyph false (n % 16) ∷ others) shown → Filled (suc k) n others shown
unfolding hex_digits
next-filled k n others shown f =
    let left : suc k - suc f.count ≡ k - f.count = omega arith in
    let one : length (digit_glyph false (n % 16) ∷ others) ≡ suc (length others) = refl in
    record {
      count = suc f.count;
      is_count = omega (arith, f.is_count, one);
      is_within = omega (arith, f.is_within);
      same =
          ap (λ m. zeros m ++ shown) left
          ∙ (f.same
          ∙ (ap (λ d. hex_digits k (n / 16) ++ d ∷ others) (same-digit (n % 16))
          ∙ sym (append_assoc (hex_digits k (n / 16)) (hex_digit (n % 16) ∷ []) others)));
    }

some-left : (k n : ℕ) → 16 ≤ n → n < 16 ^ suc k → 0 < k
some-left zero n large fits = let never : ⊥ = omega (arith, pow-suc 16 0) in elim never [ ]
some-left (suc k) n large fits = omega arith

step-filled : (k most n : ℕ) (others : List ℕ) (is_last : Bool) → (n / 16 == 0) ≡ is_last → n < 16 ^ suc k
    → (0 < k → n / 16 < 16 ^ k → Filled k (n / 16) (digit_glyph false (n % 16) ∷ others) (digits_onto most 16 false (n / 16) (digit_glyph false (n % 16) ∷ others)))
    → Filled (suc k) n others (if is_last then digit_glyph false (n % 16) ∷ others else digits_onto most 16 false (n / 16) (digit_glyph false (n % 16) ∷ others))
step-filled k most n others true e fits further = let none : n / 16 ≡ 0 = eqb-true _ 0 e in last-filled k n others (omega arith)
step-filled k most n others false e fits further =
    let more : n / 16 ≡ 0 → ⊥ = eqb-false _ 0 e in
    let large : 16 ≤ n = omega (arith, more) in
    next-filled k n others _ (further (some-left k n large fits) (omega (arith, pow-suc 16 k)))

filled : (k most n : ℕ) (others : List ℕ) → 0 < k → n < 16 ^ k → k ≤ most → Filled k n others (digits_onto most 16 false n others)
filled zero most n others some fits enough = let never : ⊥ = omega arith in elim never [ ]
filled (suc k) zero n others some fits enough = let never : ⊥ = omega arith in elim never [ ]
filled (suc k) (suc most) n others some fits enough =
    step-filled k most n others (n / 16 == 0) refl fits (λ some fits. filled k most (n / 16) (digit_glyph false (n % 16) ∷ others) some fits (omega arith))

zeros-before : (shown : List ℕ) → padded_integral (format_spec 32 0 4 8 (2 ^ 64 - 1)) false [] shown ≡ zeros (8 - length shown) ++ shown
unfolding padded_integral char_count
zeros-before shown =
    let short : 8 - length shown - 0 - 0 ≡ 8 - length shown = omega arith in
    ap (λ m. zeros m ++ (shown ++ [])) short ∙ ap (λ t. zeros (8 - length shown) ++ t) (append-nil shown)

whole : (n : ℕ) (shown : List ℕ) → Filled 8 n [] shown → zeros (8 - length shown) ++ shown ≡ hex_digits 8 n
whole n shown f =
    let left : 8 - length shown ≡ 8 - f.count = omega (arith, f.is_count) in
    ap (λ m. zeros m ++ shown) left ∙ (f.same ∙ append-nil (hex_digits 8 n))

eight-digits : (n : ℕ) → n < 2 ^ 32 → zeros (8 - length (digits 16 false n)) ++ digits 16 false n ≡ hex_digits 8 n
unfolding digits
eight-digits n h = whole n (digits 16 false n) (filled 8 64 n [] (omega arith) (omega arith) (omega arith))

-- what `{:08x}` writes of a word
pub hex-written : (n : ℕ) → n < 2 ^ 32 → padded_integral (format_spec 32 0 4 8 (2 ^ 64 - 1)) false [] (digits 16 false n) ≡ hex_digits 8 n
hex-written n h = zeros-before (digits 16 false n) ∙ eight-digits n h

pub ruleset written_rules = hex-written
