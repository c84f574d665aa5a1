-- What is written of a field is read back.
use Rattle.std.proofs.Common.{◌≡◌, ◌≢◌, ℕ, zero, suc, ◌+◌, ◌-◌, ◌/◌, ◌%◌, ◌^◌, ◌<◌, ◌≤◌, nat_lt, true, false, ◌==◌, List, [], ◌∷◌, ◌++◌, length, slice_index, Contains, Some, Ok, refl, ◌∙◌, ap, arith, append_assoc}
use Rattle.std.specs.Char.{is_ascii_digit}
use Rattle.std.specs.Prelude.{decimal, slice_index_or}
use Rattle.std.proofs.lemmas.Bool.Decides.{nat_tests}
use Rattle.std.proofs.lemmas.Fmt.{decimal_by_steps}
use Rattle.std.proofs.lemmas.Bool.{and_parts}
use Rattle.hex.specs.Hex.{encode_with, encode_lower, lower_digits}
use Rattle.hex.proofs.HexLemmas.{decode_of-encode_lower}
use Rattle.transcript_text.specs.reader.TextLines.{line, begun_with, lines_of, cut_front, cut_at}
use Rattle.transcript_text.specs.reader.Fields.{with_digit, digits_at, decimal_at, small_number_at, is_lower, are_lower, bytes_in_hex, some_bytes_in_hex}
use Rattle.transcript_text.specs.reader.InLimits.{AreBytes}

pub eqb-same : (n : ℕ) → (n == n) ≡ true
eqb-same n = grind (arith, nat_tests)

-- numbers

-- no digit stands at the front
abbrev pub NoDigit : List ℕ → Type 0
NoDigit [] = Unit {0}
NoDigit (b ∷ bs) = is_ascii_digit b ≡ false

pub record IsNumeral (n : ℕ) (ds : List ℕ) : Type 0 where
  pub first : ℕ
  pub others : List ℕ
  pub is : ds ≡ first ∷ others
  pub digit : is_ascii_digit first ≡ true
  pub lone : n ≡ 0 → (first ≡ 48) × (others ≡ [])
  pub lead : 0 < n → first ≢ 48
  pub reads : n < 4294967296 → (rest : List ℕ) → digits_at (first - 48) (others ++ rest) ≡ digits_at n rest

digit-is : (b : ℕ) → 48 ≤ b → b ≤ 57 → is_ascii_digit b ≡ true
digit-is b low high = grind (arith, nat_tests)

numeral-one : (n : ℕ) → n < 10 → IsNumeral n ((48 + n) ∷ [])
numeral-one n small = record {
  first = 48 + n;
  others = [];
  is = refl;
  digit = digit-is (48 + n) (omega arith) (omega arith);
  lone = λ z. (omega (arith, z), refl);
  lead = λ some e. omega (arith, some, e);
  reads = λ few rest. ap (λ (k : ℕ). digits_at k rest) (omega arith);
}

one-digit-more : (n : ℕ) → n < 4294967296 → with_digit (n / 10) (48 + n % 10) ≡ n
one-digit-more n few = omega arith

numeral-more : (n : ℕ) (ds : List ℕ) → 10 ≤ n → IsNumeral (n / 10) ds → IsNumeral n (ds ++ ((48 + n % 10) ∷ []))
numeral-more n ds large i =
    let d : is_ascii_digit (48 + n % 10) ≡ true = digit-is (48 + n % 10) (omega arith) (omega arith) in
    record {
      first = i.first;
      others = i.others ++ (48 + n % 10) ∷ [];
      is = ap (λ (xs : List ℕ). xs ++ (48 + n % 10) ∷ []) i.is;
      digit = i.digit;
      lone = λ z. absurd (omega (arith, z, large));
      lead = λ some. i.lead (omega arith);
      reads = λ few rest.
          ap (digits_at (i.first - 48)) (append_assoc i.others ((48 + n % 10) ∷ []) rest)
          ∙ (i.reads (omega arith) ((48 + n % 10) ∷ rest) ∙ (rw d refl ∙ ap (λ (k : ℕ). digits_at k rest) (one-digit-more n few)));
    }

pub numeral : (n : ℕ) → n < 2 ^ 64 → IsNumeral n (decimal n)
numeral n small = decimal_by_steps IsNumeral numeral-one numeral-more n small

digits-end : (n : ℕ) (rest : List ℕ) → NoDigit rest → digits_at n rest ≡ (n, rest)
digits-end n [] free = refl
digits-end n (b ∷ bs) free = rw free refl

number-by : (n : ℕ) (ds rest : List ℕ) → n < 4294967296 → NoDigit rest → IsNumeral n ds → decimal_at (ds ++ rest) ≡ Ok (n, rest)
unfolding decimal_at
number-by zero ds rest few free i =
    let z : (i.first ≡ 48) × (i.others ≡ []) = i.lone refl in
    rw (i.is, z.0, z.1) refl
number-by (suc n) ds rest few free i =
    let lead : (i.first == 48) ≡ false = (let ne : i.first ≢ 48 = i.lead (omega arith) in grind (arith, nat_tests)) in
    rw (i.is, lead, i.digit) (ap Ok (i.reads few rest ∙ digits-end (suc n) rest free))

pub number-back : (n : ℕ) (rest : List ℕ) → n < 4294967296 → NoDigit rest → decimal_at (decimal n ++ rest) ≡ Ok (n, rest)
number-back n rest few free = number-by n (decimal n) rest few free (numeral n (omega arith))

pub small-back : (n : ℕ) (rest : List ℕ) → n < 4294967296 → NoDigit rest → small_number_at (decimal n ++ rest) ≡ Ok (n, rest)
unfolding small_number_at
small-back n rest few free =
    let lt : nat_lt n 4294967296 ≡ true = grind (arith, nat_tests) in
    rw (number-back n rest few free, lt) refl

-- hexadecimal digits

lower-at : (xs : List ℕ) (d : ℕ) → are_lower xs ≡ true → is_lower (slice_index xs d) ≡ true
lower-at [] d e = refl
lower-at (x ∷ xs) zero e = (and_parts (is_lower x) (are_lower xs) e).0
lower-at (x ∷ xs) (suc d) e = lower-at xs d (and_parts (is_lower x) (are_lower xs) e).1

encoded-lower : (xs : List ℕ) → are_lower (encode_lower xs) ≡ true
unfolding encode_with
encoded-lower [] = refl
encoded-lower (b ∷ rest) = rw (lower-at lower_digits (b / 16) refl, lower-at lower_digits (b % 16) refl) (encoded-lower rest)

pub hex-back : (xs : List ℕ) → AreBytes xs → bytes_in_hex (encode_lower xs) ≡ Ok xs
unfolding bytes_in_hex
hex-back xs bytes = rw (encoded-lower xs, decode_of-encode_lower xs bytes) refl

pub some-hex-back : (xs : List ℕ) → 0 < length xs → AreBytes xs → some_bytes_in_hex (encode_lower xs) ≡ Ok xs
unfolding some_bytes_in_hex
some-hex-back xs some bytes =
    let e : (length xs == 0) ≡ false = grind (arith, nat_tests) in
    rw (hex-back xs bytes, e) refl

-- no byte of this value

abbrev pub Without : ℕ → List ℕ → Type 0
Without c [] = Unit {0}
Without c (b ∷ bs) = ((b == c) ≡ false) × Without c bs

not-at : (c b : ℕ) (bs : List ℕ) → (b == c) ≡ false → ¬ Contains bs c → (k : ℕ) → k < suc (length bs) → slice_index_or (b ∷ bs) k c ≡ c → ⊥
not-at c b bs other rest zero within e = grind (arith, nat_tests)
not-at c b bs other rest (suc k) within e = rest (k, omega (arith, within), e)

pub without-none : (c : ℕ) (xs : List ℕ) → Without c xs → ¬ Contains xs c
without-none c [] w = λ has. omega (arith, has.1)
without-none c (b ∷ bs) w = λ has. not-at c b bs w.0 (without-none c bs w.1) has.0 has.1 has.2

pub without-both : (c : ℕ) (xs ys : List ℕ) → Without c xs → Without c ys → Without c (xs ++ ys)
without-both c [] ys a b = b
without-both c (x ∷ xs) ys a b = (a.0, without-both c xs ys a.1 b)

pub cut-back : (c : ℕ) (xs rest : List ℕ) → Without c xs → cut_at c (xs ++ c ∷ rest) ≡ Some (xs, rest)
cut-back c [] rest w = rw (eqb-same c) refl
cut-back c (x ∷ xs) rest w = rw (w.0) (ap (cut_front x) (cut-back c xs rest w.1))

pub line-back : (xs rest : List ℕ) → Without 10 xs → lines_of (xs ++ 10 ∷ rest) ≡ line xs (lines_of rest)
line-back [] rest w = refl
line-back (x ∷ xs) rest w = rw (w.0) (ap (begun_with x) (line-back xs rest w.1))

-- bytes that are digits, of which neither 10 nor 32 is one
abbrev IsAbove : ℕ → List ℕ → Type 0
IsAbove c [] = Unit {0}
IsAbove c (b ∷ bs) = (c < b) × IsAbove c bs

above-both : (c : ℕ) (xs ys : List ℕ) → IsAbove c xs → IsAbove c ys → IsAbove c (xs ++ ys)
above-both c [] ys a b = b
above-both c (x ∷ xs) ys a b = (a.0, above-both c xs ys a.1 b)

above-without : (c d : ℕ) (xs : List ℕ) → d ≤ c → IsAbove c xs → Without d xs
above-without c d [] le a = tt
above-without c d (x ∷ xs) le a = (let lt : c < x = a.0 in grind (arith, nat_tests), above-without c d xs le a.1)

above-decimal : (n : ℕ) → n < 2 ^ 64 → IsAbove 32 (decimal n)
above-decimal n small =
    decimal_by_steps (λ k ds. IsAbove 32 ds) (λ k few. (omega arith, tt)) (λ k ds large a. above-both 32 ds ((48 + k % 10) ∷ []) a (omega arith, tt)) n small

pub decimal-without : (c n : ℕ) → c ≤ 32 → n < 2 ^ 64 → Without c (decimal n)
decimal-without c n le small = above-without 32 c (decimal n) le (above-decimal n small)

above-at : (c : ℕ) (xs : List ℕ) (d : ℕ) → IsAbove c xs → d < length xs → c < slice_index xs d
above-at c [] d a lt = absurd (omega arith)
above-at c (x ∷ xs) zero a lt = a.0
above-at c (x ∷ xs) (suc d) a lt = above-at c xs d a.1 (omega arith)

digits-above : IsAbove 32 lower_digits
digits-above = (omega arith, (omega arith, (omega arith, (omega arith, (omega arith, (omega arith, (omega arith, (omega arith, (omega arith, (omega arith, (omega arith, (omega arith, (omega arith, (omega arith, (omega arith, (omega arith, tt))))))))))))))))

above-encoded : (xs : List ℕ) → AreBytes xs → IsAbove 32 (encode_lower xs)
unfolding encode_with
above-encoded [] bytes = tt
above-encoded (b ∷ rest) bytes =
    let fits : b < 256 = bytes 0 in
    (above-at 32 lower_digits (b / 16) digits-above (omega arith), (above-at 32 lower_digits (b % 16) digits-above (omega arith), above-encoded rest (λ k. bytes (suc k))))

pub encoded-without : (c : ℕ) (xs : List ℕ) → c ≤ 32 → AreBytes xs → Without c (encode_lower xs)
encoded-without c xs le bytes = above-without 32 c (encode_lower xs) le (above-encoded xs bytes)
