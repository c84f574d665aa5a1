-- Hexadecimal digits of lower case are those of the bytes that they decode to.
use Rattle.std.proofs.Common.{◌≡◌, ℕ, zero, suc, ◌+◌, ◌*◌, ◌/◌, ◌%◌, ◌<◌, true, ◌&&◌, List, [], ◌∷◌, slice_index, Option, Some, None, Result, Ok, Err, refl, sym, ◌∙◌, ap, arith}
use Rattle.std.proofs.lemmas.Bool.Decides.{nat_tests}
use Rattle.std.proofs.lemmas.Bool.{and_parts}
use Rattle.hex.specs.Hex.{encode_with, encode_lower, lower_digits, hex_digit_value, digit_or_error, value_at, pair_value, decode_pairs, decode_of, IsBytes, ◌>>=◌}
use Rattle.hex.specs.declared.error.FromHexError.{FromHexError}
use Rattle.hex.proofs.HexLemmas.{decode_of-ok, decode_of-even}
use Rattle.transcript_text.specs.reader.Fields.{is_lower, are_lower}

hex-bind : {A B : Type 0} (r : Result A FromHexError) (f : A → Result B FromHexError) (y : B) → (r >>= f) ≡ Ok y → (x : A) × (r ≡ Ok x) × (f x ≡ Ok y)
hex-bind (Ok x) f y h = (x, refl, h)
hex-bind (Err e) f y h = absurd (cc)

abbrev okay : {A : Type 0} → A → Result A FromHexError
okay x = Ok x

hex-same : {A : Type 0} (x y : A) → okay x ≡ Ok y → x ≡ y
hex-same x y e = cc

digit-read : (c i : ℕ) (o : Option ℕ) (v : ℕ) → digit_or_error c i o ≡ Ok v → o ≡ Some v
digit-read c i (Some w) v h = ap Some (hex-same w v h)
digit-read c i None v h = absurd (cc)

digit-small : (c v : ℕ) → hex_digit_value c ≡ Some v → v < 16
digit-small c v h = grind (arith)

low-digit : (v : ℕ) → v < 16 → (c : ℕ) → hex_digit_value c ≡ Some v → is_lower c ≡ true → slice_index lower_digits v ≡ c
low-digit zero lt c e l = grind (arith, nat_tests)
low-digit (suc zero) lt c e l = grind (arith, nat_tests)
low-digit (suc (suc zero)) lt c e l = grind (arith, nat_tests)
low-digit (suc (suc (suc zero))) lt c e l = grind (arith, nat_tests)
low-digit (suc (suc (suc (suc zero)))) lt c e l = grind (arith, nat_tests)
low-digit (suc (suc (suc (suc (suc zero))))) lt c e l = grind (arith, nat_tests)
low-digit (suc (suc (suc (suc (suc (suc zero)))))) lt c e l = grind (arith, nat_tests)
low-digit (suc (suc (suc (suc (suc (suc (suc zero))))))) lt c e l = grind (arith, nat_tests)
low-digit (suc (suc (suc (suc (suc (suc (suc (suc zero)))))))) lt c e l = grind (arith, nat_tests)
low-digit (suc (suc (suc (suc (suc (suc (suc (suc (suc zero))))))))) lt c e l = grind (arith, nat_tests)
low-digit (suc (suc (suc (suc (suc (suc (suc (suc (suc (suc zero)))))))))) lt c e l = grind (arith, nat_tests)
low-digit (suc (suc (suc (suc (suc (suc (suc (suc (suc (suc (suc zero))))))))))) lt c e l = grind (arith, nat_tests)
low-digit (suc (suc (suc (suc (suc (suc (suc (suc (suc (suc (suc (suc zero)))))))))))) lt c e l = grind (arith, nat_tests)
low-digit (suc (suc (suc (suc (suc (suc (suc (suc (suc (suc (suc (suc (suc zero))))))))))))) lt c e l = grind (arith, nat_tests)
low-digit (suc (suc (suc (suc (suc (suc (suc (suc (suc (suc (suc (suc (suc (suc zero)))))))))))))) lt c e l = grind (arith, nat_tests)
low-digit (suc (suc (suc (suc (suc (suc (suc (suc (suc (suc (suc (suc (suc (suc (suc zero))))))))))))))) lt c e l = grind (arith, nat_tests)
low-digit (suc (suc (suc (suc (suc (suc (suc (suc (suc (suc (suc (suc (suc (suc (suc (suc v)))))))))))))))) lt c e l = absurd (omega arith)

pub pairs-are : (i : ℕ) (s xs : List ℕ) → are_lower s ≡ true → decode_pairs i s ≡ Ok xs → s ≡ encode_lower xs
unfolding decode_pairs encode_with
pairs-are i [] xs l e = let none : [] ≡ xs = hex-same [] xs e in rw (← none) refl
pairs-are i (a ∷ []) xs l e = absurd (cc)
pairs-are i (a ∷ b ∷ rest) xs l e =
    let la : (is_lower a ≡ true) × ((is_lower b && are_lower rest) ≡ true) = and_parts (is_lower a) (is_lower b && are_lower rest) l in
    let lb : (is_lower b ≡ true) × (are_lower rest ≡ true) = and_parts (is_lower b) (are_lower rest) la.1 in
    let p0 = hex-bind (pair_value a b i) _ xs e in
    let p1 = hex-bind (value_at a i) _ p0.0 p0.1 in
    let p2 = hex-bind (value_at b (i + 1)) _ p0.0 p1.2 in
    let p3 = hex-bind (decode_pairs (i + 2) rest) _ xs p0.2 in
    let ha : hex_digit_value a ≡ Some p1.0 = digit-read a i (hex_digit_value a) p1.0 p1.1 in
    let hb : hex_digit_value b ≡ Some p2.0 = digit-read b (i + 1) (hex_digit_value b) p2.0 p2.1 in
    let sa : p1.0 < 16 = digit-small a p1.0 ha in
    let sb : p2.0 < 16 = digit-small b p2.0 hb in
    let byte : p1.0 * 16 + p2.0 ≡ p0.0 = hex-same (p1.0 * 16 + p2.0) p0.0 p2.2 in
    let high : p0.0 / 16 ≡ p1.0 = omega (arith, byte, sa, sb) in
    let low : p0.0 % 16 ≡ p2.0 = omega (arith, byte, sa, sb) in
    let da : slice_index lower_digits (p0.0 / 16) ≡ a = rw high (low-digit p1.0 sa a ha la.0) in
    let db : slice_index lower_digits (p0.0 % 16) ≡ b = rw low (low-digit p2.0 sb b hb lb.0) in
    let r : rest ≡ encode_lower p3.0 = pairs-are (i + 2) rest p3.0 lb.1 p3.1 in
    let whole : p0.0 ∷ p3.0 ≡ xs = hex-same (p0.0 ∷ p3.0) xs p3.2 in
    rw (← whole, da, db) (ap (λ (ys : List ℕ). a ∷ b ∷ ys) r)

pub decoded-are : (s xs : List ℕ) → are_lower s ≡ true → decode_of s ≡ Ok xs → s ≡ encode_lower xs
decoded-are s xs l e =
    let ok = decode_of-ok s xs e in
    pairs-are 0 s xs l (sym (decode_of-even s ok.0) ∙ e)

pub decoded-bytes : (s xs : List ℕ) → decode_of s ≡ Ok xs → IsBytes xs
decoded-bytes s xs e = let ok = decode_of-ok s xs e in ok.3
