-- The arithmetic on words beside that of whole numbers.
use Rattle.std.proofs.Common.{◌≡◌, ◌≢◌, ◌⊎◌, ℕ, zero, suc, ◌+◌, ◌-◌, ◌*◌, ◌/◌, ◌%◌, ◌^◌, ◌<◌, ◌≤◌, min, Bool, true, false, cond, eqb, ltb, ℤ, pos, negsuc, ◌+ℤ◌, ◌*ℤ◌, unsigned_abs, int_div, int_rem, w32, w64, of_z, refl, sym, ap, subst, ◌∙◌, ⊎_elim, inl, inr, arith, add-zero}
use Rattle.std.proofs.Math.Nat.{div-one, mod-one, mod-lt, mod-eq_of_lt, div-add-mod', div-le_self, div-div-eq-div-mul, mul_comm, pow-suc}
use Rattle.std.proofs.lemmas.Bool.{cases_eq, cases_lt, eqb-true, ne_eqb, le-ltb, and_parts, ltb-true, ltb-false, true≢false}
use Rattle.std.proofs.lemmas.Nat.{pow_pos, shr-shr, mod-pow-add}
use Rattle.std.proofs.lemmas.Nat.Bits.{bit_at-lt, bit_at_above, bit_at_cat_low, bit_at_cat_high, bit_at_not, bit_at_ones}
use Rattle.std.proofs.lemmas.Int.{to_z-of_z, to_z_pos, of_z-to_z, fits_signed_mul, int_wrap_fits, wrapping_add-bits, wrapping_sub-bits, wrapping_mul-bits, int_wrap-add_left, int_wrap-mul_right, quot-rem, rem_below}
use borrow.Author.Differences.{fits_in, same_in, sum_is_lem, product_is, read_fits}
use lib.IntN.{neg_ℤ, *ℤ_comm}
use lib.Pow.{high_ones}
use lib.Signed.{mag, mag_rem}
use mir.Val.{SFits}
use mir.ValLaws.{of_z_fits}
use Rattle.std.specs.Int.{int_wrap, int_rem_euclid, is_negative, bit_at, bit_not}
use Rattle.mem_plain.specs.Contents.{Contents, byte_at, number_at}
use Rattle.rv_step.specs.Arithmetic.{signed, word, plus, rounded_down, product_low, quotient, quotient_unsigned, remainder, remainder_unsigned, overflows, shifted_right_signed, zero_extended}
use Rattle.rv_step.specs.ArithmeticLaws.{AreSums, AreProducts, DividesUnsigned, DividesSigned, MovesBits, ExtendsBits}
use Rattle.rv_step.proofs.ArithmeticLemmas.{rounded_down-shr_z, high_fits, abs_bounded}

pub signed_fits : (a : ℕ) → SFits w32 (signed a)
signed_fits a = omega (arith, fits_in, read_fits w32 a)

-- ---- sums

pub sums : (a b : ℕ) → a < 2 ^ 32 → b < 2 ^ 32 → AreSums a b
sums a b p q = record {
  sum = λ small. omega arith;
  difference = λ within. omega arith;
  back = omega arith;
  signed_sum = wrapping_add-bits w32 a b p q;
  signed_difference = wrapping_sub-bits w32 a b p q;
}

-- ---- products

reduced_small : (z : ℤ) → unsigned_abs (int_rem_euclid z (pos (2 ^ 32))) < 2 ^ 32
reduced_small (pos n) = omega arith
reduced_small (negsuc n) = omega arith

-- a number by its quotient by 2^32, rounded down, and what is left
parts_of : (z : ℤ) → rounded_down z (2 ^ 32) *ℤ pos (2 ^ 32) +ℤ pos (unsigned_abs (int_rem_euclid z (pos (2 ^ 32)))) ≡ z
parts_of (pos n) = omega (arith, same_in, sum_is_lem, product_is)
parts_of (negsuc n) = omega (arith, same_in, sum_is_lem, product_is)

-- the word that a signed number of 32 bits keeps of a whole number
left_of : (z : ℤ) (low : ℕ) → low < 2 ^ 32 → signed low ≡ int_wrap w32 z → low ≡ unsigned_abs (int_rem_euclid z (pos (2 ^ 32)))
unfolding int_wrap
left_of z low small same = sym (of_z-to_z w32 low small) ∙ ap (of_z w32) same ∙ of_z-to_z w32 (unsigned_abs (int_rem_euclid z (pos (2 ^ 32)))) (reduced_small z)

two_words : (z : ℤ) (low : ℕ) → low < 2 ^ 32 → signed low ≡ int_wrap w32 z → SFits w64 z → signed (word (rounded_down z (2 ^ 32))) *ℤ pos (2 ^ 32) +ℤ pos low ≡ z
two_words z low small same fits =
    let high : signed (word (rounded_down z (2 ^ 32))) ≡ rounded_down z (2 ^ 32) = to_z-of_z w32 (rounded_down z (2 ^ 32)) (subst (SFits w32) (rounded_down-shr_z z (2 ^ 32)) (high_fits z fits)) in
    rw (high, left_of z low small same) (parts_of z)

-- an unsigned word stands for the same as the signed number of its bits
as_signed : (b : ℕ) → b < 2 ^ 32 → int_wrap w32 (pos b) ≡ signed b
unfolding int_wrap
as_signed b q = ap signed (mod-eq_of_lt q)

abs_of_signed : (a : ℕ) → unsigned_abs (signed a) ≤ 2 ^ 31
abs_of_signed a = abs_bounded (signed a) (2 ^ 31) (signed_fits a).sfits

pub products : (a b : ℕ) → a < 2 ^ 32 → b < 2 ^ 32 → AreProducts a b
products a b p q = record {
  both_unsigned = div-add-mod' (a * b) (2 ^ 32);
  both_signed = two_words (signed a *ℤ signed b) (product_low a b) (mod-lt (a * b) (omega arith)) (wrapping_mul-bits w32 a b p q)
      (fits_signed_mul w64 (signed a) (signed b) (2 ^ 31) (2 ^ 31) (abs_of_signed a) (abs_of_signed b) (omega arith));
  signed_unsigned = two_words (signed a *ℤ pos b) (product_low a b) (mod-lt (a * b) (omega arith))
      (wrapping_mul-bits w32 a b p q ∙ ap (λ z. int_wrap w32 (signed a *ℤ z)) (sym (as_signed b q)) ∙ int_wrap-mul_right w32 (signed a) (pos b))
      (fits_signed_mul w64 (signed a) (pos b) (2 ^ 31) (2 ^ 32 - 1) (abs_of_signed a) (omega arith) (omega arith));
}

-- ---- divisions

pub divides_unsigned : (a b : ℕ) → a < 2 ^ 32 → b < 2 ^ 32 → DividesUnsigned a b
divides_unsigned a b p q = ⊎_elim (λ none. subst (DividesUnsigned a) (sym none) by_zero) by_some (cases_eq b 0)
  where
    by_zero : DividesUnsigned a 0
    by_zero = record { words = omega arith; by_zero = λ _. (refl, refl); values = λ some. absurd (some refl); smaller = λ some. absurd (some refl) }

    by_some : b ≢ 0 → DividesUnsigned a b
    by_some some =
        let whole : b * (a / b) + a % b ≡ a = ap (λ n. n + a % b) (mul_comm b (a / b)) ∙ div-add-mod' a b in
        let quotient_is : quotient_unsigned a b ≡ a / b = rw (ne_eqb b 0 some) refl in
        let remainder_is : remainder_unsigned a b ≡ a % b = rw (ne_eqb b 0 some) refl in
        let values : b * quotient_unsigned a b + remainder_unsigned a b ≡ a = rw (quotient_is, remainder_is) whole in
        record {
          words = omega (arith, values);
          by_zero = λ none. absurd (some none);
          values = λ _. values;
          smaller = λ _. rw remainder_is (mod-lt a (omega arith));
        }

mag-neg : (n : ℕ) → mag (neg_ℤ (pos n)) ≡ n - 1
mag-neg zero = refl
mag-neg (suc n) = omega arith

-- two or more in a quotient halve it
half : (n k : ℕ) → n ≤ 2 ^ 31 → n / suc (suc k) < 2 ^ 31
half n k small = omega (arith, div-add-mod' n (suc (suc k)))

quotient_fits : (x d : ℤ) → SFits w32 x → ¬ ((x ≡ negsuc (2 ^ 31 - 1)) × (d ≡ negsuc 0)) → SFits w32 (int_div x d)
quotient_fits (pos a) (pos b) fits apart = record { sfits = omega (arith, div-le_self a b, fits.sfits) }
quotient_fits (pos a) (negsuc b) fits apart = record { sfits = omega (arith, mag-neg (a / suc b), div-le_self a (suc b), fits.sfits) }
quotient_fits (negsuc a) (pos b) fits apart = record { sfits = omega (arith, mag-neg (suc a / b), div-le_self (suc a) b, fits.sfits) }
quotient_fits (negsuc a) (negsuc zero) fits apart =
    record { sfits = ⊎_elim (λ least. absurd (apart (ap negsuc least, refl))) (λ other. omega (arith, div-one (suc a), fits.sfits)) (cases_eq a (2 ^ 31 - 1)) }
quotient_fits (negsuc a) (negsuc (suc b)) fits apart = record { sfits = half (suc a) b (omega (arith, fits.sfits)) }

remainder_fits : (x d : ℤ) → SFits w32 x → SFits w32 (int_rem x d)
remainder_fits x d fits = record { sfits = omega (arith, mag_rem x d, fits.sfits) }

remainder_sign : (x d : ℤ) → (int_rem x d ≡ pos 0) ⊎ (is_negative (int_rem x d) ≡ is_negative x)
remainder_sign (pos a) d = inr (le-ltb (a % unsigned_abs d) 0 (omega arith) ∙ sym (le-ltb a 0 (omega arith)))
remainder_sign (negsuc a) d = below (suc a % unsigned_abs d)
  where
    below : (n : ℕ) → (neg_ℤ (pos n) ≡ pos 0) ⊎ (is_negative (neg_ℤ (pos n)) ≡ true)
    below zero = inl refl
    below (suc n) = inr refl

-- words that are equal as signed numbers
same_words : (a b : ℕ) → a < 2 ^ 32 → b < 2 ^ 32 → signed a ≡ signed b → a ≡ b
same_words a b p q same = sym (of_z-to_z w32 a p) ∙ ap (of_z w32) same ∙ of_z-to_z w32 b q

-- a dividend by its parts, as words
in_words : (a b q r : ℕ) → a < 2 ^ 32 → b < 2 ^ 32 → q < 2 ^ 32 → r < 2 ^ 32 → signed b *ℤ signed q +ℤ signed r ≡ signed a → plus (product_low b q) r ≡ a
in_words a b q r pa pb pq pr values =
    same_words (plus (product_low b q) r) a (mod-lt (product_low b q + r) (omega arith)) pa
    (wrapping_add-bits w32 (product_low b q) r (mod-lt (b * q) (omega arith)) pr
    ∙ ap (λ z. int_wrap w32 (z +ℤ signed r)) (wrapping_mul-bits w32 b q pb pq)
    ∙ int_wrap-add_left w32 (signed b *ℤ signed q) (signed r)
    ∙ ap (int_wrap w32) values ∙ int_wrap_fits w32 (signed a) (signed_fits a))

signed_some : (b : ℕ) → b < 2 ^ 32 → b ≢ 0 → 0 < unsigned_abs (signed b)
signed_some b q some = nonzero (signed b) (λ none. some (same_words b 0 q (omega arith) none))
  where
    nonzero : (z : ℤ) → z ≢ pos 0 → 0 < unsigned_abs z
    nonzero (pos zero) other = absurd (other refl)
    nonzero (pos (suc n)) other = omega arith
    nonzero (negsuc n) other = omega arith

divides_overflowing : DividesSigned (2 ^ 31) (2 ^ 32 - 1)
divides_overflowing = record {
  words = refl;
  by_zero = λ none. absurd (cc);
  values = λ _ fits. absurd (true≢false fits);
  smaller = λ _. omega arith;
  sign = inl refl;
}

module _ (a b : ℕ) (p : a < 2 ^ 32) (q : b < 2 ^ 32) where
  divides_by_zero : DividesSigned a 0
  divides_by_zero = record {
    words = omega arith;
    by_zero = λ _. (refl, refl);
    values = λ some. absurd (some refl);
    smaller = λ some. absurd (some refl);
    sign = inr refl;
  }

  no_overflow : overflows a b ≡ false → ¬ ((signed a ≡ negsuc (2 ^ 31 - 1)) × (signed b ≡ negsuc 0))
  no_overflow fits both =
      let least : a ≡ 2 ^ 31 = same_words a (2 ^ 31) p (omega arith) both.0 in
      let ones : b ≡ 2 ^ 32 - 1 = same_words b (2 ^ 32 - 1) q (omega arith) both.1 in
      true≢false (sym (rw (least, ones) refl) ∙ fits)

  divides_plainly : b ≢ 0 → overflows a b ≡ false → DividesSigned a b
  divides_plainly some fits =
      let x = signed a in
      let d = signed b in
      let q_fits = quotient_fits x d (signed_fits a) (no_overflow fits) in
      let r_fits = remainder_fits x d (signed_fits a) in
      let q_is : quotient a b ≡ word (int_div x d) = rw (ne_eqb b 0 some, fits) refl in
      let r_is : remainder a b ≡ word (int_rem x d) = rw (ne_eqb b 0 some, fits) refl in
      let q_value : signed (quotient a b) ≡ int_div x d = ap signed q_is ∙ to_z-of_z w32 (int_div x d) q_fits in
      let r_value : signed (remainder a b) ≡ int_rem x d = ap signed r_is ∙ to_z-of_z w32 (int_rem x d) r_fits in
      let values : d *ℤ signed (quotient a b) +ℤ signed (remainder a b) ≡ x = rw (q_value, r_value) (ap (λ z. z +ℤ int_rem x d) (*ℤ_comm d (int_div x d)) ∙ quot-rem x d) in
      record {
        words = in_words a b (quotient a b) (remainder a b) p q (subst (λ n. n < 2 ^ 32) (sym q_is) (of_z_fits w32 (int_div x d) q_fits).fits) (subst (λ n. n < 2 ^ 32) (sym r_is) (of_z_fits w32 (int_rem x d) r_fits).fits) values;
        by_zero = λ none. absurd (some none);
        values = λ _ _. values;
        smaller = λ _. subst (λ z. unsigned_abs z < unsigned_abs d) (sym r_value) (rem_below x d (signed_some b q some));
        sign = ⊎_elim (λ none. inl (r_is ∙ ap word none)) (λ same. inr (ap is_negative r_value ∙ same)) (remainder_sign x d);
      }

  pub divides_signed : DividesSigned a b
  divides_signed = ⊎_elim (λ none. subst (DividesSigned a) (sym none) divides_by_zero) (λ some. by some (overflows a b) refl) (cases_eq b 0)
    where
      by : b ≢ 0 → (t : Bool) → overflows a b ≡ t → DividesSigned a b
      by some true over =
          let both = and_parts (eqb a (2 ^ 31)) (eqb b (2 ^ 32 - 1)) over in
          subst (λ n. DividesSigned n b) (sym (eqb-true a (2 ^ 31) both.0)) (subst (DividesSigned (2 ^ 31)) (sym (eqb-true b (2 ^ 32 - 1) both.1)) divides_overflowing)
      by some false fits = divides_plainly some fits

-- ---- bits

pub low_bits : (n m i : ℕ) → i < m → bit_at (n % 2 ^ m) i ≡ bit_at n i
low_bits n m i within = sym (bit_at_cat_low (n / 2 ^ m) m (n % 2 ^ m) i within) ∙ ap (λ x. bit_at x i) (div-add-mod' n (2 ^ m))

moved_right : (n places i : ℕ) → bit_at (n / 2 ^ places) i ≡ bit_at n (i + places)
moved_right n places i = let e : places + i ≡ i + places = omega arith in ap (λ x. x % 2) (shr-shr n places i) ∙ ap (bit_at n) e

moved_left : (a places i : ℕ) → places ≤ i → bit_at (a * 2 ^ places) i ≡ bit_at a (i - places)
moved_left a places i from = ap (λ x. bit_at x i) (sym (add-zero (a * 2 ^ places))) ∙ bit_at_cat_high a places 0 i (pow_pos places) from

left_zeros : (a places i : ℕ) → i < places → bit_at (a * 2 ^ places) i ≡ 0
left_zeros a places i below = ap (λ x. bit_at x i) (sym (add-zero (a * 2 ^ places))) ∙ bit_at_cat_low a places 0 i below ∙ bit_at_above 0 0 i (omega arith) (omega arith)

signed_high : (a : ℕ) → 2 ^ 31 ≤ a → a < 2 ^ 32 → signed a ≡ negsuc (2 ^ 32 - 1 - a)
signed_high a high p =
    let e : a ≡ of_z w32 (negsuc (2 ^ 32 - 1 - a)) = omega arith in
    ap signed e ∙ to_z-of_z w32 (negsuc (2 ^ 32 - 1 - a)) (record { sfits = omega arith })

module _ (a places i : ℕ) (p : a < 2 ^ 32) (within : i < 32) where
  copied_low : a < 2 ^ 31 → bit_at (shifted_right_signed a places) i ≡ bit_at a (min (i + places) 31)
  copied_low small =
      ap (λ z. bit_at (word (rounded_down z (2 ^ places))) i) (to_z_pos w32 a small) ∙ moved_right a places i ∙ ⊎_elim
      (λ inside. let e : min (i + places) 31 ≡ i + places = omega arith in sym (ap (bit_at a) e))
      (λ outside. let e : min (i + places) 31 ≡ 31 = omega arith in bit_at_above a 31 (i + places) small (omega arith) ∙ sym (ap (bit_at a) e ∙ bit_at_above a 31 31 small (omega arith)))
      (cases_lt (i + places) 32)

  copied_high : 2 ^ 31 ≤ a → bit_at (shifted_right_signed a places) i ≡ bit_at a (min (i + places) 31)
  copied_high high =
      let c = bit_not w32 a in
      let x = c / 2 ^ places in
      let c_small : c < 2 ^ 31 = omega arith in
      let flipped : word (negsuc x) ≡ bit_not w32 x = omega arith in
      let x_small : x < 2 ^ 32 = omega (arith, div-le_self c (2 ^ places)) in
      ap (λ z. bit_at (word (rounded_down z (2 ^ places))) i) (signed_high a high p) ∙ ap (λ n. bit_at n i) flipped ∙ bit_at_not w32 x i x_small within ∙ ap (λ n. 1 - n) (moved_right c places i) ∙ ⊎_elim
      (λ inside. let e : min (i + places) 31 ≡ i + places = omega arith in omega (arith, bit_at_not w32 a (i + places) p inside, bit_at-lt a (i + places), ap (bit_at a) e))
      (λ outside. let e : min (i + places) 31 ≡ 31 = omega arith in omega (arith, bit_at_above c 31 (i + places) c_small (omega arith), bit_at_above c 31 31 c_small (omega arith), bit_at_not w32 a 31 p (omega arith), bit_at-lt a 31, ap (bit_at a) e))
      (cases_lt (i + places) 32)

pub moves : (a places : ℕ) → a < 2 ^ 32 → places < 32 → MovesBits a places
moves a places p few = record {
  left = λ i from within. low_bits (a * 2 ^ places) 32 i within ∙ moved_left a places i from;
  left_zeros = λ i below. low_bits (a * 2 ^ places) 32 i (omega arith) ∙ left_zeros a places i below;
  right = λ i. moved_right a places i;
  right_signed = λ i within. ⊎_elim (λ small. copied_low a places i p within small) (λ high. copied_high a places i p within high) (cases_lt a (2 ^ 31));
}

-- a number of m bits whose highest bit is the sign
module _ (n m i : ℕ) (some : 1 ≤ m) (most : m ≤ 32) (within : i < 32) where
  abbrev low : ℕ
  low = n % 2 ^ m

  highest : bit_at low (m - 1) ≡ bit_at n (m - 1)
  highest = low_bits n m (m - 1) (omega arith)

  extended_low : low < 2 ^ (m - 1) → bit_at low i ≡ bit_at n (min i (m - 1))
  extended_low small = ⊎_elim
      (λ inside. let e : min i (m - 1) ≡ i = omega arith in low_bits n m i inside ∙ sym (ap (bit_at n) e))
      (λ above. let e : min i (m - 1) ≡ m - 1 = omega arith in bit_at_above low (m - 1) i small (omega arith) ∙ sym (ap (bit_at n) e ∙ sym highest ∙ bit_at_above low (m - 1) (m - 1) small (omega arith)))
      (cases_lt i m)

  extended_high : 2 ^ (m - 1) ≤ low → bit_at (low + (2 ^ 32 - 2 ^ m)) i ≡ bit_at n (min i (m - 1))
  extended_high large =
      let fits : low < 2 ^ m = mod-lt n (pow_pos m) in
      let all : 32 - m + m ≡ 32 = omega arith in
      let ones : 2 ^ 32 - 2 ^ m ≡ (2 ^ (32 - m) - 1) * 2 ^ m = sym (ap (λ k. 2 ^ k - 2 ^ m) all) ∙ high_ones (32 - m) m in
      let is : low + (2 ^ 32 - 2 ^ m) ≡ (2 ^ (32 - m) - 1) * 2 ^ m + low = omega (arith, ones) in
      ap (λ x. bit_at x i) is ∙ ⊎_elim
      (λ inside. let e : min i (m - 1) ≡ i = omega arith in bit_at_cat_low (2 ^ (32 - m) - 1) m low i inside ∙ low_bits n m i inside ∙ sym (ap (bit_at n) e))
      (λ above. let e : min i (m - 1) ≡ m - 1 = omega arith in
      bit_at_cat_high (2 ^ (32 - m) - 1) m low i fits above ∙ bit_at_ones (32 - m) (i - m) (omega arith) ∙ sym (ap (bit_at n) e ∙ sym highest ∙ top fits large))
      (cases_lt i m)
    where
      top : low < 2 ^ m → 2 ^ (m - 1) ≤ low → bit_at low (m - 1) ≡ 1
      top fits large =
          let up : suc (m - 1) ≡ m = omega arith in
          let twice : 2 ^ m ≡ 2 ^ (m - 1) * 2 = ap (λ k. 2 ^ k) (sym up) ∙ pow-suc 2 (m - 1) in
          let is : low ≡ 1 * 2 ^ (m - 1) + (low - 2 ^ (m - 1)) = omega arith in
          let none : m - 1 - (m - 1) ≡ 0 = omega arith in
          ap (λ x. bit_at x (m - 1)) is ∙ bit_at_cat_high 1 (m - 1) (low - 2 ^ (m - 1)) (m - 1) (omega (arith, twice)) (omega arith) ∙ ap (bit_at 1) none

pub extends : (width n : ℕ) → 1 ≤ width → width ≤ 4 → ExtendsBits width n
extends width n some most = record {
  low = λ i within. low_bits n (8 * width) i within;
  zeros = λ i above. bit_at_above (zero_extended width n) (8 * width) i (mod-lt n (pow_pos (8 * width))) above;
  copies = λ i within. by i within (ltb (zero_extended width n) (2 ^ (8 * width - 1))) refl;
}
  where
    by : (i : ℕ) → i < 32 → (t : Bool) → ltb (zero_extended width n) (2 ^ (8 * width - 1)) ≡ t
        → bit_at (cond t (zero_extended width n) (zero_extended width n + (2 ^ 32 - 2 ^ (8 * width)))) i ≡ bit_at n (min i (8 * width - 1))
    by i within true small = extended_low n (8 * width) i (omega arith) (omega arith) within (omega (arith, ltb-true _ _ small))
    by i within false large = extended_high n (8 * width) i (omega arith) (omega arith) within (omega (arith, ltb-false _ _ large))

-- ---- what is stored is loaded

-- a number whose bytes are those of a value
pub number_of_bytes : (m : Contents) (a width value : ℕ) → ((k : ℕ) → k < width → byte_at m (a + k) ≡ value / 256 ^ k % 256) → number_at m a width ≡ value % 2 ^ (8 * width)
number_of_bytes m a zero value bytes = sym (mod-one value)
number_of_bytes m a (suc width) value bytes =
    let first : byte_at m a ≡ value % 256 = ap (byte_at m) (sym (add-zero a)) ∙ bytes 0 (omega arith) ∙ ap (λ n. n % 256) (div-one value) in
    let rest : number_at m (a + 1) width ≡ value / 256 % 2 ^ (8 * width) = number_of_bytes m (a + 1) width (value / 256) (λ k below. later k (omega arith)) in
    let eight : 8 * suc width ≡ 8 * width + 8 = omega arith in
    rw (first, rest) (omega (arith, ap (λ k. value % 2 ^ k) eight ∙ mod-pow-add value (8 * width) 8))
  where
    later : (k : ℕ) → k < width → byte_at m (a + 1 + k) ≡ value / 256 / 256 ^ k % 256
    later k below =
        let place : a + 1 + k ≡ a + suc k = omega arith in
        ap (byte_at m) place ∙ bytes (suc k) (omega arith) ∙ sym (ap (λ n. n % 256) (div-div-eq-div-mul value 256 (256 ^ k) ∙ ap (λ n. value / n) (mul_comm 256 (256 ^ k) ∙ sym (pow-suc 256 k))))
