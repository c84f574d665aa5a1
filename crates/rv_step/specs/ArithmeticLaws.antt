-- To believe: what the manual says of sums, products, divisions, shifts, extensions and of what is stored and loaded (RISC-V
-- Unprivileged ISA 20191213, 2.4, 2.6, 7.1, 7.2). The laws of `arithmetic_laws` say that `Arithmetic` keeps it, for all words.
use Rattle.std.specs.Prelude.{◌≡◌, ◌≢◌, ◌⊎◌, ℕ, ◌+◌, ◌-◌, ◌*◌, ◌^◌, ◌%◌, ◌<◌, ◌≤◌, min, max, false, pos, ◌+ℤ◌, ◌-ℤ◌, ◌*ℤ◌, unsigned_abs, bit_and, bit_or, bit_xor}
use Rattle.std.specs.Int.{w32, int_wrap, is_negative, bit_at}
use Rattle.mem_plain.specs.Contents.{Contents, number_at, with_number}
use Rattle.rv_step.specs.Arithmetic.{signed, plus, minus, product_low, product_high, product_high_signed_unsigned, product_high_unsigned, quotient, quotient_unsigned, remainder, remainder_unsigned, overflows, shifted_left, shifted_right, shifted_right_signed, zero_extended, sign_extended}

-- the sum and the difference of two words (2.4): those of their values, if these are in the range of a word. Of the signed values they are
-- what a signed number of 32 bits keeps of the sum and of the difference, which is all of it if it is in range (`int_wrap`)
pub record AreSums (a b : ℕ) : Type 0 where
  pub sum : a + b < 2 ^ 32 → plus a b ≡ a + b
  pub difference : b ≤ a → minus a b ≡ a - b
  pub back : plus (minus a b) b ≡ a
  pub signed_sum : signed (plus a b) ≡ int_wrap w32 (signed a +ℤ signed b)
  pub signed_difference : signed (minus a b) ≡ int_wrap w32 (signed a -ℤ signed b)

-- the high and the low word of a product are together the product of the two values (7.1): of two unsigned words, of two signed ones, and
-- of a signed and an unsigned one. MUL gives the low word of all three
pub record AreProducts (a b : ℕ) : Type 0 where
  pub both_unsigned : product_high_unsigned a b * 2 ^ 32 + product_low a b ≡ a * b
  pub both_signed : signed (product_high a b) *ℤ pos (2 ^ 32) +ℤ pos (product_low a b) ≡ signed a *ℤ signed b
  pub signed_unsigned : signed (product_high_signed_unsigned a b) *ℤ pos (2 ^ 32) +ℤ pos (product_low a b) ≡ signed a *ℤ pos b

-- dividend = divisor * quotient + remainder, in words (7.2), whatever the divisor. By zero the quotient has all bits set, and the
-- remainder is the dividend (7.2, table 7.1). By another divisor the equation holds of the values, and the remainder is smaller than the
-- divisor
pub record DividesUnsigned (a b : ℕ) : Type 0 where
  pub words : plus (product_low b (quotient_unsigned a b)) (remainder_unsigned a b) ≡ a
  pub by_zero : b ≡ 0 → (quotient_unsigned a b ≡ 2 ^ 32 - 1) × (remainder_unsigned a b ≡ a)
  pub values : b ≢ 0 → b * quotient_unsigned a b + remainder_unsigned a b ≡ a
  pub smaller : b ≢ 0 → remainder_unsigned a b < b

-- the same of signed values (7.2): the words give the dividend by zero and for the quotient that overflows, too, and by zero all bits of
-- the quotient are set, which is -1. The remainder is smaller than the divisor by their absolute values, and it is 0 or has the sign of
-- the dividend
pub record DividesSigned (a b : ℕ) : Type 0 where
  pub words : plus (product_low b (quotient a b)) (remainder a b) ≡ a
  pub by_zero : b ≡ 0 → (quotient a b ≡ 2 ^ 32 - 1) × (remainder a b ≡ a)
  pub values : b ≢ 0 → overflows a b ≡ false → signed b *ℤ signed (quotient a b) +ℤ signed (remainder a b) ≡ signed a
  pub smaller : b ≢ 0 → unsigned_abs (signed (remainder a b)) < unsigned_abs (signed b)
  pub sign : (remainder a b ≡ 0) ⊎ (is_negative (signed (remainder a b)) ≡ is_negative (signed a))

-- the bits of a word after a shift by a number of places (2.4), from bit 0, the lowest, on. Zeros are shifted in, but for the arithmetic
-- shift to the right, which copies the sign bit
pub record MovesBits (a places : ℕ) : Type 0 where
  pub left : (i : ℕ) → places ≤ i → i < 32 → bit_at (shifted_left a places) i ≡ bit_at a (i - places)
  pub left_zeros : (i : ℕ) → i < places → bit_at (shifted_left a places) i ≡ 0
  pub right : (i : ℕ) → bit_at (shifted_right a places) i ≡ bit_at a (i + places)
  pub right_signed : (i : ℕ) → i < 32 → bit_at (shifted_right_signed a places) i ≡ bit_at a (min (i + places) 31)

-- the bits of a number of `width` bytes that is extended to a word (2.6): its own, and above them zeros, or copies of its highest bit
pub record ExtendsBits (width n : ℕ) : Type 0 where
  pub low : (i : ℕ) → i < 8 * width → bit_at (zero_extended width n) i ≡ bit_at n i
  pub zeros : (i : ℕ) → 8 * width ≤ i → bit_at (zero_extended width n) i ≡ 0
  pub copies : (i : ℕ) → i < 32 → bit_at (sign_extended width n) i ≡ bit_at n (min i (8 * width - 1))

-- each bit of AND, OR and XOR (2.4): 1 if both are, if one is, and if one alone is
pub record CombinesBits (a b : ℕ) : Type 0 where
  pub both : (i : ℕ) → bit_at (bit_and a b) i ≡ min (bit_at a i) (bit_at b i)
  pub either : (i : ℕ) → bit_at (bit_or a b) i ≡ max (bit_at a i) (bit_at b i)
  pub one_alone : (i : ℕ) → bit_at (bit_xor a b) i ≡ (bit_at a i + bit_at b i) % 2

-- what is loaded after a store of the same width (2.6): the bytes that were stored, extended from them
pub record IsLoadedBack (m : Contents) (addr width value : ℕ) : Type 0 where
  pub whole : value < 2 ^ (8 * width) → number_at (with_number m addr width value) addr width ≡ value
  pub zeros : zero_extended width (number_at (with_number m addr width value) addr width) ≡ zero_extended width value
  pub copies : sign_extended width (number_at (with_number m addr width value) addr width) ≡ sign_extended width value
