use Rattle.std.proofs.Common.{◌≡◌, ℕ, ◌+◌, ◌-◌, ◌*◌, ◌%◌, ◌^◌, ◌/◌, ◌<◌, refl, ap, ◌∙◌, cond, arith}
use Rattle.std.proofs.Math.Nat.{mod-mod, mod-eq_of_lt}
use Rattle.std.proofs.lemmas.Bool.Decides.{nat_tests}
use Rattle.mem_plain.specs.Contents.{Contents, byte_at, number_at, with_number, is_among}
use Rattle.rv_step.specs.Arithmetic.{zero_extended}
use Rattle.rv_step.specs.ArithmeticLaws.{IsLoadedBack}
use Rattle.rv_step.proofs.ArithmeticLawLemmas.{number_of_bytes}
use Rattle.rv_step.proofs.arithmetic_laws.stores_are_loaded.Goals as goal

-- what a store of a number leaves, as the law of memory says it
abbrev Stored : Type 0
Stored = (m : Contents) (a width value q : ℕ) → byte_at (with_number m a width value) q ≡ cond (is_among a width q) (value / 256 ^ (q - a) % 256) (byte_at m q)

stored_byte : Stored → (m : Contents) (a width value k : ℕ) → k < width → byte_at (with_number m a width value) (a + k) ≡ value / 256 ^ k % 256
stored_byte stored m a width value k below =
    let back : a + k - a ≡ k = omega arith in
    stored m a width value (a + k) ∙ rw back (grind (arith, nat_tests))

loaded : Stored → (m : Contents) (a width value : ℕ) → IsLoadedBack m a width value
loaded stored m a width value =
    let is : number_at (with_number m a width value) a width ≡ value % 2 ^ (8 * width) = number_of_bytes (with_number m a width value) a width value (stored_byte stored m a width value) in
    let low : zero_extended width (number_at (with_number m a width value) a width) ≡ zero_extended width value = ap (zero_extended width) is ∙ mod-mod value (2 ^ (8 * width)) in
    record {
      whole = λ small. is ∙ mod-eq_of_lt small;
      zeros = low;
      copies = rw low refl;
    }

pub returns : goal.returns
returns c = loaded c.laying_bytes.ensures.stored
