-- What the arguments give where the word of a number begins with a decimal digit.
use Rattle.std.proofs.Common.{ℕ, zero, suc, pos, Bool, true, false, ◌≡◌, ◌≤◌, ◌<◌, ◌+◌, ◌-◌, ◌^◌, ◌&&◌, ◌∙◌, ap, subst, refl, arith, [], ◌∷◌, Option, Some, None, codes, cond}
use Rattle.std.specs.Prelude.{option_map, nat_le, nat_lt}
use Rattle.std.specs.Str.Parse.{digits_value}
use Rattle.clap.specs.Walk.{Text}
use Rattle.clap.specs.Faults.{fault_of}
use Rattle.clap.specs.Kinds.{Kinds, or_else, value_kinds}
use Rattle.clap.specs.ValueTests.{is_signed_in, is_unsigned_in, is_numeral}
use Rattle.clap.specs.declared.builder.value_parser.ValueParser.TheVariants as vp
use Rattle.clap.specs.declared.error.kind.ErrorKind.TheVariants.{ValueValidation}
use Rattle.clap.proofs.OnLiterals.{clap_on_literals}
use Rattle.command_line.specs.Words.{command_line, is_faultless, is_taken, command_in_words, seed_in, chosen}
use Rattle.command_line.specs.declared.request.Command.{Command}
use Rattle.command_line.specs.declared.request.Command.TheVariants.{Big}

-- a law of each digit, by its ten cases: a parse computes only at a word whose first byte is written out
pub each_digit : (P : ℕ → Type 0) → P 48 → P 49 → P 50 → P 51 → P 52 → P 53 → P 54 → P 55 → P 56 → P 57 → (x : ℕ) → 48 ≤ x → x ≤ 57 → P x
each_digit P p0 p1 p2 p3 p4 p5 p6 p7 p8 p9 x from to = let is : 48 + (x - 48) ≡ x = omega (arith, from) in subst P is (go (x - 48) (omega (arith, from, to)))
  where
    go : (k : ℕ) → k < 10 → P (48 + k)
    go zero lt = p0
    go (suc zero) lt = p1
    go (suc (suc zero)) lt = p2
    go (suc (suc (suc zero))) lt = p3
    go (suc (suc (suc (suc zero)))) lt = p4
    go (suc (suc (suc (suc (suc zero))))) lt = p5
    go (suc (suc (suc (suc (suc (suc zero)))))) lt = p6
    go (suc (suc (suc (suc (suc (suc (suc zero))))))) lt = p7
    go (suc (suc (suc (suc (suc (suc (suc (suc zero)))))))) lt = p8
    go (suc (suc (suc (suc (suc (suc (suc (suc (suc zero))))))))) lt = p9
    go (suc (suc (suc (suc (suc (suc (suc (suc (suc (suc k)))))))))) lt = absurd (omega (arith, lt))

-- the kinds where a number is accepted, and where it isn't
abbrev refused : Bool → Kinds
refused accepted = or_else (or_else (or_else (cond accepted [] (ValueValidation ∷ [])) []) []) []

-- those of a word that has to be a number from `least` to `most`
abbrev number_fault : ℕ → ℕ → Text → Kinds
number_fault least most text = or_else (or_else (or_else (value_kinds false (vp.Signed (pos least) (pos most)) text) []) []) []

small : (least most n : ℕ) → most < 2 ^ 63 → nat_lt n (2 ^ 63) && (nat_le least n && nat_le n most) ≡ nat_lt n (2 ^ 64) && (nat_le least n && nat_le n most)
small least most n few = grind arith

-- a number that begins with a digit has no sign
pub unsigned : (rest : Text) (least most : ℕ) → most < 2 ^ 63 → (x : ℕ) → 48 ≤ x → x ≤ 57 → is_signed_in (pos least) (pos most) (x ∷ rest) ≡ is_unsigned_in least most (x ∷ rest)
unsigned rest least most few =
    each_digit (λ y. is_signed_in (pos least) (pos most) (y ∷ rest) ≡ is_unsigned_in least most (y ∷ rest))
    (ap (λ b. is_numeral (48 ∷ rest) && b) (small least most (digits_value 10 (48 ∷ rest)) few))
    (ap (λ b. is_numeral (49 ∷ rest) && b) (small least most (digits_value 10 (49 ∷ rest)) few))
    (ap (λ b. is_numeral (50 ∷ rest) && b) (small least most (digits_value 10 (50 ∷ rest)) few))
    (ap (λ b. is_numeral (51 ∷ rest) && b) (small least most (digits_value 10 (51 ∷ rest)) few))
    (ap (λ b. is_numeral (52 ∷ rest) && b) (small least most (digits_value 10 (52 ∷ rest)) few))
    (ap (λ b. is_numeral (53 ∷ rest) && b) (small least most (digits_value 10 (53 ∷ rest)) few))
    (ap (λ b. is_numeral (54 ∷ rest) && b) (small least most (digits_value 10 (54 ∷ rest)) few))
    (ap (λ b. is_numeral (55 ∷ rest) && b) (small least most (digits_value 10 (55 ∷ rest)) few))
    (ap (λ b. is_numeral (56 ∷ rest) && b) (small least most (digits_value 10 (56 ∷ rest)) few))
    (ap (λ b. is_numeral (57 ∷ rest) && b) (small least most (digits_value 10 (57 ∷ rest)) few))

-- a command that is given where a number is accepted
taken : (accepted : Bool) (faults : Kinds) (command given : Option Command) → faults ≡ refused accepted → command ≡ given
    → cond (is_faultless faults) command None ≡ cond accepted given None
taken true faults command given fault is = rw (fault, is) refl
taken false faults command given fault is = rw fault refl

seed-where : (accepted : Bool) (seed : ℕ) → cond accepted (option_map Big (cond accepted (Some seed) None)) None ≡ option_map Big (cond accepted (Some seed) None)
seed-where true seed = refl
seed-where false seed = refl

pub seeds_are_numbers : (program : Text) (x : ℕ) (rest : Text) → 48 ≤ x → x ≤ 57 → chosen (program ∷ codes "big" ∷ (x ∷ rest) ∷ []) ≡ option_map Big (seed_in (x ∷ rest))
unfolding clap_on_literals command_line is_taken command_in_words
seeds_are_numbers program x rest from to =
    taken (is_unsigned_in 0 4294967295 (x ∷ rest)) _ _ _
    (each_digit (λ y. fault_of command_line (program ∷ codes "big" ∷ (y ∷ rest) ∷ []) ≡ number_fault 0 4294967295 (y ∷ rest)) refl refl refl refl refl refl refl refl refl refl x from to
    ∙ ap refused (unsigned rest 0 4294967295 (omega arith) x from to))
    (each_digit (λ y. command_in_words (program ∷ codes "big" ∷ (y ∷ rest) ∷ []) ≡ option_map Big (seed_in (y ∷ rest))) refl refl refl refl refl refl refl refl refl refl x from to)
    ∙ seed-where (is_unsigned_in 0 4294967295 (x ∷ rest)) _
