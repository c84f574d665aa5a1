-- A number of a key in a range, read in a wider one first.
use Rattle.std.proofs.Common.{◌≡◌, ◌≤◌, ℕ, Bool, true, false, List, Option, Some, None, refl, ap, ◌∙◌, arith}
use Rattle.std.specs.Prelude.{◌&&◌, if◌then◌else◌, nat_le}
use Rattle.std.specs.Option.{option_and_then}
use Rattle.std.proofs.lemmas.Bool.{leb-true}
use Rattle.std.proofs.lemmas.Bool.Decides.{nat_tests}
use Rattle.serde_json.specs.Data.{Data}
use Rattle.serde_json.specs.Find.{get, as_number, as_u64}
use Rattle.case_reader.specs.Scripts.{number_of_key}

abbrev in_range : ℕ → ℕ → ℕ → Option ℕ
in_range low high n = if nat_le low n && nat_le n high then Some n else None

narrowed : (low high most n : ℕ) → high ≤ most → in_range low high n ≡ option_and_then (in_range low high) (in_range 0 most n)
narrowed low high most n wider = grind (arith, nat_tests)

narrowed-number : (low high most : ℕ) (number : Option ℕ) → high ≤ most
    → option_and_then (in_range low high) number ≡ option_and_then (in_range low high) (option_and_then (in_range 0 most) number)
narrowed-number low high most (Some n) wider = narrowed low high most n wider
narrowed-number low high most None wider = refl

narrowed-value : (low high most : ℕ) (value : Option Data) → high ≤ most
    → option_and_then (λ value. option_and_then (in_range low high) (option_and_then as_u64 (as_number value))) value
    ≡ option_and_then (in_range low high) (option_and_then (λ value. option_and_then (in_range 0 most) (option_and_then as_u64 (as_number value))) value)
narrowed-value low high most (Some value) wider = narrowed-number low high most (option_and_then as_u64 (as_number value)) wider
narrowed-value low high most None wider = refl

-- the number of a key in a range is that in a wider range, if it is in the range
narrowed-key : (key : List ℕ) (low high most : ℕ) (tree : Data) → high ≤ most
    → number_of_key key low high tree ≡ option_and_then (in_range low high) (number_of_key key 0 most tree)
unfolding number_of_key
narrowed-key key low high most tree wider = narrowed-value low high most (get key tree) wider

-- where the wider range has no number, the other has none; a number that it has is tested alone
pub none-narrowed : (key : List ℕ) (low high most : ℕ) (tree : Data) → high ≤ most → number_of_key key 0 most tree ≡ None → number_of_key key low high tree ≡ None
none-narrowed key low high most tree wider none = narrowed-key key low high most tree wider ∙ ap (option_and_then (in_range low high)) none

pub inside-narrowed : (key : List ℕ) (low high most n : ℕ) (tree : Data) → high ≤ most → low ≤ n → n ≤ high → number_of_key key 0 most tree ≡ Some n → number_of_key key low high tree ≡ Some n
inside-narrowed key low high most n tree wider from to is = narrowed-key key low high most tree wider ∙ (ap (option_and_then (in_range low high)) is ∙ grind (arith, nat_tests))

pub outside-narrowed : (key : List ℕ) (low high most n : ℕ) (tree : Data) → high ≤ most → ¬ ((low ≤ n) × (n ≤ high)) → number_of_key key 0 most tree ≡ Some n → number_of_key key low high tree ≡ None
outside-narrowed key low high most n tree wider out is = narrowed-key key low high most tree wider ∙ (ap (option_and_then (in_range low high)) is ∙ tested (nat_le low n) (nat_le n high) refl refl)
  where
    tested : (a b : Bool) → nat_le low n ≡ a → nat_le n high ≡ b → (if a && b then Some n else None) ≡ None
    tested true true p q = absurd (out (leb-true low n p, leb-true n high q))
    tested true false p q = refl
    tested false b p q = refl

pub ruleset range_rules = (none-narrowed, inside-narrowed, outside-narrowed)

-- three numbers of keys, in what is made of them
pub change_is_read : {C : Type 0} (make : ℕ → ℕ → ℕ → C) (step reg value : Option ℕ) (s n r v : ℕ) → Some s ≡ step → reg ≡ Some n → r ≡ n → Some v ≡ value
    → Some (make s r v) ≡ option_and_then (λ a. option_and_then (λ b. option_and_then (λ c. Some (make a b c)) value) reg) step
change_is_read make step reg value s n r v first second same third = rw (← first, second, same, ← third) refl
