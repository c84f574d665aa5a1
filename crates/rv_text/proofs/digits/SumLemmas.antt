-- The bits of operands, added up as they are read.
use Rattle.std.proofs.Common.{◌≡◌, ℕ, ◌+◌, ◌-◌, ◌≤◌, List, [], ◌∷◌, refl, ap, ◌∙◌, arith, sym, length, take, drop, get_or, ℤ, Option, Result, Ok, Err}
use Rattle.std.proofs.lemmas.List.{take_all}
use Rattle.rd_base.specs.Results.{◌>>=◌}
use Rattle.rv_text.specs.Rows.{word_by}
use Rattle.rv_text.specs.Operands.{Distances, slots_of, field_of, operand_in, operands_in, both, next_operand, after_operand, after_slot}
use Rattle.rv_text.specs.Sums.{bits_of, sum_of}
use Rattle.rv_text.specs.declared.field.Field.{Field}
use Rattle.rv_text.specs.declared.row.Row.{Row}
use Rattle.rv_text.specs.declared.form.Slot.{Slot}
use Rattle.rv_text.specs.declared.fault.FaultKind.{FaultKind}
use Rattle.std.specs.Option.{ok_or}
use Rattle.rv_text.specs.declared.fault.FaultKind.TheVariants.{OtherForm}

sum-both : (s : Slot) (slots : List Slot) (r : Result ℤ FaultKind) (rs : Result (List ℤ) FaultKind) → both ◌+◌ (bits_of (field_of s) r) (sum_of slots rs) ≡ sum_of (s ∷ slots) (both ◌∷◌ r rs)
sum-both s slots (Ok z) (Ok zs) = refl
sum-both s slots (Ok z) (Err k) = refl
sum-both s slots (Err j) (Ok zs) = refl
sum-both s slots (Err j) (Err k) = refl

-- what is read behind a slot's mark
abbrev pub others_in : Distances → List Slot → Option (List ℕ) → Result (List ℤ) FaultKind
others_in d slots o = (ok_or o OtherForm >>= λ rest. operands_in d slots rest)

pub sum-step : (d : Distances) (s : Slot) (slots : List Slot) (text : List ℕ) (one other : Result ℕ FaultKind)
    → one ≡ bits_of (field_of s) (operand_in d (field_of s) (next_operand text)) → other ≡ sum_of slots (others_in d slots (after_slot s (after_operand text)))
    → both ◌+◌ one other ≡ sum_of (s ∷ slots) (operands_in d (s ∷ slots) text)
sum-step d s slots text one other a b = rw (a, b) (sum-both s slots (operand_in d (field_of s) (next_operand text)) (others_in d slots (after_slot s (after_operand text))))

-- the same, of a list of slots that isn't empty, as the code takes it apart
pub sum-first : (d : Distances) (xs : List Slot) (s : Slot) (text operand rest : List ℕ) (f : Field) (one other all : Result ℕ FaultKind) (o : Option (List ℕ))
    → 1 ≤ length xs → operand ≡ next_operand text → rest ≡ after_operand text → f ≡ field_of (get_or xs 0 s) → one ≡ bits_of f (operand_in d f operand)
    → o ≡ after_slot (get_or xs 0 s) rest → other ≡ sum_of (take (length xs - 1) (drop 1 xs)) (others_in d (take (length xs - 1) (drop 1 xs)) o) → all ≡ both ◌+◌ one other
    → all ≡ sum_of xs (operands_in d xs text)
sum-first d [] s text operand rest f one other all o l a b e first behind more sum = let never : ⊥ = omega arith in elim never [ ]
sum-first d (x ∷ xs) s text operand rest f one other all o l a b e first behind more sum =
    let same : take (length (x ∷ xs) - 1) (drop 1 (x ∷ xs)) ≡ xs = take_all (length (x ∷ xs) - 1) xs (omega arith) in
    sum ∙ sum-step d x xs text one other
    (first ∙ (ap (λ g. bits_of g (operand_in d g operand)) e ∙ ap (λ t. bits_of (field_of x) (operand_in d (field_of x) t)) a))
    (more ∙ (ap (λ ys. sum_of ys (others_in d ys o)) same ∙ ap (λ q. sum_of xs (others_in d xs q)) (behind ∙ ap (after_slot x) b)))

-- the word of a row, from the bits of its operands
pub word-sum : (r : Row) (zs : Result (List ℤ) FaultKind) (n : ℕ) → sum_of (slots_of r.form) zs ≡ Ok n → Ok (r.base + n) ≡ (zs >>= λ zs. Ok (word_by r zs))
word-sum r (Ok zs) n e = grind (arith, e)
word-sum r (Err k) n e = grind (arith, e)

pub fault-sum : (r : Row) (zs : Result (List ℤ) FaultKind) (k : FaultKind) → sum_of (slots_of r.form) zs ≡ Err k → Err k ≡ (zs >>= λ zs. Ok (word_by r zs))
fault-sum r (Ok zs) k e = grind (arith, e)
fault-sum r (Err j) k e = sym e

pub ruleset word_rules = (word-sum, fault-sum)
