-- What holds of each row, found by computing.
use Rattle.std.proofs.Common.{◌≡◌, ℕ, ◌+◌, ◌<◌, ◌^◌, ◌&&◌, Bool, true, false, List, [], ◌∷◌, refl, Option, Some, None}
use Rattle.std.specs.Prelude.{nat_lt, bytes_eq, if◌then◌else◌, IfSome}
use Rattle.std.specs.Option.{option_or}
use Rattle.std.proofs.lemmas.Bool.{and_parts, ltb-true}
use Rattle.rv_text.specs.Operands.{slots_of}
use Rattle.rv_text.specs.Rows.{Named, register_rows, multiply_rows, immediate_rows, memory_rows, branch_rows, other_rows, row_in, row_named, most_in}
use Rattle.rv_text.specs.declared.form.Form.{Form}
use Rattle.rv_text.specs.declared.row.Row.{Row}

abbrev pub row_by : Form → ℕ → Row
row_by form base = record { form = form; base = base }

abbrev pub fits : Row → Bool
fits r = nat_lt (r.base + most_in (slots_of r.form)) (2 ^ 32)

abbrev all_rows : (Row → Bool) → List Named → Bool
all_rows p [] = true
all_rows p (n ∷ ns) = p n.row && all_rows p ns

Holds : (Row → Bool) → Option Row → Type 0
Holds p o = IfSome o (λ r. p r ≡ true)

row-holds : (p : Row → Bool) (name : List ℕ) (ns : List Named) → all_rows p ns ≡ true → Holds p (row_in name ns)
unfolding Holds
row-holds p name [] h = tt
row-holds p name (n ∷ ns) h =
    let k = and_parts (p n.row) (all_rows p ns) h in
    elim (bytes_eq name n.name) as (λ b. Holds p (if b then Some n.row else row_in name ns)) [ true ↦ k.0 | false ↦ row-holds p name ns k.1 ]

either-holds : (p : Row → Bool) (a b : Option Row) → Holds p a → Holds p b → Holds p (option_or a b)
unfolding Holds
either-holds p (Some r) b h k = h
either-holds p None b h k = k

each-holds : (p : Row → Bool) (name : List ℕ) → all_rows p immediate_rows ≡ true → all_rows p register_rows ≡ true → all_rows p memory_rows ≡ true → all_rows p branch_rows ≡ true → all_rows p other_rows ≡ true → all_rows p multiply_rows ≡ true → Holds p (row_named name)
unfolding row_named
each-holds p name a b c d e f =
    either-holds p (row_in name immediate_rows) _ (row-holds p name immediate_rows a)
    (either-holds p (row_in name register_rows) _ (row-holds p name register_rows b)
    (either-holds p (row_in name memory_rows) _ (row-holds p name memory_rows c)
    (either-holds p (row_in name branch_rows) _ (row-holds p name branch_rows d)
    (either-holds p (row_in name other_rows) _ (row-holds p name other_rows e) (row-holds p name multiply_rows f)))))

below : (o : Option Row) → Holds fits o → IfSome o (λ r. r.base + most_in (slots_of r.form) < 2 ^ 32)
unfolding Holds
below (Some r) h = ltb-true _ _ h
below None h = tt

-- no row's word with its operands has more than 32 bits
pub row-fits : (name : List ℕ) → IfSome (row_named name) (λ r. r.base + most_in (slots_of r.form) < 2 ^ 32)
row-fits name = below (row_named name) (each-holds fits name refl refl refl refl refl refl)
