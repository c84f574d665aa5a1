-- A line that is listed is read as its word.
use Rattle.std.proofs.Common.{drop, ◌≡◌, ℕ, ◌==◌, ◌&&◌, Bool, true, false, not, List, [], ◌∷◌, ◌++◌, refl, ap, ◌∙◌, arith, ℤ, Some, None, Result, Ok, Err}
use Rattle.std.specs.List.{list_all}
use Rattle.std.proofs.lemmas.Bool.{false≢true, and_parts, and_from, and_right}
use Rattle.std.proofs.lemmas.Bool.Decides.{nat_tests}
use Rattle.std.specs.Prelude.{if◌then◌else◌}
use Rattle.rd_base.specs.Results.{◌>>=◌}
use Rattle.rv_text.specs.Characters.{is_blank, is_of_operand, is_of_mnemonic, is_of_code, is_colon, run, skip, begins, is_empty, is_name, source_lines}
use Rattle.rv_text.specs.Fields.{is_in}
use Rattle.rv_text.specs.Operands.{Distances, slots_of, operand_text, mark_text, operands_text, operands_of}
use Rattle.rv_text.specs.Rows.{row_named, word_by}
use Rattle.rv_text.specs.Spelling.{Spelling}
use Rattle.rv_text.specs.Listing.{spaced, spelling_text}
use Rattle.rv_text.specs.Lines.{code_in, first_word, after_first_word, has_label, label_in, statement_in, word_of_row, word_of_statement, word_in}
use Rattle.rv_text.specs.declared.form.Mark.{Mark}
use Rattle.rv_text.specs.declared.form.Mark.TheVariants.{Comma, Open, Close}
use Rattle.rv_text.specs.declared.form.Slot.{Slot}
use Rattle.rv_text.specs.declared.form.Slot.TheVariants.{Last, UpTo}
use Rattle.rv_text.specs.declared.fault.FaultKind.{FaultKind}
use Rattle.rv_text.specs.declared.fault.FaultKind.TheVariants.{OtherForm}
use Rattle.rv_text.proofs.Runs.{run-append, behind-append, skip-none, operand-no_blank}
use Rattle.rv_text.proofs.read_back.TripLemmas.{reads, operands-read, blank-before}
use Rattle.rv_text.proofs.read_back.SpellingLemmas.{fit, IsSpelled}
use Rattle.rv_text.proofs.RowLemmas.{row_by}

-- ---- characters
-- neither a line feed nor `#`
abbrev pub is_plain : ℕ → Bool
is_plain c = not (c == 10) && not (c == 35)

mnemonic-plain : (c : ℕ) → is_of_mnemonic c ≡ true → is_plain c ≡ true
mnemonic-plain c h = grind (arith, nat_tests)

operand-plain : (c : ℕ) → is_of_operand c ≡ true → is_plain c ≡ true
operand-plain c h = grind (arith, nat_tests)

mnemonic-no_blank : (c : ℕ) → is_of_mnemonic c ≡ true → is_blank c ≡ false
mnemonic-no_blank c h = grind (arith, nat_tests)

operand-no_colon : (c : ℕ) → is_of_operand c ≡ true → is_colon c ≡ false
operand-no_colon c h = grind (arith, nat_tests)

plain-code : (c : ℕ) → is_plain c ≡ true → is_of_code c ≡ true
plain-code c h = grind (arith, nat_tests)

plain-no_feed : (c : ℕ) → is_plain c ≡ true → (c == 10) ≡ false
plain-no_feed c h = grind (arith, nat_tests)

-- ---- lists of characters
every-weaker : (p q : ℕ → Bool) → ((c : ℕ) → p c ≡ true → q c ≡ true) → (xs : List ℕ) → list_all p xs ≡ true → list_all q xs ≡ true
every-weaker p q weaker [] h = refl
every-weaker p q weaker (x ∷ xs) h = let k = and_parts (p x) (list_all p xs) h in and_from _ _ (weaker x k.0) (every-weaker p q weaker xs k.1)

every-append : (p : ℕ → Bool) (xs ys : List ℕ) → list_all p xs ≡ true → list_all p ys ≡ true → list_all p (xs ++ ys) ≡ true
every-append p [] ys h k = k
every-append p (x ∷ xs) ys h k = let a = and_parts (p x) (list_all p xs) h in and_from _ _ a.0 (every-append p xs ys a.1 k)

run-every : (p : ℕ → Bool) (xs : List ℕ) → list_all p xs ≡ true → run p xs ≡ xs
run-every p [] h = refl
run-every p (x ∷ xs) h = let a = and_parts (p x) (list_all p xs) h in rw (a.0, run-every p xs a.1) refl

begins-append : (p : ℕ → Bool) (xs ys : List ℕ) → begins p xs ≡ true → begins p (xs ++ ys) ≡ true
begins-append p [] ys h = elim (false≢true h) [ ]
begins-append p (x ∷ xs) ys h = h

begins-other : (p q : ℕ → Bool) → ((c : ℕ) → p c ≡ true → q c ≡ false) → (xs : List ℕ) → begins p xs ≡ true → begins q xs ≡ false
begins-other p q other [] h = refl
begins-other p q other (x ∷ xs) h = other x h

begins-some : (p : ℕ → Bool) (xs : List ℕ) → begins p xs ≡ true → is_empty xs ≡ false
begins-some p [] h = elim (false≢true h) [ ]
begins-some p (x ∷ xs) h = refl

-- ---- what a listed line is made of
operands-begin : (s : Slot) (slots : List Slot) (zs : List ℤ) → fit (s ∷ slots) zs ≡ true → begins is_of_operand (operands_text (s ∷ slots) zs) ≡ true
operands-begin (Last f) [] [] h = elim (false≢true h) [ ]
operands-begin (Last f) (s ∷ slots) [] h = elim (false≢true h) [ ]
operands-begin (Last f) [] (z ∷ []) h = (reads f z h).is_there
operands-begin (Last f) [] (z ∷ y ∷ zs) h = elim (false≢true h) [ ]
operands-begin (Last f) (s ∷ slots) (z ∷ zs) h = elim (false≢true h) [ ]
operands-begin (UpTo f m) slots [] h = elim (false≢true h) [ ]
operands-begin (UpTo f m) slots (z ∷ zs) h =
    let p = and_parts (is_in f z) (fit slots zs) h in
    begins-append is_of_operand (operand_text f z) (mark_text m ++ operands_text slots zs) (reads f z p.0).is_there

mark-plain : (m : Mark) → list_all is_plain (mark_text m) ≡ true
mark-plain Comma = refl
mark-plain Open = refl
mark-plain Close = refl

operands-plain : (slots : List Slot) (zs : List ℤ) → fit slots zs ≡ true → list_all is_plain (operands_text slots zs) ≡ true
operands-plain [] zs h = refl
operands-plain (Last f ∷ slots) [] h = refl
operands-plain (Last f ∷ []) (z ∷ []) h = every-weaker is_of_operand is_plain operand-plain (operand_text f z) (reads f z h).is_run
operands-plain (Last f ∷ []) (z ∷ y ∷ zs) h = elim (false≢true h) [ ]
operands-plain (Last f ∷ s ∷ slots) (z ∷ zs) h = elim (false≢true h) [ ]
operands-plain (UpTo f m ∷ slots) [] h = refl
operands-plain (UpTo f m ∷ slots) (z ∷ zs) h =
    let p = and_parts (is_in f z) (fit slots zs) h in
    every-append is_plain (operand_text f z) _ (every-weaker is_of_operand is_plain operand-plain (operand_text f z) (reads f z p.0).is_run)
    (every-append is_plain (mark_text m) _ (mark-plain m) (operands-plain slots zs p.1))

spaced-plain : (slots : List Slot) (zs : List ℤ) → fit slots zs ≡ true → list_all is_plain (spaced slots zs) ≡ true
spaced-plain [] zs h = refl
spaced-plain (s ∷ slots) zs h = operands-plain (s ∷ slots) zs h

spaced-ends : (slots : List Slot) (zs : List ℤ) → begins is_of_mnemonic (spaced slots zs) ≡ false
spaced-ends [] zs = refl
spaced-ends (s ∷ slots) zs = refl

spaced-no_colon : (slots : List Slot) (zs : List ℤ) → fit slots zs ≡ true → begins is_colon (skip (spaced slots zs)) ≡ false
spaced-no_colon [] zs h = refl
spaced-no_colon (s ∷ slots) zs h =
    let b = operands-begin s slots zs h in
    ap (begins is_colon) (skip-none (operands_text (s ∷ slots) zs) (begins-other is_of_operand is_blank operand-no_blank (operands_text (s ∷ slots) zs) b))
    ∙ begins-other is_of_operand is_colon operand-no_colon (operands_text (s ∷ slots) zs) b

spaced-read : (d : Distances) (slots : List Slot) (zs : List ℤ) → fit slots zs ≡ true → operands_of d slots (spaced slots zs) ≡ Ok zs
spaced-read d [] [] h = refl
spaced-read d [] (z ∷ zs) h = elim (false≢true h) [ ]
spaced-read d (s ∷ slots) zs h = blank-before d (s ∷ slots) (operands_text (s ∷ slots) zs) ∙ operands-read d (s ∷ slots) zs h

abbrev rest_of : Spelling → List ℕ
rest_of s = spaced (slots_of s.form) s.values

pub spelling-plain : (s : Spelling) (w : ℕ) → IsSpelled s w → list_all is_plain (spelling_text s) ≡ true
spelling-plain s w is =
    let m = and_parts (begins is_of_mnemonic s.name) (list_all is_of_mnemonic s.name) is.is_a_mnemonic in
    every-append is_plain s.name (rest_of s) (every-weaker is_of_mnemonic is_plain mnemonic-plain s.name m.1) (spaced-plain (slots_of s.form) s.values is.is_fit)

first-read : (s : Spelling) (w : ℕ) → IsSpelled s w → first_word (spelling_text s) ≡ s.name
first-read s w is =
    let m = and_parts (begins is_of_mnemonic s.name) (list_all is_of_mnemonic s.name) is.is_a_mnemonic in
    run-append is_of_mnemonic s.name (rest_of s) m.1 (spaced-ends (slots_of s.form) s.values)

after-read : (s : Spelling) (w : ℕ) → IsSpelled s w → after_first_word (spelling_text s) ≡ rest_of s
after-read s w is =
    let m = and_parts (begins is_of_mnemonic s.name) (list_all is_of_mnemonic s.name) is.is_a_mnemonic in
    behind-append is_of_mnemonic s.name (rest_of s) m.1 (spaced-ends (slots_of s.form) s.values)

spelling-begins : (s : Spelling) (w : ℕ) → IsSpelled s w → begins is_of_mnemonic (spelling_text s) ≡ true
spelling-begins s w is =
    let m = and_parts (begins is_of_mnemonic s.name) (list_all is_of_mnemonic s.name) is.is_a_mnemonic in
    begins-append is_of_mnemonic s.name (rest_of s) m.0

-- ---- reading it
code-read : (s : Spelling) (w : ℕ) → IsSpelled s w → code_in (spelling_text s) ≡ spelling_text s
code-read s w is =
    let text = spelling_text s in
    ap skip (run-every is_of_code text (every-weaker is_plain is_of_code plain-code text (spelling-plain s w is)))
    ∙ skip-none text (begins-other is_of_mnemonic is_blank mnemonic-no_blank text (spelling-begins s w is))

no-label : (s : Spelling) (w : ℕ) → IsSpelled s w → has_label (spelling_text s) ≡ false
no-label s w is = and_right (is_name (first_word (spelling_text s))) _ (ap (λ r. begins is_colon (skip r)) (after-read s w is) ∙ spaced-no_colon (slots_of s.form) s.values is.is_fit)

abbrev word_by_first : Distances → List ℕ → List ℕ → Result ℕ FaultKind
word_by_first d first after = if is_empty first then Err OtherForm else word_of_row d (row_named first) after

statement-read : (s : Spelling) (w : ℕ) → IsSpelled s w → (d : Distances) → word_of_statement d (spelling_text s) ≡ Ok w
statement-read s w is d =
    let m = and_parts (begins is_of_mnemonic s.name) (list_all is_of_mnemonic s.name) is.is_a_mnemonic in
    ap (λ r. word_by_first d r (after_first_word (spelling_text s))) (first-read s w is)
    ∙ (ap (λ r. word_by_first d s.name r) (after-read s w is)
    ∙ (ap (λ b. if b then Err OtherForm else word_of_row d (row_named s.name) (rest_of s)) (begins-some is_of_mnemonic s.name m.0)
    ∙ (ap (λ o. word_of_row d o (rest_of s)) is.is_named
    ∙ (ap (λ r. r >>= λ zs. Ok (word_by (row_by s.form is.base) zs)) (spaced-read d (slots_of s.form) s.values is.is_fit)
    ∙ ap (λ n. Ok n) is.is_word))))

-- a line says its word
pub line-read : (s : Spelling) (w : ℕ) → IsSpelled s w → (d : Distances) → word_in d (statement_in (code_in (spelling_text s))) ≡ Ok (Some w)
unfolding word_in
line-read s w is d =
    let text = spelling_text s in
    ap (λ t. word_in d (statement_in t)) (code-read s w is)
    ∙ (ap (λ b. word_in d (if b then skip (drop 1 (skip (after_first_word text))) else text)) (no-label s w is)
    ∙ (ap (λ b. if b then Ok None else (word_of_statement d text >>= λ w. Ok (Some w))) (begins-some is_of_mnemonic text (spelling-begins s w is))
    ∙ ap (λ r. r >>= λ w. Ok (Some w)) (statement-read s w is d)))

-- and has no label
pub line-unlabelled : (s : Spelling) (w : ℕ) → IsSpelled s w → label_in (code_in (spelling_text s)) ≡ None
line-unlabelled s w is = ap label_in (code-read s w is) ∙ ap (λ b. if b then Some (first_word (spelling_text s)) else None) (no-label s w is)

-- ---- a line in a text
pub lines-first : (xs ys : List ℕ) → list_all is_plain xs ≡ true → source_lines (xs ++ (10 ∷ ys)) ≡ xs ∷ source_lines ys
lines-first [] ys h = refl
lines-first (x ∷ xs) ys h =
    let p = and_parts (is_plain x) (list_all is_plain xs) h in
    rw (plain-no_feed x p.0, lines-first xs ys p.1) refl
