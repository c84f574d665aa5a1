-- A text says a word if and only if it has the word.
use Rattle.std.proofs.Common.{◌≡◌, ℕ, ◌+◌, ◌^◌, ◌<◌, ◌||◌, Bool, true, false, List, [], ◌∷◌, refl, ap, ◌∙◌, sym, subst, arith, ℤ, pos, Option, Some, None, Result, Ok, Err, ◌↔◌}
use Rattle.std.proofs.lemmas.Bool.{false≢true, and_from}
use Rattle.std.proofs.lemmas.Bool.Decides.{nat_tests}
use Rattle.std.proofs.lemmas.Int.{ints}
use Rattle.std.proofs.lemmas.Slice.Eq.{bytes_eq-Decides}
use Rattle.std.specs.Prelude.{if◌then◌else◌, bytes_eq, nat_lt, is_ok, is_some, option_and_then}
use Rattle.std.specs.Option.{option_or, ok_or}
use Rattle.rd_base.specs.Results.{◌>>=◌}
use Rattle.rv_decode.specs.Word.{word_of}
use Rattle.rv_decode.specs.declared.instr.Instr.{Instr}
use Rattle.rv_text.specs.Characters.{is_blank, skip, is_empty, begins, is_name}
use Rattle.rv_text.specs.Numbers.{is_x, natural_of_text, below_32, number_of_text, register_of_text}
use Rattle.rv_text.specs.Fields.{within, is_in}
use Rattle.rv_text.specs.Faults.{earlier}
use Rattle.rv_text.specs.Operands.{ranged_or, Distances, slots_of, field_of, registered_in, operand_in, both, after_slot, operands_in, operands_of, next_operand, after_operand}
use Rattle.rv_text.specs.Rows.{Named, row_in, row_named, placed_in, word_by, register_rows, multiply_rows, immediate_rows, memory_rows, branch_rows, other_rows}
use Rattle.rv_text.specs.Lines.{first_word, after_first_word, word_of_row, word_of_statement}
use Rattle.rv_text.specs.Spelling.{Spelling, spelled, spelling_of, raw}
use Rattle.rv_text.specs.Meaning.{IsSpelledBy, IsWordOf, of_instruction, of_itself, StandsForWord}
use Rattle.rv_text.specs.declared.row.Row.{Row}
use Rattle.rv_text.specs.declared.field.Field.{Field}
use Rattle.rv_text.specs.declared.field.Field.TheVariants.{Rd, Rs1, Rs2, Immediate, Shift, StoreOffset, BranchTarget, JumpTarget, Upper, Word}
use Rattle.rv_text.specs.declared.form.Form.{Form}
use Rattle.rv_text.specs.declared.form.Slot.{Slot}
use Rattle.rv_text.specs.declared.fault.FaultKind.{FaultKind}
use Rattle.rv_text.specs.declared.fault.FaultKind.TheVariants.{OtherForm, UnknownMnemonic, NoRegister, OutOfRange, Undefined}
use Rattle.rv_text.proofs.read_back.SpellingLemmas.{is_mnemonic, IsSpelled, spellings}
use Rattle.rv_text.proofs.meaning.InstructionLemmas.{in_ranges, Built, instruction, word, Builds, AllBuild, register-rows, multiply-rows, immediate-rows, memory-rows, branch-rows, other-rows}
use Rattle.rv_text.proofs.RowLemmas.{row_by}

-- ---- results
value_or : {A E : Type 0} → A → Result A E → A
value_or x (Ok y) = y
value_or x (Err e) = x

ok-same : {A E : Type 0} (x y : A) → ◌≡◌ {A = Result A E} (Ok x) (Ok y) → x ≡ y
unfolding value_or
ok-same x y e = ap (value_or x) e

err-not_ok : {A E : Type 0} (k : E) (y : A) → Err k ≡ Ok y → ⊥
err-not_ok k y e = false≢true (ap is_ok e)

some-same : {A : Type 0} (x y : A) → Some x ≡ Some y → x ≡ y
some-same x y e = ap (λ o. elim o as (λ _. _) [ None ↦ x | Some z ↦ z ]) e

none-not_some : {A : Type 0} (y : A) → None ≡ Some y → ⊥
none-not_some y e = false≢true (ap is_some e)

-- ---- values are in range
below-range : (n : ℕ) (z : ℤ) → (if nat_lt n 32 then Some (pos n) else None) ≡ Some z → within (pos 0) (pos 31) z ≡ true
below-range n z e = grind (arith, nat_tests, ints, e)

tested-register : (b : Bool) (o : Option ℕ) (z : ℤ) → (if b then option_and_then below_32 o else None) ≡ Some z → within (pos 0) (pos 31) z ≡ true
tested-register true (Some n) z e = below-range n z e
tested-register true None z e = elim (none-not_some z e) [ ]
tested-register false o z e = elim (none-not_some z e) [ ]

register-range : (text : List ℕ) (z : ℤ) → register_of_text text ≡ Some z → within (pos 0) (pos 31) z ≡ true
register-range [] z e = elim (none-not_some z e) [ ]
register-range (c ∷ cs) z e = tested-register (is_x c) (natural_of_text cs) z e

tested-name : (b : Bool) (o : Option ℤ) (z : ℤ) → ((x : ℤ) → o ≡ Some x → within (pos 0) (pos 31) x ≡ true) → (if b then ok_or o NoRegister else Err OtherForm) ≡ Ok z → within (pos 0) (pos 31) z ≡ true
tested-name true (Some x) z h e = subst (λ x. within (pos 0) (pos 31) x ≡ true) (ok-same x z e) (h x refl)
tested-name true None z h e = elim (err-not_ok NoRegister z e) [ ]
tested-name false o z h e = elim (err-not_ok OtherForm z e) [ ]

registered-range : (text : List ℕ) (z : ℤ) → registered_in text ≡ Ok z → within (pos 0) (pos 31) z ≡ true
registered-range text z e = tested-name (is_name text) (register_of_text text) z (register-range text) e

tested-range : (f : Field) (b : Bool) (x z : ℤ) → is_in f x ≡ b → (if b then Ok x else Err OutOfRange) ≡ Ok z → is_in f z ≡ true
tested-range f true x z h e = subst (λ x. is_in f x ≡ true) (ok-same x z e) h
tested-range f false x z h e = elim (err-not_ok OutOfRange z e) [ ]

written-range : (f : Field) (o : Option ℤ) (z : ℤ) → (ranged_or OtherForm f o) ≡ Ok z → is_in f z ≡ true
written-range f (Some x) z e = tested-range f (is_in f x) x z refl e
written-range f None z e = elim (err-not_ok OtherForm z e) [ ]

distant-range : (f : Field) (o : Option ℤ) (z : ℤ) → (ranged_or Undefined f o) ≡ Ok z → is_in f z ≡ true
distant-range f (Some x) z e = tested-range f (is_in f x) x z refl e
distant-range f None z e = elim (err-not_ok Undefined z e) [ ]

tested-target : (f : Field) (b : Bool) (o p : Option ℤ) (z : ℤ) → (if b then (ranged_or Undefined f o) else (ranged_or OtherForm f p)) ≡ Ok z → is_in f z ≡ true
tested-target f true o p z e = distant-range f o z e
tested-target f false o p z e = written-range f p z e

operand-range : (d : Distances) (f : Field) (text : List ℕ) (z : ℤ) → operand_in d f text ≡ Ok z → is_in f z ≡ true
operand-range d Rd text z e = registered-range text z e
operand-range d Rs1 text z e = registered-range text z e
operand-range d Rs2 text z e = registered-range text z e
operand-range d Immediate text z e = written-range Immediate (number_of_text text) z e
operand-range d Shift text z e = written-range Shift (number_of_text text) z e
operand-range d StoreOffset text z e = written-range StoreOffset (number_of_text text) z e
operand-range d BranchTarget text z e = tested-target BranchTarget (is_name text) (d text) (number_of_text text) z e
operand-range d JumpTarget text z e = tested-target JumpTarget (is_name text) (d text) (number_of_text text) z e
operand-range d Upper text z e = written-range Upper (number_of_text text) z e
operand-range d Word text z e = written-range Word (number_of_text text) z e

both-range : (s : Slot) (slots : List Slot) (r : Result ℤ FaultKind) (rs : Result (List ℤ) FaultKind) (zs : List ℤ) → ((z : ℤ) → r ≡ Ok z → is_in (field_of s) z ≡ true) → ((ys : List ℤ) → rs ≡ Ok ys → in_ranges slots ys ≡ true) → both ◌∷◌ r rs ≡ Ok zs → in_ranges (s ∷ slots) zs ≡ true
both-range s slots (Ok z) (Ok ys) zs h k e = subst (λ zs. in_ranges (s ∷ slots) zs ≡ true) (ok-same (z ∷ ys) zs e) (and_from _ _ (h z refl) (k ys refl))
both-range s slots (Ok z) (Err j) zs h k e = elim (err-not_ok j zs e) [ ]
both-range s slots (Err i) (Ok ys) zs h k e = elim (err-not_ok i zs e) [ ]
both-range s slots (Err i) (Err j) zs h k e = elim (err-not_ok (earlier i j) zs e) [ ]

behind-range : (d : Distances) (slots : List Slot) (o : Option (List ℕ)) (ys : List ℤ) → ((text : List ℕ) (ys : List ℤ) → operands_in d slots text ≡ Ok ys → in_ranges slots ys ≡ true) → (ok_or o OtherForm >>= λ rest. operands_in d slots rest) ≡ Ok ys → in_ranges slots ys ≡ true
behind-range d slots (Some text) ys h e = h text ys e
behind-range d slots None ys h e = elim (err-not_ok OtherForm ys e) [ ]

ended-range : (b : Bool) (zs : List ℤ) → (if b then Ok [] else Err OtherForm) ≡ Ok zs → in_ranges [] zs ≡ true
ended-range true zs e = subst (λ zs. in_ranges [] zs ≡ true) (ok-same [] zs e) refl
ended-range false zs e = elim (err-not_ok OtherForm zs e) [ ]

operands-range : (d : Distances) (slots : List Slot) (text : List ℕ) (zs : List ℤ) → operands_in d slots text ≡ Ok zs → in_ranges slots zs ≡ true
operands-range d [] text zs e = ended-range (is_empty (skip text)) zs e
operands-range d (s ∷ slots) text zs e =
    both-range s slots (operand_in d (field_of s) (next_operand text)) _ zs (λ z. operand-range d (field_of s) (next_operand text) z)
    (λ ys. behind-range d slots (after_slot s (after_operand text)) ys (λ t ys. operands-range d slots t ys)) e

tested-blank : (b : Bool) (d : Distances) (slots : List Slot) (text : List ℕ) (zs : List ℤ) → (if b then operands_in d slots text else Err OtherForm) ≡ Ok zs → in_ranges slots zs ≡ true
tested-blank true d slots text zs e = operands-range d slots text zs e
tested-blank false d slots text zs e = elim (err-not_ok OtherForm zs e) [ ]

values-range : (d : Distances) (slots : List Slot) (text : List ℕ) (zs : List ℤ) → operands_of d slots text ≡ Ok zs → in_ranges slots zs ≡ true
values-range d slots text zs e = tested-blank (is_empty slots || begins is_blank text) d slots text zs e

-- ---- rows
row-found : (ns : List Named) → AllBuild ns → (name : List ℕ) (r : Row) → row_in name ns ≡ Some r → Builds name r.form
row-found [] all name r e = elim (none-not_some r e) [ ]
row-found (n ∷ ns) all name r e = elim (bytes_eq name n.name) as (λ b. bytes_eq name n.name ≡ b → (if b then Some n.row else row_in name ns) ≡ Some r → Builds name r.form) [
  | true ↦ λ q e. subst (λ name. Builds name r.form) (sym ((bytes_eq-Decides name n.name).0 q)) (subst (λ row. Builds n.name row.form) (some-same n.row r e) all.this)
  | false ↦ λ q e. row-found ns all.rest name r e
] refl e

either-found : (name : List ℕ) (a b : Option Row) → ((r : Row) → a ≡ Some r → Builds name r.form) → ((r : Row) → b ≡ Some r → Builds name r.form) → (r : Row) → option_or a b ≡ Some r → Builds name r.form
either-found name (Some x) b h k r e = h r e
either-found name None b h k r e = k r e

found : (name : List ℕ) (r : Row) → row_named name ≡ Some r → Builds name r.form
unfolding row_named
found name =
    either-found name (row_in name immediate_rows) _ (row-found immediate_rows immediate-rows name)
    (either-found name (row_in name register_rows) _ (row-found register_rows register-rows name)
    (either-found name (row_in name memory_rows) _ (row-found memory_rows memory-rows name)
    (either-found name (row_in name branch_rows) _ (row-found branch_rows branch-rows name)
    (either-found name (row_in name other_rows) _ (row-found other_rows other-rows name) (row-found multiply_rows multiply-rows name)))))

-- each instruction has a word
abbrev pub EachHasWord : Type 0
EachHasWord = (i : Instr) → word_of i < 2 ^ 32

base_or : ℕ → Option Row → ℕ
base_or n (Some r) = r.base
base_or n None = n

same-base : (form : Form) (a b : ℕ) (o : Option Row) → o ≡ Some (row_by form a) → o ≡ Some (row_by form b) → a ≡ b
unfolding base_or
same-base form a b o h k = ap (base_or 0) (sym h ∙ k)

-- a spelling with its row and its word
record HasWord (s : Spelling) (w : ℕ) : Type 0 where
  base : ℕ
  is_there : is_empty s.name ≡ false
  is_named : row_named s.name ≡ Some (row_by s.form base)
  is_word : base + placed_in (slots_of s.form) s.values ≡ w

begins-there : (name : List ℕ) → is_mnemonic name ≡ true → is_empty name ≡ false
begins-there [] h = elim (false≢true h) [ ]
begins-there (c ∷ cs) h = refl

spelled-word : (s : Spelling) (w : ℕ) → IsSpelled s w → HasWord s w
spelled-word s w is = record { base = is.base; is_there = begins-there s.name is.is_a_mnemonic; is_named = is.is_named; is_word = is.is_word }

raw-word : (w : ℕ) → HasWord (raw w) w
unfolding row_named
raw-word w = record { base = 0; is_there = refl; is_named = refl; is_word = omega arith }

has-word : EachHasWord → (s : Spelling) (w : ℕ) → IsWordOf s w → HasWord s w
has-word law s w (of_instruction i e q) = subst (λ n. HasWord s n) q (subst (λ s. HasWord s (word_of i)) (sym e) (spelled-word (spelling_of i) (word_of i) (spellings i (law i))))
has-word law s w (of_itself e) = subst (λ s. HasWord s w) (sym e) (raw-word w)

row-word : (s : Spelling) (base w : ℕ) → row_named s.name ≡ Some (row_by s.form base) → HasWord s w → w ≡ base + placed_in (slots_of s.form) s.values
row-word s base w e has = sym has.is_word ∙ ap (λ b. b + placed_in (slots_of s.form) s.values) (same-base s.form has.base base (row_named s.name) has.is_named e)

built-word : EachHasWord → (s : Spelling) (base : ℕ) → row_named s.name ≡ Some (row_by s.form base) → Built s → IsWordOf s (base + placed_in (slots_of s.form) s.values)
built-word law s base e (instruction i q) = of_instruction i q (row-word s base (word_of i) e (subst (λ s. HasWord s (word_of i)) (sym q) (spelled-word (spelling_of i) (word_of i) (spellings i (law i)))))
built-word law s base e (word w q) = of_itself (q ∙ ap raw (row-word s base w e (subst (λ s. HasWord s w) (sym q) (raw-word w))))

-- ---- what has a word says it
said-values : EachHasWord → (d : Distances) (text : List ℕ) (w : ℕ) (r : Row) → row_named (first_word text) ≡ Some r → (q : Result (List ℤ) FaultKind) → operands_of d (slots_of r.form) (after_first_word text) ≡ q → (q >>= λ zs. Ok (word_by r zs)) ≡ Ok w → StandsForWord d text w
said-values law d text w r named (Ok zs) read e =
    let s = spelled (first_word text) r.form zs in
    record {
      spelling = s;
      is_spelled = record { mnemonic = refl; operands = read };
      is_word = subst (λ n. IsWordOf s n) (ok-same (word_by r zs) w e) (built-word law s r.base named (found (first_word text) r named zs (values-range d (slots_of r.form) (after_first_word text) zs read)));
    }
said-values law d text w r named (Err k) read e = elim (err-not_ok k w e) [ ]

said-row : EachHasWord → (d : Distances) (text : List ℕ) (w : ℕ) (o : Option Row) → row_named (first_word text) ≡ o → word_of_row d o (after_first_word text) ≡ Ok w → StandsForWord d text w
said-row law d text w (Some r) named e = said-values law d text w r named (operands_of d (slots_of r.form) (after_first_word text)) refl e
said-row law d text w None named e = elim (err-not_ok UnknownMnemonic w e) [ ]

said-first : EachHasWord → (d : Distances) (text : List ℕ) (w : ℕ) (b : Bool) → (if b then Err OtherForm else word_of_row d (row_named (first_word text)) (after_first_word text)) ≡ Ok w → StandsForWord d text w
said-first law d text w true e = elim (err-not_ok OtherForm w e) [ ]
said-first law d text w false e = said-row law d text w (row_named (first_word text)) refl e

pub said : EachHasWord → (d : Distances) (text : List ℕ) (w : ℕ) → word_of_statement d text ≡ Ok w → StandsForWord d text w
said law d text w e = said-first law d text w (is_empty (first_word text)) e

-- ---- and what says a word has it
pub written-word : EachHasWord → (d : Distances) (text : List ℕ) (s : Spelling) (w : ℕ) → IsSpelledBy d text s → IsWordOf s w → word_of_statement d text ≡ Ok w
written-word law d text s w is meant =
    let has = has-word law s w meant in
    let after = after_first_word text in
    ap (λ n. if is_empty n then Err OtherForm else word_of_row d (row_named n) after) is.mnemonic
    ∙ (ap (λ b. if b then Err OtherForm else word_of_row d (row_named s.name) after) has.is_there
    ∙ (ap (λ o. word_of_row d o after) has.is_named
    ∙ (ap (λ q. q >>= λ zs. Ok (word_by (row_by s.form has.base) zs)) is.operands
    ∙ ap (λ n. Ok n) has.is_word)))

pub statement-stands : EachHasWord → (d : Distances) (text : List ℕ) (w : ℕ) → (word_of_statement d text ≡ Ok w) ↔ StandsForWord d text w
statement-stands law d text w = (said law d text w, λ says. written-word law d text says.spelling w says.is_spelled says.is_word)
