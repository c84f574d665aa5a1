-- Each label stands for four bytes for each word of the lines before it, and nothing else has a place.
use Rattle.std.proofs.Common.{◌≡◌, ℕ, ◌+◌, ◌*◌, Bool, true, false, List, [], ◌∷◌, ◌++◌, refl, ap, ◌∙◌, sym, subst, arith, Option, Some, None, Result, Ok, Err, ◌⊎◌, inl, inr}
use Rattle.std.specs.Prelude.{◌↔◌, if◌then◌else◌, not, is_some}
use Rattle.std.specs.Str.{bytes_eq}
use Rattle.std.proofs.lemmas.Slice.Eq.{bytes_eq-Decides}
use Rattle.rd_base.specs.Results.{◌>>=◌, map_fault}
use Rattle.rv_text.specs.Characters.{is_empty}
use Rattle.rv_text.specs.Faults.{fault}
use Rattle.rv_text.specs.Lines.{code_in, label_in, statement_in, word_of_statement, word_in}
use Rattle.rv_text.specs.Assembly.{Names, no_names, with_name, with_label, near, place_after, Pass, pass, after_line, first_pass}
use Rattle.rv_text.specs.Labels.{has_statement, word_count, IsPlaceFrom, IsPlace}
use Rattle.rv_text.specs.declared.fault.FaultKind.{FaultKind}
use Rattle.rv_text.specs.declared.fault.FaultKind.TheVariants.{DefinedTwice}

-- ---- results
pub then-ok : {A B E : Type 0} (r : Result A E) (f : A → Result B E) (y : B) → (r >>= f) ≡ Ok y → (x : A) × (r ≡ Ok x) × (f x ≡ Ok y)
then-ok (Ok x) f y e = (x, refl, e)
then-ok (Err k) f y e = absurd cc

pub mapped-ok : {A E F : Type 0} (f : E → F) (r : Result A E) (y : A) → map_fault f r ≡ Ok y → r ≡ Ok y
mapped-ok f (Ok x) y e = let same : x ≡ y = cc in ap (λ z. Ok z) same
mapped-ok f (Err k) y e = absurd cc

pub same-ok : {A E : Type 0} (x y : A) → ◌≡◌ {A = Result A E} (Ok x) (Ok y) → x ≡ y
same-ok x y e = cc

-- ---- a label
-- what a line does with the names: none where it has no label, and else its label is a new name
abbrev pub Named : Names → Option (List ℕ) → ℕ → Names → Type 0
Named names None place after = after ≡ names
Named names (Some name) place after = (names name ≡ None) × (after ≡ with_name names name place)

is-none : {A : Type 0} (o : Option A) → is_some o ≡ false → o ≡ None
is-none None e = refl
is-none (Some x) e = absurd cc

new-name : (b : Bool) (names after : Names) (name : List ℕ) (place : ℕ) → is_some (names name) ≡ b → (if b then Err DefinedTwice else Ok (with_name names name place)) ≡ Ok after → Named names (Some name) place after
new-name true names after name place is e = absurd cc
new-name false names after name place is e = (is-none (names name) is, sym (same-ok (with_name names name place) after e))

named : (names after : Names) (o : Option (List ℕ)) (place : ℕ) → with_label names o place ≡ Ok after → Named names o place after
named names after None place e = sym (same-ok names after e)
named names after (Some name) place e = new-name (is_some (names name)) names after name place refl e

-- a name after a label was given a place
with-other : (names : Names) (name : List ℕ) (place : ℕ) (other : List ℕ) (x : ℕ) (b : Bool) → bytes_eq name other ≡ b → names name ≡ None → names other ≡ Some x → (if b then Some place else names other) ≡ Some x
with-other names name place other x true same new is = let never : None ≡ Some x = sym new ∙ (ap names ((bytes_eq-Decides name other).0 same) ∙ is) in absurd cc
with-other names name place other x false same new is = is

pub name-kept : (names after : Names) (o : Option (List ℕ)) (place : ℕ) (name : List ℕ) (x : ℕ) → Named names o place after → names name ≡ Some x → after name ≡ Some x
name-kept names after None place name x h is = ap (λ (f : Names). f name) h ∙ is
name-kept names after (Some label) place name x h is = ap (λ (f : Names). f name) h.1 ∙ with-other names label place name x (bytes_eq label name) refl h.0 is

pub name-given : (names after : Names) (o : Option (List ℕ)) (place : ℕ) (name : List ℕ) → Named names o place after → o ≡ Some name → after name ≡ Some place
name-given names after None place name h is = absurd cc
name-given names after (Some label) place name h is =
    let same : label ≡ name = cc in
    ap (λ (f : Names). f name) h.1 ∙ ap (λ b. if b then Some place else names name) ((bytes_eq-Decides label name).1 same)

of-label : (names : Names) (label : List ℕ) (place : ℕ) (name : List ℕ) (x : ℕ) (b : Bool) → bytes_eq label name ≡ b → (if b then Some place else names name) ≡ Some x → (names name ≡ Some x) ⊎ ((Some label ≡ Some name) × (x ≡ place))
of-label names label place name x true same is = inr (ap (λ n. Some n) ((bytes_eq-Decides label name).0 same), cc)
of-label names label place name x false same is = inl is

pub name-from : (names after : Names) (o : Option (List ℕ)) (place : ℕ) (name : List ℕ) (x : ℕ) → Named names o place after → after name ≡ Some x → (names name ≡ Some x) ⊎ ((o ≡ Some name) × (x ≡ place))
name-from names after None place name x h is = inl (sym (ap (λ (f : Names). f name) h) ∙ is)
name-from names after (Some label) place name x h is = of-label names label place name x (bytes_eq label name) refl (sym (ap (λ (f : Names). f name) h.1) ∙ is)

-- ---- a line
pub word-place : (b : Bool) (r : Result ℕ FaultKind) (w : Option ℕ) (place : ℕ) → (if b then Ok None else (r >>= λ w. Ok (Some w))) ≡ Ok w → place_after place w ≡ place + 4 * (if not b then 1 else 0)
word-place true r None place e = omega arith
word-place true r (Some w) place e = absurd cc
word-place false (Ok x) (Some w) place e = omega arith
word-place false (Ok x) None place e = absurd cc
word-place false (Err k) w place e = absurd cc

statement-place : (text : List ℕ) (w : Option ℕ) (place : ℕ) → word_in near text ≡ Ok w → place_after place w ≡ place + 4 * (if not (is_empty text) then 1 else 0)
unfolding word_in
statement-place text w place e = word-place (is_empty text) (word_of_statement near text) w place e

-- what a line that passes does
pub record Passed (p : Pass) (line : List ℕ) (q : Pass) : Type 0 where
  pub names : Named p.names (label_in (code_in line)) p.place q.names
  pub place : q.place ≡ p.place + 4 * (if has_statement line then 1 else 0)

pub line-passed : (p : Pass) (line : List ℕ) (q : Pass) → after_line p line ≡ Ok q → Passed p line q
line-passed p line q e =
    let w = then-ok (word_in near (statement_in (code_in line))) _ q e in
    let after = then-ok (with_label p.names (label_in (code_in line)) p.place) _ q w.2 in
    let same : pass after.0 (place_after p.place w.0) ≡ q = same-ok (pass after.0 (place_after p.place w.0)) q after.2 in
    record {
      names = subst (λ (r : Pass). Named p.names (label_in (code_in line)) p.place r.names) same (named p.names after.0 (label_in (code_in line)) p.place after.1);
      place = ap (λ (r : Pass). r.place) (sym same) ∙ statement-place (statement_in (code_in line)) w.0 p.place w.1;
    }

-- the first of several lines, and those behind it
line-first : (n : ℕ) (p : Pass) (line : List ℕ) (ls : List (List ℕ)) (q : Pass) → first_pass n p (line ∷ ls) ≡ Ok q → (r : Pass) × Passed p line r × (first_pass (n + 1) r ls ≡ Ok q)
line-first n p line ls q e =
    let r = then-ok (map_fault (fault n) (after_line p line)) _ q e in
    (r.0, line-passed p line r.0 (mapped-ok (fault n) (after_line p line) r.0 r.1), r.2)

-- ---- lines
kept : (ls : List (List ℕ)) (n : ℕ) (p q : Pass) (name : List ℕ) (x : ℕ) → first_pass n p ls ≡ Ok q → p.names name ≡ Some x → q.names name ≡ Some x
kept [] n p q name x e is = ap (λ (r : Pass). r.names name) (sym (same-ok p q e)) ∙ is
kept (l ∷ ls) n p q name x e is =
    let r = line-first n p l ls q e in
    kept ls (n + 1) r.0 q name x r.2 (name-kept p.names r.0.names (label_in (code_in l)) p.place name x r.1.names is)

given : (before : List (List ℕ)) (line : List ℕ) (behind : List (List ℕ)) (n : ℕ) (p q : Pass) (name : List ℕ) → first_pass n p (before ++ (line ∷ behind)) ≡ Ok q → label_in (code_in line) ≡ Some name → q.names name ≡ Some (p.place + 4 * word_count before)
given [] line behind n p q name e is =
    let r = line-first n p line behind q e in
    let at : p.place ≡ p.place + 4 * word_count [] = omega arith in
    kept behind (n + 1) r.0 q name (p.place + 4 * word_count []) r.2 (name-given p.names r.0.names (label_in (code_in line)) p.place name r.1.names is ∙ ap (λ x. Some x) at)
given (l ∷ before) line behind n p q name e is =
    let r = line-first n p l (before ++ (line ∷ behind)) q e in
    let next = r.1.place in
    let at : r.0.place + 4 * word_count before ≡ p.place + 4 * word_count (l ∷ before) = omega arith in
    given before line behind (n + 1) r.0 q name r.2 is ∙ ap (λ x. Some x) at

behind-line : (l : List ℕ) (ls : List (List ℕ)) (start next : ℕ) (name : List ℕ) (x : ℕ) → next ≡ start + 4 * (if has_statement l then 1 else 0) → IsPlaceFrom next ls name x → IsPlaceFrom start (l ∷ ls) name x
behind-line l ls start next name x is h =
    let place = h.is_place in
    record {
      before = l ∷ h.before;
      line = h.line;
      behind = h.behind;
      are_lines = ap (λ t. l ∷ t) h.are_lines;
      is_label = h.is_label;
      is_place = omega arith;
    }

from : (ls : List (List ℕ)) (n : ℕ) (p q : Pass) (name : List ℕ) (x : ℕ) → first_pass n p ls ≡ Ok q → q.names name ≡ Some x → (p.names name ≡ Some x) ⊎ IsPlaceFrom p.place ls name x
from [] n p q name x e is = inl (ap (λ (r : Pass). r.names name) (same-ok p q e) ∙ is)
from (l ∷ ls) n p q name x e is =
    let r = line-first n p l ls q e in
    elim (from ls (n + 1) r.0 q name x r.2 is) [
      | inl h ↦ elim (name-from p.names r.0.names (label_in (code_in l)) p.place name x r.1.names h) [
        | inl earlier ↦ inl earlier
        | inr here ↦ inr (record { before = []; line = l; behind = ls; are_lines = refl; is_label = here.0; is_place = here.1 ∙ omega arith })
      ]
      | inr h ↦ inr (behind-line l ls p.place r.0.place name x r.1.place h)
    ]

is-place : (lines : List (List ℕ)) (p : Pass) (name : List ℕ) (place : ℕ) → first_pass 1 (pass no_names 0) lines ≡ Ok p → p.names name ≡ Some place → IsPlace lines name place
is-place lines p name place e is =
    elim (from lines 1 (pass no_names 0) p name place e is) [
      | inl never ↦ absurd cc
      | inr h ↦ h
    ]

place-is : (lines : List (List ℕ)) (p : Pass) (name : List ℕ) (place : ℕ) → first_pass 1 (pass no_names 0) lines ≡ Ok p → IsPlace lines name place → p.names name ≡ Some place
place-is lines p name place e h =
    given h.before h.line h.behind 1 (pass no_names 0) p name (ap (first_pass 1 (pass no_names 0)) (sym h.are_lines) ∙ e) h.is_label ∙ ap (λ x. Some x) (sym h.is_place)

pub places : (lines : List (List ℕ)) (p : Pass) (name : List ℕ) (place : ℕ) → first_pass 1 (pass no_names 0) lines ≡ Ok p → (p.names name ≡ Some place) ↔ IsPlace lines name place
places lines p name place e = (is-place lines p name place e, place-is lines p name place e)
