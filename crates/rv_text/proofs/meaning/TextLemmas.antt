-- Both passes by the lines of a text: the first fault, and the word of each statement.
use Rattle.std.proofs.Common.{◌≡◌, ℕ, zero, suc, ◌+◌, ◌*◌, ◌<◌, ◌≤◌, Bool, true, false, List, [], ◌∷◌, length, get_or, slice_index, refl, ap, ◌∙◌, sym, subst, arith, Option, Some, None, Result, Ok, Err, ◌⊎◌, inl, inr, ⊎_elim}
use Rattle.std.proofs.lemmas.Bool.{true≢false, false≢true, cases_eq, cases_lt}
use Rattle.std.proofs.lemmas.List.{ext_get_or}
use Rattle.std.specs.Prelude.{◌↔◌, if◌then◌else◌, not, is_some}
use Rattle.rd_base.specs.Results.{◌>>=◌, map_fault}
use Rattle.rv_text.specs.Characters.{is_empty, source_lines}
use Rattle.rv_text.specs.Faults.{number_of_kind, fault}
use Rattle.rv_text.specs.Operands.{Distances}
use Rattle.rv_text.specs.Lines.{code_in, statement_in, word_of_statement, word_in}
use Rattle.rv_text.specs.Assembly.{Names, no_names, near, distances_from, with_label, with_name, place_after, Pass, pass, after_line, first_pass, with_word, word_of_line, second_pass, assembled}
use Rattle.rv_text.specs.Labels.{has_statement, word_count}
use Rattle.rv_text.specs.Meaning.{StandsForWord}
use Rattle.rv_text.specs.Causes.{HasFault, IsLeast}
use Rattle.rv_text.specs.LineFaults.{line_at, label_at, statement_at, words_before, IsLabelledBefore, IsDefinedTwice, HasLineFault, distances_at, HasLaterFault, AreFaultless, IsFirstFault, AreWordsOf, AreNamesOf, IsAssembled, IsFaultOf, at_first, later}
use Rattle.rv_text.specs.declared.fault.FaultKind.{FaultKind}
use Rattle.rv_text.specs.declared.fault.FaultKind.TheVariants.{OtherForm, UnknownMnemonic, NoRegister, OutOfRange, Undefined, DefinedTwice}
use Rattle.rv_text.specs.declared.fault.AsmFault.{AsmFault}
use Rattle.rv_text.proofs.meaning.CauseLemmas.{Judged, same-judged, then-judged, same-kind, statement-judged, none-of_six}
use Rattle.rv_text.proofs.meaning.LabelLemmas.{then-ok, mapped-ok, same-ok, Passed, line-passed, name-kept, name-given, name-from, word-place, places}
use Rattle.rv_text.proofs.meaning.MeaningLemmas.{EachHasWord, said, statement-stands}

-- ---- a line of the first pass
-- the fault of a label alone
TwiceAlone : List (List ℕ) → ℕ → FaultKind → Type 0
TwiceAlone lines i OtherForm = ⊥
TwiceAlone lines i UnknownMnemonic = ⊥
TwiceAlone lines i NoRegister = ⊥
TwiceAlone lines i OutOfRange = ⊥
TwiceAlone lines i Undefined = ⊥
TwiceAlone lines i DefinedTwice = IsDefinedTwice lines i

-- what is known before a line: the names are the labels of the lines before it
record KnowsLabels (lines : List (List ℕ)) (i : ℕ) (names : Names) : Type 0 where
  known : (name : List ℕ) (place : ℕ) → names name ≡ Some place → IsLabelledBefore lines i name
  kept : (name : List ℕ) → IsLabelledBefore lines i name → (place : ℕ) × (names name ≡ Some place)

same-some : {A : Type 0} {x y : A} → Some x ≡ Some y → x ≡ y
same-some e = cc

at-most-6 : (k : FaultKind) → number_of_kind k ≤ 6
at-most-6 OtherForm = omega arith
at-most-6 UnknownMnemonic = omega arith
at-most-6 NoRegister = omega arith
at-most-6 OutOfRange = omega arith
at-most-6 Undefined = omega arith
at-most-6 DefinedTwice = omega arith

twice-last : (lines : List (List ℕ)) (i : ℕ) (j k : FaultKind) → TwiceAlone lines i k → number_of_kind j ≤ number_of_kind k
unfolding TwiceAlone
twice-last lines i j OtherForm h = absurd h
twice-last lines i j UnknownMnemonic h = absurd h
twice-last lines i j NoRegister h = absurd h
twice-last lines i j OutOfRange h = absurd h
twice-last lines i j Undefined h = absurd h
twice-last lines i j DefinedTwice h = at-most-6 j

-- two parts of which the second one's fault counts only if the first has none
in-turn : {A B : Type 0} (H G : FaultKind → Type 0) (r : Result A FaultKind) (s : A → Result B FaultKind) → ((j k : FaultKind) → G k → number_of_kind j ≤ number_of_kind k) → Judged H r → ((x : A) → Judged G (s x)) → Judged (λ k. H k ⊎ G k) (r >>= s)
in-turn {A} {B} H G (Ok x) s last h g = same-judged G (λ k. H k ⊎ G k) (s x) (λ k. inr) (λ k there. ⊎_elim (λ a. absurd (h k a)) (λ b. b) there) (g x)
in-turn H G (Err j) s last h g = record { is_there = inl h.is_there; is_least = λ k there. ⊎_elim (λ a. h.is_least k a) (λ b. last j k b) there }

twice-judged : (lines : List (List ℕ)) (i : ℕ) (names : Names) (place : ℕ) → KnowsLabels lines i names → (name : List ℕ) → label_at lines i ≡ Some name → (o : Option ℕ) → names name ≡ o → Judged {A = Names} (TwiceAlone lines i) (if is_some o then Err DefinedTwice else Ok (with_name names name place))
unfolding TwiceAlone
twice-judged lines i names place knows name is (Some x) e = record {
  is_there = record { name = name; is_label = is; is_earlier = knows.known name x e };
  is_least = λ j h. twice-last lines i DefinedTwice j h;
}
twice-judged lines i names place knows name is None e =
    none-of_six (TwiceAlone lines i) (λ h. h) (λ h. h) (λ h. h) (λ h. h) (λ h. h) (λ h. never h)
  where
    never : IsDefinedTwice lines i → ⊥
    never h =
        let same : name ≡ h.name = same-some (sym is ∙ h.is_label) in
        let found = knows.kept h.name h.is_earlier in
        let known : None ≡ Some found.0 = sym e ∙ ap names same ∙ found.1 in absurd cc

label-judged : (lines : List (List ℕ)) (i : ℕ) (names : Names) (place : ℕ) → KnowsLabels lines i names → (o : Option (List ℕ)) → label_at lines i ≡ o → Judged (TwiceAlone lines i) (with_label names o place)
unfolding TwiceAlone
label-judged lines i names place knows None is =
    none-of_six (TwiceAlone lines i) (λ h. h) (λ h. h) (λ h. h) (λ h. h) (λ h. h) (λ h. let never : None ≡ Some h.name = sym is ∙ h.is_label in absurd cc)
label-judged lines i names place knows (Some name) is = twice-judged lines i names place knows name is (names name) refl

-- a line's faults are those of its statement and of its label
line-has : (lines : List (List ℕ)) (i : ℕ) (k : FaultKind) → HasFault near (statement_at lines i) k ⊎ TwiceAlone lines i k → HasLineFault lines i k
unfolding TwiceAlone
line-has lines i OtherForm h = ⊎_elim (λ a. a) (λ b. absurd b) h
line-has lines i UnknownMnemonic h = ⊎_elim (λ a. a) (λ b. absurd b) h
line-has lines i NoRegister h = ⊎_elim (λ a. a) (λ b. absurd b) h
line-has lines i OutOfRange h = ⊎_elim (λ a. a) (λ b. absurd b) h
line-has lines i Undefined h = ⊎_elim (λ a. a) (λ b. absurd b) h
line-has lines i DefinedTwice h = ⊎_elim (λ a. absurd a) (λ b. b) h

parts-have : (lines : List (List ℕ)) (i : ℕ) (k : FaultKind) → HasLineFault lines i k → HasFault near (statement_at lines i) k ⊎ TwiceAlone lines i k
unfolding TwiceAlone
parts-have lines i OtherForm h = inl h
parts-have lines i UnknownMnemonic h = inl h
parts-have lines i NoRegister h = inl h
parts-have lines i OutOfRange h = inl h
parts-have lines i Undefined h = inl h
parts-have lines i DefinedTwice h = inr h

line-judged : (lines : List (List ℕ)) (i : ℕ) (p : Pass) → KnowsLabels lines i p.names → Judged (HasLineFault lines i) (after_line p (line_at lines i))
line-judged lines i p knows =
    same-judged (λ k. HasFault near (statement_at lines i) k ⊎ TwiceAlone lines i k) (HasLineFault lines i) (after_line p (line_at lines i)) (line-has lines i) (parts-have lines i)
    (in-turn (HasFault near (statement_at lines i)) (TwiceAlone lines i) (word_in near (statement_at lines i))
    (λ w. with_label p.names (label_at lines i) p.place >>= λ names. Ok (pass names (place_after p.place w)))
    (twice-last lines i) (statement-judged near (statement_at lines i))
    (λ w. then-judged (TwiceAlone lines i) (λ names. pass names (place_after p.place w)) (with_label p.names (label_at lines i) p.place) (label-judged lines i p.names p.place knows (label_at lines i) refl)))

next-knows : (lines : List (List ℕ)) (i : ℕ) (p q : Pass) → KnowsLabels lines i p.names → Passed p (line_at lines i) q → KnowsLabels lines (i + 1) q.names
next-knows lines i p q knows passed = record {
  known = λ name place e. ⊎_elim
      (λ h. let before = knows.known name place h in let low = before.is_before in record { index = before.index; is_before = omega arith; is_label = before.is_label })
      (λ here. record { index = i; is_before = omega arith; is_label = here.0 })
      (name-from p.names q.names (label_at lines i) p.place name place passed.names e);
  kept = λ name h. ⊎_elim
      (λ below. let found = knows.kept name (record { index = h.index; is_before = below; is_label = h.is_label }) in
      (found.0, name-kept p.names q.names (label_at lines i) p.place name found.0 passed.names found.1))
      (λ from. let low = h.is_before in let same : i ≡ h.index = omega arith in
      (p.place, name-given p.names q.names (label_at lines i) p.place name passed.names (ap (label_at lines) same ∙ h.is_label)))
      (cases_lt h.index i);
}

-- ---- lines from a number on, up to another
record FirstFrom (has_fault : ℕ → FaultKind → Type 0) (low high : ℕ) (f : AsmFault) : Type 0 where
  index : ℕ
  above : low ≤ index
  below : index < high
  is_number : f.line ≡ 1 + index
  is_fault : IsLeast (has_fault index) f.kind
  is_first : (i : ℕ) → low ≤ i → i < index → (k : FaultKind) → has_fault i k → ⊥

-- a result is the first fault of these lines, or none has one
abbrev Scanned : {A : Type 0} → (ℕ → FaultKind → Type 0) → ℕ → ℕ → Result A AsmFault → Type 0
Scanned has_fault low high (Ok x) = (i : ℕ) → low ≤ i → i < high → (k : FaultKind) → has_fault i k → ⊥
Scanned has_fault low high (Err f) = FirstFrom has_fault low high f

one-more : {A : Type 0} (has_fault : ℕ → FaultKind → Type 0) (m high : ℕ) (r : Result A AsmFault) → ((k : FaultKind) → has_fault m k → ⊥) → Scanned has_fault (m + 1) high r → Scanned has_fault m high r
one-more has_fault m high (Ok x) none rest = λ i low below k h. ⊎_elim
    (λ same. none k (subst (λ j. has_fault j k) same h))
    (λ other. rest i (omega arith) below k h)
    (cases_eq i m)
one-more has_fault m high (Err f) none rest =
    let above = rest.above in
    record {
      index = rest.index;
      above = omega arith;
      below = rest.below;
      is_number = rest.is_number;
      is_fault = rest.is_fault;
      is_first = λ i low before k h. ⊎_elim
          (λ same. none k (subst (λ j. has_fault j k) same h))
          (λ other. rest.is_first i (omega arith) before k h)
          (cases_eq i m);
    }

scan-step : {A B : Type 0} (has_fault : ℕ → FaultKind → Type 0) (m n high : ℕ) (r : Result A FaultKind) (s : A → Result B AsmFault) → n ≡ 1 + m → m < high → Judged (has_fault m) r
    → ((x : A) → r ≡ Ok x → Scanned has_fault (m + 1) high (s x)) → Scanned has_fault m high (map_fault (fault n) r >>= s)
scan-step has_fault m n high (Ok x) s is within none rest = one-more has_fault m high (s x) none (rest x refl)
scan-step has_fault m n high (Err k) s is within least rest = record {
  index = m;
  above = omega arith;
  below = within;
  is_number = is;
  is_fault = least;
  is_first = λ i low before k h. absurd (omega arith);
}

then-scanned : {A B : Type 0} (has_fault : ℕ → FaultKind → Type 0) (low high : ℕ) (f : A → B) (r : Result A AsmFault) → Scanned has_fault low high r → Scanned has_fault low high (r >>= λ x. Ok (f x))
then-scanned has_fault low high f (Ok x) h = h
then-scanned has_fault low high f (Err e) h = h

-- the lines from a number on
abbrev AreLinesFrom : List (List ℕ) → ℕ → List (List ℕ) → Type 0
AreLinesFrom lines m ls = (i : ℕ) → line_at ls i ≡ line_at lines (m + i)

next-lines : (lines : List (List ℕ)) (m : ℕ) (l : List ℕ) (ls : List (List ℕ)) → AreLinesFrom lines m (l ∷ ls) → AreLinesFrom lines (m + 1) ls
next-lines lines m l ls same i = let e : m + suc i ≡ m + 1 + i = omega arith in same (suc i) ∙ ap (line_at lines) e

this-line : (lines : List (List ℕ)) (m : ℕ) (l : List ℕ) (ls : List (List ℕ)) → AreLinesFrom lines m (l ∷ ls) → line_at lines m ≡ l
this-line lines m l ls same = let e : m ≡ m + 0 = omega arith in ap (line_at lines) e ∙ sym (same 0)

first-scanned : (lines ls : List (List ℕ)) (m n high : ℕ) (p : Pass) → AreLinesFrom lines m ls → n ≡ 1 + m → high ≡ m + length ls → KnowsLabels lines m p.names → Scanned (HasLineFault lines) m high (first_pass n p ls)
first-scanned lines [] m n high p same is end knows = λ i low below k h. absurd (omega arith)
first-scanned lines (l ∷ ls) m n high p same is end knows =
    let here = this-line lines m l ls same in
    scan-step (HasLineFault lines) m n high (after_line p l) (λ q. first_pass (n + 1) q ls) is (omega arith)
    (subst (λ l. Judged (HasLineFault lines m) (after_line p l)) here (line-judged lines m p knows))
    (λ q e. first-scanned lines ls (m + 1) (n + 1) high q (next-lines lines m l ls same) (omega arith) (omega arith)
    (next-knows lines m p q knows (subst (λ l. Passed p l q) (sym here) (line-passed p l q e))))

-- ---- the second pass
-- 1 for a line with a statement
abbrev counted : Bool → ℕ
counted b = if b then 1 else 0

one-further : (x a b c : ℕ) → a ≡ b + c → x + a ≡ x + b + c
one-further x a b c e = omega arith

count-next : (lines : List (List ℕ)) (m : ℕ) → m < length lines → words_before lines (suc m) ≡ words_before lines m + counted (has_statement (line_at lines m))
count-next [] m within = absurd (omega arith)
count-next (l ∷ ls) zero within = omega arith
count-next (l ∷ ls) (suc m) within =
    one-further (counted (has_statement l)) (words_before ls (suc m)) (words_before ls m) (counted (has_statement (line_at ls m))) (count-next ls m (omega arith))

place-next : (place before after : ℕ) (b c : Bool) → place ≡ 4 * before → after ≡ before + counted b → b ≡ c → place + 4 * counted c ≡ 4 * after
place-next place before after true true p q e = omega arith
place-next place before after false false p q e = omega arith
place-next place before after true false p q e = absurd (true≢false e)
place-next place before after false true p q e = absurd (false≢true e)

statement-place : (d : Distances) (text : List ℕ) (w : Option ℕ) (place : ℕ) → word_in d text ≡ Ok w → place_after place w ≡ place + 4 * (if not (is_empty text) then 1 else 0)
unfolding word_in
statement-place d text w place e = word-place (is_empty text) (word_of_statement d text) w place e

second-scanned : (names : Names) (lines ls : List (List ℕ)) (m n high place : ℕ) → AreLinesFrom lines m ls → n ≡ 1 + m → high ≡ m + length ls → high ≡ length lines → place ≡ 4 * words_before lines m
    → Scanned (HasLaterFault names lines) m high (second_pass n names place ls)
second-scanned names lines [] m n high place same is end all at = λ i low below k h. absurd (omega arith)
second-scanned names lines (l ∷ ls) m n high place same is end all at =
    let here = this-line lines m l ls same in
    scan-step (HasLaterFault names lines) m n high (word_of_line names place l) (λ w. second_pass (n + 1) names (place_after place w) ls >>= λ ws. Ok (with_word w ws)) is (omega arith)
    (subst (λ l. Judged (HasLaterFault names lines m) (word_of_line names place l)) here
    (subst (λ (x : ℕ). Judged (HasLaterFault names lines m) (word_of_line names x (line_at lines m))) (sym at) (statement-judged (distances_at names lines m) (statement_at lines m))))
    (λ w e. then-scanned (HasLaterFault names lines) (m + 1) high (with_word w) (second_pass (n + 1) names (place_after place w) ls)
    (second-scanned names lines ls (m + 1) (n + 1) high (place_after place w) (next-lines lines m l ls same) (omega arith) (omega arith) all
    (next-place w e)))
  where
    next-place : (w : Option ℕ) → word_of_line names place l ≡ Ok w → place_after place w ≡ 4 * words_before lines (m + 1)
    next-place w e =
        let further : m + 1 ≡ suc m = omega arith in
        statement-place (distances_from names place) (statement_in (code_in l)) w place e
        ∙ place-next place (words_before lines m) (words_before lines (m + 1)) (has_statement (line_at lines m)) (has_statement l) at
        (ap (words_before lines) further ∙ count-next lines m (omega arith)) (ap has_statement (this-line lines m l ls same))

-- the words of lines, and of each of them that has a statement the word behind those before it
record AreWordsFrom (names : Names) (place : ℕ) (ls : List (List ℕ)) (ws : List ℕ) : Type 0 where
  count : length ws ≡ word_count ls
  each : (i : ℕ) → i < length ls → has_statement (line_at ls i) ≡ true → word_of_statement (distances_from names (place + 4 * words_before ls i)) (statement_at ls i) ≡ Ok (slice_index ws (words_before ls i))

-- a line's word, if it has one
LineWord : (d : Distances) (text : List ℕ) (w : Option ℕ) → Bool → Type 0
LineWord d text (Some x) b = (b ≡ true) × (word_of_statement d text ≡ Ok x)
LineWord d text None b = b ≡ false

line-word : (d : Distances) (text : List ℕ) (w : Option ℕ) → word_in d text ≡ Ok w → LineWord d text w (not (is_empty text))
unfolding word_in LineWord
line-word d [] None e = refl
line-word d [] (Some x) e = absurd cc
line-word d (c ∷ cs) w e = by (word_of_statement d (c ∷ cs)) refl w e
  where
    by : (r : Result ℕ FaultKind) → word_of_statement d (c ∷ cs) ≡ r → (w : Option ℕ) → (r >>= λ w. Ok (Some w)) ≡ Ok w → LineWord d (c ∷ cs) w true
    by (Ok y) is (Some x) e = let same : y ≡ x = cc in (refl, is ∙ ap (λ z. Ok z) same)
    by (Ok y) is None e = absurd cc
    by (Err k) is w e = absurd cc

words-also : (names : Names) (place : ℕ) (l : List ℕ) (ls : List (List ℕ)) (w : Option ℕ) (ws : List ℕ) → LineWord (distances_from names place) (statement_in (code_in l)) w (has_statement l)
    → AreWordsFrom names (place_after place w) ls ws → AreWordsFrom names place (l ∷ ls) (with_word w ws)
unfolding LineWord
words-also names place l ls (Some x) ws is rest =
    let one : counted (has_statement l) ≡ 1 = ap counted is.0 in
    record {
      count = let some = rest.count in omega arith;
      each = λ i. go one i;
    }
  where
    go : counted (has_statement l) ≡ 1 → (i : ℕ) → i < length (l ∷ ls) → has_statement (line_at (l ∷ ls) i) ≡ true
        → word_of_statement (distances_from names (place + 4 * words_before (l ∷ ls) i)) (statement_at (l ∷ ls) i) ≡ Ok (slice_index (x ∷ ws) (words_before (l ∷ ls) i))
    go one zero within has = let none : place + 4 * 0 ≡ place = omega arith in ap (λ (at : ℕ). word_of_statement (distances_from names at) (statement_in (code_in l))) none ∙ is.1
    go one (suc i) within has =
        let at : place + 4 * words_before (l ∷ ls) (suc i) ≡ place + 4 + 4 * words_before ls i = omega arith in
        let behind : words_before (l ∷ ls) (suc i) ≡ suc (words_before ls i) = omega arith in
        ap (λ (at : ℕ). word_of_statement (distances_from names at) (statement_at ls i)) at ∙ rest.each i (omega arith) has ∙ ap (λ (k : ℕ). Ok (slice_index (x ∷ ws) k)) (sym behind)
words-also names place l ls None ws is rest =
    let none : counted (has_statement l) ≡ 0 = ap counted is in
    record {
      count = let some = rest.count in omega arith;
      each = λ i. go none i;
    }
  where
    go : counted (has_statement l) ≡ 0 → (i : ℕ) → i < length (l ∷ ls) → has_statement (line_at (l ∷ ls) i) ≡ true
        → word_of_statement (distances_from names (place + 4 * words_before (l ∷ ls) i)) (statement_at (l ∷ ls) i) ≡ Ok (slice_index ws (words_before (l ∷ ls) i))
    go none zero within has = absurd (true≢false (sym has ∙ is))
    go none (suc i) within has =
        let same : words_before (l ∷ ls) (suc i) ≡ words_before ls i = omega arith in
        ap (λ (k : ℕ). word_of_statement (distances_from names (place + 4 * k)) (statement_at ls i)) same ∙ rest.each i (omega arith) has ∙ ap (λ (k : ℕ). Ok (slice_index ws k)) (sym same)

second-words : (n : ℕ) (names : Names) (place : ℕ) (ls : List (List ℕ)) (ws : List ℕ) → second_pass n names place ls ≡ Ok ws → AreWordsFrom names place ls ws
second-words n names place [] ws e = subst (AreWordsFrom names place []) (same-ok [] ws e) (record { count = refl; each = λ i within. absurd (omega arith) })
second-words n names place (l ∷ ls) ws e =
    let w = then-ok (map_fault (fault n) (word_of_line names place l)) _ ws e in
    let rest = then-ok (second_pass (n + 1) names (place_after place w.0) ls) _ ws w.2 in
    subst (AreWordsFrom names place (l ∷ ls)) (same-ok (with_word w.0 rest.0) ws rest.2)
    (words-also names place l ls w.0 rest.0 (line-word (distances_from names place) (statement_in (code_in l)) w.0 (mapped-ok (fault n) (word_of_line names place l) w.0 w.1))
    (second-words (n + 1) names (place_after place w.0) ls rest.0 rest.1))

-- ---- a text
no-labels : (lines : List (List ℕ)) → KnowsLabels lines 0 no_names
no-labels lines = record { known = λ name place e. absurd cc; kept = λ name h. let never = h.is_before in absurd (omega arith) }

all-lines : (lines : List (List ℕ)) → AreLinesFrom lines 0 lines
all-lines lines i = let e : i ≡ 0 + i = omega arith in ap (line_at lines) e

first-pass : (lines : List (List ℕ)) → Scanned (HasLineFault lines) 0 (length lines) (first_pass 1 (pass no_names 0) lines)
first-pass lines = first-scanned lines lines 0 1 (length lines) (pass no_names 0) (all-lines lines) refl (omega arith) (no-labels lines)

second-pass : (names : Names) (lines : List (List ℕ)) → Scanned (HasLaterFault names lines) 0 (length lines) (second_pass 1 names 0 lines)
second-pass names lines = second-scanned names lines lines 0 1 (length lines) 0 (all-lines lines) refl (omega arith) refl (omega arith)

faultless-by : {A : Type 0} (has_fault : ℕ → FaultKind → Type 0) (lines : List (List ℕ)) (r : Result A AsmFault) (x : A) → r ≡ Ok x → Scanned has_fault 0 (length lines) r → AreFaultless has_fault lines
faultless-by {A} has_fault lines r x e scanned = let none = subst (Scanned {A = A} has_fault 0 (length lines)) e scanned in λ i within k h. none i (omega arith) within k h

first-by : {A : Type 0} (has_fault : ℕ → FaultKind → Type 0) (lines : List (List ℕ)) (r : Result A AsmFault) (f : AsmFault) → r ≡ Err f → Scanned has_fault 0 (length lines) r → IsFirstFault has_fault lines f
first-by {A} has_fault lines r f e scanned =
    let found = subst (Scanned {A = A} has_fault 0 (length lines)) e scanned in
    record { index = found.index; is_line = found.below; is_number = found.is_number; is_fault = found.is_fault; is_first = λ i before k h. found.is_first i (omega arith) before k h }

text-words : EachHasWord → (text ws : List ℕ) → assembled text ≡ Ok ws → IsAssembled (source_lines text) ws
unfolding assembled
text-words law text ws e =
    let lines = source_lines text in
    let p = then-ok (first_pass 1 (pass no_names 0) lines) _ ws e in
    let words = second-words 1 p.0.names 0 lines ws p.2 in
    record {
      names = p.0.names;
      are_places = λ name place. places lines p.0 name place p.1;
      are_words = record {
        count = words.count;
        each = λ i within has. said law (distances_at p.0.names lines i) (statement_at lines i) (slice_index ws (words_before lines i))
            (let at : 0 + 4 * words_before lines i ≡ 4 * words_before lines i = omega arith in
            subst (λ (x : ℕ). word_of_statement (distances_from p.0.names x) (statement_at lines i) ≡ Ok (slice_index ws (words_before lines i))) at (words.each i within has));
      };
      faultless = faultless-by (HasLineFault lines) lines (first_pass 1 (pass no_names 0) lines) p.0 p.1 (first-pass lines);
      faultless_later = faultless-by (HasLaterFault p.0.names lines) lines (second_pass 1 p.0.names 0 lines) ws p.2 (second-pass p.0.names lines);
    }

-- ---- the fault of a text is one
same-fault : (f g : AsmFault) → f.kind ≡ g.kind → f.line ≡ g.line → f ≡ g
same-fault f g k l = λ i. record { kind = k i; line = l i }

one-first : (has_fault : ℕ → FaultKind → Type 0) (lines : List (List ℕ)) (f g : AsmFault) → IsFirstFault has_fault lines f → IsFirstFault has_fault lines g → f ≡ g
one-first has_fault lines f g a b = ⊎_elim
    (λ below. absurd (b.is_first a.index below f.kind a.is_fault.is_there))
    (λ from. ⊎_elim
    (λ above. absurd (a.is_first b.index above g.kind b.is_fault.is_there))
    (λ upto. let same : a.index ≡ b.index = omega arith in
    let there : has_fault a.index g.kind = subst (λ i. has_fault i g.kind) (sym same) b.is_fault.is_there in
    let back : has_fault b.index f.kind = subst (λ i. has_fault i f.kind) same a.is_fault.is_there in
    same-fault f g (same-kind f.kind g.kind (a.is_fault.is_least g.kind there) (b.is_fault.is_least f.kind back))
    (a.is_number ∙ ap (λ (i : ℕ). 1 + i) same ∙ sym b.is_number))
    (cases_lt b.index a.index))
    (cases_lt a.index b.index)

-- names with the same places are one
same-places : (lines : List (List ℕ)) (a b : Names) → AreNamesOf a lines → AreNamesOf b lines → a ≡ b
same-places lines a b p q = λ i name. each name i
  where
    one : (name : List ℕ) (x y : Option ℕ) → a name ≡ x → b name ≡ y → x ≡ y
    one name (Some x) y e h = sym ((q name x).1 ((p name x).0 e)) ∙ h
    one name None (Some y) e h = sym e ∙ (p name y).1 ((q name y).0 h)
    one name None None e h = refl

    each : (name : List ℕ) → a name ≡ b name
    each name = one name (a name) (b name) refl refl

fails : (text : List ℕ) (f : AsmFault) → assembled text ≡ Err f → IsFaultOf (source_lines text) f
unfolding assembled
fails text f e = by (first_pass 1 (pass no_names 0) (source_lines text)) refl e
  where
    by : (r : Result Pass AsmFault) → first_pass 1 (pass no_names 0) (source_lines text) ≡ r → (r >>= λ p. second_pass 1 p.names 0 (source_lines text)) ≡ Err f → IsFaultOf (source_lines text) f
    by (Err g) is e = let same : g ≡ f = cc in at_first (subst (IsFirstFault (HasLineFault (source_lines text)) (source_lines text)) same (first-by (HasLineFault (source_lines text)) (source_lines text) _ g is (first-pass (source_lines text))))
    by (Ok p) is e =
        later p.names (λ name place. places (source_lines text) p name place is)
        (faultless-by (HasLineFault (source_lines text)) (source_lines text) _ p is (first-pass (source_lines text)))
        (first-by (HasLaterFault p.names (source_lines text)) (source_lines text) _ f e (second-pass p.names (source_lines text)))

faults : (text : List ℕ) (f : AsmFault) → IsFaultOf (source_lines text) f → assembled text ≡ Err f
unfolding assembled
faults text f fault_is = by (first_pass 1 (pass no_names 0) (source_lines text)) refl fault_is
  where
    second : (p : Pass) → first_pass 1 (pass no_names 0) (source_lines text) ≡ Ok p → IsFirstFault (HasLaterFault p.names (source_lines text)) (source_lines text) f → (r : Result (List ℕ) AsmFault) → second_pass 1 p.names 0 (source_lines text) ≡ r → r ≡ Err f
    second p is first (Ok ws) e =
        let none = faultless-by (HasLaterFault p.names (source_lines text)) (source_lines text) _ ws e (second-pass p.names (source_lines text)) in
        absurd (none first.index first.is_line f.kind first.is_fault.is_there)
    second p is first (Err g) e = ap (λ h. Err h) (one-first (HasLaterFault p.names (source_lines text)) (source_lines text) g f (first-by (HasLaterFault p.names (source_lines text)) (source_lines text) _ g e (second-pass p.names (source_lines text))) first)

    by : (r : Result Pass AsmFault) → first_pass 1 (pass no_names 0) (source_lines text) ≡ r → IsFaultOf (source_lines text) f → (r >>= λ p. second_pass 1 p.names 0 (source_lines text)) ≡ Err f
    by (Err g) is (at_first first) = ap (λ h. Err h) (one-first (HasLineFault (source_lines text)) (source_lines text) g f (first-by (HasLineFault (source_lines text)) (source_lines text) _ g is (first-pass (source_lines text))) first)
    by (Err g) is (later names placed none first) =
        let found = first-by (HasLineFault (source_lines text)) (source_lines text) _ g is (first-pass (source_lines text)) in
        absurd (none found.index found.is_line g.kind found.is_fault.is_there)
    by (Ok p) is (at_first first) =
        let none = faultless-by (HasLineFault (source_lines text)) (source_lines text) _ p is (first-pass (source_lines text)) in
        absurd (none first.index first.is_line f.kind first.is_fault.is_there)
    by (Ok p) is (later names placed none first) =
        let same : names ≡ p.names = same-places (source_lines text) names p.names placed (λ name place. places (source_lines text) p name place is) in
        second p is (subst (λ (n : Names). IsFirstFault (HasLaterFault n (source_lines text)) (source_lines text) f) same first) (second_pass 1 p.names 0 (source_lines text)) refl

pub text-fault : (text : List ℕ) (f : AsmFault) → (assembled text ≡ Err f) ↔ IsFaultOf (source_lines text) f
text-fault text f = (fails text f, faults text f)

-- ---- the words of a text are one list

-- the line of a word: its statement is behind as many words as the word's number says
record IsLineOf (ls : List (List ℕ)) (j : ℕ) : Type 0 where
  index : ℕ
  is_line : index < length ls
  has : has_statement (line_at ls index) ≡ true
  behind : words_before ls index ≡ j

line-of : (ls : List (List ℕ)) (j : ℕ) → j < word_count ls → IsLineOf ls j
line-of [] j below = absurd (omega arith)
line-of (l ∷ ls) j below = by (λ k low. line-of ls k low) (has_statement l) refl j below
  where
    further : (j k : ℕ) → counted (has_statement l) + j ≡ k → IsLineOf ls j → IsLineOf (l ∷ ls) k
    further j k e r = let within = r.is_line in record { index = suc r.index; is_line = omega arith; has = r.has; behind = ap (λ (n : ℕ). counted (has_statement l) + n) r.behind ∙ e }

    by : ((k : ℕ) → k < word_count ls → IsLineOf ls k) → (b : Bool) → has_statement l ≡ b → (j : ℕ) → j < counted (has_statement l) + word_count ls → IsLineOf (l ∷ ls) j
    by rest true is zero below = record { index = 0; is_line = omega arith; has = is; behind = refl }
    by rest true is (suc j) below = let one : counted (has_statement l) ≡ 1 = ap counted is in further j (suc j) (omega (arith, one)) (rest j (omega (arith, one)))
    by rest false is j below = let none : counted (has_statement l) ≡ 0 = ap counted is in further j j (omega (arith, none)) (rest j (omega (arith, none)))

one-word : EachHasWord → (d : Distances) (text : List ℕ) (v w : ℕ) → StandsForWord d text v → StandsForWord d text w → v ≡ w
one-word law d text v w a b = let same : Ok v ≡ Ok w = sym ((statement-stands law d text v).1 a) ∙ (statement-stands law d text w).1 b in cc

same-words : EachHasWord → (names : Names) (lines : List (List ℕ)) (vs ws : List ℕ) → AreWordsOf names lines vs → AreWordsOf names lines ws → vs ≡ ws
same-words law names lines vs ws a b = ext_get_or 0 vs ws (a.count ∙ sym b.count) (λ j below. at j (line-of lines j (subst (λ (n : ℕ). j < n) a.count below)))
  where
    at : (j : ℕ) → IsLineOf lines j → get_or vs j 0 ≡ get_or ws j 0
    at j l = ap (λ (k : ℕ). get_or vs k 0) (sym l.behind)
        ∙ one-word law (distances_at names lines l.index) (statement_at lines l.index) _ _ (a.each l.index l.is_line l.has) (b.each l.index l.is_line l.has)
        ∙ ap (λ (k : ℕ). get_or ws k 0) l.behind

-- a text whose lines stand for words, and have no fault, has these words
text-words-back : EachHasWord → (text ws : List ℕ) → IsAssembled (source_lines text) ws → assembled text ≡ Ok ws
text-words-back law text ws a = by (assembled text) refl
  where
    no-fault : (f : AsmFault) → IsFaultOf (source_lines text) f → ⊥
    no-fault f (at_first first) = a.faultless first.index first.is_line f.kind first.is_fault.is_there
    no-fault f (later names placed none first) =
        let same : names ≡ a.names = same-places (source_lines text) names a.names placed a.are_places in
        let there = subst (λ (n : Names). HasLaterFault n (source_lines text) first.index f.kind) same first.is_fault.is_there in
        a.faultless_later first.index first.is_line f.kind there

    by : (r : Result (List ℕ) AsmFault) → assembled text ≡ r → assembled text ≡ Ok ws
    by (Err f) e = absurd (no-fault f (fails text f e))
    by (Ok vs) e =
        let b : IsAssembled (source_lines text) vs = text-words law text vs e in
        let same : b.names ≡ a.names = same-places (source_lines text) b.names a.names b.are_places a.are_places in
        let words : AreWordsOf a.names (source_lines text) vs = subst (λ (n : Names). AreWordsOf n (source_lines text) vs) same b.are_words in
        e ∙ ap (λ (l : List ℕ). Ok l) (same-words law a.names (source_lines text) vs ws words a.are_words)

pub text-assembled : EachHasWord → (text ws : List ℕ) → (assembled text ≡ Ok ws) ↔ IsAssembled (source_lines text) ws
text-assembled law text ws = (text-words law text ws, text-words-back law text ws)
