-- Options, one after another: each is judged by its own word, and by whether it was given before.
use Rattle.std.proofs.Common.{ℕ, pos, Bool, true, false, not, ◌≡◌, ◌≤◌, ◌<◌, ◌^◌, ◌&&◌, ◌||◌, ◌∙◌, ap, ap₂, refl, sym, subst, [], ◌∷◌, ◌++◌, All, List, Option, Some, None, append_assoc, codes, cond, map, arith}
use Rattle.std.specs.Prelude.{fold, find, option_map, is_some}
use Rattle.std.specs.Str.{bytes_eq}
use Rattle.std.proofs.lemmas.Bool.Decides.{nat_tests}
use Rattle.std.proofs.lemmas.List.{append-nil, map-append}
use Rattle.std.proofs.lemmas.List.Elements.{All-head, All-tail}
use Rattle.std.proofs.lemmas.Slice.Eq.{bytes_eq-Decides}
use Rattle.clap.specs.Walk.{Text, Rule, Row, Held, Walk, idle, walked, settled, settled_rows, with_values, more_values, without, at_row, has_row, with_default, default_rows, reading_by}
use Rattle.clap.specs.Simple.{Shape, built_leaf}
use Rattle.clap.specs.Faults.{walk_fault, settle_fault, repeat_fault}
use Rattle.clap.specs.Kinds.{Kinds, or_else, value_kinds}
use Rattle.clap.specs.Values.{reading_of}
use Rattle.clap.specs.ValueTests.{is_signed_in}
use Rattle.clap.specs.declared.builder.value_parser.ValueParser.{ValueParser}
use Rattle.clap.specs.declared.builder.value_parser.ValueParser.TheVariants as vp
use Rattle.clap.specs.declared.parser.matches.ValueSource.TheVariants.{CommandLine, DefaultValue}
use Rattle.clap.specs.declared.error.kind.ErrorKind.TheVariants.{ArgumentConflict, ValueValidation}
use Rattle.clap.proofs.OnLiterals.{clap_on_literals}
use Rattle.digest_core.specs.Name.{digest_text}
use Rattle.digest_core.specs.declared.name.DigestName.{DigestName}
use Rattle.digest_core.specs.declared.name.DigestName.TheVariants.{Sha256, Weak8}
use Rattle.command_line.specs.Words.{judge_line, big_line, is_faultless}
use Rattle.command_line.specs.Options.{OptionName, workers, posters, every, Given, number, full, digest, name_of, most_of, option_word, words_of, begins_with_digit, IsOfJudge, IsOfBig, is_fine, given_by, are_taken_after}
use Rattle.command_line.proofs.NumberLemmas.{each_digit, unsigned}

-- the commands with options: judge, and big
abbrev pub shape : Bool → Shape
shape false = built_leaf judge_line.top
shape true = built_leaf big_line.top

abbrev pub rules : Bool → List Rule
rules big = (shape big).rules

-- their options
abbrev pub IsOf : Bool → Given → Type 0
IsOf false = IsOfJudge
IsOf true = IsOfBig

abbrev pub AreOf : Bool → List Given → Type 0
AreOf big [] = Unit {0}
AreOf big (g ∷ gs) = IsOf big g × AreOf big gs

pub are-of : (big : Bool) (gs : List Given) → All (IsOf big) gs → AreOf big gs
are-of big [] all = tt
are-of big (g ∷ gs) all = (All-head (IsOf big) g gs all, are-of big gs (All-tail (IsOf big) g gs all))

-- before a command's options
abbrev pub position : Bool → ℕ
position false = 1
position true = 2

abbrev pub Pending : Type 0
Pending = Option (Text × List Text)

-- between two options: the rows, and the option whose word was read last
abbrev pub held : List Row → Pending → Held
held rows pending = record { rows = rows; pending = pending; skip = 0 }

abbrev pub between : Bool → List Row → Pending → Walk
between big rows pending = record { held = held rows pending; waiting = idle; position = position big; is_trailing = false; stopped = None }

-- what an option's use comes to

abbrev pub parser_of : Given → ValueParser
parser_of (number o text) = vp.Signed (pos 1) (pos (most_of o))
parser_of full = vp.Bool
parser_of (digest name) = vp.String

abbrev pub value_of : Given → Text
value_of (number o text) = text
value_of full = codes "true"
value_of (digest name) = digest_text name

abbrev pub row_of : Given → Row
row_of g = record { id = name_of g; values = value_of g ∷ []; count = None; source = Some CommandLine; reading = reading_of (parser_of g) }

abbrev pub use_kinds : Given → List Row → Kinds
use_kinds g rows = or_else (repeat_fault false (name_of g) rows) (or_else (value_kinds false (parser_of g) (value_of g)) [])

abbrev pub with_use : Given → List Row → List Row
with_use g rows = with_values (name_of g) (reading_of (parser_of g)) CommandLine (value_of g ∷ []) (without (name_of g) rows)

-- its word was read last
abbrev pub last_is : Given → Pending
last_is g = Some (name_of g, value_of g ∷ [])

use-number : (big : Bool) (o : OptionName) (text : Text) (rows : List Row) → settle_fault (rules big) false (held rows (last_is (number o text))) ≡ use_kinds (number o text) rows
use-number false workers text rows = refl
use-number false posters text rows = refl
use-number false every text rows = refl
use-number true workers text rows = refl
use-number true posters text rows = refl
use-number true every text rows = refl

used-number : (big : Bool) (o : OptionName) (text : Text) (rows : List Row) → settled_rows (rules big) (last_is (number o text)) rows ≡ with_use (number o text) rows
used-number false workers text rows = refl
used-number false posters text rows = refl
used-number false every text rows = refl
used-number true workers text rows = refl
used-number true posters text rows = refl
used-number true every text rows = refl

use-digest : (name : DigestName) (rows : List Row) → settle_fault (rules false) false (held rows (last_is (digest name))) ≡ use_kinds (digest name) rows
use-digest name rows = refl

used-digest : (name : DigestName) (rows : List Row) → settled_rows (rules false) (last_is (digest name)) rows ≡ with_use (digest name) rows
used-digest name rows = refl

-- an option and its number are walked

abbrev Walks : Bool → OptionName → Text → List Row → Pending → ℕ → Type 0
Walks big o rest rows pending x =
    walked (rules big) [] (walked (rules big) [] (between big rows pending) (option_word o)) (x ∷ rest) ≡ between big (settled_rows (rules big) pending rows) (last_is (number o (x ∷ rest)))

walks : (big : Bool) (o : OptionName) (rest : Text) (rows : List Row) (pending : Pending) (x : ℕ) → 48 ≤ x → x ≤ 57 → Walks big o rest rows pending x
unfolding clap_on_literals
walks false workers rest rows pending = each_digit (Walks false workers rest rows pending) refl refl refl refl refl refl refl refl refl refl
walks false posters rest rows pending = each_digit (Walks false posters rest rows pending) refl refl refl refl refl refl refl refl refl refl
walks false every rest rows pending = each_digit (Walks false every rest rows pending) refl refl refl refl refl refl refl refl refl refl
walks true workers rest rows pending = each_digit (Walks true workers rest rows pending) refl refl refl refl refl refl refl refl refl refl
walks true posters rest rows pending = each_digit (Walks true posters rest rows pending) refl refl refl refl refl refl refl refl refl refl
walks true every rest rows pending = each_digit (Walks true every rest rows pending) refl refl refl refl refl refl refl refl refl refl

abbrev FaultsOf : Bool → OptionName → Text → List Row → Pending → List Text → ℕ → Type 0
FaultsOf big o rest rows pending ws x =
    walk_fault (shape big) [] (between big rows pending) (option_word o ∷ (x ∷ rest) ∷ ws)
    ≡ or_else (or_else (settle_fault (rules big) false (held rows pending)) [])
    (walk_fault (shape big) [] (between big (settled_rows (rules big) pending rows) (last_is (number o (x ∷ rest)))) ws)

faults-of : (big : Bool) (o : OptionName) (rest : Text) (rows : List Row) (pending : Pending) (ws : List Text) (x : ℕ) → 48 ≤ x → x ≤ 57 → FaultsOf big o rest rows pending ws x
unfolding clap_on_literals
faults-of false workers rest rows pending ws = each_digit (FaultsOf false workers rest rows pending ws) refl refl refl refl refl refl refl refl refl refl
faults-of false posters rest rows pending ws = each_digit (FaultsOf false posters rest rows pending ws) refl refl refl refl refl refl refl refl refl refl
faults-of false every rest rows pending ws = each_digit (FaultsOf false every rest rows pending ws) refl refl refl refl refl refl refl refl refl refl
faults-of true workers rest rows pending ws = each_digit (FaultsOf true workers rest rows pending ws) refl refl refl refl refl refl refl refl refl refl
faults-of true posters rest rows pending ws = each_digit (FaultsOf true posters rest rows pending ws) refl refl refl refl refl refl refl refl refl refl
faults-of true every rest rows pending ws = each_digit (FaultsOf true every rest rows pending ws) refl refl refl refl refl refl refl refl refl refl

pub digit-from : (x : ℕ) (rest : Text) → begins_with_digit (x ∷ rest) ≡ true → 48 ≤ x
digit-from x rest digit = grind (arith, nat_tests)

pub digit-to : (x : ℕ) (rest : Text) → begins_with_digit (x ∷ rest) ≡ true → x ≤ 57
digit-to x rest digit = grind (arith, nat_tests)

walks-number : (big : Bool) (o : OptionName) (text : Text) (rows : List Row) (pending : Pending) → begins_with_digit text ≡ true
    → walked (rules big) [] (walked (rules big) [] (between big rows pending) (option_word o)) text ≡ between big (settled_rows (rules big) pending rows) (last_is (number o text))
walks-number big o [] rows pending digit = absurd (cc digit)
walks-number big o (x ∷ rest) rows pending digit = walks big o rest rows pending x (digit-from x rest digit) (digit-to x rest digit)

faults-number : (big : Bool) (o : OptionName) (text : Text) (rows : List Row) (pending : Pending) (ws : List Text) → begins_with_digit text ≡ true
    → walk_fault (shape big) [] (between big rows pending) (option_word o ∷ text ∷ ws)
    ≡ or_else (or_else (settle_fault (rules big) false (held rows pending)) []) (walk_fault (shape big) [] (between big (settled_rows (rules big) pending rows) (last_is (number o text))) ws)
faults-number big o [] rows pending ws digit = absurd (cc digit)
faults-number big o (x ∷ rest) rows pending ws digit = faults-of big o rest rows pending ws x (digit-from x rest digit) (digit-to x rest digit)

-- a digest and its name

walks-digest : (name : DigestName) (rows : List Row) (pending : Pending)
    → walked (rules false) [] (walked (rules false) [] (between false rows pending) (codes "--digest")) (digest_text name) ≡ between false (settled_rows (rules false) pending rows) (last_is (digest name))
unfolding clap_on_literals
walks-digest Sha256 rows pending = refl
walks-digest Weak8 rows pending = refl

faults-digest : (name : DigestName) (rows : List Row) (pending : Pending) (ws : List Text)
    → walk_fault (shape false) [] (between false rows pending) (codes "--digest" ∷ digest_text name ∷ ws)
    ≡ or_else (or_else (settle_fault (rules false) false (held rows pending)) []) (walk_fault (shape false) [] (between false (settled_rows (rules false) pending rows) (last_is (digest name))) ws)
unfolding clap_on_literals
faults-digest Sha256 rows pending ws = refl
faults-digest Weak8 rows pending ws = refl

-- `--full` is used as soon as it is read

walks-full : (rows : List Row) (pending : Pending) → walked (rules false) [] (between false rows pending) (codes "--full") ≡ between false (with_use full (settled_rows (rules false) pending rows)) None
unfolding clap_on_literals
walks-full rows pending = refl

faults-full : (rows : List Row) (pending : Pending) (ws : List Text)
    → walk_fault (shape false) [] (between false rows pending) (codes "--full" ∷ ws)
    ≡ or_else (or_else (or_else (settle_fault (rules false) false (held rows pending)) (use_kinds full (settled_rows (rules false) pending rows))) [])
    (walk_fault (shape false) [] (between false (with_use full (settled_rows (rules false) pending rows)) None) ws)
unfolding clap_on_literals
faults-full rows pending ws = refl

-- whether the words of options are taken, after those before and one whose word was read last

abbrev pub ok : Kinds → Bool
ok kinds = is_faultless kinds

pub ok-both : (first second : Kinds) → ok (or_else first second) ≡ ok first && ok second
ok-both [] second = refl
ok-both (k ∷ ks) second = refl

pub and-true : (a : Bool) → (a && true) ≡ a
and-true true = refl
and-true false = refl

pub and-grouped : (a b c : Bool) → ((a && b) && c) ≡ (a && (b && c))
and-grouped true b c = refl
and-grouped false b c = refl

abbrev pub end : Bool → List Row → Pending → List Text → Walk
end big rows pending ws = fold (walked (rules big) []) (between big rows pending) ws

abbrev faults : Bool → List Row → Pending → List Given → Bool
faults big rows pending gs = ok (walk_fault (shape big) [] (between big rows pending) (words_of gs))

abbrev unsettled : Bool → List Row → Pending → List Given → Bool
unsettled big rows pending gs = ok (settle_fault (rules big) false (end big rows pending (words_of gs)).held)

abbrev pub FaultsFrom : Bool → List Row → Pending → List Given → Bool
FaultsFrom big rows pending gs = faults big rows pending gs && unsettled big rows pending gs

-- what comes of an option, over the rows of those before
abbrev Next : Bool → List Row → Given → List Given → Bool
Next big rows (number o text) gs = FaultsFrom big rows (last_is (number o text)) gs
Next big rows full gs = ok (use_kinds full rows) && FaultsFrom big (with_use full rows) None gs
Next big rows (digest name) gs = FaultsFrom big rows (last_is (digest name)) gs

no-words : (big : Bool) (w : Walk) → walk_fault (shape big) [] w [] ≡ []
unfolding walk_fault
no-words big w = refl

-- an option with a word
word-step : (big : Bool) (w : Walk) (rows later : List Row) (pending next : Pending) (gs more : List Given)
    → walk_fault (shape big) [] w (words_of more) ≡ or_else (or_else (settle_fault (rules big) false (held rows pending)) []) (walk_fault (shape big) [] (between big later next) (words_of gs))
    → fold (walked (rules big) []) w (words_of more) ≡ end big later next (words_of gs)
    → (ok (walk_fault (shape big) [] w (words_of more)) && ok (settle_fault (rules big) false (fold (walked (rules big) []) w (words_of more)).held))
    ≡ ok (settle_fault (rules big) false (held rows pending)) && FaultsFrom big later next gs
word-step big w rows later pending next gs more step goes =
    let used = settle_fault (rules big) false (held rows pending) in
    let rest = walk_fault (shape big) [] (between big later next) (words_of gs) in
    let first : ok (walk_fault (shape big) [] w (words_of more)) ≡ ok used && ok rest =
    ap ok step ∙ (ok-both (or_else used []) rest ∙ ap (λ b. b && ok rest) (ok-both used [] ∙ and-true (ok used))) in
    ap₂ (λ (a b : Bool). a && b) first (ap (λ (x : Walk). ok (settle_fault (rules big) false x.held)) goes) ∙ and-grouped (ok used) (ok rest) _

first-step : (big : Bool) (g : Given) (rows : List Row) (pending : Pending) (gs : List Given) → IsOf big g
    → FaultsFrom big rows pending (g ∷ gs) ≡ ok (settle_fault (rules big) false (held rows pending)) && Next big (settled_rows (rules big) pending rows) g gs
first-step false (number o text) rows pending gs of =
    word-step false (between false rows pending) rows (settled_rows (rules false) pending rows) pending (last_is (number o text)) gs (number o text ∷ gs)
    (faults-number false o text rows pending (words_of gs) of) (ap (λ (w : Walk). fold (walked (rules false) []) w (words_of gs)) (walks-number false o text rows pending of))
first-step true (number o text) rows pending gs of =
    word-step true (between true rows pending) rows (settled_rows (rules true) pending rows) pending (last_is (number o text)) gs (number o text ∷ gs)
    (faults-number true o text rows pending (words_of gs) of) (ap (λ (w : Walk). fold (walked (rules true) []) w (words_of gs)) (walks-number true o text rows pending of))
first-step false (digest name) rows pending gs of =
    word-step false (between false rows pending) rows (settled_rows (rules false) pending rows) pending (last_is (digest name)) gs (digest name ∷ gs)
    (faults-digest name rows pending (words_of gs)) (ap (λ (w : Walk). fold (walked (rules false) []) w (words_of gs)) (walks-digest name rows pending))
first-step true (digest name) rows pending gs of = absurd of
first-step true full rows pending gs of = absurd of
first-step false full rows pending gs of =
    let before = settle_fault (rules false) false (held rows pending) in
    let later = settled_rows (rules false) pending rows in
    let used = use_kinds full later in
    let rest = walk_fault (shape false) [] (between false (with_use full later) None) (words_of gs) in
    let first : faults false rows pending (full ∷ gs) ≡ (ok before && ok used) && ok rest =
    ap ok (faults-full rows pending (words_of gs))
    ∙ (ok-both (or_else (or_else before used) []) rest ∙ ap (λ b. b && ok rest) (ok-both (or_else before used) [] ∙ (and-true (ok (or_else before used)) ∙ ok-both before used))) in
    let last : unsettled false rows pending (full ∷ gs) ≡ unsettled false (with_use full later) None gs =
    ap (λ (w : Walk). ok (settle_fault (rules false) false (fold (walked (rules false) []) w (words_of gs)).held)) (walks-full rows pending) in
    ap₂ (λ (a b : Bool). a && b) first last
    ∙ (and-grouped (ok before && ok used) (ok rest) (unsettled false (with_use full later) None gs)
    ∙ and-grouped (ok before) (ok used) (ok rest && unsettled false (with_use full later) None gs))

-- what is pending may be used first
pub settle-first : (big : Bool) (pending : Pending) (rows later : List Row) (used : Kinds) (gs : List Given) → AreOf big gs
    → settle_fault (rules big) false (held rows pending) ≡ used → settled_rows (rules big) pending rows ≡ later
    → FaultsFrom big rows pending gs ≡ ok used && FaultsFrom big later None gs
settle-first big pending rows later used [] of is goes =
    ap₂ (λ (a b : Bool). a && b) (ap ok (no-words big (between big rows pending))) (ap ok is)
    ∙ (sym (and-true (ok used)) ∙ ap (λ (kinds : Kinds). ok used && (ok kinds && true)) (sym (no-words big (between big later None))))
settle-first big pending rows later used (g ∷ gs) of is goes =
    first-step big g rows pending gs of.0
    ∙ (ap₂ (λ (kinds : Kinds) (rs : List Row). ok kinds && Next big rs g gs) is goes
    ∙ ap (λ b. ok used && b) (sym (first-step big g later None gs of.0)))

one-step : (big : Bool) (g : Given) (rows : List Row) (gs : List Given) → IsOf big g → AreOf big gs → FaultsFrom big rows None (g ∷ gs) ≡ ok (use_kinds g rows) && FaultsFrom big (with_use g rows) None gs
one-step big (number o text) rows gs of ofs =
    first-step big (number o text) rows None gs of ∙ settle-first big (last_is (number o text)) rows _ _ gs ofs (use-number big o text rows) (used-number big o text rows)
one-step false (digest name) rows gs of ofs =
    first-step false (digest name) rows None gs of ∙ settle-first false (last_is (digest name)) rows _ _ gs ofs (use-digest name rows) (used-digest name rows)
one-step true (digest name) rows gs of ofs = absurd of
one-step big full rows gs of ofs = first-step big full rows None gs of

-- the rows at the end

abbrev pub rows_from : Bool → List Row → Pending → List Given → List Row
rows_from big rows pending gs = (settled (rules big) (end big rows pending (words_of gs)).held).rows

abbrev next_rows : Bool → List Row → Given → List Given → List Row
next_rows big rows (number o text) gs = rows_from big rows (last_is (number o text)) gs
next_rows big rows full gs = rows_from big (with_use full rows) None gs
next_rows big rows (digest name) gs = rows_from big rows (last_is (digest name)) gs

first-rows : (big : Bool) (g : Given) (rows : List Row) (pending : Pending) (gs : List Given) → IsOf big g → rows_from big rows pending (g ∷ gs) ≡ next_rows big (settled_rows (rules big) pending rows) g gs
first-rows false (number o text) rows pending gs of = ap (λ (w : Walk). (settled (rules false) (fold (walked (rules false) []) w (words_of gs)).held).rows) (walks-number false o text rows pending of)
first-rows true (number o text) rows pending gs of = ap (λ (w : Walk). (settled (rules true) (fold (walked (rules true) []) w (words_of gs)).held).rows) (walks-number true o text rows pending of)
first-rows false (digest name) rows pending gs of = ap (λ (w : Walk). (settled (rules false) (fold (walked (rules false) []) w (words_of gs)).held).rows) (walks-digest name rows pending)
first-rows false full rows pending gs of = ap (λ (w : Walk). (settled (rules false) (fold (walked (rules false) []) w (words_of gs)).held).rows) (walks-full rows pending)
first-rows true (digest name) rows pending gs of = absurd of
first-rows true full rows pending gs of = absurd of

pub settled-first : (big : Bool) (pending : Pending) (rows later : List Row) (gs : List Given) → AreOf big gs → settled_rows (rules big) pending rows ≡ later
    → rows_from big rows pending gs ≡ rows_from big later None gs
settled-first big pending rows later [] of goes = goes
settled-first big pending rows later (g ∷ gs) of goes =
    first-rows big g rows pending gs of.0 ∙ (ap (λ rs. next_rows big rs g gs) goes ∙ sym (first-rows big g later None gs of.0))

one-row : (big : Bool) (g : Given) (rows : List Row) (gs : List Given) → IsOf big g → AreOf big gs → rows_from big rows None (g ∷ gs) ≡ rows_from big (with_use g rows) None gs
one-row big (number o text) rows gs of ofs = first-rows big (number o text) rows None gs of ∙ settled-first big (last_is (number o text)) rows _ gs ofs (used-number big o text rows)
one-row false (digest name) rows gs of ofs = first-rows false (digest name) rows None gs of ∙ settled-first false (last_is (digest name)) rows _ gs ofs (used-digest name rows)
one-row true (digest name) rows gs of ofs = absurd of
one-row big full rows gs of ofs = first-rows big full rows None gs of

-- rows

pub at-no-row : (id : Text) (change : Row → List Row) (missing rows : List Row) → has_row id rows ≡ false → at_row id change missing rows ≡ rows ++ missing
at-no-row id change missing [] none = refl
at-no-row id change missing (r ∷ rs) none = by (bytes_eq r.id id) none (at-no-row id change missing rs)
  where
    by : (same : Bool) → (same || has_row id rs) ≡ false → (has_row id rs ≡ false → at_row id change missing rs ≡ rs ++ missing)
        → cond same (change r ++ rs) (r ∷ at_row id change missing rs) ≡ (r ∷ rs) ++ missing
    by true is rest = absurd (cc is)
    by false is rest = ap (λ xs. r ∷ xs) (rest is)

use-added : (g : Given) (rows : List Row) → has_row (name_of g) rows ≡ false → with_use g rows ≡ rows ++ row_of g ∷ []
use-added g rows none =
    let same : without (name_of g) rows ≡ rows = at-no-row (name_of g) (λ r. []) [] rows none ∙ append-nil rows in
    ap (λ xs. with_values (name_of g) (reading_of (parser_of g)) CommandLine (value_of g ∷ []) xs) same
    ∙ at-no-row (name_of g) (more_values CommandLine (value_of g ∷ [])) (row_of g ∷ []) rows none

-- the rows are those of the options so far, behind others that no option has

has-given : (name : Text) (base : List Row) (before : List Given) → has_row name base ≡ false → has_row name (base ++ map row_of before) ≡ is_some (given_by name before)
has-given name [] [] none = refl
has-given name [] (g ∷ gs) none = by (bytes_eq (name_of g) name) (has-given name [] gs refl)
  where
    by : (same : Bool) → has_row name (map row_of gs) ≡ is_some (given_by name gs) → (same || has_row name (map row_of gs)) ≡ is_some (cond same (Some g) (given_by name gs))
    by true rest = refl
    by false rest = rest
has-given name (r ∷ rs) before none = by (bytes_eq r.id name) none (has-given name rs before)
  where
    by : (same : Bool) → (same || has_row name rs) ≡ false → (has_row name rs ≡ false → has_row name (rs ++ map row_of before) ≡ is_some (given_by name before))
        → (same || has_row name (rs ++ map row_of before)) ≡ is_some (given_by name before)
    by true is rest = absurd (cc is)
    by false is rest = rest is

one-more : (base : List Row) (before : List Given) (g : Given) → (base ++ map row_of before) ++ row_of g ∷ [] ≡ base ++ map row_of (before ++ g ∷ [])
one-more base before g = append_assoc base (map row_of before) (row_of g ∷ []) ∙ ap (λ rs. base ++ rs) (sym (map-append row_of before (g ∷ [])))

repeat-ok : (name : Text) (rows : List Row) (there : Bool) → has_row name rows ≡ there → ok (repeat_fault false name rows) ≡ not there
repeat-ok name rows there is = by (has_row name rows) ∙ ap not is
  where
    by : (there : Bool) → ok (cond (there && true) (ArgumentConflict ∷ []) []) ≡ not there
    by true = refl
    by false = refl

value-ok : (g : Given) → IsOfJudge g → ok (or_else (value_kinds false (parser_of g) (value_of g)) []) ≡ is_fine g
value-ok (number o []) digit = absurd (cc digit)
value-ok (number o (x ∷ rest)) digit = by (is_signed_in (pos 1) (pos (most_of o)) (x ∷ rest)) ∙ unsigned rest 1 (most_of o) (few o) x (digit-from x rest digit) (digit-to x rest digit)
  where
    by : (accepted : Bool) → ok (or_else (cond accepted [] (ValueValidation ∷ [])) []) ≡ accepted
    by true = refl
    by false = refl

    few : (p : OptionName) → most_of p < 2 ^ 63
    few workers = omega arith
    few posters = omega arith
    few every = omega arith
value-ok full digit = refl
value-ok (digest name) digit = refl

of-judge : (big : Bool) (g : Given) → IsOf big g → IsOfJudge g
of-judge false g of = of
of-judge true (number o text) of = of
of-judge true full of = absurd of
of-judge true (digest name) of = absurd of

abbrev pub IsBase : List Row → Type 0
IsBase base = (g : Given) → has_row (name_of g) base ≡ false

use-ok : (big : Bool) (base : List Row) (before : List Given) (g : Given) → IsBase base → IsOf big g
    → ok (use_kinds g (base ++ map row_of before)) ≡ not (is_some (given_by (name_of g) before)) && is_fine g
use-ok big base before g apart of =
    ok-both (repeat_fault false (name_of g) (base ++ map row_of before)) (or_else (value_kinds false (parser_of g) (value_of g)) [])
    ∙ ap₂ (λ (a b : Bool). a && b) (repeat-ok (name_of g) (base ++ map row_of before) _ (has-given (name_of g) base before (apart g))) (value-ok g (of-judge big g of))

rows-added : (base : List Row) (before : List Given) (g : Given) → IsBase base → is_some (given_by (name_of g) before) ≡ false → with_use g (base ++ map row_of before) ≡ base ++ map row_of (before ++ g ∷ [])
rows-added base before g apart none = use-added g (base ++ map row_of before) (has-given (name_of g) base before (apart g) ∙ none) ∙ one-more base before g

guarded : (a b l r : Bool) → (a ≡ true → b ≡ true → l ≡ r) → ((a && b) && l) ≡ (a && (b && r))
guarded true true l r same = same refl refl
guarded true false l r same = refl
guarded false b l r same = refl

not-there : (b : Bool) → not b ≡ true → b ≡ false
not-there true is = absurd (cc is)
not-there false is = refl

-- a list of options is taken where each is
pub taken-from : (big : Bool) (base : List Row) (before gs : List Given) → IsBase base → AreOf big gs → FaultsFrom big (base ++ map row_of before) None gs ≡ are_taken_after before gs
taken-from big base before [] apart of = ap (λ (kinds : Kinds). ok kinds && true) (no-words big (between big (base ++ map row_of before) None))
taken-from big base before (g ∷ gs) apart of =
    one-step big g (base ++ map row_of before) gs of.0 of.1
    ∙ (ap (λ b. b && FaultsFrom big (with_use g (base ++ map row_of before)) None gs) (use-ok big base before g apart of.0)
    ∙ guarded (not (is_some (given_by (name_of g) before))) (is_fine g) _ _
    (λ free fits. ap (λ rs. FaultsFrom big rs None gs) (rows-added base before g apart (not-there _ free)) ∙ taken-from big base (before ++ g ∷ []) gs apart of.1))

first-of : (a b c : Bool) → (a && (b && c)) ≡ true → a ≡ true
first-of true b c is = refl
first-of false b c is = is

last-of : (a b c : Bool) → (a && (b && c)) ≡ true → c ≡ true
last-of true true c is = is
last-of true false c is = absurd (cc is)
last-of false b c is = absurd (cc is)

-- and then the rows are theirs
pub ends-with : (big : Bool) (base : List Row) (before gs : List Given) → IsBase base → AreOf big gs → are_taken_after before gs ≡ true
    → rows_from big (base ++ map row_of before) None gs ≡ base ++ map row_of (before ++ gs)
ends-with big base before [] apart of taken = ap (λ hs. base ++ map row_of hs) (sym (append-nil before))
ends-with big base before (g ∷ gs) apart of taken =
    one-row big g (base ++ map row_of before) gs of.0 of.1
    ∙ (ap (λ rs. rows_from big rs None gs) (rows-added base before g apart (not-there _ (first-of (not (is_some (given_by (name_of g) before))) (is_fine g) _ taken)))
    ∙ (ends-with big base (before ++ g ∷ []) gs apart of.1 (last-of (not (is_some (given_by (name_of g) before))) (is_fine g) _ taken)
    ∙ ap (λ hs. base ++ map row_of hs) (append_assoc before (g ∷ []) gs)))

-- a row by its name, once an option that isn't there has got its default

abbrev pub row_at : Text → List Row → Option Row
row_at id rows = find (λ r. bytes_eq r.id id) rows

abbrev pub or_row : Option Row → Row → Option Row
or_row (Some r) row = Some r
or_row None row = Some row

row-at-end : (id : Text) (row : Row) (rows : List Row) → row_at id (rows ++ row ∷ []) ≡ cond (has_row id rows) (row_at id rows) (cond (bytes_eq row.id id) (Some row) None)
row-at-end id row [] = refl
row-at-end id row (r ∷ rs) = by (bytes_eq r.id id) (row-at-end id row rs)
  where
    by : (same : Bool) → row_at id (rs ++ row ∷ []) ≡ cond (has_row id rs) (row_at id rs) (cond (bytes_eq row.id id) (Some row) None)
        → cond same (Some r) (row_at id (rs ++ row ∷ [])) ≡ cond (same || has_row id rs) (cond same (Some r) (row_at id rs)) (cond (bytes_eq row.id id) (Some row) None)
    by true rest = refl
    by false rest = rest

has-row-at : (id : Text) (rows : List Row) → has_row id rows ≡ is_some (row_at id rows)
has-row-at id [] = refl
has-row-at id (r ∷ rs) = by (bytes_eq r.id id) (has-row-at id rs)
  where
    by : (same : Bool) → has_row id rs ≡ is_some (row_at id rs) → (same || has_row id rs) ≡ is_some (cond same (Some r) (row_at id rs))
    by true rest = refl
    by false rest = rest

abbrev added_row : Rule → Text → List Text → Row
added_row a v vs = record { id = a.id; values = v ∷ vs; count = None; source = Some DefaultValue; reading = reading_by a }

abbrev or_default : Rule → List Text → Option Row → Option Row
or_default a [] found = found
or_default a (v ∷ vs) found = or_row found (added_row a v vs)

-- another's default changes nothing
default-apart : (id : Text) (a : Rule) (rows : List Row) → bytes_eq a.id id ≡ false → row_at id (with_default rows a) ≡ row_at id rows
default-apart id a rows apart = by (has_row a.id rows) refl
  where
    none-then : (row : Row) (found : Option Row) → bytes_eq row.id id ≡ false → cond (is_some found) found (cond (bytes_eq row.id id) (Some row) None) ≡ found
    none-then row (Some r) other = refl
    none-then row None other = ap (λ same. cond same (Some row) None) other

    more : (values : List Text) → has_row a.id rows ≡ false → row_at id (default_rows a.id (reading_by a) values rows) ≡ row_at id rows
    more [] none = refl
    more (v ∷ vs) none =
        ap (row_at id) (at-no-row a.id (more_values DefaultValue (v ∷ vs)) (added_row a v vs ∷ []) rows none)
        ∙ (row-at-end id (added_row a v vs) rows
        ∙ (ap (λ there. cond there (row_at id rows) (cond (bytes_eq a.id id) (Some (added_row a v vs)) None)) (has-row-at id rows) ∙ none-then (added_row a v vs) (row_at id rows) apart))

    by : (there : Bool) → has_row a.id rows ≡ there → row_at id (cond there rows (default_rows a.id (reading_by a) a.defaults rows)) ≡ row_at id rows
    by true is = refl
    by false is = more a.defaults is

default-own : (a : Rule) (rows : List Row) → bytes_eq a.id a.id ≡ true → row_at a.id (with_default rows a) ≡ or_default a a.defaults (row_at a.id rows)
default-own a rows same = by (has_row a.id rows) refl a.defaults
  where
    there-is : (values : List Text) (found : Option Row) → is_some found ≡ true → found ≡ or_default a values found
    there-is [] found is = refl
    there-is (v ∷ vs) (Some r) is = refl
    there-is (v ∷ vs) None is = absurd (cc is)

    added : (row : Row) (found : Option Row) → is_some found ≡ false → cond (is_some found) found (Some row) ≡ or_row found row
    added row (Some r) is = absurd (cc is)
    added row None is = refl

    by : (there : Bool) → has_row a.id rows ≡ there → (values : List Text) → row_at a.id (cond there rows (default_rows a.id (reading_by a) values rows)) ≡ or_default a values (row_at a.id rows)
    by true is values = there-is values (row_at a.id rows) (sym (has-row-at a.id rows) ∙ is)
    by false is [] = refl
    by false is (v ∷ vs) =
        ap (row_at a.id) (at-no-row a.id (more_values DefaultValue (v ∷ vs)) (added_row a v vs ∷ []) rows is)
        ∙ (row-at-end a.id (added_row a v vs) rows
        ∙ (ap₂ (λ there own. cond there (row_at a.id rows) (cond own (Some (added_row a v vs)) None)) (has-row-at a.id rows) same
        ∙ added (added_row a v vs) (row_at a.id rows) (sym (has-row-at a.id rows) ∙ is)))

-- one default after another

abbrev with_own : Bool → Rule → Option Row → Option Row
with_own own a found = cond own (or_default a a.defaults found) found

abbrev pub defaulted : Text → List Rule → Option Row → Option Row
defaulted id [] found = found
defaulted id (a ∷ all) found = defaulted id all (with_own (bytes_eq a.id id) a found)

one-default : (id : Text) (a : Rule) (rows : List Row) → row_at id (with_default rows a) ≡ with_own (bytes_eq a.id id) a (row_at id rows)
one-default id a rows = by (bytes_eq a.id id) refl
  where
    by : (own : Bool) → bytes_eq a.id id ≡ own → row_at id (with_default rows a) ≡ with_own own a (row_at id rows)
    by true is =
        let same : a.id ≡ id = (bytes_eq-Decides a.id id).0 is in
        subst (λ name. row_at name (with_default rows a) ≡ or_default a a.defaults (row_at name rows)) same
        (default-own a rows (ap (bytes_eq a.id) same ∙ is))
    by false is = default-apart id a rows is

pub row-finished : (id : Text) (all : List Rule) (rows : List Row) → row_at id (fold with_default rows all) ≡ defaulted id all (row_at id rows)
row-finished id [] rows = refl
row-finished id (a ∷ all) rows = row-finished id all (with_default rows a) ∙ ap (defaulted id all) (one-default id a rows)

-- the row of an option that was given
pub row-given : (id : Text) (gs : List Given) → row_at id (map row_of gs) ≡ option_map row_of (given_by id gs)
row-given id [] = refl
row-given id (g ∷ gs) = by (bytes_eq (name_of g) id) (row-given id gs)
  where
    by : (same : Bool) → row_at id (map row_of gs) ≡ option_map row_of (given_by id gs) → cond same (Some (row_of g)) (row_at id (map row_of gs)) ≡ option_map row_of (cond same (Some g) (given_by id gs))
    by true rest = refl
    by false rest = rest

-- an option that was given by its name has it
pub name-given : (id : Text) (gs : List Given) (g : Given) → given_by id gs ≡ Some g → bytes_eq (name_of g) id ≡ true
name-given id [] g is = absurd (cc is)
name-given id (h ∷ gs) g is = by (bytes_eq (name_of h) id) refl is (λ later. name-given id gs g later)
  where
    by : (same : Bool) → bytes_eq (name_of h) id ≡ same → cond same (Some h) (given_by id gs) ≡ Some g → (given_by id gs ≡ Some g → bytes_eq (name_of g) id ≡ true) → bytes_eq (name_of g) id ≡ true
    by true own e rest = (let h_is : h ≡ g = cc e in subst (λ x. bytes_eq (name_of x) id ≡ true) h_is own)
    by false own e rest = rest e
