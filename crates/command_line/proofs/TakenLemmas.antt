-- Which options of `judge` are taken, and what they ask for.
use Rattle.std.proofs.Common.{Bool, true, false, ◌≡◌, ◌&&◌, ◌||◌, ◌∙◌, ap, ap₂, refl, sym, [], ◌∷◌, ◌++◌, All, List, Option, Some, None, codes, cond, map, slice_get, append_assoc}
use Rattle.std.specs.Prelude.{fold, is_some, option_map}
use Rattle.std.specs.Option.{option_and_then}
use Rattle.std.specs.Str.{bytes_eq}
use Rattle.std.proofs.lemmas.List.{append-nil}
use Rattle.clap.specs.Walk.{Text, Rule, Row, Names, Walk, idle, walked, nothing_held, finished, settled, walk, walk_from, is_empty, has_row, with_default, row_text, first_of, one_of}
use Rattle.clap.specs.Simple.{App, Shape, built, names_of, entered}
use Rattle.clap.specs.Faults.{fault_of, level_fault, entered_fault, walk_fault, settle_fault, default_fault, given_default_fault, defaults_fault, check_fault}
use Rattle.clap.specs.Kinds.{Kinds, or_else}
use Rattle.clap.proofs.OnLiterals.{clap_on_literals}
use Rattle.digest_core.specs.Name.{digest_named}
use Rattle.digest_core.specs.declared.name.DigestName.{DigestName}
use Rattle.digest_core.specs.declared.name.DigestName.TheVariants.{Sha256, Weak8}
use Rattle.command_line.specs.Words.{command_line, is_taken, command_entered, command_in_words, chosen, match_text_in, judge_in}
use Rattle.command_line.specs.Options.{Given, number, full, digest, workers, posters, every, name_of, words_of, IsOfJudge, given_by, are_taken, text_asked, digest_or, digest_asked, judge_of}
use Rattle.command_line.specs.declared.request.Command.TheVariants.{Judge}
use Rattle.command_line.specs.declared.request.MatchText.{MatchText}
use Rattle.command_line.specs.declared.request.MatchText.TheVariants.{Report, Full}
use Rattle.command_line.proofs.OptionLemmas.{shape, rules, ok, ok-both, and-true, are-of, row_of, taken-from, ends-with, defaulted, row-finished, row-given, name-given}

-- once a command is met, the words after it are its own
abbrev pub at_command : Text → List Text → Walk
at_command name words = record { held = nothing_held; waiting = idle; position = 1; is_trailing = false; stopped = Some (name, words) }

pub collected : (c : List Rule) (names : Names) (name : Text) (before words : List Text) → fold (walked c names) (at_command name before) words ≡ at_command name (before ++ words)
unfolding walked
collected c names name before [] = ap (at_command name) (sym (append-nil before))
collected c names name before (w ∷ ws) = collected c names name (before ++ w ∷ []) ws ∙ ap (at_command name) (append_assoc before (w ∷ []) ws)

pub no-more : (s : Shape) (names : Names) (name : Text) (before words : List Text) → walk_fault s names (at_command name before) words ≡ []
unfolding walked walk_fault
no-more s names name before [] = refl
no-more s names name before (w ∷ ws) = no-more s names name (before ++ w ∷ []) ws

-- the faults of a walk that has ended so
abbrev pub all_faults : App → Walk → Kinds → Kinds
all_faults a w faults =
    or_else faults
    (or_else (entered_fault a w.stopped)
    (or_else (settle_fault a.top.rules a.top.args_override_self w.held)
    (or_else (defaults_fault (settled a.top.rules w.held).rows a.top.rules) (check_fault a.top (finished a.top.rules w.held) (is_some (entered a w.stopped))))))

abbrev pub level : Bool → List Text → Kinds
level big words = level_fault (shape big) [] nothing_held words false []

judge-faults : (program : Text) (words : List Text) → fault_of command_line (program ∷ codes "judge" ∷ words) ≡ or_else (level false words) []
unfolding clap_on_literals command_line
judge-faults program words =
    ap₂ (all_faults (built command_line)) (collected (built command_line).top.rules (names_of (built command_line)) (codes "judge") [] words)
    (no-more (built command_line).top (names_of (built command_line)) (codes "judge") [] words)

abbrev rows_of_words : List Text → List Row
rows_of_words words = finished (rules false) (walk (rules false) [] nothing_held words).held

judge-named : (program : Text) (words : List Text) → command_in_words (program ∷ codes "judge" ∷ words) ≡ judge_in (rows_of_words words)
unfolding clap_on_literals command_line command_in_words
judge-named program words =
    ap (λ (w : Walk). command_entered (entered (built command_line) w.stopped)) (collected (built command_line).top.rules (names_of (built command_line)) (codes "judge") [] words)

-- no default is a fault

abbrev pub is_fine : Rule → Bool
is_fine a = is_empty a.defaults || ok (given_default_fault a a.defaults)

default-ok : (rows : List Row) (a : Rule) (rest : Kinds) → is_fine a ≡ true → ok (or_else (default_fault rows a) rest) ≡ ok rest
default-ok rows a rest fine = by (has_row a.id rows) (is_empty a.defaults) (given_default_fault a a.defaults) fine
  where
    by : (there empty : Bool) (kinds : Kinds) → (empty || ok kinds) ≡ true → ok (or_else (cond (there || empty) [] kinds) rest) ≡ ok rest
    by true empty kinds is = refl
    by false true kinds is = refl
    by false false [] is = refl
    by false false (k ∷ ks) is = absurd (cc is)

abbrev pub AllFine : List Rule → Type 0
AllFine [] = Unit {0}
AllFine (a ∷ later) = (is_fine a ≡ true) × AllFine later

pub defaults-ok : (rows : List Row) (all : List Rule) → AllFine all → ok (defaults_fault rows all) ≡ true
unfolding defaults_fault
defaults-ok rows [] fine = refl
defaults-ok rows (a ∷ later) fine = default-ok rows a (defaults_fault (with_default rows a) later) fine.0 ∙ defaults-ok (with_default rows a) later fine.1

judge-fine : AllFine (rules false)
unfolding clap_on_literals
judge-fine = (refl, (refl, (refl, (refl, (refl, (refl, tt))))))

judge-level : (words : List Text) → ok (level false words)
    ≡ ok (walk_fault (shape false) [] (walk_from nothing_held) words) && ok (settle_fault (rules false) false (walk (rules false) [] nothing_held words).held)
judge-level words =
    let end = (walk (rules false) [] nothing_held words).held in
    let faults = walk_fault (shape false) [] (walk_from nothing_held) words in
    let unsettled = settle_fault (rules false) false end in
    let wrong = defaults_fault (settled (rules false) end).rows (rules false) in
    ok-both faults (or_else unsettled (or_else wrong []))
    ∙ ap (λ b. ok faults && b) (ok-both unsettled (or_else wrong []) ∙ (ap (λ b. ok unsettled && b) (ok-both wrong [] ∙ ap (λ b. b && true) (defaults-ok (settled (rules false) end).rows (rules false) judge-fine)) ∙ and-true (ok unsettled)))

-- what the rows ask for

asks-full : (gs : List Given) → match_text_in (one_of (codes "full") (fold with_default (map row_of gs) (rules false))) ≡ text_asked gs
unfolding clap_on_literals
asks-full gs =
    ap (λ (found : Option Row). match_text_in (option_and_then row_text found)) (row-finished (codes "full") (rules false) (map row_of gs) ∙ ap (defaulted (codes "full") (rules false)) (row-given (codes "full") gs))
    ∙ by (given_by (codes "full") gs) (name-given (codes "full") gs)
  where
    by : (found : Option Given) → ((g : Given) → found ≡ Some g → bytes_eq (name_of g) (codes "full") ≡ true)
        → match_text_in (option_and_then row_text (defaulted (codes "full") (rules false) (option_map row_of found))) ≡ cond (is_some found) Full Report
    by None named = refl
    by (Some full) named = refl
    by (Some (number workers text)) named = absurd (cc (named _ refl))
    by (Some (number posters text)) named = absurd (cc (named _ refl))
    by (Some (number every text)) named = absurd (cc (named _ refl))
    by (Some (digest name)) named = absurd (cc (named _ refl))

asks-digest : (gs : List Given) → option_and_then digest_named (first_of (codes "digest") (fold with_default (map row_of gs) (rules false))) ≡ Some (digest_asked gs)
unfolding clap_on_literals
asks-digest gs =
    ap (λ (found : Option Row). option_and_then digest_named (option_and_then (λ r. slice_get r.values 0) found)) (row-finished (codes "digest") (rules false) (map row_of gs) ∙ ap (defaulted (codes "digest") (rules false)) (row-given (codes "digest") gs))
    ∙ by (given_by (codes "digest") gs) (name-given (codes "digest") gs)
  where
    by : (found : Option Given) → ((g : Given) → found ≡ Some g → bytes_eq (name_of g) (codes "digest") ≡ true)
        → option_and_then digest_named (option_and_then (λ r. slice_get r.values 0) (defaulted (codes "digest") (rules false) (option_map row_of found))) ≡ Some (digest_or found)
    by None named = refl
    by (Some (digest Sha256)) named = refl
    by (Some (digest Weak8)) named = refl
    by (Some full) named = absurd (cc (named _ refl))
    by (Some (number workers text)) named = absurd (cc (named _ refl))
    by (Some (number posters text)) named = absurd (cc (named _ refl))
    by (Some (number every text)) named = absurd (cc (named _ refl))

judge-asked : (gs : List Given) → All IsOfJudge gs → are_taken gs ≡ true → judge_in (rows_of_words (words_of gs)) ≡ Some (judge_of gs)
judge-asked gs of taken =
    ap (λ (rows : List Row). judge_in (fold with_default rows (rules false))) (ends-with false [] [] gs (λ g. refl) (are-of false gs of) taken)
    ∙ ap₂ (λ (text : MatchText) (name : Option DigestName). option_map (Judge text) name) (asks-full gs) (asks-digest gs)

pub judge_options_are_taken : (program : Text) (gs : List Given) → All IsOfJudge gs → chosen (program ∷ codes "judge" ∷ words_of gs) ≡ cond (are_taken gs) (Some (judge_of gs)) None
unfolding is_taken
judge_options_are_taken program gs of =
    ap₂ (λ b c. cond b c None)
    (ap ok (judge-faults program (words_of gs)) ∙ (ok-both (level false (words_of gs)) [] ∙ (and-true (ok (level false (words_of gs))) ∙ (judge-level (words_of gs) ∙ taken-from false [] [] gs (λ g. refl) (are-of false gs of)))))
    (judge-named program (words_of gs))
    ∙ by (are_taken gs) refl
  where
    by : (taken : Bool) → are_taken gs ≡ taken → cond taken (judge_in (rows_of_words (words_of gs))) None ≡ cond taken (Some (judge_of gs)) None
    by true is = judge-asked gs of is
    by false is = refl
