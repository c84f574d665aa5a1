-- Which options of `big` are taken, after its seed.
use Rattle.std.proofs.Common.{ℕ, pos, Bool, true, false, not, ◌≡◌, ◌≤◌, ◌&&◌, ◌||◌, ◌∙◌, ap, ap₂, refl, sym, subst, [], ◌∷◌, All, List, Option, Some, None, codes, cond, map, arith}
use Rattle.std.specs.Prelude.{fold, option_map}
use Rattle.std.specs.Option.{option_and_then, option_map_or}
use Rattle.clap.specs.Walk.{Text, Row, Walk, walked, nothing_held, finished, settled, walk, walk_from, with_default, one_of, settled_rows, row_text}
use Rattle.clap.specs.Facts.{explicit_source}
use Rattle.clap.specs.Simple.{built, names_of, entered}
use Rattle.clap.specs.Faults.{fault_of, walk_fault, settle_fault, defaults_fault, check_fault}
use Rattle.clap.specs.Kinds.{Kinds, or_else, check_kinds}
use Rattle.clap.specs.Values.{reading_of}
use Rattle.clap.specs.ValueTests.{is_unsigned_in, is_signed_in}
use Rattle.clap.specs.declared.builder.value_parser.ValueParser.TheVariants as vp
use Rattle.clap.specs.declared.error.kind.ErrorKind.TheVariants.{ValueValidation}
use Rattle.clap.specs.declared.parser.matches.ValueSource.TheVariants.{CommandLine}
use Rattle.clap.proofs.OnLiterals.{clap_on_literals}
use Rattle.command_line.specs.Words.{command_line, is_taken, command_entered, command_in_words, chosen, seed_in}
use Rattle.command_line.specs.Options.{Given, number, full, digest, workers, posters, every, words_of, begins_with_digit, IsOfBig, are_taken}
use Rattle.command_line.specs.declared.request.Command.TheVariants.{Big}
use Rattle.command_line.proofs.NumberLemmas.{each_digit, unsigned}
use Rattle.command_line.proofs.OptionLemmas.{shape, rules, ok, ok-both, and-true, and-grouped, held, between, end, IsBase, are-of, digit-from, digit-to, FaultsFrom, settle-first, taken-from, settled-first, ends-with, row_of, row_at, row-finished}
use Rattle.command_line.proofs.TakenLemmas.{collected, no-more, all_faults, level, AllFine, defaults-ok}

-- the seed

abbrev seed_last : Text → Option (Text × List Text)
seed_last seed = Some (codes "N", seed ∷ [])

abbrev SeedWalks : Text → ℕ → Type 0
SeedWalks rest x = walked (rules true) [] (walk_from nothing_held) (x ∷ rest) ≡ between true [] (seed_last (x ∷ rest))

seed-walks : (rest : Text) (x : ℕ) → 48 ≤ x → x ≤ 57 → SeedWalks rest x
unfolding clap_on_literals
seed-walks rest = each_digit (SeedWalks rest) refl refl refl refl refl refl refl refl refl refl

abbrev SeedFaults : Text → List Text → ℕ → Type 0
SeedFaults rest ws x = walk_fault (shape true) [] (walk_from nothing_held) ((x ∷ rest) ∷ ws) ≡ walk_fault (shape true) [] (between true [] (seed_last (x ∷ rest))) ws

seed-faults : (rest : Text) (ws : List Text) (x : ℕ) → 48 ≤ x → x ≤ 57 → SeedFaults rest ws x
unfolding clap_on_literals
seed-faults rest ws = each_digit (SeedFaults rest ws) refl refl refl refl refl refl refl refl refl refl

abbrev seed_row : Text → Row
seed_row seed = record { id = codes "N"; values = seed ∷ []; count = None; source = Some CommandLine; reading = reading_of (vp.Signed (pos 0) (pos 4294967295)) }

seed-used : (seed : Text) → settled_rows (rules true) (seed_last seed) [] ≡ seed_row seed ∷ []
seed-used seed = refl

-- the command

big-faults : (program : Text) (words : List Text) → fault_of command_line (program ∷ codes "big" ∷ words) ≡ or_else (level true words) []
unfolding clap_on_literals command_line
big-faults program words =
    ap₂ (all_faults (built command_line)) (collected (built command_line).top.rules (names_of (built command_line)) (codes "big") [] words)
    (no-more (built command_line).top (names_of (built command_line)) (codes "big") [] words)

abbrev rows_of_words : List Text → List Row
rows_of_words words = finished (rules true) (walk (rules true) [] nothing_held words).held

big-named : (program : Text) (words : List Text) → command_in_words (program ∷ codes "big" ∷ words) ≡ option_map Big (option_and_then seed_in (one_of (codes "N") (rows_of_words words)))
unfolding clap_on_literals command_line command_in_words
big-named program words =
    ap (λ (w : Walk). command_entered (entered (built command_line) w.stopped)) (collected (built command_line).top.rules (names_of (built command_line)) (codes "big") [] words)

big-fine : AllFine (rules true)
unfolding clap_on_literals
big-fine = (refl, (refl, (refl, (refl, (refl, tt)))))

-- the seed's row is no option's
seed-base : (seed : Text) → IsBase (seed_row seed ∷ [])
seed-base seed (number workers text) = refl
seed-base seed (number posters text) = refl
seed-base seed (number every text) = refl
seed-base seed full = refl
seed-base seed (digest name) = refl

abbrev HasSeed : Text → List Row → Type 0
HasSeed seed rows = row_at (codes "N") rows ≡ Some (seed_row seed)

has-seed : (seed : Text) (rows : List Row) → HasSeed seed (fold with_default (seed_row seed ∷ rows) (rules true))
unfolding clap_on_literals
has-seed seed rows = row-finished (codes "N") (rules true) (seed_row seed ∷ rows)

-- the faults after a seed, and the command

seed-words : (seed : Text) (ws : List Text) → begins_with_digit seed ≡ true → fold (walked (rules true) []) (walk_from nothing_held) (seed ∷ ws) ≡ end true [] (seed_last seed) ws
seed-words [] ws digit = absurd (cc digit)
seed-words (x ∷ rest) ws digit = ap (λ (w : Walk). fold (walked (rules true) []) w ws) (seed-walks rest x (digit-from x rest digit) (digit-to x rest digit))

seed-word-faults : (seed : Text) (ws : List Text) → begins_with_digit seed ≡ true
    → walk_fault (shape true) [] (walk_from nothing_held) (seed ∷ ws) ≡ walk_fault (shape true) [] (between true [] (seed_last seed)) ws
seed-word-faults [] ws digit = absurd (cc digit)
seed-word-faults (x ∷ rest) ws digit = seed-faults rest ws x (digit-from x rest digit) (digit-to x rest digit)

seed-value : (seed : Text) → begins_with_digit seed ≡ true → ok (settle_fault (rules true) false (held [] (seed_last seed))) ≡ is_unsigned_in 0 4294967295 seed
seed-value [] digit = absurd (cc digit)
seed-value (x ∷ rest) digit = by (is_signed_in (pos 0) (pos 4294967295) (x ∷ rest)) ∙ unsigned rest 0 4294967295 (omega arith) x (digit-from x rest digit) (digit-to x rest digit)
  where
    by : (accepted : Bool) → ok (or_else [] (or_else (cond accepted [] (ValueValidation ∷ [])) [])) ≡ accepted
    by true = refl
    by false = refl

big-options : (seed : Text) (gs : List Given) → begins_with_digit seed ≡ true → All IsOfBig gs → FaultsFrom true [] (seed_last seed) gs ≡ is_unsigned_in 0 4294967295 seed && are_taken gs
big-options seed gs digit of =
    settle-first true (seed_last seed) [] (seed_row seed ∷ []) _ gs (are-of true gs of) refl (seed-used seed)
    ∙ ap₂ (λ (a b : Bool). a && b) (seed-value seed digit) (taken-from true (seed_row seed ∷ []) [] gs (seed-base seed) (are-of true gs of))

abbrev checked : List Text → Kinds
checked words = check_fault (shape true) (rows_of_words words) false

big-level : (words : List Text) → ok (level true words)
    ≡ (ok (walk_fault (shape true) [] (walk_from nothing_held) words) && ok (settle_fault (rules true) false (walk (rules true) [] nothing_held words).held)) && ok (checked words)
big-level words =
    let end_held = (walk (rules true) [] nothing_held words).held in
    let faults = walk_fault (shape true) [] (walk_from nothing_held) words in
    let unsettled = settle_fault (rules true) false end_held in
    let wrong = defaults_fault (settled (rules true) end_held).rows (rules true) in
    ok-both faults (or_else unsettled (or_else wrong (checked words)))
    ∙ (ap (λ b. ok faults && b) (ok-both unsettled (or_else wrong (checked words))
    ∙ ap (λ b. ok unsettled && b) (ok-both wrong (checked words) ∙ ap (λ b. b && ok (checked words)) (defaults-ok (settled (rules true) end_held).rows (rules true) big-fine)))
    ∙ sym (and-grouped (ok faults) (ok unsettled) (ok (checked words))))

check-where : (seed : Text) (rows : List Row) → HasSeed seed rows → ok (check_fault (shape true) rows false) ≡ true
check-where seed rows has =
    ap (λ (found : Option Row). ok (check_kinds false false (not (option_map_or (λ r. explicit_source r.source) found false) || false))) has

-- a seed that begins with a digit is read as it stands
seed-read : (seed : Text) → begins_with_digit seed ≡ true → row_text (seed_row seed) ≡ Some seed
seed-read [] digit = absurd (cc digit)
seed-read (x ∷ rest) digit = each_digit (λ y. row_text (seed_row (y ∷ rest)) ≡ Some (y ∷ rest)) refl refl refl refl refl refl refl refl refl refl x (digit-from x rest digit) (digit-to x rest digit)

one-where : (seed : Text) (rows : List Row) → begins_with_digit seed ≡ true → HasSeed seed rows → one_of (codes "N") rows ≡ Some seed
one-where seed rows digit has = ap (option_and_then row_text) has ∙ seed-read seed digit

rows-are : (seed : Text) (gs : List Given) → begins_with_digit seed ≡ true → All IsOfBig gs → are_taken gs ≡ true → HasSeed seed (rows_of_words (seed ∷ words_of gs))
rows-are seed gs digit of taken =
    subst (λ (w : Walk). HasSeed seed (finished (rules true) w.held)) (sym (seed-words seed (words_of gs) digit))
    (subst (λ (rows : List Row). HasSeed seed (fold with_default rows (rules true)))
    (sym (settled-first true (seed_last seed) [] (seed_row seed ∷ []) gs (are-of true gs of) (seed-used seed) ∙ ends-with true (seed_row seed ∷ []) [] gs (seed-base seed) (are-of true gs of) taken))
    (has-seed seed (map row_of gs)))

pub big_options_are_taken : (program seed : Text) (gs : List Given) → begins_with_digit seed ≡ true → All IsOfBig gs
    → chosen (program ∷ codes "big" ∷ seed ∷ words_of gs) ≡ cond (are_taken gs) (option_map Big (seed_in seed)) None
unfolding is_taken
big_options_are_taken program seed gs digit digits =
    ap₂ (λ b c. cond b c None)
    (ap ok (big-faults program (seed ∷ words_of gs)) ∙ (ok-both (level true (seed ∷ words_of gs)) [] ∙ (and-true (ok (level true (seed ∷ words_of gs)))
    ∙ (big-level (seed ∷ words_of gs) ∙ ap (λ b. b && ok (checked (seed ∷ words_of gs)))
    (ap₂ (λ (a b : Bool). a && b) (ap ok (seed-word-faults seed (words_of gs) digit)) (ap (λ (w : Walk). ok (settle_fault (rules true) false w.held)) (seed-words seed (words_of gs) digit))
    ∙ big-options seed gs digit digits)))))
    (big-named program (seed ∷ words_of gs))
    ∙ by (is_unsigned_in 0 4294967295 seed) refl (are_taken gs) refl
  where
    by : (accepted : Bool) → is_unsigned_in 0 4294967295 seed ≡ accepted → (taken : Bool) → are_taken gs ≡ taken
        → cond ((accepted && taken) && ok (checked (seed ∷ words_of gs))) (option_map Big (option_and_then seed_in (one_of (codes "N") (rows_of_words (seed ∷ words_of gs))))) None
        ≡ cond taken (option_map Big (seed_in seed)) None
    by true fits true taken =
        ap₂ (λ b o. cond b (option_map Big (option_and_then seed_in o)) None) (check-where seed (rows_of_words (seed ∷ words_of gs)) (rows-are seed gs digit digits taken)) (one-where seed (rows_of_words (seed ∷ words_of gs)) digit (rows-are seed gs digit digits taken))
    by false fits true taken = rw fits refl
    by true fits false taken = refl
    by false fits false taken = refl
