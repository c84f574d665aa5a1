-- What the clauses of `clap` say of our command line.
use Rattle.std.proofs.Common.{ℕ, Bool, false, ◌++◌, ◌<◌, ◌≤◌, ◌^◌, max, Result, Ok, Err, arith, ◌≡◌, ◌≢◌, inl, inr, subst, ◌∙◌, List, [], ◌∷◌, true, Option, Some, None, codes, refl, sym, ap, cond}
use Rattle.std.specs.Prelude.{unwrap_or}
use Rattle.std.specs.Option.{option_and_then}
use Rattle.std.specs.List.{list_all}
use Rattle.std.specs.Str.{bytes_eq}
use Rattle.std.specs.Str.Parse.{IsNumeral, ParsesBool, ParsesUnsigned, digits_value, without_leading_plus}
use Rattle.std.proofs.lemmas.Slice.Eq.{bytes_eq-Decides}
use Rattle.clap.specs.Walk.{Text}
use Rattle.clap.specs.Matches.{ReadsOne}
use Rattle.clap.specs.Simple.{App, HasMatchesOf, is_simple, subcommand_of, subcommand_rows_of}
use Rattle.clap.specs.Kinds.{HasKind, IsAmong, Kinds}
use Rattle.clap.specs.Values.{IsUnsignedIn, kind_of}
use Rattle.clap.specs.ValueTests.{is_unsigned_in}
use Rattle.clap.specs.declared.builder.value_parser.ValueParser.TheVariants as vp
use Rattle.clap.proofs.ValueTestLemmas.{accepts-Accepts, Accepts-accepts}
use Rattle.clap.specs.declared.error.Error.{Error}
use Rattle.clap.specs.declared.error.kind.ErrorKind.TheVariants.{OutOfMemory}
use Rattle.clap.specs.Faults.{fault_of, is_simple_and_free}
use Rattle.clap.specs.declared.error.kind.ErrorKind.{ErrorKind}
use Rattle.clap.specs.declared.parser.matches.ArgMatches.{ArgMatches}
use Rattle.clap.proofs.OnLiterals.{clap_on_literals}
use Rattle.command_line.specs.Words.{command_line, is_faultless, is_taken, command_in_words, command_entered, match_text_in, seed_in, chosen, rows_given, given_options, IsNumberOf}
use Rattle.command_line.specs.Options.{help_words, plain_commands, is_refused}
use Rattle.digest_core.specs.declared.name.DigestName.TheVariants.{Sha256, Weak8}
use Rattle.command_line.specs.declared.request.MatchText.TheVariants.{Report, Full}
use Rattle.command_line.specs.declared.request.Command.{Command}
use Rattle.command_line.specs.declared.request.Command.TheVariants.{Judge, Run, Roots, Audit, Listing, Big}

pub command_line-is-simple : is_simple command_line ≡ true
unfolding command_line
command_line-is-simple = refl

pub command_line-is-free : is_simple_and_free command_line ≡ true
unfolding command_line
command_line-is-free = refl

-- arguments in which `clap` finds no fault name the command of its subcommand
pub chosen-taken : (words : List Text) → fault_of command_line words ≡ [] → chosen words ≡ command_in_words words
unfolding is_taken
chosen-taken words none = ap (λ faults. cond (is_faultless faults) (command_in_words words) None) none

abbrev untaken : (command : Option Command) (faults : Kinds) (k : ErrorKind) → IsAmong k faults → cond (is_faultless faults) command None ≡ None
untaken command [] k among = absurd among
untaken command (x ∷ faults) k among = refl

pub chosen-refused : (words : List Text) (k : ErrorKind) → IsAmong k (fault_of command_line words) → chosen words ≡ None
unfolding is_taken
chosen-refused words k among = untaken (command_in_words words) (fault_of command_line words) k among

-- plain arguments: the program's name and a command
pub judge_is_taken : (program : Text) → chosen (program ∷ codes "judge" ∷ []) ≡ Some (Judge Report Sha256)
unfolding clap_on_literals command_line is_taken command_in_words
judge_is_taken program = refl

pub run_is_taken : (program : Text) → chosen (program ∷ codes "run" ∷ []) ≡ Some Run
unfolding clap_on_literals command_line is_taken command_in_words
run_is_taken program = refl

pub roots_is_taken : (program : Text) → chosen (program ∷ codes "roots" ∷ []) ≡ Some Roots
unfolding clap_on_literals command_line is_taken command_in_words
roots_is_taken program = refl

pub full_is_taken : (program : Text) → chosen (program ∷ codes "judge" ∷ codes "--full" ∷ []) ≡ Some (Judge Full Sha256)
unfolding clap_on_literals command_line is_taken command_in_words
full_is_taken program = refl

pub audit_is_taken : (program : Text) → chosen (program ∷ codes "audit" ∷ []) ≡ Some Audit
unfolding clap_on_literals command_line is_taken command_in_words
audit_is_taken program = refl

pub list_is_taken : (program : Text) → chosen (program ∷ codes "list" ∷ []) ≡ Some Listing
unfolding clap_on_literals command_line is_taken command_in_words
list_is_taken program = refl

pub nothing_is_refused : chosen [] ≡ None
unfolding clap_on_literals command_line is_taken command_in_words
nothing_is_refused = refl

pub name_alone_is_refused : (program : Text) → chosen (program ∷ []) ≡ None
unfolding clap_on_literals command_line is_taken command_in_words
name_alone_is_refused program = refl

pub help_is_refused_alone : (program : Text) → list_all (λ word. is_refused program (word ∷ [])) help_words ≡ true
unfolding clap_on_literals command_line is_taken command_in_words
help_is_refused_alone program = refl

pub help_is_refused_behind : (program : Text) → list_all (λ word. list_all (λ command. is_refused program (command ++ word ∷ [])) plain_commands) help_words ≡ true
unfolding clap_on_literals command_line is_taken command_in_words
help_is_refused_behind program = refl

pub valued_full_is_refused : (program : Text) → chosen (program ∷ codes "judge" ∷ codes "--full=true" ∷ []) ≡ None
unfolding clap_on_literals command_line is_taken command_in_words
valued_full_is_refused program = refl

pub full_of_big_is_refused : (program : Text) → chosen (program ∷ codes "big" ∷ codes "0" ∷ codes "--full" ∷ []) ≡ None
unfolding clap_on_literals command_line is_taken command_in_words
full_of_big_is_refused program = refl

pub digest_of_big_is_refused : (program : Text) → chosen (program ∷ codes "big" ∷ codes "0" ∷ codes "--digest" ∷ codes "sha256" ∷ []) ≡ None
unfolding clap_on_literals command_line is_taken command_in_words
digest_of_big_is_refused program = refl

pub full_of_run_is_refused : (program : Text) → chosen (program ∷ codes "run" ∷ codes "--full" ∷ []) ≡ None
unfolding clap_on_literals command_line is_taken command_in_words
full_of_run_is_refused program = refl

pub digest_of_run_is_refused : (program : Text) → chosen (program ∷ codes "run" ∷ codes "--digest" ∷ codes "sha256" ∷ []) ≡ None
unfolding clap_on_literals command_line is_taken command_in_words
digest_of_run_is_refused program = refl

pub full_of_roots_is_refused : (program : Text) → chosen (program ∷ codes "roots" ∷ codes "--full" ∷ []) ≡ None
unfolding clap_on_literals command_line is_taken command_in_words
full_of_roots_is_refused program = refl

pub digest_of_roots_is_refused : (program : Text) → chosen (program ∷ codes "roots" ∷ codes "--digest" ∷ codes "sha256" ∷ []) ≡ None
unfolding clap_on_literals command_line is_taken command_in_words
digest_of_roots_is_refused program = refl

pub full_of_audit_is_refused : (program : Text) → chosen (program ∷ codes "audit" ∷ codes "--full" ∷ []) ≡ None
unfolding clap_on_literals command_line is_taken command_in_words
full_of_audit_is_refused program = refl

pub digest_of_audit_is_refused : (program : Text) → chosen (program ∷ codes "audit" ∷ codes "--digest" ∷ codes "sha256" ∷ []) ≡ None
unfolding clap_on_literals command_line is_taken command_in_words
digest_of_audit_is_refused program = refl

pub full_of_list_is_refused : (program : Text) → chosen (program ∷ codes "list" ∷ codes "--full" ∷ []) ≡ None
unfolding clap_on_literals command_line is_taken command_in_words
full_of_list_is_refused program = refl

pub digest_of_list_is_refused : (program : Text) → chosen (program ∷ codes "list" ∷ codes "--digest" ∷ codes "sha256" ∷ []) ≡ None
unfolding clap_on_literals command_line is_taken command_in_words
digest_of_list_is_refused program = refl

pub weak8_is_taken : (program : Text) → chosen (program ∷ codes "judge" ∷ codes "--digest" ∷ codes "weak8" ∷ []) ≡ Some (Judge Report Weak8)
unfolding clap_on_literals command_line is_taken command_in_words
weak8_is_taken program = refl

pub weak8_in_capitals_is_refused : (program : Text) → chosen (program ∷ codes "judge" ∷ codes "--digest" ∷ codes "WEAK8" ∷ []) ≡ None
unfolding clap_on_literals command_line is_taken command_in_words
weak8_in_capitals_is_refused program = refl

pub md5_is_refused : (program : Text) → chosen (program ∷ codes "judge" ∷ codes "--digest" ∷ codes "md5" ∷ []) ≡ None
unfolding clap_on_literals command_line is_taken command_in_words
md5_is_refused program = refl

pub upper_case_is_refused : (program : Text) → chosen (program ∷ codes "judge" ∷ codes "--digest" ∷ codes "SHA256" ∷ []) ≡ None
unfolding clap_on_literals command_line is_taken command_in_words
upper_case_is_refused program = refl

pub no_name_is_refused : (program : Text) → chosen (program ∷ codes "judge" ∷ codes "--digest" ∷ []) ≡ None
unfolding clap_on_literals command_line is_taken command_in_words
no_name_is_refused program = refl

pub least_seed_is_taken : (program : Text) → chosen (program ∷ codes "big" ∷ codes "0" ∷ []) ≡ Some (Big 0)
unfolding clap_on_literals command_line is_taken command_in_words
least_seed_is_taken program = refl

pub most_seed_is_taken : (program : Text) → chosen (program ∷ codes "big" ∷ codes "4294967295" ∷ codes "--posters" ∷ codes "8" ∷ []) ≡ Some (Big 4294967295)
unfolding clap_on_literals command_line is_taken command_in_words
most_seed_is_taken program = refl

pub larger_seeds_are_refused : (program : Text) → chosen (program ∷ codes "big" ∷ codes "4294967296" ∷ []) ≡ None
unfolding clap_on_literals command_line is_taken command_in_words
larger_seeds_are_refused program = refl

pub no_seed_is_refused : (program : Text) → chosen (program ∷ codes "big" ∷ []) ≡ None
unfolding clap_on_literals command_line is_taken command_in_words
no_seed_is_refused program = refl

pub two_seeds_are_refused : (program : Text) → chosen (program ∷ codes "big" ∷ codes "0" ∷ codes "0" ∷ []) ≡ None
unfolding clap_on_literals command_line is_taken command_in_words
two_seeds_are_refused program = refl

-- a parse that succeeds gives the command and its options

abbrev Parsed : App → List Text → ArgMatches → Type 0
Parsed a words m = (a ≡ command_line) × (is_simple_and_free a ≡ true → fault_of a words ≡ []) × HasMatchesOf a words m

rows-of-parse : (a : App) (words : List Text) (m : ArgMatches) → Parsed a words m → subcommand_rows_of m ≡ subcommand_of command_line words
rows-of-parse a words m parsed = subst (λ x. subcommand_rows_of m ≡ subcommand_of x words) parsed.0 (parsed.2 (ap is_simple parsed.0 ∙ command_line-is-simple)).1

command-of-rows : (m : ArgMatches) (words : List Text) → subcommand_rows_of m ≡ subcommand_of command_line words → command_entered (subcommand_rows_of m) ≡ command_in_words words
unfolding command_in_words
command-of-rows m words rows = ap command_entered rows

pub chosen-of-parse : (a : App) (words : List Text) (m : ArgMatches) (command : Option Command) → Parsed a words m → command ≡ command_entered (subcommand_rows_of m)
    → command ≡ chosen words
chosen-of-parse a words m command parsed is =
    let none = subst (λ x. fault_of x words ≡ []) parsed.0 (parsed.1 (ap is_simple_and_free parsed.0 ∙ command_line-is-free)) in
    is ∙ command-of-rows m words (rows-of-parse a words m parsed) ∙ sym (chosen-taken words none)

pub options-of-parse : (a : App) (words : List Text) (m : ArgMatches) → Parsed a words m → rows_given (subcommand_rows_of m) ≡ given_options words
unfolding given_options
options-of-parse a words m parsed = ap rows_given (rows-of-parse a words m parsed)

-- a parse that fails, and not because memory ran out, refuses the arguments
pub chosen-of-fault : (a : App) (words : List Text) (e : Error) → a ≡ command_line
    → (is_simple_and_free a ≡ true → HasKind (fault_of a words) e) → kind_of e ≢ OutOfMemory → None ≡ chosen words
chosen-of-fault a words e app free other =
    refused (subst (λ x. HasKind (fault_of x words) e) app (free (ap is_simple_and_free app ∙ command_line-is-free)))
  where
    refused : HasKind (fault_of command_line words) e → None ≡ chosen words
    refused (inl memory) = absurd (other memory)
    refused (inr among) = sym (chosen-refused words (kind_of e) among)

-- the number that an option's text gives

abbrev Parses : (E : Type 0) → (List ℕ → Result ℕ E → Type 0) → Type 0
Parses E gives = (bs : List ℕ) (r : Result ℕ E) → gives bs r → ParsesUnsigned 32 10 bs r

pub some-number : {E : Type 0} {gives : List ℕ → Result ℕ E → Type 0} (read given : Option Text) (default v n : ℕ) → Parses E gives → read ≡ given
    → (read ≡ None → Some v ≡ None) → ((t : Text) → read ≡ Some t → ReadsOne gives t (Some v)) → n ≡ max v 1 → IsNumberOf given default n
some-number None None default v n parses same none value is = absurd (cc (none refl))
some-number None (Some text) default v n parses same none value is = absurd (cc (none refl))
some-number (Some t) None default v n parses same none value is = absurd (cc)
some-number (Some t) (Some text) default v n parses same none value is = λ within.
    let t_is : t ≡ text = cc in
    let parsed = parses t (Ok v) (value t refl) in
    let number : v ≡ digits_value 10 (without_leading_plus text) = subst (λ w. v ≡ digits_value 10 (without_leading_plus w)) t_is parsed.1 in
    omega (arith, is, number, within.2)

pub no-number : {E : Type 0} {gives : List ℕ → Result ℕ E → Type 0} (read given : Option Text) (default : ℕ) → Parses E gives → read ≡ given
    → ((t : Text) → read ≡ Some t → ReadsOne gives t None) → IsNumberOf given default default
no-number read None default parses same value = refl
no-number None (Some text) default parses same value = absurd (cc)
no-number (Some t) (Some text) default parses same value = λ within.
    let t_is : t ≡ text = cc in
    let failed = value t refl in
    let within_t = subst (λ w. IsUnsignedIn 1 4294967295 w) (sym t_is) within in
    absurd (parses t (Err failed.0) failed.1 (within_t.0, omega (arith, within_t.3)))

-- the seed that a text gives

seed-of-number : (t : Text) (v : ℕ) → (IsNumeral 10 (without_leading_plus t) × (digits_value 10 (without_leading_plus t) < 2 ^ 32)) × (v ≡ digits_value 10 (without_leading_plus t)) → Some v ≡ seed_in t
seed-of-number t v parsed =
    let small : digits_value 10 (without_leading_plus t) < 2 ^ 64 = omega (arith, parsed.0.1) in
    let fits : digits_value 10 (without_leading_plus t) ≤ 4294967295 = omega (arith, parsed.0.1) in
    let zero_below : 0 ≤ digits_value 10 (without_leading_plus t) = omega arith in
    let passes : is_unsigned_in 0 4294967295 t ≡ true = Accepts-accepts false (vp.Unsigned 0 4294967295) t (parsed.0.0, small, zero_below, fits) in
    rw passes (ap Some parsed.1)

no-seed : (t : Text) (passes : Bool) → is_unsigned_in 0 4294967295 t ≡ passes → ¬ (IsNumeral 10 (without_leading_plus t) × (digits_value 10 (without_leading_plus t) < 2 ^ 32)) → None ≡ seed_in t
no-seed t true is failed =
    let accepted = accepts-Accepts false (vp.Unsigned 0 4294967295) t is in
    absurd (failed (accepted.0, omega (arith, accepted.3)))
no-seed t false is failed = rw is refl

pub seed-of-getter : {E : Type 0} {gives : List ℕ → Result ℕ E → Type 0} (read given : Option Text) (r : Option ℕ) → Parses E gives → read ≡ given
    → (read ≡ None → r ≡ None) → ((t : Text) → read ≡ Some t → ReadsOne gives t r) → r ≡ option_and_then seed_in given
seed-of-getter None given r parses same none value = rw (← same) (none refl)
seed-of-getter (Some t) given (Some v) parses same none value = rw (← same) (seed-of-number t v (parses t (Ok v) (value t refl)))
seed-of-getter (Some t) given None parses same none value = let failed = value t refl in rw (← same) (no-seed t _ refl (parses t (Err failed.0) failed.1))

-- the text that a flag asks for

flag-text : (E : Type 0) (t : Text) (b : Bool) → ParsesBool {E = E} t (Ok b) → cond b Full Report ≡ match_text_in (Some t)
flag-text E t true is = rw is refl
flag-text E t false is = rw is refl

no-flag-text : {E : Type 0} (t : Text) (e : E) → ParsesBool t (Err e) → Report ≡ match_text_in (Some t)
no-flag-text t e failed = by (bytes_eq t (codes "true")) refl
  where
    by : (same : Bool) → bytes_eq t (codes "true") ≡ same → Report ≡ cond same Full Report
    by true is = absurd (failed.0 ((bytes_eq-Decides t (codes "true")).0 is))
    by false is = refl

-- where there is none it is the report
pub text-of-getter : {E : Type 0} {gives : List ℕ → Result Bool E → Type 0} (read given : Option Text) (r : Option Bool) → ((bs : List ℕ) (x : Result Bool E) → gives bs x → ParsesBool bs x) → read ≡ given
    → (read ≡ None → r ≡ None) → ((t : Text) → read ≡ Some t → ReadsOne gives t r) → cond (unwrap_or r false) Full Report ≡ match_text_in given
text-of-getter None given r parses same none value = rw (← same) (ap (λ (flag : Option Bool). cond (unwrap_or flag false) Full Report) (none refl))
text-of-getter {E} (Some t) given (Some b) parses same none value = rw (← same) (flag-text E t b (parses t (Ok b) (value t refl)))
text-of-getter (Some t) given None parses same none value = let failed = value t refl in rw (← same) (no-flag-text t failed.0 (parses t (Err failed.0) failed.1))
