-- To believe. The arguments of the command line, as `clap` takes them.
use Rattle.std.specs.Prelude.{◌≡◌, ◌<◌, ℕ, pos, List, [], ◌∷◌, Bool, true, false, codes, map, option_map, Option, Some, None, if◌then◌else◌, String, string_bytes}
use Rattle.std.specs.declared.alloc.Global.{Global}
use Rattle.std.specs.Option.{option_and_then, option_map_or}
use Rattle.std.specs.Str.{bytes_eq}
use Rattle.std.specs.Str.Parse.{digits_value, without_leading_plus}
use Rattle.clap.specs.Kinds.{Kinds}
use Rattle.clap.specs.Values.{IsUnsignedIn}
use Rattle.clap.specs.ValueTests.{is_unsigned_in}
use Rattle.clap.specs.Walk.{Row, Rule, Text, first_of, one_of}
use Rattle.clap.specs.Simple.{App, Shape, new_app, new_rule, new_shape, on_top, subcommand_of, with_rule, with_subcommand}
use Rattle.clap.specs.Faults.{fault_of}
use Rattle.clap.specs.declared.builder.action.ArgAction.TheVariants.{SetTrue}
use Rattle.clap.specs.declared.builder.value_parser.ValueParser.TheVariants as vp
use Rattle.digest_core.specs.Name.{digest_named}
use Rattle.command_line.specs.declared.request.MatchText.{MatchText}
use Rattle.command_line.specs.declared.request.MatchText.TheVariants.{Report, Full}
use Rattle.command_line.specs.declared.request.Command.{Command}
use Rattle.command_line.specs.declared.request.Command.TheVariants.{Judge, Run, Roots, Audit, Listing, Big}
use Rattle.command_line.specs.declared.request.OptionNumbers.{OptionNumbers}

-- arguments as their bytes
abbrev pub texts : List (String Global) → List (List ℕ)
texts words = map string_bytes words

abbrev pub with_required_subcommand : Shape → Shape
with_required_subcommand shape = record shape { subcommand_required = true }

-- an option `--name` whose value is a number from 1 to the most, with its default
abbrev pub number_option : Text → ℕ → Text → Rule
number_option name most default = record (new_rule name) { long = Some name; parser = Some (vp.Signed (pos 1) (pos most)); defaults = default ∷ [] }

-- a command with the options of a match: `--workers` from 1 to 64, `--posters` from 1 to 16, `--every` from 1 to 65,536
abbrev pub with_match_options : App → App
with_match_options app =
    with_rule (with_rule (with_rule app (number_option (codes "workers") 64 (codes "1"))) (number_option (codes "posters") 16 (codes "1")))
    (number_option (codes "every") 65536 (codes "1024"))

-- `--full`, without a value
abbrev pub full_option : Rule
full_option = record (new_rule (codes "full")) { long = Some (codes "full"); action = Some SetTrue }

-- `--digest NAME`. The names are those of `digest_named`.
abbrev pub digest_option : Rule
digest_option = record (new_rule (codes "digest")) { long = Some (codes "digest"); defaults = codes "sha256" ∷ [] }

-- `judge` has two options of its own
abbrev pub judge_line : App
judge_line = with_rule (with_rule (with_match_options (new_app (codes "judge"))) full_option) digest_option

-- the seed of `big`, from 0 to 4,294,967,295, which has to be given
abbrev pub seed_rule : Rule
seed_rule = record (new_rule (codes "N")) { parser = Some (vp.Signed (pos 0) (pos 4294967295)); required = true }

abbrev pub big_line : App
big_line = with_match_options (with_rule (new_app (codes "big")) seed_rule)

-- the command line: one of the commands `judge`, `run`, `roots`, `audit`, `list` and `big`, of which `run`, `roots`, `audit` and `list`
-- have no options
unfoldable pub command_line : App
command_line =
    with_subcommand (with_subcommand (with_subcommand (with_subcommand (with_subcommand (with_subcommand (on_top with_required_subcommand (new_app (codes "refcli"))) judge_line.top)
    (new_shape (codes "run"))) (new_shape (codes "roots"))) (new_shape (codes "audit"))) (new_shape (codes "list"))) big_line.top

-- there is no fault among those that may be found
abbrev pub is_faultless : Kinds → Bool
is_faultless [] = true
is_faultless (kind ∷ kinds) = false

-- arguments in which `clap` finds no fault, the first being the program's name. It is `clap`'s part alone: `digest_named` tests the name of
-- `--digest`.
unfoldable pub is_taken : List Text → Bool
is_taken words = is_faultless (fault_of command_line words)

-- the seed of a text: a decimal number below 2^32
abbrev pub seed_in : Text → Option ℕ
seed_in text = if is_unsigned_in 0 4294967295 text then Some (digits_value 10 (without_leading_plus text)) else None

-- the text of a match that is asked for: the full text by `--full`, and else the report
abbrev pub match_text_in : Option Text → MatchText
match_text_in None = Report
match_text_in (Some text) = if bytes_eq text (codes "true") then Full else Report

-- `judge`, by what was given to it
abbrev pub judge_in : List Row → Option Command
judge_in rows = option_map (Judge (match_text_in (one_of (codes "full") rows))) (option_and_then digest_named (first_of (codes "digest") rows))

-- the command of a name, by what was given to it
abbrev pub command_of_name : Text → List Row → Option Command
command_of_name name rows =
    if bytes_eq name (codes "judge") then judge_in rows
    else if bytes_eq name (codes "run") then Some Run
    else if bytes_eq name (codes "roots") then Some Roots
    else if bytes_eq name (codes "audit") then Some Audit
    else if bytes_eq name (codes "list") then Some Listing
    else if bytes_eq name (codes "big") then option_map Big (option_and_then seed_in (one_of (codes "N") rows))
    else None

abbrev pub command_entered : Option (Text × List Row) → Option Command
command_entered entered = option_and_then (λ e. command_of_name e.0 e.1) entered

-- the command of the subcommand that the arguments name
unfoldable pub command_in_words : List Text → Option Command
command_in_words words = command_entered (subcommand_of command_line words)

-- the command, if the arguments are taken
abbrev pub chosen : List Text → Option Command
chosen words = if is_taken words then command_in_words words else None

-- what the arguments give the options of their command, defaults among it
abbrev pub rows_given : Option (Text × List Row) → List Row
rows_given entered = option_map_or (λ e. e.1) entered []

unfoldable pub given_options : List Text → List Row
given_options words = rows_given (subcommand_of command_line words)

-- the number of an option: that of its text if it is one of 1 to 2^32 - 1, and a default if there is no text
abbrev pub IsNumberOf : Option Text → ℕ → ℕ → Type 0
IsNumberOf (Some text) default n = IsUnsignedIn 1 4294967295 text → n ≡ digits_value 10 (without_leading_plus text)
IsNumberOf None default n = n ≡ default

-- the numbers of the options
pub record AreGiven (rows : List Row) (options : OptionNumbers) : Type 0 where
  pub workers : IsNumberOf (one_of (codes "workers") rows) 1 options.workers
  pub posters : IsNumberOf (one_of (codes "posters") rows) 1 options.posters
  pub every : IsNumberOf (one_of (codes "every") rows) 1024 options.every

-- each of them is at least 1
pub record ArePositive (options : OptionNumbers) : Type 0 where
  pub workers : 0 < options.workers
  pub posters : 0 < options.posters
  pub every : 0 < options.every

-- the command reads its source; no other arguments have anything read
abbrev pub reads : Option Command → Bool
reads None = false
reads (Some (Big seed)) = false
reads (Some command) = true
