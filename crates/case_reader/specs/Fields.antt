-- To believe. The value of a key of a case: that the key is there, then its type, then its hexadecimal digits, then its
-- range.
use Rattle.std.specs.Prelude.{ℕ, ◌&&◌, List, [], ◌∷◌, length, codes, nat_le, Bool, is_some, Option, Some, None, Result, Ok, Err, if◌then◌else◌}
use Rattle.std.specs.Option.{ok_or, unwrap_or, option_map, option_and_then}
use Rattle.std.specs.Result.{result_ok}
use Rattle.std.specs.Str.{bytes_eq}
use Rattle.serde_json.specs.Data.{Data, Items, no_items, item}
use Rattle.serde_json.specs.Find.{get, as_str, as_number, as_u64, as_array}
use Rattle.hex.specs.Hex.{decode_of}
use Rattle.rd_base.specs.Results.{◌>>=◌}
use Rattle.case_reader.specs.Key.{key_text}
use Rattle.case_reader.specs.declared.fault.Key.{Key}
use Rattle.case_reader.specs.declared.fault.Key.TheVariants as keys
use Rattle.case_reader.specs.declared.case.Format.{Format}
use Rattle.case_reader.specs.declared.case.Format.TheVariants.{Flat, Elf, Asm}
use Rattle.case_reader.specs.declared.fault.CaseFault.{CaseFault}
use Rattle.case_reader.specs.declared.fault.CaseFault.TheVariants.{Missing, WrongType, BadHex, OutOfRange}

-- the value of a key
abbrev pub field : Key → Data → Result Data CaseFault
field key tree = ok_or (get (key_text key) tree) (Missing key)

-- a string
unfoldable pub text_field : Key → Data → Result (List ℕ) CaseFault
text_field key tree = do
  value ← field key tree
  ok_or (as_str value) (WrongType key)

-- the bytes of hexadecimal digits of either case, in pairs
abbrev pub hex_of : List ℕ → Option (List ℕ)
hex_of text = result_ok (decode_of text)

-- a string of hexadecimal digits
unfoldable pub bytes_field : Key → Data → Result (List ℕ) CaseFault
bytes_field key tree = do
  text ← text_field key tree
  ok_or (hex_of text) (BadHex key)

-- a number that reads as an unsigned number of 64 bits, in a range
unfoldable pub number_of : Key → ℕ → ℕ → Data → Result ℕ CaseFault
number_of key low high value = do
  number ← ok_or (option_and_then as_u64 (as_number value)) (WrongType key)
  if nat_le low number && nat_le number high then Ok number else Err (OutOfRange key)

-- the number of a key
unfoldable pub number_field : Key → ℕ → ℕ → Data → Result ℕ CaseFault
number_field key low high tree = do
  value ← field key tree
  number_of key low high value

-- the number of a key that may be missing
abbrev pub number_if_there : Key → ℕ → ℕ → Option Data → Result (Option ℕ) CaseFault
number_if_there key low high (Some value) = number_of key low high value >>= (λ number. Ok (Some number))
number_if_there key low high None = Ok None

unfoldable pub optional_number_field : Key → ℕ → ℕ → Data → Result (Option ℕ) CaseFault
optional_number_field key low high tree = number_if_there key low high (get (key_text key) tree)

-- the key `tasks` is there, whatever it holds
abbrev pub has_tasks : Data → Bool
has_tasks tree = is_some (get (key_text keys.Tasks) tree)

-- an object of one case, which has no tasks
abbrev pub single_in : Data → Result Data CaseFault
single_in tree = if has_tasks tree then Err (OutOfRange keys.Tasks) else Ok tree

-- a format by its name
abbrev pub format_named : List ℕ → Option Format
format_named text =
    if bytes_eq text (codes "flat") then Some Flat
    else if bytes_eq text (codes "elf") then Some Elf
    else if bytes_eq text (codes "asm") then Some Asm
    else None

unfoldable pub format_in : Data → Result Format CaseFault
format_in tree = do
  text ← text_field keys.Format tree
  ok_or (format_named text) (OutOfRange keys.Format)

-- the image's bytes: of assembly the text as it is, and else those of its digits
unfoldable pub image_in : Format → Data → Result (List ℕ) CaseFault
image_in Asm tree = text_field keys.Image tree
image_in Flat tree = bytes_field keys.Image tree
image_in Elf tree = bytes_field keys.Image tree

-- the input's bytes, at most 1,048,576
unfoldable pub input_in : Data → Result (List ℕ) CaseFault
input_in tree = do
  input ← bytes_field keys.Input tree
  if nat_le (length input) 1048576 then Ok input else Err (OutOfRange keys.Input)

-- the version of the commitments: 1 to 3, and 1 for a case without the key
unfoldable pub version_in : Data → Result ℕ CaseFault
version_in tree = do
  version ← optional_number_field keys.Version 1 3 tree
  Ok (unwrap_or version 1)

-- into how many parts a round cuts its interval at most: 2 to 16, and 2 for a case without the key
unfoldable pub fan_in : Data → Result ℕ CaseFault
fan_in tree = do
  fan ← optional_number_field keys.Fan 2 16 tree
  Ok (unwrap_or fan 2)

-- what each prover puts down: at most 1,000,000,000, for a case with the key
abbrev pub stake_in : Data → Result (Option ℕ) CaseFault
stake_in tree = optional_number_field keys.Stake 0 1000000000 tree

-- the items of an array, as a list
abbrev pub listed : Items → List Data
listed no_items = []
listed (item d ds) = d ∷ listed ds

-- an array
unfoldable pub array_field : Key → Data → Result (List Data) CaseFault
array_field key tree = do
  value ← field key tree
  ok_or (option_map listed (as_array value)) (WrongType key)

-- the elements of `provers`, 1 to 16 of them
unfoldable pub provers_in : Data → Result (List Data) CaseFault
provers_in tree = do
  provers ← array_field keys.Provers tree
  if nat_le 1 (length provers) && nat_le (length provers) 16 then Ok provers else Err (OutOfRange keys.Provers)
