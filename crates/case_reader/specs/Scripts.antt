-- To believe. The script of a prover: what is wrong with its run, and how it answers. Each key of a kind is there, of its
-- type and in its range; keys of other names are ignored.
use Rattle.std.specs.Prelude.{ℕ, ◌&&◌, List, [], ◌∷◌, length, codes, nat_le, Option, Some, None, if◌then◌else◌}
use Rattle.std.specs.Option.{option_map, option_and_then}
use Rattle.std.specs.Result.{result_ok}
use Rattle.std.specs.Str.{bytes_eq}
use Rattle.serde_json.specs.Data.{Data}
use Rattle.serde_json.specs.Find.{get, as_str, as_object, as_array, as_number, as_u64}
use Rattle.rd_base.specs.declared.answer.Answer.{Answer}
use Rattle.rd_base.specs.declared.tape.TapeAnswer.{TapeAnswer}
use Rattle.rd_base.specs.declared.script.Script.{Script}
use Rattle.rd_base.specs.declared.script.Manner.{Manner}
use Rattle.rd_base.specs.declared.script.Manner.TheVariants.{Plain, Late, Silent, Output, Forge, Noise, Tape}
use Rattle.rd_base.specs.declared.tamper.Tamper.{Tamper}
use Rattle.rd_base.specs.declared.tamper.Tamper.TheVariants.{Untouched, Flip, Register, Early}
use Rattle.proof_wire.specs.Reading.{answer_in}
use Rattle.case_reader.specs.Fields.{hex_of, listed}

-- the `?` of an option: the second step if the first gave a value
infixl 10 ◌>>=◌
abbrev pub ◌>>=◌ : {A B : Type 0} → Option A → (A → Option B) → Option B
x >>= f = option_and_then f x

-- the text of a key
abbrev pub text_of_key : List ℕ → Data → Option (List ℕ)
text_of_key key tree = option_and_then as_str (get key tree)

-- the number of a key, one that reads as an unsigned number of 64 bits, in a range
unfoldable pub number_of_key : List ℕ → ℕ → ℕ → Data → Option ℕ
number_of_key key low high tree = do
  value ← get key tree
  number ← option_and_then as_u64 (as_number value)
  if nat_le low number && nat_le number high then Some number else None

-- the number of a key, below 2^32
abbrev pub word_of_key : List ℕ → Data → Option ℕ
word_of_key key tree = number_of_key key 0 4294967295 tree

-- the keys of the kind `flip`
unfoldable pub flip_in : Data → Option Tamper
flip_in tamper = do
  step ← word_of_key (codes "step") tamper
  addr ← word_of_key (codes "addr") tamper
  mask ← number_of_key (codes "mask") 0 255 tamper
  Some (Flip step addr mask)

-- the keys of the kind `reg`
unfoldable pub register_in : Data → Option Tamper
register_in tamper = do
  step ← word_of_key (codes "step") tamper
  reg ← number_of_key (codes "reg") 1 31 tamper
  value ← word_of_key (codes "value") tamper
  Some (Register step reg value)

-- the keys of the kind `early`
unfoldable pub early_in : Data → Option Tamper
early_in tamper = option_map Early (word_of_key (codes "steps") tamper)

abbrev pub tamper_of_kind : Data → List ℕ → Option Tamper
tamper_of_kind tamper kind =
    if bytes_eq kind (codes "flip") then flip_in tamper
    else if bytes_eq kind (codes "reg") then register_in tamper
    else if bytes_eq kind (codes "early") then early_in tamper
    else None

-- a tamper that is known
unfoldable pub tamper_in : Data → Option Tamper
tamper_in tamper = option_and_then (tamper_of_kind tamper) (text_of_key (codes "kind") tamper)

-- bytes that a claim's output may be: at most 4,294,967,295
abbrev pub output_of : List ℕ → Option (List ℕ)
output_of bytes = if nat_le (length bytes) 4294967295 then Some bytes else None

-- the bytes of the kind `output`
unfoldable pub output_bytes_in : Data → Option (List ℕ)
output_bytes_in manner = do
  text ← text_of_key (codes "bytes") manner
  bytes ← hex_of text
  output_of bytes

-- the keys of the kind `forge`
unfoldable pub forge_in : Data → Option Manner
forge_in manner = do
  step ← word_of_key (codes "step") manner
  reg ← number_of_key (codes "reg") 1 31 manner
  value ← word_of_key (codes "value") manner
  Some (Forge step reg value)

-- the answer that is written as the digits of its wire form
unfoldable pub answer_of_key : List ℕ → Data → Option Answer
answer_of_key key tree = do
  text ← text_of_key key tree
  bytes ← hex_of text
  result_ok (answer_in bytes)

-- an answer of a tape, and the number of its question
unfoldable pub tape_answer_in : Data → Option TapeAnswer
tape_answer_in element = do
  dispute ← word_of_key (codes "dispute") element
  round ← word_of_key (codes "round") element
  answer ← answer_of_key (codes "answer") element
  Some (record { qid = record { dispute = dispute; round = round }; answer = answer })

-- the answers of a tape, all of which are known
unfoldable pub tape_answers_in : List Data → Option (List TapeAnswer)
tape_answers_in [] = Some []
tape_answers_in (element ∷ elements) = do
  first ← tape_answer_in element
  others ← tape_answers_in elements
  Some (first ∷ others)

-- answers that a tape may hold: at most 4,096
abbrev pub tape_of : List TapeAnswer → Option (List TapeAnswer)
tape_of answers = if nat_le (length answers) 4096 then Some answers else None

-- the answers of the kind `tape`
unfoldable pub tape_in : Data → Option (List TapeAnswer)
tape_in manner = do
  value ← get (codes "answers") manner
  elements ← option_map listed (as_array value)
  answers ← tape_answers_in elements
  tape_of answers

abbrev pub manner_of_kind : Data → List ℕ → Option Manner
manner_of_kind manner kind =
    if bytes_eq kind (codes "late") then option_map Late (number_of_key (codes "passes") 0 1000 manner)
    else if bytes_eq kind (codes "silent") then option_map Silent (number_of_key (codes "from") 0 64 manner)
    else if bytes_eq kind (codes "output") then option_map Output (output_bytes_in manner)
    else if bytes_eq kind (codes "forge") then forge_in manner
    else if bytes_eq kind (codes "noise") then option_map Noise (word_of_key (codes "seed") manner)
    else if bytes_eq kind (codes "tape") then option_map Tape (tape_in manner)
    else None

-- a manner that is known
unfoldable pub manner_in : Data → Option Manner
manner_in manner = option_and_then (manner_of_kind manner) (text_of_key (codes "kind") manner)

-- the tamper of a prover that has the key; one that hasn't is untouched
abbrev pub tamper_or_untouched : Option Data → Option Tamper
tamper_or_untouched (Some tamper) = tamper_in tamper
tamper_or_untouched None = Some Untouched

-- the manner of a prover that has the key; one that hasn't is plain
abbrev pub manner_or_plain : Option Data → Option Manner
manner_or_plain (Some manner) = manner_in manner
manner_or_plain None = Some Plain

-- a prover that is known: an object whose tamper and manner are known, if they are there
unfoldable pub script_in : Data → Option Script
script_in prover = do
  members ← as_object prover
  tamper ← tamper_or_untouched (get (codes "tamper") prover)
  manner ← manner_or_plain (get (codes "manner") prover)
  Some (record { tamper = tamper; manner = manner })
