-- The tree of the workload: it has no float, it isn't deep, and it is a case.
use Rattle.std.proofs.Common.{◌≡◌, ℕ, zero, suc, ◌+◌, ◌*◌, ◌%◌, ◌<◌, ◌≤◌, ◌==◌, List, [], ◌∷◌, length, map, slice_index, Bool, true, false, ◌&&◌, Result, Ok, Some, None, refl, ap, ◌∙◌, arith}
use Rattle.std.specs.Prelude.{IsUtf8, if◌then◌else◌}
use Rattle.std.specs.List.{range_with_len}
use Rattle.std.specs.Result.{result_ok}
use Rattle.std.proofs.Math.Dec.{leb, ltb, leb-zero}
use Rattle.std.proofs.lemmas.Bool.{and_parts, le-leb, ltb-true}
use Rattle.std.proofs.lemmas.Str.{is_utf8-from_IsUtf8}
use Rattle.hex.specs.Hex.{IsBytes, encode_lower}
use Rattle.hex.proofs.HexLemmas.{decode_of-encode_lower}
use Rattle.serde_json.specs.Data.{Data, Items, object, no_members, depth, items_depth}
use Rattle.serde_json.specs.Read.{read}
use Rattle.serde_json.specs.View.{items_of}
use Rattle.serde_json.specs.Written.{has_float, items_have_float}
use Rattle.rd_base.specs.declared.script.Script.{Script}
use Rattle.case_reader.specs.declared.fault.CaseFault.{CaseFault}
use Rattle.case_reader.specs.Fields.{hex_of, listed, text_field, bytes_field, number_of, number_field, optional_number_field, format_in, image_in, input_in, version_in, fan_in, array_field, provers_in}
use Rattle.case_reader.specs.Scripts.{number_of_key, register_in, tamper_in, script_in}
use Rattle.case_reader.specs.Provers.{scripts_in}
use Rattle.case_reader.specs.Case.{CaseData, case_of, case_at}
use Rattle.case_reader.specs.declared.case.Format.TheVariants.{Flat}
use Rattle.workload.specs.Draws.{draw, first_values}
use Rattle.workload.specs.Program.{program}
use Rattle.workload.specs.Workload.{input_byte, input_of, step_of, value_of, tampered_step, tampered_value, untampered, tampered_at, prover_tree, prover_script, tampering, case_members, big_tree, big_data}
use Rattle.workload.proofs.DrawLemmas.{draw-below, length-first_values, slice_index-first_values}

-- a prover whose draws are those of its place
pub prover_drawn : (seed place first second : ℕ) (d : Data) → first ≡ draw seed (4096 + 2 * place + 1) → second ≡ draw seed (4096 + 2 * place + 2)
    → d ≡ (if place == seed % 8 then object no_members else tampering (step_of place first) (value_of second)) → d ≡ prover_tree seed place
prover_drawn seed place first second d one two is = is ∙ rw (one, two) refl

-- ---- no float

one_has_no_float : (truthful : Bool) (step value : ℕ) → has_float (if truthful then object no_members else tampering step value) ≡ false
one_has_no_float true step value = refl
one_has_no_float false step value = refl

values_have_no_float : (f : ℕ → Data) → ((k : ℕ) → has_float (f k) ≡ false) → (a n : ℕ) → items_have_float (items_of (map f (range_with_len a n))) ≡ false
values_have_no_float f none a zero = refl
values_have_no_float f none a (suc n) = rw (none a, values_have_no_float f none (a + 1) n) refl

provers_have_no_float : (seed n : ℕ) → items_have_float (items_of (first_values n (prover_tree seed))) ≡ false
unfolding first_values
provers_have_no_float seed n = values_have_no_float (prover_tree seed) (λ k. one_has_no_float (k == seed % 8) _ _) 0 n

case_has_no_float : (image input : List ℕ) (provers : Items) → items_have_float provers ≡ false → has_float (object (case_members image input provers)) ≡ false
case_has_no_float image input provers none = rw none refl

pub has_float-big_tree : (seed : ℕ) → has_float (big_tree seed) ≡ false
unfolding big_tree
has_float-big_tree seed = case_has_no_float (encode_lower program) (encode_lower (input_of seed)) (items_of (first_values 8 (prover_tree seed))) (provers_have_no_float seed 8)

-- ---- how deep it is

one_is_shallow : (truthful : Bool) (step value : ℕ) → depth (if truthful then object no_members else tampering step value) ≤ 2
one_is_shallow true step value = omega arith
one_is_shallow false step value = omega arith

values_are_shallow : (f : ℕ → Data) (most : ℕ) → ((k : ℕ) → depth (f k) ≤ most) → (a n : ℕ) → items_depth (items_of (map f (range_with_len a n))) ≤ most
values_are_shallow f most shallow a zero = omega arith
values_are_shallow f most shallow a (suc n) =
    let here : depth (f a) ≤ most = shallow a in
    let rest : items_depth (items_of (map f (range_with_len (a + 1) n))) ≤ most = values_are_shallow f most shallow (a + 1) n in
    omega arith

provers_are_shallow : (seed n : ℕ) → items_depth (items_of (first_values n (prover_tree seed))) ≤ 2
unfolding first_values
provers_are_shallow seed n = values_are_shallow (prover_tree seed) 2 (λ k. one_is_shallow (k == seed % 8) _ _) 0 n

case_is_shallow : (image input : List ℕ) (provers : Items) → items_depth provers ≤ 2 → depth (object (case_members image input provers)) ≤ 127
case_is_shallow image input provers shallow = omega arith

pub depth-big_tree : (seed : ℕ) → depth (big_tree seed) ≤ 127
unfolding big_tree
depth-big_tree seed = case_is_shallow (encode_lower program) (encode_lower (input_of seed)) (items_of (first_values 8 (prover_tree seed))) (provers_are_shallow seed 8)

-- ---- hexadecimal digits read back

hex_of-encode_lower : (bytes : List ℕ) → IsBytes bytes → hex_of (encode_lower bytes) ≡ Some bytes
hex_of-encode_lower bytes fit = ap result_ok (decode_of-encode_lower bytes fit)

input_byte-below : (seed k : ℕ) → input_byte seed k < 256
input_byte-below seed k = let below = draw-below seed k (k + 1) refl in omega arith

pub input_is_bytes : (seed : ℕ) → IsBytes (input_of seed)
unfolding input_of
input_is_bytes seed i = slice_index-first_values (input_byte seed) 256 4096 i (omega arith) (input_byte-below seed)

pub length-input_of : (seed : ℕ) → length (input_of seed) ≡ 4096
unfolding input_of
length-input_of seed = length-first_values 4096 (input_byte seed)

all_below : ℕ → List ℕ → Bool
all_below most [] = true
all_below most (x ∷ xs) = ltb x most && all_below most xs

one_of_all : (most : ℕ) (xs : List ℕ) (i : ℕ) → 0 < most → all_below most xs ≡ true → slice_index xs i < most
unfolding all_below
one_of_all most [] i positive all = positive
one_of_all most (x ∷ xs) zero positive all = ltb-true x most (and_parts (ltb x most) (all_below most xs) all).0
one_of_all most (x ∷ xs) (suc i) positive all = one_of_all most xs i positive (and_parts (ltb x most) (all_below most xs) all).1

program_is_bytes : IsBytes program
unfolding program all_below
program_is_bytes i = one_of_all 256 program i (omega arith) refl

-- ---- the tree is a case

listed-items_of : (ds : List Data) → listed (items_of ds) ≡ ds
listed-items_of [] = refl
listed-items_of (d ∷ ds) = ap (λ xs. d ∷ xs) (listed-items_of ds)

values_are_scripts : (f : ℕ → Data) (g : ℕ → Script) (top : ℕ) → ((k : ℕ) → k < top → script_in (f k) ≡ Some (g k)) → (number a n : ℕ) → a + n ≤ top
    → scripts_in number (map f (range_with_len a n)) ≡ Ok (map g (range_with_len a n))
unfolding scripts_in
values_are_scripts f g top known number a zero within = refl
values_are_scripts f g top known number a (suc n) within =
    rw (known a (omega arith), values_are_scripts f g top known (number + 1) (a + 1) n (omega arith)) refl

one_is_known : (truthful : Bool) (step value : ℕ) → leb step 4294967295 ≡ true → leb value 4294967295 ≡ true
    → script_in (if truthful then object no_members else tampering step value) ≡ Some (if truthful then untampered else tampered_at step value)
unfolding script_in tamper_in register_in number_of_key
one_is_known true step value step_fits value_fits = refl
one_is_known false step value step_fits value_fits = rw (leb-zero step, step_fits, leb-zero value, value_fits) refl

script_in-prover_tree : (seed place : ℕ) → place < 8 → script_in (prover_tree seed place) ≡ Some (prover_script seed place)
script_in-prover_tree seed place few =
    let second = draw-below seed (4096 + 2 * place + 1) (4096 + 2 * place + 2) (omega arith) in
    let step_fits : tampered_step seed place ≤ 4294967295 = omega arith in
    let value_fits : tampered_value seed place ≤ 4294967295 = omega arith in
    one_is_known (place == seed % 8) (tampered_step seed place) (tampered_value seed place) (le-leb _ _ step_fits) (le-leb _ _ value_fits)

provers_are_scripts : (seed n : ℕ) → n ≤ 8 → scripts_in 1 (first_values n (prover_tree seed)) ≡ Ok (first_values n (prover_script seed))
unfolding first_values
provers_are_scripts seed n few = values_are_scripts (prover_tree seed) (prover_script seed) 8 (script_in-prover_tree seed) 1 0 n (omega arith)

members_are_a_case : (image_text input_text image input : List ℕ) (provers : List Data) (scripts : List Script)
    → hex_of image_text ≡ Some image → hex_of input_text ≡ Some input → length input ≡ 4096 → length provers ≡ 8 → scripts_in 1 provers ≡ Ok scripts
    → let c : Result CaseData CaseFault = Ok (record { image = image; format = Flat; input = input; bound = 65536; patience = 0; version = 1; fan = 2; stake = None; provers = scripts }) in
    case_of (object (case_members image_text input_text (items_of provers))) ≡ c
unfolding case_of text_field bytes_field number_of number_field optional_number_field format_in image_in input_in version_in fan_in array_field provers_in
members_are_a_case image_text input_text image input provers scripts image_is input_is input_len provers_are scripts_are =
    rw (image_is, input_is, input_len, listed-items_of provers, provers_are, scripts_are) refl

pub case_of-big_tree : (seed : ℕ) → case_of (big_tree seed) ≡ Ok (big_data seed)
unfolding big_tree big_data
case_of-big_tree seed =
    members_are_a_case (encode_lower program) (encode_lower (input_of seed)) program (input_of seed) (first_values 8 (prover_tree seed)) (first_values 8 (prover_script seed))
    (hex_of-encode_lower program program_is_bytes) (hex_of-encode_lower (input_of seed) (input_is_bytes seed)) (length-input_of seed)
    (length-first_values 8 (prover_tree seed)) (provers_are_scripts seed 8 (omega arith))

-- bytes that read as a tree, and the tree as a case
pub case_at-read : (text : List ℕ) (tree : Data) (c : CaseData) → IsUtf8 text → read text ≡ Some tree → case_of tree ≡ Ok c → case_at text ≡ Ok c
unfolding case_at
case_at-read text tree c utf8 is holds = rw (is_utf8-from_IsUtf8 text utf8, is) holds
