-- The numbers of each tamper that is read are in its keys' ranges, and so is the input of each case.
use Rattle.std.proofs.Common.{◌≡◌, ℕ, zero, suc, ◌+◌, ◌-◌, ◌*◌, ◌%◌, ◌<◌, ◌≤◌, ◌==◌, nat_le, List, [], ◌∷◌, length, slice_index, Bool, true, false, ◌&&◌, inl, inr, Option, Some, None, Result, Ok, Err, slice_get, refl, subst, arith}
use Rattle.std.specs.Prelude.{if◌then◌else◌, All, codes}
use Rattle.std.specs.Str.{bytes_eq}
use Rattle.std.specs.Option.{ok_or, option_map, option_and_then}
use Rattle.std.specs.Result.{result_ok}
use Rattle.std.proofs.lemmas.Bool.{and_parts, leb-true}
use Rattle.std.proofs.lemmas.List.Elements.{All-nil, All-cons}
use Rattle.rd_base.specs.Results.{◌>>=◌, map_fault}
use Rattle.rd_base.specs.declared.script.Script.{Script}
use Rattle.rd_base.specs.declared.tamper.Tamper.TheVariants.{Early}
use Rattle.serde_json.specs.Data.{Data}
use Rattle.serde_json.specs.Find.{get, as_number, as_u64, as_object}
use Rattle.case_reader.specs.declared.fault.CaseFault.TheVariants.{NotJson, NotObject, BadProver, BadHex, OutOfRange}
use Rattle.case_reader.specs.declared.fault.TaskFault.TheVariants.{Whole, Task}
use Rattle.case_reader.specs.declared.fault.Key.TheVariants.{Input, Bound, Patience}
use Rattle.case_reader.specs.Fields.{hex_of, text_field, bytes_field, has_tasks, single_in, format_in, image_in, input_in, number_field, version_in, fan_in, stake_in, provers_in}
use Rattle.case_reader.specs.Scripts.{text_of_key, number_of_key, word_of_key, flip_in, register_in, early_in, tamper_of_kind, tamper_in, tamper_or_untouched, manner_or_plain, script_in}
use Rattle.case_reader.specs.Provers.{scripts_in}
use Rattle.case_reader.specs.Case.{CaseData, case_of, case_at, tree_of}
use Rattle.case_reader.specs.Tasks.{TasksData, One, Many, tasks_in, cases_in, many_of, one_of, tasks_of, tasks_at}
use Rattle.hex.specs.Hex.{hex_digit_value, digit_or_error, value_at, pair_value, decode_pairs, ◌>>=◌ as hex_then}
use Rattle.hex.specs.declared.error.FromHexError.{FromHexError}
use Rattle.hex.specs.declared.error.FromHexError.TheVariants.{OddLength}
use Rattle.case_reader.specs.ReadTampers.{IsReadTamper, HoldsCase, TampersAreRead}
use Rattle.case_reader.specs.ReadInputs.{IsReadInput, InputsAreRead, InputsOfTasksAreRead}

-- OF OPTIONS: what is given, if anything is, has a property

abbrev IfGiven : {A : Type 0} → (A → Type 0) → Option A → Type 0
IfGiven P (Some x) = P x
IfGiven P None = Unit {0}

then-given : {A B : Type 0} (P : A → Type 0) (Q : B → Type 0) (o : Option A) (f : A → Option B) → IfGiven P o → ((x : A) → P x → IfGiven Q (f x)) → IfGiven Q (option_and_then f o)
then-given P Q (Some x) f has further = further x has
then-given P Q None f has further = tt

any-given : {A B : Type 0} (Q : B → Type 0) (o : Option A) (f : A → Option B) → ((x : A) → IfGiven Q (f x)) → IfGiven Q (option_and_then f o)
any-given Q (Some x) f further = further x
any-given Q None f further = tt

map-given : {A B : Type 0} (P : A → Type 0) (Q : B → Type 0) (o : Option A) (f : A → B) → IfGiven P o → ((x : A) → P x → Q (f x)) → IfGiven Q (option_map f o)
map-given P Q (Some x) f has further = further x has
map-given P Q None f has further = tt

if-given : {A : Type 0} (P : A → Type 0) (b : Bool) (x y : Option A) → IfGiven P x → IfGiven P y → IfGiven P (if b then x else y)
if-given P true x y first second = first
if-given P false x y first second = second

tested-given : {A : Type 0} (P : A → Type 0) (b : Bool) (x : A) → (b ≡ true → P x) → IfGiven P (if b then Some x else None)
tested-given P true x has = has refl
tested-given P false x has = tt

abbrev IsBetween : ℕ → ℕ → ℕ → Type 0
IsBetween low high n = (low ≤ n) × (n ≤ high)

number-between : (key : List ℕ) (low high : ℕ) (tree : Data) → IfGiven (IsBetween low high) (number_of_key key low high tree)
unfolding number_of_key
number-between key low high tree =
    any-given (IsBetween low high) (get key tree) _ (λ value. any-given (IsBetween low high) (option_and_then as_u64 (as_number value)) _
    (λ number. tested-given (IsBetween low high) (nat_le low number && nat_le number high) number (λ is. let both = and_parts (nat_le low number) (nat_le number high) is in (leb-true low number both.0, leb-true number high both.1))))

flip-read : (tamper : Data) → IfGiven IsReadTamper (flip_in tamper)
unfolding flip_in
flip-read tamper =
    then-given (IsBetween 0 4294967295) IsReadTamper (word_of_key (codes "step") tamper) _ (number-between (codes "step") 0 4294967295 tamper)
    (λ at a. then-given (IsBetween 0 4294967295) IsReadTamper (word_of_key (codes "addr") tamper) _ (number-between (codes "addr") 0 4294967295 tamper)
    (λ addr b. then-given (IsBetween 0 255) IsReadTamper (number_of_key (codes "mask") 0 255 tamper) _ (number-between (codes "mask") 0 255 tamper)
    (λ mask m. (omega (arith, a.1), omega (arith, b.1), omega (arith, m.1)))))

register-read : (tamper : Data) → IfGiven IsReadTamper (register_in tamper)
unfolding register_in
register-read tamper =
    then-given (IsBetween 0 4294967295) IsReadTamper (word_of_key (codes "step") tamper) _ (number-between (codes "step") 0 4294967295 tamper)
    (λ at a. then-given (IsBetween 1 31) IsReadTamper (number_of_key (codes "reg") 1 31 tamper) _ (number-between (codes "reg") 1 31 tamper)
    (λ reg r. then-given (IsBetween 0 4294967295) IsReadTamper (word_of_key (codes "value") tamper) _ (number-between (codes "value") 0 4294967295 tamper)
    (λ value v. (omega (arith, a.1), r.0, r.1, omega (arith, v.1)))))

early-read : (tamper : Data) → IfGiven IsReadTamper (early_in tamper)
unfolding early_in
early-read tamper = map-given (IsBetween 0 4294967295) IsReadTamper (word_of_key (codes "steps") tamper) Early (number-between (codes "steps") 0 4294967295 tamper) (λ steps s. omega (arith, s.1))

kind-read : (tamper : Data) (kind : List ℕ) → IfGiven IsReadTamper (tamper_of_kind tamper kind)
kind-read tamper kind =
    if-given IsReadTamper (bytes_eq kind (codes "flip")) (flip_in tamper) _ (flip-read tamper)
    (if-given IsReadTamper (bytes_eq kind (codes "reg")) (register_in tamper) _ (register-read tamper)
    (if-given IsReadTamper (bytes_eq kind (codes "early")) (early_in tamper) None (early-read tamper) tt))

tamper-read : (tamper : Data) → IfGiven IsReadTamper (tamper_in tamper)
unfolding tamper_in
tamper-read tamper = any-given IsReadTamper (text_of_key (codes "kind") tamper) (tamper_of_kind tamper) (kind-read tamper)

untouched-read : (o : Option Data) → IfGiven IsReadTamper (tamper_or_untouched o)
untouched-read (Some tamper) = tamper-read tamper
untouched-read None = tt

abbrev HasReadTamper : Script → Type 0
HasReadTamper script = IsReadTamper script.tamper

script-read : (prover : Data) → IfGiven HasReadTamper (script_in prover)
unfolding script_in
script-read prover =
    any-given HasReadTamper (as_object prover) _
    (λ members. then-given IsReadTamper HasReadTamper (tamper_or_untouched (get (codes "tamper") prover)) _ (untouched-read (get (codes "tamper") prover))
    (λ tamper is. any-given HasReadTamper (manner_or_plain (get (codes "manner") prover)) _ (λ manner. is)))

-- OF RESULTS

abbrev IfRead : {A E : Type 0} → (A → Type 0) → Result A E → Type 0
IfRead P r = (x : _) → r ≡ Ok x → P x

ok-read : {A E : Type 0} (P : A → Type 0) (x : A) → P x → IfRead {E = E} P (Ok x)
ok-read P x has = λ y is. let same : x ≡ y = cc is in subst P same has

then-read : {A B E : Type 0} (P : A → Type 0) (Q : B → Type 0) (r : Result A E) (f : A → Result B E) → IfRead P r → ((x : A) → P x → IfRead Q (f x)) → IfRead Q (r >>= f)
then-read P Q (Ok x) f has further = further x (has x refl)
then-read P Q (Err e) f has further = λ y is. absurd (cc is)

any-read : {A B E : Type 0} (Q : B → Type 0) (r : Result A E) (f : A → Result B E) → ((x : A) → IfRead Q (f x)) → IfRead Q (r >>= f)
any-read Q (Ok x) f further = further x
any-read Q (Err e) f further = λ y is. absurd (cc is)

or-read : {A E : Type 0} (P : A → Type 0) (o : Option A) (e : E) → IfGiven P o → IfRead P (ok_or o e)
or-read P (Some x) e has = ok-read P x has
or-read P None e has = λ y is. absurd (cc is)

fault-read : {A E F : Type 0} (P : A → Type 0) (r : Result A E) (f : E → F) → IfRead P r → IfRead P (map_fault f r)
fault-read P (Ok x) f has = ok-read P x (has x refl)
fault-read P (Err e) f has = λ y is. absurd (cc is)

-- each of a list, and the one at a place
abbrev Each : {A : Type 0} → (A → Type 0) → List A → Type 0
Each P [] = Unit {0}
Each P (x ∷ xs) = P x × Each P xs

each-there : {A : Type 0} (P : A → Type 0) (xs : List A) (k : ℕ) (x : A) → Each P xs → slice_get xs k ≡ Some x → P x
each-there P [] k x each is = absurd (cc is)
each-there P (y ∷ ys) zero x each is = let same : y ≡ x = cc is in subst P same each.0
each-there P (y ∷ ys) (suc k) x each is = each-there P ys k x each.1 is

-- OF DIGITS: what pairs of them are read as are bytes

abbrev AreBytes : List ℕ → Type 0
AreBytes xs = (k : ℕ) → slice_index xs k < 256

tested-or : {A : Type 0} (P : A → Type 0) (b : Bool) (x : A) (rest : Option A) → (b ≡ true → P x) → IfGiven P rest → IfGiven P (if b then Some x else rest)
tested-or P true x rest has others = has refl
tested-or P false x rest has others = others

abbrev IsBelow : ℕ → ℕ → Type 0
IsBelow most n = n < most

digit-given : (c : ℕ) → IfGiven (IsBelow 16) (hex_digit_value c)
digit-given c =
    tested-or (IsBelow 16) (nat_le 65 c && nat_le c 70) (c - 55) _ (λ is. let both = and_parts (nat_le 65 c) (nat_le c 70) is in let most = leb-true c 70 both.1 in omega arith)
    (tested-or (IsBelow 16) (nat_le 97 c && nat_le c 102) (c - 87) _ (λ is. let both = and_parts (nat_le 97 c) (nat_le c 102) is in let most = leb-true c 102 both.1 in omega arith)
    (tested-given (IsBelow 16) (nat_le 48 c && nat_le c 57) (c - 48) (λ is. let both = and_parts (nat_le 48 c) (nat_le c 57) is in let most = leb-true c 57 both.1 in omega arith)))

value-read : (c i : ℕ) (o : Option ℕ) → IfGiven (IsBelow 16) o → IfRead (IsBelow 16) (digit_or_error c i o)
value-read c i (Some v) has = ok-read (IsBelow 16) v has
value-read c i None has = λ y is. absurd (cc is)

-- the steps of `hex` are read as ours
hex-then-read : {A B : Type 0} (P : A → Type 0) (Q : B → Type 0) (r : Result A FromHexError) (f : A → Result B FromHexError) → IfRead P r → ((x : A) → P x → IfRead Q (f x))
    → IfRead Q (hex_then r f)
hex-then-read P Q (Ok x) f has further = further x (has x refl)
hex-then-read P Q (Err e) f has further = λ y is. absurd (cc is)

pair-read : (high low i : ℕ) → IfRead (IsBelow 256) (pair_value high low i)
pair-read high low i =
    hex-then-read (IsBelow 16) (IsBelow 256) (value_at high i) _ (value-read high i (hex_digit_value high) (digit-given high))
    (λ h first. hex-then-read (IsBelow 16) (IsBelow 256) (value_at low (i + 1)) _ (value-read low (i + 1) (hex_digit_value low) (digit-given low))
    (λ l second. ok-read (IsBelow 256) (h * 16 + l) (omega arith)))

bytes-cons : (b : ℕ) (bytes : List ℕ) → b < 256 → AreBytes bytes → AreBytes (b ∷ bytes)
bytes-cons b bytes first others zero = first
bytes-cons b bytes first others (suc k) = others k

pairs-read : (i : ℕ) (text : List ℕ) → IfRead AreBytes (decode_pairs i text)
unfolding decode_pairs
pairs-read i [] = ok-read AreBytes [] (λ k. omega arith)
pairs-read i (digit ∷ []) = λ y is. absurd (cc is)
pairs-read i (high ∷ low ∷ rest) =
    hex-then-read (IsBelow 256) AreBytes (pair_value high low i) _ (pair-read high low i)
    (λ byte below. hex-then-read AreBytes AreBytes (decode_pairs (i + 2) rest) _ (pairs-read (i + 2) rest) (λ bytes are. ok-read AreBytes (byte ∷ bytes) (bytes-cons byte bytes below are)))

hex-given : (text : List ℕ) → IfGiven AreBytes (hex_of text)
hex-given text = by (length text % 2 == 1)
  where
    given : (r : Result (List ℕ) FromHexError) → IfRead AreBytes r → IfGiven AreBytes (result_ok r)
    given (Ok x) has = has x refl
    given (Err e) has = tt

    by : (b : Bool) → IfGiven AreBytes (result_ok (if b then Err OddLength else decode_pairs 0 text))
    by true = tt
    by false = given (decode_pairs 0 text) (pairs-read 0 text)

input-read : (tree : Data) → IfRead IsReadInput (input_in tree)
unfolding input_in bytes_field
input-read tree =
    then-read AreBytes IsReadInput (bytes_field Input tree) _ (any-read AreBytes (text_field Input tree) _ (λ text. or-read AreBytes (hex_of text) (BadHex Input) (hex-given text)))
    (λ input are. by input are (nat_le (length input) 1048576) refl)
  where
    by : (input : List ℕ) → AreBytes input → (b : Bool) → nat_le (length input) 1048576 ≡ b → IfRead IsReadInput (if b then Ok input else Err (OutOfRange Input))
    by input are true is = ok-read IsReadInput input (record { short = leb-true (length input) 1048576 is; bytes = are })
    by input are false is = λ y no. absurd (cc no)

scripts-read : (number : ℕ) (provers : List Data) → IfRead (Each HasReadTamper) (scripts_in number provers)
unfolding scripts_in
scripts-read number [] = ok-read (Each HasReadTamper) [] tt
scripts-read number (prover ∷ provers) =
    then-read HasReadTamper (Each HasReadTamper) (ok_or (script_in prover) (BadProver number)) _ (or-read HasReadTamper (script_in prover) (BadProver number) (script-read prover))
    (λ script has. then-read (Each HasReadTamper) (Each HasReadTamper) (scripts_in (number + 1) provers) _ (scripts-read (number + 1) provers) (λ scripts have. ok-read (Each HasReadTamper) (script ∷ scripts) (has, have)))

-- of a case that is read: its input, and the tampers of its provers
abbrev HasReadParts : CaseData → Type 0
HasReadParts c = IsReadInput c.input × Each HasReadTamper c.provers

case-read : (tree : Data) → IfRead HasReadParts (case_of tree)
unfolding case_of
case-read tree =
    any-read HasReadParts (ok_or (as_object tree) NotObject) _
    (λ members. any-read HasReadParts (single_in tree) _
    (λ single. any-read HasReadParts (format_in tree) _
    (λ format. any-read HasReadParts (image_in format tree) _
    (λ image. then-read IsReadInput HasReadParts (input_in tree) _ (input-read tree)
    (λ input small. any-read HasReadParts (number_field Bound 1 4294967295 tree) _
    (λ bound. any-read HasReadParts (number_field Patience 0 100 tree) _
    (λ patience. any-read HasReadParts (version_in tree) _
    (λ version. any-read HasReadParts (fan_in tree) _
    (λ fan. any-read HasReadParts (stake_in tree) _
    (λ stake. any-read HasReadParts (provers_in tree) _
    (λ provers. then-read (Each HasReadTamper) HasReadParts (scripts_in 1 provers) _ (scripts-read 1 provers) (λ scripts have. ok-read HasReadParts _ (small, have)))))))))))))

cases-read : (number : ℕ) (tasks : List Data) → IfRead (Each HasReadParts) (cases_in number tasks)
unfolding cases_in
cases-read number [] = ok-read (Each HasReadParts) [] tt
cases-read number (task ∷ tasks) =
    then-read HasReadParts (Each HasReadParts) (map_fault (Task number) (case_of task)) _ (fault-read HasReadParts (case_of task) (Task number) (case-read task))
    (λ c has. then-read (Each HasReadParts) (Each HasReadParts) (cases_in (number + 1) tasks) _ (cases-read (number + 1) tasks) (λ cs have. ok-read (Each HasReadParts) (c ∷ cs) (has, have)))

abbrev AllHaveReadParts : TasksData → Type 0
AllHaveReadParts (One c) = HasReadParts c
AllHaveReadParts (Many cs) = Each HasReadParts cs

many-read : (tree : Data) → IfRead AllHaveReadParts (many_of tree)
unfolding many_of
many-read tree =
    any-read AllHaveReadParts (map_fault Whole (tasks_in tree)) _ (λ tasks. then-read (Each HasReadParts) AllHaveReadParts (cases_in 1 tasks) _ (cases-read 1 tasks) (λ cs have. ok-read AllHaveReadParts (Many cs) have))

one-read : (tree : Data) → IfRead AllHaveReadParts (one_of tree)
unfolding one_of
one-read tree = then-read HasReadParts AllHaveReadParts (map_fault Whole (case_of tree)) _ (fault-read HasReadParts (case_of tree) Whole (case-read tree)) (λ c has. ok-read AllHaveReadParts (One c) has)

tree-read : (tree : Data) → IfRead AllHaveReadParts (tasks_of tree)
tree-read tree = by (has_tasks tree)
  where
    by : (b : Bool) → IfRead AllHaveReadParts (if b then many_of tree else one_of tree)
    by true = many-read tree
    by false = one-read tree

bytes-read : (bytes : List ℕ) → IfRead AllHaveReadParts (tasks_at bytes)
unfolding tasks_at
bytes-read bytes = any-read AllHaveReadParts (map_fault Whole (ok_or (tree_of bytes) NotJson)) tasks_of tree-read

case-of-bytes : (bytes : List ℕ) (c : CaseData) → HoldsCase bytes c → HasReadParts c
case-of-bytes bytes c (inl one) = bytes-read bytes (One c) one
case-of-bytes bytes c (inr (cs, t, many, there)) = let each : Each HasReadParts cs = bytes-read bytes (Many cs) many in each-there HasReadParts cs t c each there

pub tampers_are_read : TampersAreRead
tampers_are_read bytes c k script held is = each-there HasReadTamper c.provers k script (case-of-bytes bytes c held).1 is

pub inputs_are_read : InputsAreRead
unfolding case_at
inputs_are_read bytes c is = (any-read HasReadParts (ok_or (tree_of bytes) NotJson) case_of case-read c is).0

each-input : (cs : List CaseData) → Each HasReadParts cs → All (λ (c : CaseData). IsReadInput c.input) cs
each-input [] each = All-nil (λ (c : CaseData). IsReadInput c.input)
each-input (c ∷ cs) each = All-cons (λ (c : CaseData). IsReadInput c.input) c cs each.0.0 (each-input cs each.1)

pub inputs_of_tasks_are_read : InputsOfTasksAreRead
inputs_of_tasks_are_read bytes cs = by (tree_of bytes)
  where
    by : (tree : Option Data) → option_map many_of tree ≡ Some (Ok (Many cs)) → All (λ (c : CaseData). IsReadInput c.input) cs
    by (Some tree) is = let many : many_of tree ≡ Ok (Many cs) = cc is in each-input cs (many-read tree (Many cs) many)
    by None is = absurd (cc is)
