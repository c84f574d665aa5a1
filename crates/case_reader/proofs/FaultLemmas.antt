-- No rule of a case is that memory ran out.
use Rattle.std.proofs.Common.{◌≡◌, ◌≢◌, ℕ, ◌+◌, List, [], ◌∷◌, Bool, true, false, Option, Some, None, Result, Ok, Err, ap}
use Rattle.std.specs.Prelude.{if◌then◌else◌, nat_le, ◌&&◌}
use Rattle.std.specs.Option.{ok_or, option_and_then}
use Rattle.rd_base.specs.Results.{◌>>=◌}
use Rattle.serde_json.specs.Data.{Data}
use Rattle.serde_json.specs.Find.{as_number, as_u64}
use Rattle.case_reader.specs.declared.fault.Key.{Key}
use Rattle.case_reader.specs.declared.fault.CaseFault.{CaseFault}
use Rattle.case_reader.specs.declared.fault.CaseFault.TheVariants.{NotJson, NotObject, Missing, WrongType, BadHex, OutOfRange, BadProver, Memory}
use Rattle.case_reader.specs.declared.case.Format.{Format}
use Rattle.case_reader.specs.declared.case.Format.TheVariants.{Flat, Elf, Asm}
use Rattle.case_reader.specs.declared.fault.Key.TheVariants as keys
use Rattle.serde_json.specs.Find.{get}
use Rattle.case_reader.specs.Key.{key_text}
use Rattle.case_reader.specs.Case.{case_of, case_at}
use Rattle.case_reader.specs.Fields.{field, text_field, bytes_field, number_of, number_field, number_if_there, optional_number_field, has_tasks, single_in, format_in, image_in, input_in, version_in, fan_in, array_field, provers_in}
use Rattle.case_reader.specs.Provers.{scripts_in}

-- a reading that doesn't end as out of memory
abbrev pub IsFree : {A : Type 0} → Result A CaseFault → Type 0
IsFree r = ¬ (r ≡ Err Memory)

pub then-free : {A B : Type 0} (r : Result A CaseFault) (f : A → Result B CaseFault) → IsFree r → ((x : A) → IsFree (f x)) → IsFree (r >>= f)
then-free (Ok x) f free further = further x
then-free (Err e) f free further = λ is. free (ap Err (cc is))

pub some-free : {A : Type 0} (o : Option A) (e : CaseFault) → e ≢ Memory → IsFree (ok_or o e)
some-free (Some x) e other = λ is. absurd (cc is)
some-free None e other = λ is. other (cc is)

ok-free : {A : Type 0} (x : A) → IsFree (Ok x)
ok-free x = λ is. absurd (cc is)

pub if-free : {A : Type 0} (b : Bool) (x : A) (e : CaseFault) → e ≢ Memory → IsFree (if b then Ok x else Err e)
if-free true x e other = λ is. absurd (cc is)
if-free false x e other = λ is. other (cc is)

else-free : {A : Type 0} (b : Bool) (x : A) (e : CaseFault) → e ≢ Memory → IsFree (if b then Err e else Ok x)
else-free true x e other = λ is. other (cc is)
else-free false x e other = λ is. absurd (cc is)

field-free : (key : Key) (tree : Data) → IsFree (field key tree)
field-free key tree = some-free _ (Missing key) (λ is. cc is)

text-free : (key : Key) (tree : Data) → IsFree (text_field key tree)
unfolding text_field
text-free key tree = then-free (field key tree) _ (field-free key tree) (λ value. some-free _ (WrongType key) (λ is. cc is))

bytes-free : (key : Key) (tree : Data) → IsFree (bytes_field key tree)
unfolding bytes_field
bytes-free key tree = then-free (text_field key tree) _ (text-free key tree) (λ text. some-free _ (BadHex key) (λ is. cc is))

value-free : (key : Key) (low high : ℕ) (value : Data) → IsFree (number_of key low high value)
unfolding number_of
value-free key low high value =
    then-free (ok_or (option_and_then as_u64 (as_number value)) (WrongType key)) _
    (some-free (option_and_then as_u64 (as_number value)) (WrongType key) (λ is. cc is))
    (λ number. if-free (nat_le low number && nat_le number high) number (OutOfRange key) (λ is. cc is))

number-free : (key : Key) (low high : ℕ) (tree : Data) → IsFree (number_field key low high tree)
unfolding number_field
number-free key low high tree = then-free (field key tree) _ (field-free key tree) (value-free key low high)

there-free : (key : Key) (low high : ℕ) (value : Option Data) → IsFree (number_if_there key low high value)
there-free key low high (Some value) = then-free (number_of key low high value) _ (value-free key low high value) (λ number. ok-free (Some number))
there-free key low high None = ok-free None

optional-free : (key : Key) (low high : ℕ) (tree : Data) → IsFree (optional_number_field key low high tree)
unfolding optional_number_field
optional-free key low high tree = there-free key low high (get (key_text key) tree)

version-free : (tree : Data) → IsFree (version_in tree)
unfolding version_in
version-free tree = then-free _ _ (optional-free keys.Version 1 3 tree) (λ version. ok-free _)

fan-free : (tree : Data) → IsFree (fan_in tree)
unfolding fan_in
fan-free tree = then-free _ _ (optional-free keys.Fan 2 16 tree) (λ fan. ok-free _)

format-free : (tree : Data) → IsFree (format_in tree)
unfolding format_in
format-free tree = then-free _ _ (text-free _ tree) (λ text. some-free _ (OutOfRange _) (λ is. cc is))

image-free : (format : Format) (tree : Data) → IsFree (image_in format tree)
unfolding image_in
image-free Asm tree = text-free _ tree
image-free Flat tree = bytes-free _ tree
image-free Elf tree = bytes-free _ tree

input-free : (tree : Data) → IsFree (input_in tree)
unfolding input_in
input-free tree = then-free _ _ (bytes-free _ tree) (λ input. if-free _ input (OutOfRange _) (λ is. cc is))

pub array-free : (key : Key) (tree : Data) → IsFree (array_field key tree)
unfolding array_field
array-free key tree = then-free (field key tree) _ (field-free key tree) (λ value. some-free _ (WrongType key) (λ is. cc is))

provers-free : (tree : Data) → IsFree (provers_in tree)
unfolding provers_in
provers-free tree = then-free _ _ (array-free _ tree) (λ provers. if-free _ provers (OutOfRange _) (λ is. cc is))

scripts-free : (number : ℕ) (provers : List Data) → IsFree (scripts_in number provers)
unfolding scripts_in
scripts-free number [] = ok-free []
scripts-free number (prover ∷ provers) =
    then-free _ _ (some-free _ (BadProver number) (λ is. cc is)) (λ script. then-free _ _ (scripts-free (number + 1) provers) (λ scripts. ok-free (script ∷ scripts)))

single-free : (tree : Data) → IsFree (single_in tree)
single-free tree = else-free (has_tasks tree) tree (OutOfRange _) (λ is. cc is)

pub case-free : (tree : Data) → IsFree (case_of tree)
unfolding case_of
case-free tree =
    then-free _ _ (some-free _ NotObject (λ is. cc is))
    (λ members. then-free _ _ (single-free tree)
    (λ single. then-free _ _ (format-free tree)
    (λ format. then-free _ _ (image-free format tree)
    (λ image. then-free _ _ (input-free tree)
    (λ input. then-free _ _ (number-free _ _ _ tree)
    (λ bound. then-free _ _ (number-free _ _ _ tree)
    (λ patience. then-free _ _ (version-free tree)
    (λ version. then-free _ _ (fan-free tree)
    (λ fan. then-free _ _ (optional-free _ _ _ tree)
    (λ stake. then-free _ _ (provers-free tree)
    (λ provers. then-free _ _ (scripts-free 1 provers) (λ scripts. ok-free _))))))))))))

pub no_fault_is_memory : (bytes : List ℕ) → IsFree (case_at bytes)
unfolding case_at
no_fault_is_memory bytes = then-free _ _ (some-free _ NotJson (λ is. cc is)) case-free
