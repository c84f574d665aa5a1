-- Reading on, one prover after another, and the items of an array.
use Rattle.std.proofs.Common.{◌≡◌, ℕ, ◌+◌, ◌<◌, List, [], ◌∷◌, ◌++◌, length, map, drop, get_or, Result, Ok, Err, Option, Some, None, refl, sym, ap, ◌∙◌, append_assoc, add-one, drop-cons, ⊎_elim}
use Rattle.std.specs.Prelude.{IsUtf8}
use Rattle.std.specs.Str.{is_utf8}
use Rattle.std.proofs.lemmas.Str.{IsUtf8-from_is_utf8, is_utf8-from_IsUtf8}
use Rattle.std.proofs.lemmas.Bool.{cases_Bool}
use Rattle.std.proofs.lemmas.List.{append-nil}
use Rattle.serde_json.specs.Read.{read}
use Rattle.serde_json.specs.Data.{Data, Items}
use Rattle.std.specs.Option.{option_map}
use Rattle.serde_json.specs.View.{view, items_of, items_view}
use Rattle.serde_json.specs.declared.value.Value.{Value}
use Rattle.rd_base.specs.declared.script.Script.{Script}
use Rattle.case_reader.specs.declared.fault.CaseFault.{CaseFault}
use Rattle.case_reader.specs.declared.fault.CaseFault.TheVariants.{BadProver}
use Rattle.rd_base.specs.Results.{◌>>=◌}
use Rattle.case_reader.specs.Fields.{listed}
use Rattle.case_reader.specs.Scripts.{script_in}
use Rattle.case_reader.specs.Provers.{scripts_in}
use Rattle.case_reader.specs.Case.{tree_of}

-- what was read so far, before the rest
abbrev pub with_prefix : List Script → Result (List Script) CaseFault → Result (List Script) CaseFault
with_prefix prefix reading = reading >>= λ rest. Ok (prefix ++ rest)

pub listed-items_of : (ds : List Data) → listed (items_of ds) ≡ ds
listed-items_of [] = refl
listed-items_of (d ∷ ds) = ap (λ xs. d ∷ xs) (listed-items_of ds)

-- the items of values
pub items_listed : (o : Option Items) (vs : List Value) → Some (items_view vs) ≡ o → option_map listed o ≡ Some (map view vs)
items_listed o vs is = rw (← is) (ap Some (listed-items_of (map view vs)))

-- a prover that is known goes to the scripts so far
pub scripts_in-known : (prefix : List Script) (number : ℕ) (prover : Data) (provers : List Data) (script : Script) → script_in prover ≡ Some script
    → with_prefix prefix (scripts_in number (prover ∷ provers)) ≡ with_prefix (prefix ++ script ∷ []) (scripts_in (number + 1) provers)
unfolding scripts_in
scripts_in-known prefix number prover provers script known = rw known (regrouped (scripts_in (number + 1) provers))
  where
    regrouped : (rest : Result (List Script) CaseFault) → with_prefix prefix (rest >>= λ scripts. Ok (script ∷ scripts)) ≡ with_prefix (prefix ++ script ∷ []) rest
    regrouped (Ok scripts) = ap Ok (sym (append_assoc prefix (script ∷ []) scripts))
    regrouped (Err e) = refl

-- where no prover is left, the scripts so far are all
pub scripts_in-all : (prefix : List Script) (number : ℕ) (provers : List Data) → provers ≡ [] → with_prefix prefix (scripts_in number provers) ≡ Ok prefix
unfolding scripts_in
scripts_in-all prefix number provers none = rw none (ap Ok (append-nil prefix))

-- one that isn't known ends the reading
pub scripts_in-unknown : (prefix : List Script) (number : ℕ) (prover : Data) (provers : List Data) → script_in prover ≡ None
    → with_prefix prefix (scripts_in number (prover ∷ provers)) ≡ Err (BadProver number)
unfolding scripts_in
scripts_in-unknown prefix number prover provers unknown = rw unknown refl

-- the next of the items that are left, under f
pub map-drop : {X Y : Type 0} (f : X → Y) (xs : List X) (i : ℕ) (x : X) → i < length xs → x ≡ get_or xs i x → map f (drop i xs) ≡ f x ∷ map f (drop (i + 1) xs)
map-drop f xs i x within is = ap (map f) (drop-cons xs i x within) ∙ rw (← is, add-one i) refl

pub tree_of-read : (bytes : List ℕ) (tree : Data) → IsUtf8 bytes → read bytes ≡ Some tree → tree_of bytes ≡ Some tree
tree_of-read bytes tree utf8 is = rw (is_utf8-from_IsUtf8 bytes utf8) is

pub tree_of-none : (bytes : List ℕ) → (IsUtf8 bytes → read bytes ≡ None) → tree_of bytes ≡ None
tree_of-none bytes none = ⊎_elim (λ yes. rw yes (none (IsUtf8-from_is_utf8 bytes yes))) (λ no. rw no refl) (cases_Bool (is_utf8 bytes))
