-- The answers of a tape, one after another.
use Rattle.std.proofs.Common.{◌≡◌, ℕ, suc, ◌+◌, ◌<◌, arith, List, [], ◌∷◌, ◌++◌, length, map, drop, get_or, Option, Some, None, refl, sym, ap, ◌∙◌, append_assoc}
use Rattle.std.proofs.lemmas.Bool.Decides.{nat_tests}
use Rattle.std.proofs.lemmas.List.{append-nil, length-map}
use Rattle.std.specs.Prelude.{codes}
use Rattle.std.specs.Option.{option_map, option_and_then}
use Rattle.serde_json.specs.Data.{Data}
use Rattle.serde_json.specs.Find.{get, as_array}
use Rattle.rd_base.specs.declared.tape.TapeAnswer.{TapeAnswer}
use Rattle.case_reader.specs.Fields.{listed}
use Rattle.case_reader.specs.Scripts.{tape_answer_in, tape_answers_in, tape_of, tape_in}
use Rattle.case_reader.proofs.ReadingLemmas.{map-drop}

-- answers, before others where these are known
abbrev pub behind : List TapeAnswer → Option (List TapeAnswer) → Option (List TapeAnswer)
behind before others = option_map (λ answers. before ++ answers) others

behind-one : (before : List TapeAnswer) (answer : TapeAnswer) (others : Option (List TapeAnswer))
    → behind before (option_map (λ answers. answer ∷ answers) others) ≡ behind (before ++ answer ∷ []) others
behind-one before answer (Some answers) = ap Some (sym (append_assoc before (answer ∷ []) answers))
behind-one before answer None = refl

one-known : (element : Data) (elements : List Data) (answer : TapeAnswer) → tape_answer_in element ≡ Some answer
    → tape_answers_in (element ∷ elements) ≡ option_map (λ answers. answer ∷ answers) (tape_answers_in elements)
unfolding tape_answers_in
one-known element elements answer known = rw known (by (tape_answers_in elements))
  where
    by : (others : Option (List TapeAnswer)) → option_and_then (λ answers. Some (answer ∷ answers)) others ≡ option_map (λ answers. answer ∷ answers) others
    by (Some answers) = refl
    by None = refl

one-unknown : (element : Data) (elements : List Data) → tape_answer_in element ≡ None → tape_answers_in (element ∷ elements) ≡ None
unfolding tape_answers_in
one-unknown element elements unknown = rw unknown refl

pub no_elements : tape_answers_in [] ≡ Some []
unfolding tape_answers_in
no_elements = refl

-- the next element is known: its answer goes to those so far
pub tape_goes_on : {X : Type 0} (view : X → Data) (xs : List X) (i : ℕ) (x : X) (before after : List TapeAnswer) (answer : TapeAnswer) (whole : Option (List TapeAnswer))
    → i < length xs → x ≡ get_or xs i x → tape_answer_in (view x) ≡ Some answer → after ≡ before ++ answer ∷ []
    → behind before (tape_answers_in (map view (drop i xs))) ≡ whole → behind after (tape_answers_in (map view (drop (i + 1) xs))) ≡ whole
tape_goes_on view xs i x before after answer whole within is known added so_far =
    ap (λ answers. behind answers (tape_answers_in (map view (drop (i + 1) xs)))) added
    ∙ (sym (behind-one before answer (tape_answers_in (map view (drop (i + 1) xs))))
    ∙ (ap (behind before) (sym (one-known (view x) (map view (drop (i + 1) xs)) answer known))
    ∙ (ap (λ elements. behind before (tape_answers_in elements)) (sym (map-drop view xs i x within is))
    ∙ so_far)))

-- the next element isn't known: neither is the tape
pub tape_ends : {X : Type 0} (view : X → Data) (xs : List X) (i : ℕ) (x : X) (before : List TapeAnswer) (whole : Option (List TapeAnswer))
    → i < length xs → x ≡ get_or xs i x → tape_answer_in (view x) ≡ None
    → behind before (tape_answers_in (map view (drop i xs))) ≡ whole → whole ≡ None
tape_ends view xs i x before whole within is unknown so_far =
    sym so_far
    ∙ (ap (λ elements. behind before (tape_answers_in elements)) (map-drop view xs i x within is)
    ∙ ap (behind before) (one-unknown (view x) (map view (drop (i + 1) xs)) unknown))

-- no element is left: the answers so far are all
pub tape_is_read : {X : Type 0} (view : X → Data) (xs : List X) (before : List TapeAnswer) (whole : Option (List TapeAnswer))
    → xs ≡ [] → behind before (tape_answers_in (map view xs)) ≡ whole → whole ≡ Some before
tape_is_read view xs before whole none so_far =
    sym so_far ∙ (ap (λ elements. behind before (tape_answers_in (map view elements))) none ∙ (ap (behind before) no_elements ∙ ap Some (append-nil before)))

-- as many answers are known as there are elements, so too many elements are no tape
answers-length : (elements : List Data) (answers : List TapeAnswer) → tape_answers_in elements ≡ Some answers → length answers ≡ length elements
unfolding tape_answers_in
answers-length [] answers is = let same : [] ≡ answers = cc is in ap length (sym same)
answers-length (element ∷ elements) answers is = by (tape_answer_in element) (tape_answers_in elements) (answers-length elements) is
  where
    by : (first : Option TapeAnswer) (others : Option (List TapeAnswer)) → ((known : List TapeAnswer) → others ≡ Some known → length known ≡ length elements)
        → option_and_then (λ one. option_and_then (λ more. Some (one ∷ more)) others) first ≡ Some answers → length answers ≡ suc (length elements)
    by (Some one) (Some more) same is = let whole : one ∷ more ≡ answers = cc is in ap length (sym whole) ∙ ap suc (same more refl)
    by (Some one) None same is = absurd (cc is)
    by None others same is = absurd (cc is)

-- the tape of no manner that holds more than 4,096 elements
pub long_tape : {X : Type 0} (view : X → Data) (manner : Data) (xs : List X) → 4096 < length xs
    → Some (map view xs) ≡ option_and_then (λ value. option_map listed (as_array value)) (get (codes "answers") manner) → tape_in manner ≡ None
unfolding tape_in
long_tape view manner xs long is = in_value (get (codes "answers") manner) is
  where
    none_known : (answers : Option (List TapeAnswer)) → ((known : List TapeAnswer) → answers ≡ Some known → length known ≡ length (map view xs)) → option_and_then tape_of answers ≡ None
    none_known (Some known) same = let count : length known ≡ length xs = same known refl ∙ length-map xs view in grind (arith, nat_tests)
    none_known None same = refl

    in_value : (value : Option Data) → Some (map view xs) ≡ option_and_then (λ value. option_map listed (as_array value)) value
        → option_and_then (λ value. option_and_then (λ elements. option_and_then tape_of (tape_answers_in elements)) (option_map listed (as_array value))) value ≡ None
    in_value (Some value) is = ap (option_and_then (λ elements. option_and_then tape_of (tape_answers_in elements))) (sym is) ∙ none_known (tape_answers_in (map view xs)) (answers-length (map view xs))
    in_value None is = absurd (cc is)
