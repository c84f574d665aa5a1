-- Answerers that were made script by script answer in their order.
use Rattle.std.proofs.Common.{◌≡◌, ℕ, suc, ◌+◌, ◌-◌, List, [], ◌∷◌, ◌++◌, length, map, Option, Some, refl, subst, sym, arith, ap, ◌∙◌, length-append, Result, Ok, Err, OnOk}
use Rattle.std.specs.Prelude.{slice_get, slice_index_or, take, drop, ◌≤◌}
use Rattle.std.proofs.Math.Seq.{take-length}
use Rattle.rd_base.specs.declared.answer.Answer.{Answer}
use Rattle.rd_base.specs.declared.script.Script.{Script}
use Rattle.rv_step.specs.State.{State}
use Rattle.bisect_game.specs.declared.settled.Question.{Question}
use Rattle.bisect_game.specs.Says.{AnswerAs}
use Rattle.prover_run.specs.CaseScripts.{said_by, script_says, case_says}

-- the script at a place of a list that goes on
there : (before : List Script) (s : Script) (rest : List Script) → slice_get (before ++ s ∷ rest) (length before) ≡ Some s
there [] s rest = refl
there (x ∷ before) s rest = there before s rest

joined : (before : List Script) (s : Script) (left : List Script) → (before ++ s ∷ []) ++ left ≡ before ++ s ∷ left
joined [] s left = refl
joined (x ∷ before) s left = ap (λ (rest : List Script). x ∷ rest) (joined before s left)

from_here : {A : Type 0} (answers : A → Question → ℕ → Option Answer) (digest : List ℕ → List ℕ) (start : State) (bound : ℕ) (before left : List Script) (xs : List A)
    → map answers xs ≡ map (script_says digest start bound) left → AnswerAs answers (case_says digest start bound (before ++ left)) (length before + 1) xs
from_here answers digest start bound before left [] same = tt
from_here answers digest start bound before [] (x ∷ xs) same = absurd (cc)
from_here answers digest start bound before (s ∷ left) (x ∷ xs) same =
    let head : answers x ≡ script_says digest start bound s = cc in
    let tail : map answers xs ≡ map (script_says digest start bound) left = cc in
    let place : length before + 1 - 1 ≡ length before = omega arith in
    let rest = from_here answers digest start bound (before ++ s ∷ []) left xs tail in
    let longer : length (before ++ s ∷ []) + 1 ≡ length before + 1 + 1 = let both = length-append before (s ∷ []) in omega arith in (
      head ∙ ap (said_by digest start bound) (sym (ap (slice_get (before ++ s ∷ left)) place ∙ there before s left)),
      subst (λ (p : ℕ). AnswerAs answers (case_says digest start bound (before ++ s ∷ left)) p xs) longer
          (subst (λ (all : List Script). AnswerAs answers (case_says digest start bound all) (length (before ++ s ∷ []) + 1) xs) (joined before s left) rest),
    )

-- answerers that were put behind none
behind_none : {A B : Type 0} (f : A → B) (first xs : List A) (ys : List B) → first ≡ [] → map f xs ≡ map f first ++ ys → map f xs ≡ ys
behind_none {A = A} f first xs ys none same = same ∙ ap (λ (zs : List A). map f zs ++ ys) none

pub in_order : {A : Type 0} (answers : A → Question → ℕ → Option Answer) (digest : List ℕ → List ℕ) (start : State) (bound : ℕ) (scripts : List Script) (first xs : List A)
    → first ≡ [] → map answers xs ≡ map answers first ++ map (script_says digest start bound) scripts → AnswerAs answers (case_says digest start bound scripts) 1 xs
in_order answers digest start bound scripts first xs none same =
    from_here answers digest start bound [] scripts xs (behind_none answers first xs (map (script_says digest start bound) scripts) none same)

same_length : {A B C : Type 0} (f : A → B) (g : C → B) (xs : List A) (ys : List C) → map f xs ≡ map g ys → length xs ≡ length ys
same_length f g [] [] same = refl
same_length f g [] (y ∷ ys) same = absurd (cc)
same_length f g (x ∷ xs) [] same = absurd (cc)
same_length f g (x ∷ xs) (y ∷ ys) same = ap suc (same_length f g xs ys (cc))

-- as many as scripts
pub as_many : {A B C : Type 0} (f : A → B) (g : C → B) (first xs : List A) (ys : List C) → first ≡ [] → map f xs ≡ map f first ++ map g ys → length xs ≡ length ys
as_many f g first xs ys none same = same_length f g xs ys (behind_none f first xs (map g ys) none same)

-- one that is put behind others, and then the rest behind it
behind_both : {A B : Type 0} (f : A → B) (old : List A) (a : A) (b : B) (left : List B) → f a ≡ b → map f (old ++ a ∷ []) ++ left ≡ map f old ++ b ∷ left
behind_both f [] a b left same = ap (λ (x : _). x ∷ left) same
behind_both f (x ∷ old) a b left same = ap (λ (xs : _). f x ∷ xs) (behind_both f old a b left same)

pub put_one : {A B C : Type 0} (f : A → B) (g : C → B) (old pushed all : List A) (a : A) (scripts : List C) (s : C) → 1 ≤ length scripts → s ≡ slice_index_or scripts 0 s → f a ≡ g s
    → pushed ≡ old ++ a ∷ [] → map f all ≡ map f pushed ++ map g (take (length scripts - 1) (drop 1 scripts)) → map f all ≡ map f old ++ map g scripts
put_one f g old pushed all a [] s some is same put rest = absurd (omega (arith, some))
put_one f g old pushed all a (x ∷ xs) s some is same put rest =
    let fewer : suc (length xs) - 1 ≡ length xs = omega arith in
    rest
    ∙ (ap (λ (n : ℕ). map f pushed ++ map g (take n xs)) fewer
    ∙ (ap (λ (ys : List _). map f pushed ++ map g ys) (take-length xs)
    ∙ (ap (λ (ys : List _). map f ys ++ map g xs) put
    ∙ behind_both f old a (g x) (map g xs) (same ∙ ap g is))))

-- what follows of what holds of an answer
pub on_made : {A E : Type 0} (P Q : Type 0) → (P → Q) → (r : Result A E) → OnOk r P → OnOk r Q
on_made P Q more (Ok a) holds = more holds
on_made P Q more (Err e) holds = holds
