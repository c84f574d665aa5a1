-- Options of `judge` as they are plainly written are taken.
use Rattle.std.proofs.Common.{◌≡◌, ◌≤◌, ◌<◌, ◌+◌, ◌-◌, ◌^◌, ℕ, zero, suc, Bool, true, false, ◌&&◌, ◌==◌, ◌%◌, not, List, [], ◌∷◌, ◌++◌, All, map, length, cond, Option, Some, None, codes, decimal, refl, sym, ap, ap₂, subst, ◌∙◌, arith}
use Rattle.std.proofs.lemmas.Bool.Decides.{nat_tests}
use Rattle.std.specs.Prelude.{find, is_some, nat_lt, nat_le, slice_index}
use Rattle.std.specs.List.{IsDistinct, AllByRecursion, list_all}
use Rattle.std.specs.Char.{digit_value}
use Rattle.std.specs.Str.{bytes_eq}
use Rattle.std.specs.Str.Parse.{AllDigits, IsNumeral, digits_value, without_leading_plus}
use Rattle.std.proofs.lemmas.Fmt.{decimal_is_IsNumeral, decimal_by_steps}
use Rattle.std.proofs.lemmas.List.Elements.{All-head, All-tail, All-nil, All-cons}
use Rattle.clap.specs.Walk.{Text}
use Rattle.clap.specs.ValueTests.{is_unsigned_in, is_numeral}
use Rattle.command_line.specs.Words.{chosen}
use Rattle.command_line.specs.Options.{OptionName, workers, posters, every, Given, number, full, digest, name_of, most_of, words_of, begins_with_digit, IsOfJudge, is_fine, given_by, are_taken_after, are_taken, judge_of, IsPlain, ArePlain}

-- THE WORD OF A NUMBER

-- digits alone: the first of them is one
abbrev StartsWithDigit : List ℕ → Type 0
StartsWithDigit [] = ⊥
StartsWithDigit (x ∷ xs) = (48 ≤ x) × (x ≤ 57)

started : (xs : List ℕ) (x : ℕ) → StartsWithDigit xs → StartsWithDigit (xs ++ x ∷ [])
started [] x is = absurd is
started (y ∷ ys) x is = is

starts : (n : ℕ) → n < 2 ^ 64 → StartsWithDigit (decimal n)
starts n small = decimal_by_steps (λ k ds. StartsWithDigit ds) (λ k few. (omega arith, omega arith)) (λ k ds large is. started ds (48 + k % 10) is) n small

begins : (xs : List ℕ) → StartsWithDigit xs → begins_with_digit xs ≡ true
begins [] is = absurd is
begins (x ∷ xs) is = let from : 48 ≤ x = is.0 in let to : x ≤ 57 = is.1 in grind (arith, nat_tests)

no-plus : (xs : List ℕ) → StartsWithDigit xs → without_leading_plus xs ≡ xs
no-plus [] is = absurd is
no-plus (x ∷ xs) is = let from : 48 ≤ x = is.0 in let other : (x == 43) ≡ false = grind (arith, nat_tests) in rw other refl

digits-all : (xs : List ℕ) → AllDigits 10 xs → list_all (λ d. nat_lt (digit_value d) 10) xs ≡ true
digits-all [] all = refl
digits-all (x ∷ xs) all =
    let lt : digit_value x < 10 = all.0 in
    let one : nat_lt (digit_value x) 10 ≡ true = grind (arith, nat_tests) in
    ap₂ (λ (a b : Bool). a && b) one (digits-all xs all.1)

numeral : (xs : List ℕ) → IsNumeral 10 xs → is_numeral xs ≡ true
numeral xs is =
    let lt : 0 < length xs = is.0 in
    let some : nat_lt 0 (length xs) ≡ true = grind (arith, nat_tests) in
    ap₂ (λ (a b : Bool). a && b) some (digits-all xs is.1)

most-small : (o : OptionName) → most_of o ≤ 65536
most-small workers = omega arith
most-small posters = omega arith
most-small every = omega arith

fine : (o : OptionName) (n : ℕ) → 1 ≤ n → n ≤ most_of o → is_unsigned_in 1 (most_of o) (decimal n) ≡ true
fine o n from to =
    let few = most-small o in
    let small : n < 2 ^ 64 = omega (arith, few, to) in
    let is = decimal_is_IsNumeral n small in
    let plain = no-plus (decimal n) (starts n small) in
    let least : nat_le 1 n ≡ true = grind (arith, nat_tests) in
    let most : nat_le n (most_of o) ≡ true = grind (arith, nat_tests) in
    let below : nat_lt n (2 ^ 64) ≡ true = grind (arith, nat_tests) in
    ap (λ t. is_numeral t && (nat_lt (digits_value 10 t) (2 ^ 64) && (nat_le 1 (digits_value 10 t) && nat_le (digits_value 10 t) (most_of o)))) plain
    ∙ (ap (λ v. is_numeral (decimal n) && (nat_lt v (2 ^ 64) && (nat_le 1 v && nat_le v (most_of o)))) is.1
    ∙ (ap (λ b. b && (nat_lt n (2 ^ 64) && (nat_le 1 n && nat_le n (most_of o)))) (numeral (decimal n) is.0)
    ∙ (ap (λ b. b && (nat_le 1 n && nat_le n (most_of o))) below ∙ (ap (λ b. b && nat_le n (most_of o)) least ∙ most))))

-- AN OPTION

one-fine : (g : Given) → IsPlain g → is_fine g ≡ true
one-fine (number o text) is = subst (λ t. is_unsigned_in 1 (most_of o) t ≡ true) (sym is.written) (fine o is.number is.least is.most)
one-fine full is = refl
one-fine (digest name) is = refl

pub of-judge : (g : Given) → IsPlain g → IsOfJudge g
of-judge (number o text) is =
    let few = most-small o in
    subst (λ t. begins_with_digit t ≡ true) (sym is.written) (begins (decimal is.number) (starts is.number (omega (arith, few, is.most))))
of-judge full is = tt
of-judge (digest name) is = tt

pub all-of-judge : (gs : List Given) → All IsPlain gs → All IsOfJudge gs
all-of-judge [] all = All-nil IsOfJudge
all-of-judge (g ∷ gs) all = All-cons IsOfJudge g gs (of-judge g (All-head IsPlain g gs all)) (all-of-judge gs (All-tail IsPlain g gs all))

-- OPTIONS, EACH ONCE

-- none of them has the name of one before
abbrev AreApart : List Given → List Given → Type 0
AreApart before gs = AllByRecursion (λ (g : Given). given_by (name_of g) before ≡ None) gs

not-first : (b : Bool) (h : Given) (r s : Option Given) → (r ≡ None → s ≡ None) → cond b (Some h) r ≡ None → cond b (Some h) s ≡ None
not-first true h r s more is = absurd (cc is)
not-first false h r s more is = more is

behind : (name : Text) (before : List Given) (g : Given) → given_by name before ≡ None → bytes_eq (name_of g) name ≡ false → given_by name (before ++ g ∷ []) ≡ None
behind name [] g none other = rw other refl
behind name (h ∷ before) g none other = not-first (bytes_eq (name_of h) name) h (given_by name before) (given_by name (before ++ g ∷ [])) (λ is. behind name before g is other) none

apart : (before : List Given) (g : Given) (gs : List Given) → AreApart before gs → AllByRecursion (λ (name : Text). bytes_eq (name_of g) name ≡ false) (map name_of gs) → AreApart (before ++ g ∷ []) gs
apart before g [] are others = tt
apart before g (h ∷ gs) are others = (behind (name_of h) before g are.0 others.0, apart before g gs are.1 others.1)

taken-after : (before gs : List Given) → All IsPlain gs → IsDistinct bytes_eq (map name_of gs) → AreApart before gs → are_taken_after before gs ≡ true
unfolding IsDistinct
taken-after before [] all once are = refl
taken-after before (g ∷ gs) all once are =
    ap (λ (o : Option Given). not (is_some o) && (is_fine g && are_taken_after (before ++ g ∷ []) gs)) are.0
    ∙ ap₂ (λ (a b : Bool). a && b) (one-fine g (All-head IsPlain g gs all)) (taken-after (before ++ g ∷ []) gs (All-tail IsPlain g gs all) once.1 (apart before g gs are.1 once.0))

none-before : (gs : List Given) → AreApart [] gs
none-before [] = tt
none-before (g ∷ gs) = (refl, none-before gs)

pub plain-taken : (given : List Given) → ArePlain given → are_taken given ≡ true
plain-taken given plain = taken-after [] given plain.each plain.once (none-before given)
