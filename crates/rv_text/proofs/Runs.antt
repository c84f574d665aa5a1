-- Runs of characters at the head of a text.
use Rattle.std.proofs.Common.{zero, suc, ◌<◌, ◌≤◌, ◌==◌, length, take, drop, get_or, ◌≡◌, ℕ, Bool, true, false, List, [], ◌∷◌, ◌++◌, refl, ap, ◌∙◌, sym, arith}
use Rattle.std.specs.List.{list_all}
use Rattle.std.proofs.lemmas.Bool.{false≢true}
use Rattle.std.proofs.lemmas.List.{take-append-drop}
use Rattle.std.proofs.lemmas.Bool.Decides.{nat_tests}
use Rattle.rv_text.specs.Characters.{is_blank, is_of_operand, run, behind, skip, begins, is_empty}

pub run-append : (p : ℕ → Bool) (xs ys : List ℕ) → list_all p xs ≡ true → begins p ys ≡ false → run p (xs ++ ys) ≡ xs
run-append p [] [] h k = refl
run-append p [] (y ∷ ys) h k = grind arith
run-append p (x ∷ xs) ys h k = grind (arith, run-append p xs ys)

pub behind-append : (p : ℕ → Bool) (xs ys : List ℕ) → list_all p xs ≡ true → begins p ys ≡ false → behind p (xs ++ ys) ≡ ys
behind-append p [] [] h k = refl
behind-append p [] (y ∷ ys) h k = grind arith
behind-append p (x ∷ xs) ys h k = grind (arith, behind-append p xs ys)

pub skip-none : (xs : List ℕ) → begins is_blank xs ≡ false → skip xs ≡ xs
skip-none [] h = refl
skip-none (x ∷ xs) h = grind arith

-- a character of an operand is no blank
pub operand-no_blank : (c : ℕ) → is_of_operand c ≡ true → is_blank c ≡ false
operand-no_blank c h = grind (arith, nat_tests)

pub run-no_blank : (xs ys : List ℕ) → begins is_of_operand xs ≡ true → begins is_blank (xs ++ ys) ≡ false
run-no_blank [] ys h = elim (false≢true h) [ ]
run-no_blank (x ∷ xs) ys h = operand-no_blank x h

-- every character is such if and only if nothing is behind the run
pub every-behind : (p : ℕ → Bool) (xs : List ℕ) → list_all p xs ≡ is_empty (behind p xs)
every-behind p [] = refl
every-behind p (x ∷ xs) = let rest = every-behind p xs in grind arith

pub empty-length : (xs : List ℕ) → is_empty xs ≡ (length xs == 0)
empty-length [] = refl
empty-length (x ∷ xs) = grind (arith, nat_tests)

pub ruleset every_rules = (every-behind, empty-length)

-- ---- a run that grows
pub record Splits (p : ℕ → Bool) (xs : List ℕ) (n : ℕ) : Type 0 where
  pub taken : take n xs ≡ run p xs
  pub left : drop n xs ≡ behind p xs

pub splits : (p : ℕ → Bool) (xs : List ℕ) (n : ℕ) → list_all p (take n xs) ≡ true → begins p (drop n xs) ≡ false → Splits p xs n
splits p xs n h k = record {
  taken = sym (ap (run p) (sym (take-append-drop n xs)) ∙ run-append p (take n xs) (drop n xs) h k);
  left = sym (ap (behind p) (sym (take-append-drop n xs)) ∙ behind-append p (take n xs) (drop n xs) h k);
}

pub begins-end : (p : ℕ → Bool) (xs : List ℕ) (n : ℕ) → length xs ≤ n → begins p (drop n xs) ≡ false
begins-end p [] zero l = refl
begins-end p [] (suc n) l = refl
begins-end p (x ∷ xs) zero l = let never : ⊥ = omega arith in elim never [ ]
begins-end p (x ∷ xs) (suc n) l = begins-end p xs n (omega arith)

pub begins-at : (p : ℕ → Bool) (xs : List ℕ) (n : ℕ) → n < length xs → p (get_or xs n 0) ≡ false → begins p (drop n xs) ≡ false
begins-at p [] n l h = let never : ⊥ = omega arith in elim never [ ]
begins-at p (x ∷ xs) zero l h = h
begins-at p (x ∷ xs) (suc n) l h = begins-at p xs n (omega arith) h
