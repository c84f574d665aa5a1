-- Both passes, line by line.
use Rattle.std.proofs.Common.{◌≡◌, ℕ, ◌+◌, ◌-◌, ◌<◌, ◌≤◌, length, take, drop, Bool, List, [], ◌∷◌, ◌++◌, append_assoc, refl, ap, ◌∙◌, sym, arith, Option, Some, None, Result, Ok, Err}
use Rattle.std.proofs.lemmas.List.{take_all}
use Rattle.rd_base.specs.Results.{◌>>=◌, map_fault, Fails}
use Rattle.rv_text.specs.Characters.{is_of_line, run, behind, source_lines}
use Rattle.rv_text.specs.Faults.{fault}
use Rattle.rv_text.specs.Assembly.{Names, place_after, Pass, after_line, first_pass, with_word, word_of_line, second_pass}
use Rattle.rv_text.specs.Places.{error_in, names_of}
use Rattle.rv_text.specs.declared.fault.FaultKind.{FaultKind}
use Rattle.rv_text.specs.declared.fault.AsmFault.{AsmFault}
use Rattle.rv_text.specs.declared.fault.AsmError.{AsmError}
use Rattle.rv_text.specs.declared.fault.AsmError.TheVariants as errors
use Rattle.rv_text.specs.declared.assembling.LineError.{LineError}
use Rattle.rv_text.specs.declared.assembling.LineError.TheVariants as lines

-- ---- lines
-- the lines behind a line
abbrev pub lines_behind : List ℕ → List (List ℕ)
lines_behind [] = []
lines_behind (c ∷ cs) = source_lines cs

pub first-line : (text : List ℕ) → source_lines text ≡ run is_of_line text ∷ lines_behind (behind is_of_line text)
first-line [] = refl
first-line (c ∷ cs) = let rest = first-line cs in grind arith

pub behind-length : (p : ℕ → Bool) (xs : List ℕ) → length (behind p xs) ≤ length xs
behind-length p [] = omega arith
behind-length p (x ∷ xs) = let rest = behind-length p xs in grind arith

-- what is left behind a line feed, as the code takes it
pub left-lines : (tail : List ℕ) → 1 ≤ length tail → lines_behind tail ≡ source_lines (take (length tail - 1) (drop 1 tail))
left-lines [] l = let never : ⊥ = omega arith in elim never [ ]
left-lines (c ∷ cs) l = let same : take (length (c ∷ cs) - 1) (drop 1 (c ∷ cs)) ≡ cs = take_all (length (c ∷ cs) - 1) cs (omega arith) in ap source_lines (sym same)

pub left-length : (tail : List ℕ) → 1 ≤ length tail → length (take (length tail - 1) (drop 1 tail)) + 1 ≡ length tail
left-length [] l = let never : ⊥ = omega arith in elim never [ ]
left-length (c ∷ cs) l = let same : take (length (c ∷ cs) - 1) (drop 1 (c ∷ cs)) ≡ cs = take_all (length (c ∷ cs) - 1) cs (omega arith) in rw same (omega arith)

pub no-lines : (tail : List ℕ) → length tail < 1 → lines_behind tail ≡ []
no-lines [] l = refl
no-lines (c ∷ cs) l = let never : ⊥ = omega arith in elim never [ ]

-- ---- the first pass
first-go : (n : ℕ) (r : Result Pass FaultKind) (q : Pass) (ls : List (List ℕ)) → map_fault lines.Fault r ≡ Ok q → (map_fault (fault n) r >>= λ q. first_pass (n + 1) q ls) ≡ first_pass (n + 1) q ls
first-go n (Ok x) q ls e = grind (arith, e)
first-go n (Err k) q ls e = grind (arith, e)

pub line-goes : (n : ℕ) (p q : Pass) (l : List ℕ) (ls : List (List ℕ)) → map_fault lines.Fault (after_line p l) ≡ Ok q → first_pass n p (l ∷ ls) ≡ first_pass (n + 1) q ls
line-goes n p q l ls e = first-go n (after_line p l) q ls e

first-fault : (n : ℕ) (r : Result Pass FaultKind) (k : FaultKind) (ls : List (List ℕ)) → map_fault lines.Fault r ≡ Err (lines.Fault k) → map_fault errors.Fault (names_of (map_fault (fault n) r >>= λ q. first_pass (n + 1) q ls)) ≡ Err (errors.Fault (fault n k))
first-fault n (Ok x) k ls e = grind (arith, e)
first-fault n (Err j) k ls e = grind (arith, e)

pub line-fails : (n : ℕ) (p : Pass) (l : List ℕ) (ls : List (List ℕ)) (e : LineError) → Fails lines.Memory e (map_fault lines.Fault (after_line p l)) → Fails errors.Memory (error_in n e) (map_fault errors.Fault (names_of (first_pass n p (l ∷ ls))))
line-fails n p l ls (lines.Fault k) f = λ _. first-fault n (after_line p l) k ls (f (λ e. grind (arith, e)))
line-fails n p l ls lines.Memory f = λ never. elim (never refl) [ ]

-- ---- the second pass
-- the words so far, before those that are left
abbrev pub before : List ℕ → Result (List ℕ) AsmFault → Result (List ℕ) AsmFault
before xs r = r >>= λ ws. Ok (xs ++ ws)

pub append-none : (xs : List ℕ) → xs ++ [] ≡ xs
append-none [] = refl
append-none (x ∷ xs) = ap (λ t. x ∷ t) (append-none xs)

also-append : (xs : List ℕ) (w : Option ℕ) (ws : List ℕ) → xs ++ with_word w ws ≡ (xs ++ with_word w []) ++ ws
also-append xs None ws = let none = append-none xs in ap (λ t. t ++ ws) (sym none)
also-append xs (Some w) ws = sym (append_assoc xs (w ∷ []) ws)

also-before : (xs : List ℕ) (w : Option ℕ) (r : Result (List ℕ) AsmFault) → before xs (r >>= λ ws. Ok (with_word w ws)) ≡ before (xs ++ with_word w []) r
also-before xs w (Ok ws) = ap (λ t. Ok t) (also-append xs w ws)
also-before xs w (Err e) = refl

pub word-goes : (n : ℕ) (names : Names) (here : ℕ) (l : List ℕ) (ls : List (List ℕ)) (xs : List ℕ) (w : Option ℕ) → word_of_line names here l ≡ Ok w → before xs (second_pass n names here (l ∷ ls)) ≡ before (xs ++ with_word w []) (second_pass (n + 1) names (place_after here w) ls)
word-goes n names here l ls xs w e = rw e (also-before xs w (second_pass (n + 1) names (place_after here w) ls))

pub word-fails : (n : ℕ) (names : Names) (here : ℕ) (l : List ℕ) (ls : List (List ℕ)) (xs : List ℕ) (k : FaultKind) → word_of_line names here l ≡ Err k → before xs (second_pass n names here (l ∷ ls)) ≡ Err (fault n k)
word-fails n names here l ls xs k e = rw e refl

-- ---- a line of the first pass, as the code has it
pub pass-goes : (rest line tail : List ℕ) (n : ℕ) (p q : Pass) (all : Result Pass AsmFault) → line ≡ run is_of_line rest → tail ≡ behind is_of_line rest
    → first_pass n p (source_lines rest) ≡ all → map_fault lines.Fault (after_line p line) ≡ Ok q → first_pass (n + 1) q (lines_behind tail) ≡ all
pass-goes rest line tail n p q all a b so e =
    sym (line-goes n p q line (lines_behind tail) e)
    ∙ (ap (λ l. first_pass n p (l ∷ lines_behind tail)) a ∙ (ap (λ t. first_pass n p (run is_of_line rest ∷ lines_behind t)) b ∙ (ap (first_pass n p) (sym (first-line rest)) ∙ so)))

pub pass-fails : (rest line : List ℕ) (n : ℕ) (p : Pass) (e : LineError) (r : AsmError) (all : Result Pass AsmFault) → line ≡ run is_of_line rest → r ≡ error_in n e
    → first_pass n p (source_lines rest) ≡ all → Fails lines.Memory e (map_fault lines.Fault (after_line p line)) → Fails errors.Memory r (map_fault errors.Fault (names_of all))
pass-fails rest line n p e r all a is so f =
    let whole = ap (λ l. first_pass n p (l ∷ lines_behind (behind is_of_line rest))) a ∙ (ap (first_pass n p) (sym (first-line rest)) ∙ so) in
    rw (is, sym whole) (line-fails n p line (lines_behind (behind is_of_line rest)) e f)

-- ---- a line of the second pass, as the code has it
pub word-step : (rest line tail : List ℕ) (n : ℕ) (names : Names) (here : ℕ) (xs : List ℕ) (w : Option ℕ) (all : Result (List ℕ) AsmFault) → line ≡ run is_of_line rest → tail ≡ behind is_of_line rest
    → before xs (second_pass n names here (source_lines rest)) ≡ all → word_of_line names here line ≡ Ok w → before (xs ++ with_word w []) (second_pass (n + 1) names (place_after here w) (lines_behind tail)) ≡ all
word-step rest line tail n names here xs w all a b so e =
    sym (word-goes n names here line (lines_behind tail) xs w e)
    ∙ (ap (λ l. before xs (second_pass n names here (l ∷ lines_behind tail))) a ∙ (ap (λ t. before xs (second_pass n names here (run is_of_line rest ∷ lines_behind t))) b
    ∙ (ap (λ ls. before xs (second_pass n names here ls)) (sym (first-line rest)) ∙ so)))

pub word-stops : (rest line : List ℕ) (n : ℕ) (names : Names) (here : ℕ) (xs : List ℕ) (k : FaultKind) (all : Result (List ℕ) AsmFault) → line ≡ run is_of_line rest
    → before xs (second_pass n names here (source_lines rest)) ≡ all → word_of_line names here line ≡ Err k → all ≡ Err (fault n k)
word-stops rest line n names here xs k all a so e =
    sym so ∙ (ap (λ ls. before xs (second_pass n names here ls)) (first-line rest)
    ∙ (ap (λ l. before xs (second_pass n names here (l ∷ lines_behind (behind is_of_line rest)))) (sym a) ∙ word-fails n names here line (lines_behind (behind is_of_line rest)) xs k e))

pub word-ends : (tail : List ℕ) (n : ℕ) (names : Names) (here : ℕ) (xs : List ℕ) (all : Result (List ℕ) AsmFault) → length tail < 1 → before xs (second_pass n names here (lines_behind tail)) ≡ all → all ≡ Ok xs
word-ends tail n names here xs all l so = sym so ∙ (ap (λ ls. before xs (second_pass n names here ls)) (no-lines tail l) ∙ ap (λ t. Ok t) (append-none xs))

pub word-kept : (tail : List ℕ) (n : ℕ) (names : Names) (here next : ℕ) (xs ws : List ℕ) (w : Option ℕ) (all : Result (List ℕ) AsmFault) → ws ≡ xs ++ with_word w [] → next ≡ place_after here w → 1 ≤ length tail
    → before (xs ++ with_word w []) (second_pass n names (place_after here w) (lines_behind tail)) ≡ all → before ws (second_pass n names next (source_lines (take (length tail - 1) (drop 1 tail)))) ≡ all
word-kept tail n names here next xs ws w all a b l so = rw (a, b, sym (left-lines tail l)) so
