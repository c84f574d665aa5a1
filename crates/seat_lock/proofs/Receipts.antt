-- How often places stand in lists of receipts.
use Rattle.std.proofs.Common.{rules, ◌≡◌, ℕ, suc, ◌+◌, ◌<◌, ◌≤◌, List, [], ◌∷◌, ◌++◌, length, Some, None, sym, ap, ◌∙◌, subst, arith, length-append}
use Rattle.std.specs.Prelude.{◌==◌, if◌then◌else◌}
use Rattle.std.specs.List.{All}
use Rattle.std.proofs.lemmas.List.Elements.{All-nil, All-cons}
use Rattle.seat_lock.specs.History.{Turn, History, log_of, times, with_receipt}
use Rattle.seat_lock.specs.Seats.{once_between}
use Rattle.seat_lock.proofs.Histories.{log_of-adds, log_of-idle}

pub times-append : (p : ℕ) (xs ys : List ℕ) → times p (xs ++ ys) ≡ times p xs + times p ys
times-append p [] ys = omega arith
times-append p (x ∷ xs) ys = let r = times-append p xs ys in omega arith

once_between-suc : (from p n : ℕ) → from ≤ n → once_between from n p + times p (n ∷ []) ≡ once_between from (suc n) p
once_between-suc from p n le = grind (arith, rules)

-- places that stand at most once, and only below n, are below n
pub all_below : (xs : List ℕ) (from n : ℕ) → ((p : ℕ) → times p xs ≤ once_between from n p) → All (λ p. p < n) xs
all_below [] from n h = All-nil (λ p. p < n)
all_below (x ∷ xs) from n h = All-cons (λ p. p < n) x xs (first x (times x xs) n (h x)) (all_below xs from n (λ p. let q = h p in omega arith))
  where
    first : (x k n : ℕ) → (if x == x then 1 else 0) + k ≤ once_between from n x → x < n
    first x k n h = grind (arith, rules)

pub at_most_once : (from p n k : ℕ) → k ≤ once_between from n p → k ≤ 1
at_most_once from p n k h = grind (arith, rules)

-- a turn with an entry adds one place, the next one of the log
pub times-with_receipt : (from : ℕ) (turn : Turn) (ps : List ℕ) (ts : History) (p : ℕ) → from ≤ length (log_of ts)
    → once_between from (length (log_of ts)) p + times p (with_receipt turn (length (log_of ts)) ps) ≡ once_between from (length (log_of (ts ++ turn ∷ []))) p + times p ps
times-with_receipt from None ps ts p le = ap (λ l. once_between from (length l) p + times p ps) (sym (log_of-idle ts))
times-with_receipt from (Some e) ps ts p le =
    let n : ℕ = length (log_of ts) in
    let t : ℕ = times p (n ∷ []) in
    let more : length (log_of (ts ++ Some e ∷ [])) ≡ suc n = ap length (log_of-adds ts e) ∙ (let g : length (log_of ts ++ e ∷ []) ≡ suc n = omega (arith, length-append (log_of ts) (e ∷ [])) in g) in
    let a = times-append p ps (n ∷ []) in
    let b : once_between from n p + t ≡ once_between from (length (log_of (ts ++ Some e ∷ []))) p = once_between-suc from p n le ∙ ap (λ k. once_between from k p) (sym more) in
    omega arith

-- no log is shorter after a turn
pub longer-log : (from : ℕ) (turn : Turn) (ts : History) → from ≤ length (log_of ts) → from ≤ length (log_of (ts ++ turn ∷ []))
longer-log from None ts le = subst (λ l. from ≤ length l) (sym (log_of-idle ts)) le
longer-log from (Some e) ts le = subst (λ l. from ≤ length l) (sym (log_of-adds ts e)) (omega (arith, le, length-append (log_of ts) (e ∷ [])))

pub none-between : (n p : ℕ) → once_between n n p ≡ 0
none-between n p = grind (arith, rules)
