-- What one event does to balances, flags and their sum, prover by prover.
use Rattle.std.proofs.Common.{◌≡◌, ◌≢◌, ℕ, zero, suc, ◌+◌, ◌-◌, ◌*◌, ◌<◌, ◌≤◌, Bool, true, false, ◌||◌, ◌==◌, List, [], ◌∷◌, length, replicate, sum, slice_index, slice_index_or, slice_set, refl, sym, ◌∙◌, ap, arith}
use Rattle.std.proofs.lemmas.Bool.Decides.{nat_tests}
use Rattle.std.proofs.lemmas.List.Sums.{sum_by-cons}
use Rattle.std.proofs.lemmas.Bool.{or_right}
use Rattle.bisect_game.specs.declared.settled.Close.TheVariants.{Out}
use Rattle.tournament.specs.OpenDisputes.{one_if}
use Rattle.deposits.specs.Events.{Event, puts_out, pays, pooled}
use Rattle.deposits.specs.Events.Event.{ClaimOut, Closed}
use Rattle.deposits.specs.Accounts.{Accounts, is_told_out, balances_told, outs_told, told, CanTell}
use Rattle.deposits.specs.Keeping.{AllHaveStake, IsFunded, IsLedger}

pub same-test : (m n : ℕ) → m ≡ n → (m == n) ≡ true
same-test m n e = grind (arith, nat_tests)

pub other-test : (m n : ℕ) → m ≢ n → (m == n) ≡ false
other-test m n ne = grind (arith, nat_tests)

pub is-same : (m n : ℕ) → (m == n) ≡ true → m ≡ n
is-same m n e = grind (arith, nat_tests)

sum-cons : (x : ℕ) (xs : List ℕ) → sum (x ∷ xs) ≡ x + sum xs
sum-cons x xs = sum_by-cons (λ (y : ℕ). y) x xs

-- the stake of one prover, of provers the first of which has this number, comes to it
abbrev pub gains : ℕ → ℕ → ℕ → List ℕ → List ℕ
gains stake q p [] = []
gains stake q p (x ∷ xs) = (x + stake * one_if (q == p)) ∷ gains stake q (p + 1) xs

abbrev pub loses : ℕ → ℕ → ℕ → List ℕ → List ℕ
loses stake q p [] = []
loses stake q p (x ∷ xs) = (x - stake * one_if (q == p)) ∷ loses stake q (p + 1) xs

abbrev pub marks : ℕ → ℕ → List Bool → List Bool
marks q p [] = []
marks q p (o ∷ os) = (o || (q == p)) ∷ marks q (p + 1) os

or-false : (b : Bool) → (b || false) ≡ b
or-false true = refl
or-false false = refl

none-of : (s q p : ℕ) → q ≢ p → s * one_if (q == p) ≡ 0
none-of s q p ne = rw (other-test q p ne) (omega arith)

one-of : (s q p : ℕ) → q ≡ p → s * one_if (q == p) ≡ s
one-of s q p e = rw (same-test q p e) (omega arith)

pub two-cells : {A : Type 0} (x y : A) (xs ys : List A) → x ≡ y → xs ≡ ys → x ∷ xs ≡ y ∷ ys
two-cells x y xs ys e f = cc

gains-past : (s q p : ℕ) (xs : List ℕ) → q < p → gains s q p xs ≡ xs
gains-past s q p [] lt = refl
gains-past s q p (x ∷ xs) lt = two-cells _ _ _ _ (omega (arith, none-of s q p (λ e. omega arith))) (gains-past s q (p + 1) xs (omega arith))

loses-past : (s q p : ℕ) (xs : List ℕ) → q < p → loses s q p xs ≡ xs
loses-past s q p [] lt = refl
loses-past s q p (x ∷ xs) lt = two-cells _ _ _ _ (omega (arith, none-of s q p (λ e. omega arith))) (loses-past s q (p + 1) xs (omega arith))

marks-past : (q p : ℕ) (os : List Bool) → q < p → marks q p os ≡ os
marks-past q p [] lt = refl
marks-past q p (o ∷ os) lt = two-cells _ _ _ _ (rw (other-test q p (λ e. omega arith)) (or-false o)) (marks-past q (p + 1) os (omega arith))

-- one place that is set

pub gains-set : (s q p k : ℕ) (xs : List ℕ) → q ≡ p + k → k < length xs → slice_set xs k (slice_index xs k + s) ≡ gains s q p xs
gains-set s q p k [] e lt = absurd (omega arith)
gains-set s q p zero (x ∷ xs) e lt = two-cells _ _ _ _ (omega (arith, one-of s q p (omega (arith, e)))) (sym (gains-past s q (p + 1) xs (omega (arith, e))))
gains-set s q p (suc k) (x ∷ xs) e lt = two-cells _ _ _ _ (omega (arith, none-of s q p (λ same. omega (arith, e, same)))) (gains-set s q (p + 1) k xs (omega (arith, e)) (omega (arith, lt)))

pub loses-set : (s q p k : ℕ) (xs : List ℕ) → q ≡ p + k → k < length xs → slice_set xs k (slice_index xs k - s) ≡ loses s q p xs
loses-set s q p k [] e lt = absurd (omega arith)
loses-set s q p zero (x ∷ xs) e lt = two-cells _ _ _ _ (omega (arith, one-of s q p (omega (arith, e)))) (sym (loses-past s q (p + 1) xs (omega (arith, e))))
loses-set s q p (suc k) (x ∷ xs) e lt = two-cells _ _ _ _ (omega (arith, none-of s q p (λ same. omega (arith, e, same)))) (loses-set s q (p + 1) k xs (omega (arith, e)) (omega (arith, lt)))

pub marks-set : (q p k : ℕ) (os : List Bool) → q ≡ p + k → k < length os → slice_set os k true ≡ marks q p os
marks-set q p k [] e lt = absurd (omega arith)
marks-set q p zero (o ∷ os) e lt = two-cells _ _ _ _ (rw (same-test q p (omega (arith, e))) (sym (or-true o))) (sym (marks-past q (p + 1) os (omega (arith, e))))
  where
    or-true : (b : Bool) → (b || true) ≡ true
    or-true true = refl
    or-true false = refl
marks-set q p (suc k) (o ∷ os) e lt = two-cells _ _ _ _ (rw (other-test q p (λ same. omega (arith, e, same))) (sym (or-false o))) (marks-set q (p + 1) k os (omega (arith, e)) (omega (arith, lt)))

-- what a place has at least

pub has-stake : (s k : ℕ) (xs : List ℕ) (os : List Bool) → AllHaveStake s xs os → length os ≡ length xs → k < length xs → slice_index_or os k false ≡ false → s ≤ slice_index xs k
has-stake s k [] os a same lt live = absurd (omega arith)
has-stake s k (x ∷ xs) [] a same lt live = absurd (omega (arith, same))
has-stake s zero (x ∷ xs) (o ∷ os) a same lt live = a.0 live
has-stake s (suc k) (x ∷ xs) (o ∷ os) a same lt live = has-stake s k xs os a.1 (omega (arith, same)) (omega (arith, lt)) live

-- the sum after it

pub gains-sum : (s q p k : ℕ) (xs : List ℕ) → q ≡ p + k → k < length xs → sum (gains s q p xs) ≡ sum xs + s
gains-sum s q p k [] e lt = absurd (omega arith)
gains-sum s q p zero (x ∷ xs) e lt =
    rw (gains-past s q (p + 1) xs (omega (arith, e))) (omega (arith, sum-cons (x + s * one_if (q == p)) xs, sum-cons x xs, one-of s q p (omega (arith, e))))
gains-sum s q p (suc k) (x ∷ xs) e lt =
    omega (arith, sum-cons (x + s * one_if (q == p)) (gains s q (p + 1) xs), sum-cons x xs, none-of s q p (λ same. omega (arith, e, same)), gains-sum s q (p + 1) k xs (omega (arith, e)) (omega (arith, lt)))

pub loses-sum : (s q p k : ℕ) (xs : List ℕ) → q ≡ p + k → k < length xs → s ≤ slice_index xs k → sum (loses s q p xs) + s ≡ sum xs
loses-sum s q p k [] e lt le = absurd (omega arith)
loses-sum s q p zero (x ∷ xs) e lt le =
    rw (loses-past s q (p + 1) xs (omega (arith, e))) (omega (arith, le, sum-cons (x - s * one_if (q == p)) xs, sum-cons x xs, one-of s q p (omega (arith, e))))
loses-sum s q p (suc k) (x ∷ xs) e lt le =
    omega (arith, sum-cons (x - s * one_if (q == p)) (loses s q (p + 1) xs), sum-cons x xs, none-of s q p (λ same. omega (arith, e, same)), loses-sum s q (p + 1) k xs (omega (arith, e)) (omega (arith, lt)) le)

-- lengths

pub gains-length : (s q p : ℕ) (xs : List ℕ) → length (gains s q p xs) ≡ length xs
gains-length s q p [] = refl
gains-length s q p (x ∷ xs) = ap suc (gains-length s q (p + 1) xs)

pub loses-length : (s q p : ℕ) (xs : List ℕ) → length (loses s q p xs) ≡ length xs
loses-length s q p [] = refl
loses-length s q p (x ∷ xs) = ap suc (loses-length s q (p + 1) xs)

pub marks-length : (q p : ℕ) (os : List Bool) → length (marks q p os) ≡ length os
marks-length q p [] = refl
marks-length q p (o ∷ os) = ap suc (marks-length q (p + 1) os)

-- who isn't out has its stake still

pub stakes-gained : (s q p : ℕ) (xs : List ℕ) (os : List Bool) → AllHaveStake s xs os → AllHaveStake s (gains s q p xs) os
stakes-gained s q p [] os a = tt
stakes-gained s q p (x ∷ xs) [] a = tt
stakes-gained s q p (x ∷ xs) (o ∷ os) a = ((λ live. (let le : s ≤ x = a.0 live in omega (arith, le))), stakes-gained s q (p + 1) xs os a.1)

pub stakes-lost : (s q p : ℕ) (xs : List ℕ) (os : List Bool) → AllHaveStake s xs os → AllHaveStake s (loses s q p xs) (marks q p os)
stakes-lost s q p [] os a = tt
stakes-lost s q p (x ∷ xs) [] a = tt
stakes-lost s q p (x ∷ xs) (o ∷ os) a = (by (q == p) o a.0, stakes-lost s q (p + 1) xs os a.1)
  where
    by : (b o : Bool) → (o ≡ false → s ≤ x) → (o || b) ≡ false → s ≤ x - s * one_if b
    by b true h live = absurd (cc)
    by true false h live = absurd (cc)
    by false false h live = let le : s ≤ x = h refl in omega (arith, le)

-- an event by what it gives and takes

pub claim-balances : (s q p : ℕ) (xs : List ℕ) → loses s q p xs ≡ balances_told s (ClaimOut q) p xs
claim-balances s q p [] = refl
claim-balances s q p (x ∷ xs) = two-cells _ _ _ _ (omega arith) (claim-balances s q (p + 1) xs)

pub claim-outs : (q p : ℕ) (os : List Bool) → marks q p os ≡ outs_told (ClaimOut q) p os
claim-outs q p [] = refl
claim-outs q p (o ∷ os) = two-cells _ _ _ _ refl (claim-outs q (p + 1) os)

-- two provers are not both the one of a number
never-both : (a b p : ℕ) → a ≢ b → (a == p) ≡ true → (b == p) ≡ true → ⊥
never-both a b p ne e f = ne (is-same a p e ∙ sym (is-same b p f))

passing : (s x : ℕ) (a b : Bool) → (a ≡ true → b ≡ true → ⊥) → x - s * one_if a + s * one_if b ≡ x + s * one_if b - s * one_if (a || false)
passing s x true true ne = absurd (ne refl refl)
passing s x true false ne = omega arith
passing s x false b ne = omega arith

pub pass-balances : (s a b p : ℕ) (xs : List ℕ) → a ≢ b → gains s b p (loses s a p xs) ≡ balances_told s (Closed a b (Out true false)) p xs
pass-balances s a b p [] ne = refl
pass-balances s a b p (x ∷ xs) ne = two-cells _ _ _ _ (passing s x (a == p) (b == p) (never-both a b p ne)) (pass-balances s a b (p + 1) xs ne)

pub pass-outs : (a b p : ℕ) (os : List Bool) → marks a p os ≡ outs_told (Closed a b (Out true false)) p os
pass-outs a b p [] = refl
pass-outs a b p (o ∷ os) = two-cells _ _ _ _ (ap (λ (t : Bool). o || t) (sym (or-false (a == p)))) (pass-outs a b (p + 1) os)

-- A LEDGER KEPT

pub kept-claim : (s q k : ℕ) (xs : List ℕ) (os : List Bool) (pool : ℕ) → IsFunded s xs os pool → q ≡ 1 + k → k < length xs → slice_index_or os k false ≡ false →
    IsFunded s (slice_set xs k (slice_index xs k - s)) (slice_set os k true) (pool + s)
kept-claim s q k xs os pool i e lt live =
    let flags : length os ≡ length xs = i.flags in
    let total : sum xs + pool ≡ s * length xs = i.total in
    let len : length (loses s q 1 xs) ≡ length xs = loses-length s q 1 xs in
    let has : s ≤ slice_index xs k = has-stake s k xs os i.stakes flags lt live in
    rw (loses-set s q 1 k xs e lt, marks-set q 1 k os e (omega (arith, lt, flags))) (record {
      flags = marks-length q 1 os ∙ flags ∙ sym len;
      stakes = stakes-lost s q 1 xs os i.stakes;
      total = rw len (omega (arith, loses-sum s q 1 k xs e lt has, total));
    })

pub kept-pass : (s a b k j : ℕ) (xs : List ℕ) (os : List Bool) (pool : ℕ) → IsFunded s xs os pool → a ≡ 1 + k → b ≡ 1 + j → k < length xs → j < length xs → slice_index_or os k false ≡ false →
    IsFunded s (slice_set (slice_set xs k (slice_index xs k - s)) j (slice_index (slice_set xs k (slice_index xs k - s)) j + s)) (slice_set os k true) pool
kept-pass s a b k j xs os pool i e f lt lt2 live =
    let flags : length os ≡ length xs = i.flags in
    let total : sum xs + pool ≡ s * length xs = i.total in
    let len : length (loses s a 1 xs) ≡ length xs = loses-length s a 1 xs in
    let len2 : length (gains s b 1 (loses s a 1 xs)) ≡ length xs = gains-length s b 1 (loses s a 1 xs) ∙ len in
    let has : s ≤ slice_index xs k = has-stake s k xs os i.stakes flags lt live in
    let within : j < length (loses s a 1 xs) = omega (arith, len, lt2) in
    rw (loses-set s a 1 k xs e lt, marks-set a 1 k os e (omega (arith, lt, flags)), gains-set s b 1 j (loses s a 1 xs) f within) (record {
      flags = marks-length a 1 os ∙ flags ∙ sym len2;
      stakes = stakes-gained s b 1 (loses s a 1 xs) (marks a 1 os) (stakes-lost s a 1 xs os i.stakes);
      total = rw len2 (omega (arith, gains-sum s b 1 j (loses s a 1 xs) f within, loses-sum s a 1 k xs e lt has, total));
    })

-- A CALL

read-place : (k x : ℕ) (xs : List ℕ) → k < length xs → x ≡ slice_index_or xs k x → x ≡ slice_index xs k
read-place k x [] lt e = absurd (omega arith)
read-place zero x (y ∷ xs) lt e = e
read-place (suc k) x (y ∷ xs) lt e = read-place k x xs (omega (arith, lt)) e

pub accounts-same : (s : ℕ) (xs ys : List ℕ) (os qs : List Bool) (m n : ℕ) → xs ≡ ys → os ≡ qs → m ≡ n →
    let a : Accounts = record { stake = s; of = xs; out = os; pool = m } in let b : Accounts = record { stake = s; of = ys; out = qs; pool = n } in a ≡ b
accounts-same s xs ys os qs m n e f g = cc

set-length : (k x : ℕ) (xs : List ℕ) → length (slice_set xs k x) ≡ length xs
set-length k x [] = refl
set-length zero x (y ∷ xs) = refl
set-length (suc k) x (y ∷ xs) = ap suc (set-length k x xs)

pub place-of : (p : ℕ) → 0 < p → p ≡ 1 + (p - 1)
place-of p lt = omega (arith, lt)

pub claim-funded : (s p x : ℕ) (xs : List ℕ) (os : List Bool) (pool : ℕ) → IsLedger s xs os pool → 0 < p → p ≤ length xs → slice_index_or os (p - 1) false ≡ false →
    x ≡ slice_index_or xs (p - 1) x → s ≤ x
claim-funded s p x xs os pool i some few live e =
    let lt : p - 1 < length xs = omega (arith, some, few) in
    let has : s ≤ slice_index xs (p - 1) = has-stake s (p - 1) xs os i.funded.stakes i.funded.flags lt live in
    let is : x ≡ slice_index xs (p - 1) = read-place (p - 1) x xs lt e in
    omega (arith, has, is)

pub claim-kept : (s p x : ℕ) (xs : List ℕ) (os : List Bool) (pool : ℕ) → IsLedger s xs os pool → 0 < p → p ≤ length xs → slice_index_or os (p - 1) false ≡ false →
    x ≡ slice_index_or xs (p - 1) x → IsLedger s (slice_set xs (p - 1) (x - s)) (slice_set os (p - 1) true) (pool + s)
claim-kept s p x xs os pool i some few live e =
    let lt : p - 1 < length xs = omega (arith, some, few) in
    let few16 : length xs ≤ 16 = i.few in
    record {
      small = i.small;
      few = rw (set-length (p - 1) (x - s) xs) few16;
      funded = rw (read-place (p - 1) x xs lt e) (kept-claim s p (p - 1) xs os pool i.funded (place-of p some) lt live);
    }

pub claim-told : (s p x : ℕ) (xs : List ℕ) (os : List Bool) (pool : ℕ) → IsLedger s xs os pool → 0 < p → p ≤ length xs → x ≡ slice_index_or xs (p - 1) x →
    let a : Accounts = record { stake = s; of = slice_set xs (p - 1) (x - s); out = slice_set os (p - 1) true; pool = pool + s } in
    let b : Accounts = record { stake = s; of = xs; out = os; pool = pool } in a ≡ told b (ClaimOut p)
claim-told s p x xs os pool i some few e =
    let lt : p - 1 < length xs = omega (arith, some, few) in
    let flags : length os ≡ length xs = i.funded.flags in
    accounts-same s _ _ _ _ _ _
    (ap (λ (y : ℕ). slice_set xs (p - 1) (y - s)) (read-place (p - 1) x xs lt e) ∙ loses-set s p 1 (p - 1) xs (place-of p some) lt ∙ claim-balances s p 1 xs)
    (marks-set p 1 (p - 1) os (place-of p some) (omega (arith, lt, flags)) ∙ claim-outs p 1 os)
    (omega arith)

pub pass-kept : (s a b x y : ℕ) (xs : List ℕ) (os : List Bool) (pool : ℕ) → IsLedger s xs os pool → 0 < a → a ≤ length xs → 0 < b → b ≤ length xs → slice_index_or os (a - 1) false ≡ false →
    x ≡ slice_index_or xs (a - 1) x → y ≡ slice_index_or (slice_set xs (a - 1) (x - s)) (b - 1) y →
    IsLedger s (slice_set (slice_set xs (a - 1) (x - s)) (b - 1) (y + s)) (slice_set os (a - 1) true) pool
pass-kept s a b x y xs os pool i some few some2 few2 live e f =
    let lt : a - 1 < length xs = omega (arith, some, few) in
    let lt2 : b - 1 < length xs = omega (arith, some2, few2) in
    let is : x ≡ slice_index xs (a - 1) = read-place (a - 1) x xs lt e in
    let shown : slice_set xs (a - 1) (x - s) ≡ loses s a 1 xs = ap (λ (z : ℕ). slice_set xs (a - 1) (z - s)) is ∙ loses-set s a 1 (a - 1) xs (place-of a some) lt in
    let len : length (loses s a 1 xs) ≡ length xs = loses-length s a 1 xs in
    let within : b - 1 < length (slice_set xs (a - 1) (x - s)) = rw shown (omega (arith, len, lt2)) in
    let is2 : y ≡ slice_index (slice_set xs (a - 1) (x - s)) (b - 1) = read-place (b - 1) y (slice_set xs (a - 1) (x - s)) within f in
    record {
      small = i.small;
      few = rw (set-length (b - 1) (y + s) (slice_set xs (a - 1) (x - s)), set-length (a - 1) (x - s) xs) i.few;
      funded = rw (is2, is) (kept-pass s a b (a - 1) (b - 1) xs os pool i.funded (place-of a some) (place-of b some2) lt lt2 live);
    }

pub pass-told : (s a b x y : ℕ) (xs : List ℕ) (os : List Bool) (pool : ℕ) → IsLedger s xs os pool → 0 < a → a ≤ length xs → 0 < b → b ≤ length xs → a ≢ b →
    x ≡ slice_index_or xs (a - 1) x → y ≡ slice_index_or (slice_set xs (a - 1) (x - s)) (b - 1) y →
    let c : Accounts = record { stake = s; of = slice_set (slice_set xs (a - 1) (x - s)) (b - 1) (y + s); out = slice_set os (a - 1) true; pool = pool } in
    let d : Accounts = record { stake = s; of = xs; out = os; pool = pool } in c ≡ told d (Closed a b (Out true false))
pass-told s a b x y xs os pool i some few some2 few2 ne e f =
    let lt : a - 1 < length xs = omega (arith, some, few) in
    let lt2 : b - 1 < length xs = omega (arith, some2, few2) in
    let flags : length os ≡ length xs = i.funded.flags in
    let is : x ≡ slice_index xs (a - 1) = read-place (a - 1) x xs lt e in
    let shown : slice_set xs (a - 1) (x - s) ≡ loses s a 1 xs = ap (λ (z : ℕ). slice_set xs (a - 1) (z - s)) is ∙ loses-set s a 1 (a - 1) xs (place-of a some) lt in
    let len : length (loses s a 1 xs) ≡ length xs = loses-length s a 1 xs in
    let within : b - 1 < length (loses s a 1 xs) = omega (arith, len, lt2) in
    let is2 : y ≡ slice_index (loses s a 1 xs) (b - 1) = read-place (b - 1) y (loses s a 1 xs) within (rw shown at f) in
    let of : slice_set (slice_set xs (a - 1) (x - s)) (b - 1) (y + s) ≡ balances_told s (Closed a b (Out true false)) 1 xs =
    ap (λ (zs : List ℕ). slice_set zs (b - 1) (y + s)) shown ∙ ap (λ (z : ℕ). slice_set (loses s a 1 xs) (b - 1) (z + s)) is2
    ∙ gains-set s b 1 (b - 1) (loses s a 1 xs) (place-of b some2) within ∙ pass-balances s a b 1 xs ne in
    accounts-same s _ _ _ _ _ _ of (marks-set a 1 (a - 1) os (place-of a some) (omega (arith, lt, flags)) ∙ pass-outs a b 1 os) (omega arith)

-- EVENTS THAT COME TO THE SAME

pub told-as : (s : Accounts) (e f : Event) → ((p : ℕ) → pays e p ≡ pays f p) → ((p : ℕ) → puts_out e p ≡ puts_out f p) → pooled e ≡ pooled f → told s e ≡ told s f
told-as s e f gives takes pool = accounts-same s.stake _ _ _ _ _ _ (balances 1 s.of) (outs 1 s.out) (ap (λ (n : ℕ). s.pool + s.stake * n) pool)
  where
    balances : (p : ℕ) (xs : List ℕ) → balances_told s.stake e p xs ≡ balances_told s.stake f p xs
    balances p [] = refl
    balances p (x ∷ xs) = two-cells _ _ _ _ (rw (gives p, takes p) refl) (balances (p + 1) xs)

    outs : (p : ℕ) (os : List Bool) → outs_told e p os ≡ outs_told f p os
    outs p [] = refl
    outs p (o ∷ os) = two-cells _ _ _ _ (rw (takes p) refl) (outs (p + 1) os)

-- an event that moves nothing
pub told-nothing : (s : Accounts) (e : Event) → ((p : ℕ) → pays e p ≡ false) → ((p : ℕ) → puts_out e p ≡ false) → pooled e ≡ 0 → s ≡ told s e
told-nothing s e gives takes pool = accounts-same s.stake _ _ _ _ _ _ (balances 1 s.of) (outs 1 s.out) (rw pool (omega arith))
  where
    balances : (p : ℕ) (xs : List ℕ) → xs ≡ balances_told s.stake e p xs
    balances p [] = refl
    balances p (x ∷ xs) = two-cells _ _ _ _ (rw (gives p, takes p) (omega arith)) (balances (p + 1) xs)

    outs : (p : ℕ) (os : List Bool) → os ≡ outs_told e p os
    outs p [] = refl
    outs p (o ∷ os) = two-cells _ _ _ _ (rw (takes p) (sym (or-false o))) (outs (p + 1) os)

losing : (s x : ℕ) (a b : Bool) → (a ≡ true → b ≡ true → ⊥) → x + s * 0 - s * one_if a + s * 0 - s * one_if b ≡ x + s * 0 - s * one_if (a || b)
losing s x true true ne = absurd (ne refl refl)
losing s x true false ne = omega arith
losing s x false b ne = omega arith

or-assoc : (a b c : Bool) → ((a || b) || c) ≡ (a || (b || c))
or-assoc true b c = refl
or-assoc false b c = refl

-- both sides are out: one after another
pub told-both : (s : Accounts) (a b : ℕ) → a ≢ b → told (told s (ClaimOut a)) (ClaimOut b) ≡ told s (Closed a b (Out true true))
told-both s a b ne = accounts-same s.stake _ _ _ _ _ _ (balances 1 s.of) (outs 1 s.out) (omega arith)
  where
    balances : (p : ℕ) (xs : List ℕ) → balances_told s.stake (ClaimOut b) p (balances_told s.stake (ClaimOut a) p xs) ≡ balances_told s.stake (Closed a b (Out true true)) p xs
    balances p [] = refl
    balances p (x ∷ xs) = two-cells _ _ _ _ (losing s.stake x (a == p) (b == p) (never-both a b p ne)) (balances (p + 1) xs)

    outs : (p : ℕ) (os : List Bool) → outs_told (ClaimOut b) p (outs_told (ClaimOut a) p os) ≡ outs_told (Closed a b (Out true true)) p os
    outs p [] = refl
    outs p (o ∷ os) = two-cells _ _ _ _ (or-assoc o (a == p) (b == p)) (outs (p + 1) os)

-- who isn't out, and isn't put out by an event

not-out-from : (e : Event) (p q k : ℕ) (os : List Bool) → p ≡ q + k → slice_index_or os k false ≡ false → puts_out e p ≡ false → slice_index_or (outs_told e q os) k false ≡ false
not-out-from e p q k [] same live not_put = refl
not-out-from e p q zero (o ∷ os) same live not_put =
    let here : p ≡ q = omega (arith, same) in
    rw live (rw here at not_put)
not-out-from e p q (suc k) (o ∷ os) same live not_put = not-out-from e p (q + 1) k os (omega (arith, same)) live not_put

pub not-out-after : (s : Accounts) (e : Event) (p : ℕ) → 0 < p → is_told_out s p ≡ false → puts_out e p ≡ false → is_told_out (told s e) p ≡ false
not-out-after s e p some live not_put = not-out-from e p 1 (p - 1) s.out (place-of p some) live not_put

pub told-length : (stake : ℕ) (e : Event) (p : ℕ) (xs : List ℕ) → length (balances_told stake e p xs) ≡ length xs
told-length stake e p [] = refl
told-length stake e p (x ∷ xs) = ap suc (told-length stake e (p + 1) xs)

pub second-can : (s : Accounts) (a b : ℕ) → CanTell s (Closed a b (Out true true)) → CanTell (told s (ClaimOut a)) (ClaimOut b)
second-can s a b can = record {
  known = rw (told-length s.stake (ClaimOut a) 1 s.of) can.known.second;
  not_yet = λ p put.
      let same : b ≡ p = is-same b p put in
      let some : 0 < p = rw same at can.known.second.0 in
      not-out-after s (ClaimOut a) p some (can.not_yet p (or_right (a == p) (b == p) put)) (other-test a p (λ e. can.known.two (e ∙ sym same)));
}

pub count-of : (x k : ℕ) → length (replicate k x) ≡ k
count-of x zero = refl
count-of x (suc k) = ap suc (count-of x k)

pub new-funded : (s n : ℕ) → IsFunded s (replicate n s) (replicate n false) 0
new-funded s n = record { flags = none n ∙ sym (count-of s n); stakes = have n; total = rw (count-of s n) (sums n) }
  where
    none : (k : ℕ) → length (replicate k false) ≡ k
    none zero = refl
    none (suc k) = ap suc (none k)

    have : (k : ℕ) → AllHaveStake s (replicate k s) (replicate k false)
    have zero = tt
    have (suc k) = ((λ live. omega arith), have k)

    sums : (k : ℕ) → sum (replicate k s) + 0 ≡ s * k
    sums zero = omega arith
    sums (suc k) = omega (arith, sum-cons s (replicate k s), sums k)

pub new-kept : (s n : ℕ) → s ≤ 1000000000 → n ≤ 16 → IsLedger s (replicate n s) (replicate n false) 0
new-kept s n small few = record { small = small; few = rw (count-of s n) few; funded = new-funded s n }

-- the same of sides that are known by equations

pub second-can-of : (s : Accounts) (a b : ℕ) (x y : Bool) → x ≡ true → y ≡ true → CanTell s (Closed a b (Out x y)) → CanTell (told s (ClaimOut a)) (ClaimOut b)
second-can-of s a b true true e f can = second-can s a b can
second-can-of s a b true false e f can = absurd (cc)
second-can-of s a b false y e f can = absurd (cc)

pub told-both-of : (s : Accounts) (a b : ℕ) (x y : Bool) → x ≡ true → y ≡ true → a ≢ b → told (told s (ClaimOut a)) (ClaimOut b) ≡ told s (Closed a b (Out x y))
told-both-of s a b true true e f ne = told-both s a b ne
told-both-of s a b true false e f ne = absurd (cc)
told-both-of s a b false y e f ne = absurd (cc)

pub told-none-of : (s : Accounts) (a b : ℕ) (x y : Bool) → x ≡ false → y ≡ false → s ≡ told s (Closed a b (Out x y))
told-none-of s a b false false e f = told-nothing s (Closed a b (Out false false)) (λ p. refl) (λ p. refl) refl
told-none-of s a b false true e f = absurd (cc)
told-none-of s a b true y e f = absurd (cc)
