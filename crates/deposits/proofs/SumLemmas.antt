-- Nothing is lost: balances and pool add up to the stakes after any events that may be told.
use Rattle.std.proofs.Common.{◌≡◌, ℕ, ◌+◌, ◌-◌, ◌*◌, ◌<◌, ◌≤◌, Bool, true, false, ◌||◌, ◌==◌, List, [], ◌∷◌, length, refl, sym, ◌∙◌, arith, subst}
use Rattle.std.proofs.lemmas.Bool.{or_left}
use Rattle.bisect_game.specs.declared.settled.Close.TheVariants.{Out, Collision}
use Rattle.deposits.specs.Events.{Event, events_of}
use Rattle.deposits.specs.Events.Event.{ClaimOut, Closed}
use Rattle.deposits.specs.Accounts.{Accounts, staked, is_told_out, balances_told, outs_told, told, CanTell, all_told, CanTellAll}
use Rattle.deposits.specs.Keeping.{IsFunded}
use Rattle.deposits.specs.Theorem.{LedgersAddUp, BalancesAddUp}
use Rattle.deposits.proofs.StepLemmas.{same-test, place-of, kept-claim, kept-pass, loses, loses-set, gains-set, marks-set, loses-length, claim-balances, claim-outs, pass-balances, pass-outs, told-as, told-nothing, told-both, told-length, second-can, new-funded, count-of}
use Rattle.deposits.proofs.RecordLemmas.{IsTold, record-told}

abbrev Funded : Accounts → Type 0
Funded a = IsFunded a.stake a.of a.out a.pool

funded-claim : (a : Accounts) (p : ℕ) → Funded a → CanTell a (ClaimOut p) → Funded (told a (ClaimOut p))
funded-claim a p i can =
    let some : 0 < p = can.known.0 in
    let few : p ≤ length a.of = can.known.1 in
    let lt : p - 1 < length a.of = omega (arith, some, few) in
    let flags : length a.out ≡ length a.of = i.flags in
    let k = kept-claim a.stake p (p - 1) a.of a.out a.pool i (place-of p some) lt (can.not_yet p (same-test p p refl)) in
    let m = rw (loses-set a.stake p 1 (p - 1) a.of (place-of p some) lt ∙ claim-balances a.stake p 1 a.of, marks-set p 1 (p - 1) a.out (place-of p some) (omega (arith, lt, flags)) ∙ claim-outs p 1 a.out) at k in
    let one : a.pool + a.stake ≡ a.pool + a.stake * 1 = omega arith in
    subst (λ (n : ℕ). IsFunded a.stake (balances_told a.stake (ClaimOut p) 1 a.of) (outs_told (ClaimOut p) 1 a.out) n) one m

first-can : (s : Accounts) (a b : ℕ) → CanTell s (Closed a b (Out true true)) → CanTell s (ClaimOut a)
first-can s a b can = record { known = can.known.first; not_yet = λ p put. can.not_yet p (or_left (a == p) (b == p) put) }

funded-pass : (s : Accounts) (a b : ℕ) → Funded s → CanTell s (Closed a b (Out true false)) → Funded (told s (Closed a b (Out true false)))
funded-pass s a b i can =
    let some : 0 < a = can.known.first.0 in
    let few : a ≤ length s.of = can.known.first.1 in
    let some2 : 0 < b = can.known.second.0 in
    let few2 : b ≤ length s.of = can.known.second.1 in
    let lt : a - 1 < length s.of = omega (arith, some, few) in
    let lt2 : b - 1 < length s.of = omega (arith, some2, few2) in
    let flags : length s.out ≡ length s.of = i.flags in
    let live : is_told_out s a ≡ false = can.not_yet a (or_left (a == a) false (same-test a a refl)) in
    let len : length (loses s.stake a 1 s.of) ≡ length s.of = loses-length s.stake a 1 s.of in
    let k = kept-pass s.stake a b (a - 1) (b - 1) s.of s.out s.pool i (place-of a some) (place-of b some2) lt lt2 live in
    let m = rw (loses-set s.stake a 1 (a - 1) s.of (place-of a some) lt) at k in
    let n = rw (gains-set s.stake b 1 (b - 1) (loses s.stake a 1 s.of) (place-of b some2) (omega (arith, lt2, len)) ∙ pass-balances s.stake a b 1 s.of can.known.two, marks-set a 1 (a - 1) s.out (place-of a some) (omega (arith, lt, flags)) ∙ pass-outs a b 1 s.out) at m in
    let one : s.pool ≡ s.pool + s.stake * 0 = omega arith in
    subst (λ (q : ℕ). IsFunded s.stake (balances_told s.stake (Closed a b (Out true false)) 1 s.of) (outs_told (Closed a b (Out true false)) 1 s.out) q) one n

or-false : (b : Bool) → (b || false) ≡ b
or-false true = refl
or-false false = refl

other-can : (s : Accounts) (a b : ℕ) → CanTell s (Closed a b (Out false true)) → CanTell s (Closed b a (Out true false))
other-can s a b can = record {
  known = record { first = can.known.second; second = can.known.first; two = λ e. can.known.two (sym e) };
  not_yet = λ p put. can.not_yet p (sym (or-false (b == p)) ∙ put);
}

other-told : (s : Accounts) (a b : ℕ) → told s (Closed b a (Out true false)) ≡ told s (Closed a b (Out false true))
other-told s a b = told-as s (Closed b a (Out true false)) (Closed a b (Out false true)) (λ p. sym (or-false (a == p))) (λ p. or-false (b == p)) refl

pub funded-told : (s : Accounts) (e : Event) → Funded s → CanTell s e → Funded (told s e)
funded-told s (ClaimOut p) i can = funded-claim s p i can
funded-told s (Closed a b (Out true true)) i can =
    subst Funded (told-both s a b can.known.two) (funded-claim (told s (ClaimOut a)) b (funded-claim s a i (first-can s a b can)) (second-can s a b can))
funded-told s (Closed a b (Out true false)) i can = funded-pass s a b i can
funded-told s (Closed a b (Out false true)) i can = subst Funded (other-told s a b) (funded-pass s b a i (other-can s a b can))
funded-told s (Closed a b (Out false false)) i can = subst Funded (told-nothing s (Closed a b (Out false false)) (λ p. refl) (λ p. refl) refl) i
funded-told s (Closed a b (Collision x y)) i can = subst Funded (told-nothing s (Closed a b (Collision x y)) (λ p. refl) (λ p. refl) refl) i

-- the stake and how many provers there are stay
pub record IsKept (s t : Accounts) : Type 0 where
  pub funded : Funded t
  pub stake : t.stake ≡ s.stake
  pub provers : length t.of ≡ length s.of

pub kept-after : (es : List Event) (s : Accounts) → Funded s → CanTellAll es s → IsKept s (all_told es s)
kept-after [] s i can = record { funded = i; stake = refl; provers = refl }
kept-after (e ∷ es) s i can =
    let k : IsKept (told s e) (all_told es (told s e)) = kept-after es (told s e) (funded-told s e i can.0) can.1 in
    record { funded = k.funded; stake = k.stake; provers = k.provers ∙ told-length s.stake e 1 s.of }

pub ledgers-add-up : LedgersAddUp
ledgers-add-up stake provers es can =
    let k : IsKept (staked stake provers) (all_told es (staked stake provers)) = kept-after es (staked stake provers) (new-funded stake provers) can in
    let count : length (all_told es (staked stake provers)).of ≡ provers = k.provers ∙ count-of stake provers in
    rw (k.stake, count) at k.funded.total

pub balances-add-up : BalancesAddUp
balances-add-up stake provers r i =
    let t : IsTold stake provers r (events_of r) = record-told stake provers r i in
    rw (t.of, t.pool) at (ledgers-add-up stake provers (events_of r) t.can)
