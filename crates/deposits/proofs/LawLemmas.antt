-- The laws of deposits but for the record of a match that has ended.
use Rattle.std.proofs.Common.{◌≡◌, ℕ, zero, suc, ◌+◌, ◌-◌, ◌*◌, ◌<◌, ◌≤◌, Bool, not, List, [], ◌∷◌, length, slice_index, refl, sym, ◌∙◌, ap, arith}
use Rattle.std.proofs.Math.Nat.{mul-add}
use Rattle.tournament.specs.OpenDisputes.{one_if}
use Rattle.tournament.specs.Bracket.{Record}
use Rattle.tournament.specs.Moves.{begun}
use Rattle.tournament.specs.Journals.{turns}
use Rattle.tournament.specs.Truthful.{IsSafe, TruthfulProversAreSafe}
use Rattle.deposits.specs.Events.{Event, puts_out, pays, outs, wins, events_of}
use Rattle.deposits.specs.Accounts.{Accounts, balances_told}
use Rattle.deposits.specs.Balances.{losses_of, wins_of, balance, balances_from}
use Rattle.deposits.specs.Theorem.{EventsAddTheirOwn, LedgersAreInClosedForm, RecordsAreInClosedForm, OrderOfEventsIsFree, WhoStaysKeepsStake, TruthfulKeepStake}
use Rattle.deposits.proofs.StepLemmas.{place-of}
use Rattle.deposits.proofs.OrderLemmas.{of_by, IsClosedForm, closed-form, outs-order, wins-order, spent-order, events-order}
use Rattle.deposits.proofs.RecordLemmas.{record-events, record-outs, record-wins, record-spent, IsTold, told-of}

own-from : (s : ℕ) (e : Event) (p q k : ℕ) (xs : List ℕ) → p ≡ q + k → k < length xs → slice_index (balances_told s e q xs) k ≡ slice_index xs k + s * one_if (pays e p) - s * one_if (puts_out e p)
own-from s e p q k [] same lt = absurd (omega arith)
own-from s e p q zero (x ∷ xs) same lt = let here : p ≡ q = omega (arith, same) in rw here refl
own-from s e p q (suc k) (x ∷ xs) same lt = own-from s e p (q + 1) k xs (omega (arith, same)) (omega (arith, lt))

pub events-add-their-own : EventsAddTheirOwn
events-add-their-own a e p some few = own-from a.stake e p 1 (p - 1) a.of (place-of p some) (omega (arith, some, few))

by-from : (s : ℕ) (w o : ℕ → ℕ) (p q k n : ℕ) → p ≡ q + k → k < n → slice_index (of_by s w o q n) k ≡ s * (1 + w p - o p)
by-from s w o p q k zero same lt = absurd (omega arith)
by-from s w o p q zero (suc n) same lt = let here : p ≡ q = omega (arith, same) in rw here refl
by-from s w o p q (suc k) (suc n) same lt = by-from s w o p (q + 1) k n (omega (arith, same)) (omega (arith, lt))

pub ledgers-are-in-closed-form : LedgersAreInClosedForm
ledgers-are-in-closed-form s n es i once =
    let c : IsClosedForm s n es = closed-form s n es i once in
    record {
      can = c.can;
      comes_to = record {
        balances = λ p some few. ap (λ (a : Accounts). slice_index a.of (p - 1)) c.is ∙ by-from s (wins es) (outs es) p 1 (p - 1) n (place-of p some) (omega (arith, some, few));
        pool = ap (λ (a : Accounts). a.pool) c.is;
      };
    }

record-from : (s : ℕ) (r : Record) (p q k n : ℕ) → p ≡ q + k → k < n → slice_index (balances_from s r q n) k ≡ balance s r p
record-from s r p q k zero same lt = absurd (omega arith)
record-from s r p q zero (suc n) same lt = let here : p ≡ q = omega (arith, same) in rw here refl
record-from s r p q (suc k) (suc n) same lt = record-from s r p (q + 1) k n (omega (arith, same)) (omega (arith, lt))

pub records-are-in-closed-form : RecordsAreInClosedForm
records-are-in-closed-form s n r i = record {
  balances = λ p some few. record-from s r p 1 (p - 1) n (place-of p some) (omega (arith, some, few));
  as_events = λ p some few. ap (λ (w : ℕ). s * (1 + w - losses_of r p)) (sym (record-wins r p)) ∙ ap (λ (o : ℕ). s * (1 + wins (events_of r) p - o)) (sym (record-outs n r p i some));
  pool_as_events = ap (λ (m : ℕ). s * m) (sym (record-spent r));
}

pub order-does-not-matter : OrderOfEventsIsFree
order-does-not-matter s n r es i h =
    let t : IsTold s n r es = told-of s n r es (events-order n (events_of r) es h (record-events n r i)) (λ p. rw (outs-order (events_of r) es p h) (i.once p))
    (λ p some few. wins-order (events_of r) es p h ∙ record-wins r p) (λ p some few. outs-order (events_of r) es p h ∙ record-outs n r p i some) (spent-order (events_of r) es h ∙ record-spent r) in
    record { can = t.can; balances = t.of; pool = t.pool }

stake-kept : (s w : ℕ) → s ≤ s * (1 + w - 0)
stake-kept s w = let same : 1 + w - 0 ≡ 1 + w = omega arith in rw same (omega (arith, mul-add s 1 w))

pub who-stays-keeps-stake : WhoStaysKeepsStake
who-stays-keeps-stake s rules t p r k =
    let out : losses_of r p ≡ 0 = ap (λ (b : Bool). one_if (not b)) k.is_live in
    rw out (stake-kept s (wins_of r p))

pub truthful-keep-stake : TruthfulProversAreSafe → TruthfulKeepStake
truthful-keep-stake safe s rules says t ps p playable fair run some few truthful legal =
    let is : IsSafe rules t p (turns rules says ps (begun rules)).record_ = safe rules says t ps p playable fair run some few truthful legal in
    who-stays-keeps-stake s rules t p (turns rules says ps (begun rules)).record_ is.stays
