-- Events in any order come to the closed form, and may be told where nobody is put out twice.
use Rattle.std.proofs.Common.{◌≡◌, ℕ, zero, suc, ◌+◌, ◌-◌, ◌*◌, ◌<◌, ◌≤◌, Bool, true, false, ◌&&◌, ◌||◌, ◌==◌, List, [], ◌∷◌, length, replicate, slice_index_or, inl, inr, All, refl, sym, ◌∙◌, ap, arith, subst}
use Rattle.std.specs.List.{sum_by}
use Rattle.std.specs.List.Sorted.{IsPermutation}
use Rattle.std.proofs.Math.Nat.{mul-sub, mul-add}
use Rattle.std.proofs.lemmas.List.Sums.{sum_by-cons}
use Rattle.std.proofs.lemmas.List.Sorted.{sum_by-IsPermutation, All-permutation}
use Rattle.std.proofs.lemmas.Bool.{or_cases, and_parts}
use Rattle.bisect_game.specs.declared.settled.Close.TheVariants.{Out, Collision}
use Rattle.tournament.specs.OpenDisputes.{one_if}
use Rattle.deposits.specs.Events.{Event, puts_out, pays, pooled, outs, wins, spent, IsEventOf, AllEventsOf}
use Rattle.deposits.specs.Events.Event.{ClaimOut, Closed}
use Rattle.deposits.specs.Accounts.{Accounts, staked, balances_told, outs_told, told, CanTell, all_told, CanTellAll}
use Rattle.deposits.proofs.StepLemmas.{is-same, accounts-same, two-cells}

-- THE CLOSED FORM over how often each prover has won and is out

abbrev pub any : ℕ → Bool
any zero = false
any (suc n) = true

abbrev pub of_by : ℕ → (ℕ → ℕ) → (ℕ → ℕ) → ℕ → ℕ → List ℕ
of_by s w o p zero = []
of_by s w o p (suc n) = (s * (1 + w p - o p)) ∷ of_by s w o (p + 1) n

abbrev pub out_by : (ℕ → ℕ) → ℕ → ℕ → List Bool
out_by o p zero = []
out_by o p (suc n) = any (o p) ∷ out_by o (p + 1) n

abbrev pub accounts_by : ℕ → ℕ → (ℕ → ℕ) → (ℕ → ℕ) → ℕ → Accounts
accounts_by s n w o k = record { stake = s; of = of_by s w o 1 n; out = out_by o 1 n; pool = s * k }

-- equal counts come to equal accounts

of-same : (s : ℕ) (w o v u : ℕ → ℕ) (p n : ℕ) → ((q : ℕ) → p ≤ q → q < p + n → w q ≡ v q) → ((q : ℕ) → p ≤ q → q < p + n → o q ≡ u q) → of_by s w o p n ≡ of_by s v u p n
of-same s w o v u p zero e f = refl
of-same s w o v u p (suc n) e f =
    two-cells _ _ _ _ (rw (e p (omega arith) (omega arith), f p (omega arith) (omega arith)) refl)
    (of-same s w o v u (p + 1) n (λ q low high. e q (omega (arith, low)) (omega (arith, high))) (λ q low high. f q (omega (arith, low)) (omega (arith, high))))

out-same : (o u : ℕ → ℕ) (p n : ℕ) → ((q : ℕ) → p ≤ q → q < p + n → o q ≡ u q) → out_by o p n ≡ out_by u p n
out-same o u p zero f = refl
out-same o u p (suc n) f = two-cells _ _ _ _ (rw (f p (omega arith) (omega arith)) refl) (out-same o u (p + 1) n (λ q low high. f q (omega (arith, low)) (omega (arith, high))))

pub accounts-by-same : (s n : ℕ) (w o v u : ℕ → ℕ) (k j : ℕ) → ((q : ℕ) → 0 < q → q ≤ n → w q ≡ v q) → ((q : ℕ) → 0 < q → q ≤ n → o q ≡ u q) → k ≡ j →
    accounts_by s n w o k ≡ accounts_by s n v u j
accounts-by-same s n w o v u k j e f g =
    accounts-same s _ _ _ _ _ _ (of-same s w o v u 1 n (λ q low high. e q (omega (arith, low)) (omega (arith, high))) (λ q low high. f q (omega (arith, low)) (omega (arith, high))))
    (out-same o u 1 n (λ q low high. f q (omega (arith, low)) (omega (arith, high)))) (ap (λ (m : ℕ). s * m) g)

-- ONE EVENT adds its own amounts

one-more : (s w o g t : ℕ) → o ≤ 1 → s * (1 + w - o) + s * g - s * t ≡ s * (1 + (w + g) - (o + t))
one-more s w o g t le =
    let count : 1 + (w + g) - (o + t) ≡ (1 + w - o + g) - t = omega (arith, le) in
    sym (ap (λ (n : ℕ). s * n) count ∙ mul-sub s (1 + w - o + g) t ∙ ap (λ (n : ℕ). n - s * t) (mul-add s (1 + w - o) g))

out-more : (o : ℕ) (t : Bool) → (any o || t) ≡ any (o + one_if t)
out-more zero true = refl
out-more zero false = refl
out-more (suc o) true = ap any (add-suc-one o)
  where
    add-suc-one : (n : ℕ) → suc (suc n) ≡ suc n + 1
    add-suc-one n = omega arith
out-more (suc o) false = ap any (zero-more o)
  where
    zero-more : (n : ℕ) → suc n ≡ suc n + 0
    zero-more n = omega arith

balances-more : (s : ℕ) (e : Event) (w o : ℕ → ℕ) (p n : ℕ) → ((q : ℕ) → p ≤ q → q < p + n → o q ≤ 1) →
    balances_told s e p (of_by s w o p n) ≡ of_by s (λ q. w q + one_if (pays e q)) (λ q. o q + one_if (puts_out e q)) p n
balances-more s e w o p zero le = refl
balances-more s e w o p (suc n) le =
    two-cells _ _ _ _ (one-more s (w p) (o p) (one_if (pays e p)) (one_if (puts_out e p)) (le p (omega arith) (omega arith)))
    (balances-more s e w o (p + 1) n (λ q low high. le q (omega (arith, low)) (omega (arith, high))))

outs-more : (e : Event) (o : ℕ → ℕ) (p n : ℕ) → outs_told e p (out_by o p n) ≡ out_by (λ q. o q + one_if (puts_out e q)) p n
outs-more e o p zero = refl
outs-more e o p (suc n) = two-cells _ _ _ _ (out-more (o p) (puts_out e p)) (outs-more e o (p + 1) n)

pub told-more : (s n : ℕ) (e : Event) (w o : ℕ → ℕ) (k : ℕ) → ((q : ℕ) → o q ≤ 1) →
    told (accounts_by s n w o k) e ≡ accounts_by s n (λ q. w q + one_if (pays e q)) (λ q. o q + one_if (puts_out e q)) (k + pooled e)
told-more s n e w o k le =
    accounts-same s _ _ _ _ _ _ (balances-more s e w o 1 n (λ q low high. le q)) (outs-more e o 1 n) (sym (mul-add s k (pooled e)))

-- IT MAY BE TOLD where those whom it puts out aren't out

of-length : (s : ℕ) (w o : ℕ → ℕ) (p n : ℕ) → length (of_by s w o p n) ≡ n
of-length s w o p zero = refl
of-length s w o p (suc n) = ap suc (of-length s w o (p + 1) n)

none-out : (o : ℕ → ℕ) (p q k n : ℕ) → p ≡ q + k → o p ≡ 0 → slice_index_or (out_by o q n) k false ≡ false
none-out o p q k zero same is = refl
none-out o p q zero (suc n) same is =
    let here : p ≡ q = omega (arith, same) in
    ap any (rw here at is)
none-out o p q (suc k) (suc n) same is = none-out o p (q + 1) k n (omega (arith, same)) is

-- whom an event puts out has a number from 1 on
named : (n : ℕ) (e : Event) (p : ℕ) → IsEventOf n e → puts_out e p ≡ true → 0 < p
named n (ClaimOut q) p i put = let same : q ≡ p = is-same q p put in rw (← same) i.0
named n (Closed a b (Collision x y)) p i put = absurd (cc)
named n (Closed a b (Out x y)) p i put =
    elim (or_cases (x && (a == p)) (y && (b == p)) put) [
      | inl e ↦ let same : a ≡ p = is-same a p (and_parts x (a == p) e).1 in rw (← same) i.first.0
      | inr e ↦ let same : b ≡ p = is-same b p (and_parts y (b == p) e).1 in rw (← same) i.second.0
    ]

can-more : (s n : ℕ) (e : Event) (w o : ℕ → ℕ) (k : ℕ) → IsEventOf n e → ((p : ℕ) → o p + one_if (puts_out e p) ≤ 1) → CanTell (accounts_by s n w o k) e
can-more s n e w o k i once = record {
  known = rw (of-length s w o 1 n) i;
  not_yet = λ p put.
      let some : 0 < p = named n e p i put in
      let most : o p + 1 ≤ 1 = rw put at (once p) in
      none-out o p 1 (p - 1) n (omega (arith, some)) (omega (arith, most));
}

-- EVENTS, ONE AFTER ANOTHER

pub record Comes (s n : ℕ) (es : List Event) (w o : ℕ → ℕ) (k : ℕ) : Type 0 where
  pub can : CanTellAll es (accounts_by s n w o k)
  pub is : all_told es (accounts_by s n w o k) ≡ accounts_by s n (λ q. w q + wins es q) (λ q. o q + outs es q) (k + spent es)

pub comes : (s n : ℕ) (es : List Event) (w o : ℕ → ℕ) (k : ℕ) → AllEventsOf n es → ((p : ℕ) → o p + outs es p ≤ 1) → Comes s n es w o k
comes s n [] w o k i once = record { can = tt; is = accounts-by-same s n w o _ _ k _ (λ q some few. omega arith) (λ q some few. omega arith) (omega arith) }
comes s n (e ∷ es) w o k i once =
    let w2 : ℕ → ℕ = λ q. w q + one_if (pays e q) in
    let o2 : ℕ → ℕ = λ q. o q + one_if (puts_out e q) in
    let step : told (accounts_by s n w o k) e ≡ accounts_by s n w2 o2 (k + pooled e) = told-more s n e w o k (λ q. omega (arith, once q)) in
    let later : Comes s n es w2 o2 (k + pooled e) = comes s n es w2 o2 (k + pooled e) i.1 (λ p. omega (arith, once p)) in
    record {
      can = (can-more s n e w o k i.0 (λ p. omega (arith, once p)), subst (CanTellAll es) (sym step) later.can);
      is = ap (all_told es) step ∙ later.is ∙ accounts-by-same s n _ _ _ _ _ _ (λ q some few. omega arith) (λ q some few. omega arith) (omega arith);
    }

-- a ledger that has just been opened

opened-of : (s p n : ℕ) → replicate n s ≡ of_by s (λ q. 0) (λ q. 0) p n
opened-of s p zero = refl
opened-of s p (suc n) = two-cells _ _ _ _ (omega arith) (opened-of s (p + 1) n)

opened-out : (p n : ℕ) → replicate n false ≡ out_by (λ q. 0) p n
opened-out p zero = refl
opened-out p (suc n) = two-cells _ _ _ _ refl (opened-out (p + 1) n)

pub opened-by : (s n : ℕ) → staked s n ≡ accounts_by s n (λ q. 0) (λ q. 0) 0
opened-by s n = accounts-same s _ _ _ _ _ _ (opened-of s 1 n) (opened-out 1 n) (omega arith)

-- THE CLOSED FORM of events that put nobody out twice

pub record IsClosedForm (s n : ℕ) (es : List Event) : Type 0 where
  pub can : CanTellAll es (staked s n)
  pub is : all_told es (staked s n) ≡ accounts_by s n (wins es) (outs es) (spent es)

pub closed-form : (s n : ℕ) (es : List Event) → AllEventsOf n es → ((p : ℕ) → outs es p ≤ 1) → IsClosedForm s n es
closed-form s n es i once =
    let c : Comes s n es (λ q. 0) (λ q. 0) 0 = comes s n es (λ q. 0) (λ q. 0) 0 i (λ p. omega (arith, once p)) in
    record {
      can = subst (CanTellAll es) (sym (opened-by s n)) c.can;
      is = ap (all_told es) (opened-by s n) ∙ c.is ∙ accounts-by-same s n _ _ _ _ _ _ (λ q some few. omega arith) (λ q some few. omega arith) (omega arith);
    }

-- IN ANY ORDER

outs-sum : (es : List Event) (p : ℕ) → sum_by (λ (e : Event). one_if (puts_out e p)) es ≡ outs es p
outs-sum [] p = refl
outs-sum (e ∷ es) p = sum_by-cons (λ (x : Event). one_if (puts_out x p)) e es ∙ ap (λ (n : ℕ). one_if (puts_out e p) + n) (outs-sum es p)

wins-sum : (es : List Event) (p : ℕ) → sum_by (λ (e : Event). one_if (pays e p)) es ≡ wins es p
wins-sum [] p = refl
wins-sum (e ∷ es) p = sum_by-cons (λ (x : Event). one_if (pays x p)) e es ∙ ap (λ (n : ℕ). one_if (pays e p) + n) (wins-sum es p)

spent-sum : (es : List Event) → sum_by pooled es ≡ spent es
spent-sum [] = refl
spent-sum (e ∷ es) = sum_by-cons pooled e es ∙ ap (λ (n : ℕ). pooled e + n) (spent-sum es)

pub outs-order : (es fs : List Event) (p : ℕ) → IsPermutation es fs → outs fs p ≡ outs es p
outs-order es fs p h = sym (outs-sum fs p) ∙ sum_by-IsPermutation (λ (e : Event). one_if (puts_out e p)) es fs h ∙ outs-sum es p

pub wins-order : (es fs : List Event) (p : ℕ) → IsPermutation es fs → wins fs p ≡ wins es p
wins-order es fs p h = sym (wins-sum fs p) ∙ sum_by-IsPermutation (λ (e : Event). one_if (pays e p)) es fs h ∙ wins-sum es p

pub spent-order : (es fs : List Event) → IsPermutation es fs → spent fs ≡ spent es
spent-order es fs h = sym (spent-sum fs) ∙ sum_by-IsPermutation pooled es fs h ∙ spent-sum es

all-within : (n : ℕ) (es : List Event) → AllEventsOf n es → All (IsEventOf n) es
all-within n [] i k d lt = absurd (omega arith)
all-within n (e ∷ es) i zero d lt = i.0
all-within n (e ∷ es) i (suc k) d lt = all-within n es i.1 k d (omega (arith, lt))

all-from : (n : ℕ) (es : List Event) → All (IsEventOf n) es → AllEventsOf n es
all-from n [] a = tt
all-from n (e ∷ es) a = (a 0 e (omega arith), all-from n es (λ k d lt. a (suc k) d (omega (arith, lt))))

pub events-order : (n : ℕ) (es fs : List Event) → IsPermutation es fs → AllEventsOf n es → AllEventsOf n fs
events-order n es fs h i = all-from n fs (All-permutation (IsEventOf n) es fs h (all-within n es i))
