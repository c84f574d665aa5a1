-- The events of a record come to its balances.
use Rattle.std.proofs.Common.{◌≡◌, ℕ, zero, suc, ◌+◌, ◌-◌, ◌<◌, ◌≤◌, Bool, true, false, not, ◌&&◌, ◌||◌, ◌==◌, if◌then◌else◌, List, [], ◌∷◌, ◌++◌, length, slice_get, Option, Some, None, refl, sym, ◌∙◌, ap, arith}
use Rattle.bisect_game.specs.declared.settled.Settled.{Settled}
use Rattle.bisect_game.specs.declared.settled.Close.{Close}
use Rattle.bisect_game.specs.declared.settled.Close.TheVariants.{Out, Collision}
use Rattle.bisect_game.specs.Bisection.{Bisection}
use Rattle.tournament.specs.OpenDisputes.{one_if}
use Rattle.tournament.specs.Bracket.{Record, is_out_by, is_out_in}
use Rattle.tournament.specs.Theorem.{is_out_by_claim}
use Rattle.deposits.specs.Events.{Event, outs, wins, spent, AllEventsOf, claim_events, and_closed, dispute_events, events_of}
use Rattle.deposits.specs.Events.Event.{ClaimOut}
use Rattle.deposits.specs.declared.amounts.Balances.{Balances}
use Rattle.deposits.specs.Balances.{losses_of, is_won_if, wins_in, wins_of, claims_out, pooled_if, pooled_in, pool, balances_from, balances_of, AllSides, IsSettledUp}
use Rattle.deposits.specs.Accounts.{Accounts, staked, all_told, CanTellAll}
use Rattle.deposits.proofs.StepLemmas.{same-test, other-test, two-cells}
use Rattle.deposits.proofs.OrderLemmas.{any, of_by, accounts_by, accounts-by-same, IsClosedForm, closed-form}

-- one list after another

pub outs-append : (es fs : List Event) (p : ℕ) → outs (es ++ fs) p ≡ outs es p + outs fs p
outs-append [] fs p = omega arith
outs-append (e ∷ es) fs p = omega (arith, outs-append es fs p)

pub wins-append : (es fs : List Event) (p : ℕ) → wins (es ++ fs) p ≡ wins es p + wins fs p
wins-append [] fs p = omega arith
wins-append (e ∷ es) fs p = omega (arith, wins-append es fs p)

pub spent-append : (es fs : List Event) → spent (es ++ fs) ≡ spent es + spent fs
spent-append [] fs = omega arith
spent-append (e ∷ es) fs = omega (arith, spent-append es fs)

pub all-append : (n : ℕ) (es fs : List Event) → AllEventsOf n es → AllEventsOf n fs → AllEventsOf n (es ++ fs)
all-append n [] fs i j = j
all-append n (e ∷ es) fs i j = (i.0, all-append n es fs i.1 j)

-- CLAIMS

pub claims-past : (p q : ℕ) (ss : List (Option Settled)) → p < q → outs (claim_events q ss) p ≡ 0
claims-past p q [] lt = refl
claims-past p q (s ∷ ss) lt = by (is_out_by_claim (Some s)) (claims-past p (q + 1) ss (omega (arith, lt)))
  where
    by : (out : Bool) → outs (claim_events (q + 1) ss) p ≡ 0 → outs (if out then ClaimOut q ∷ claim_events (q + 1) ss else claim_events (q + 1) ss) p ≡ 0
    by true h = rw (other-test q p (λ e. omega (arith, e, lt))) (omega (arith, h))
    by false h = h

pub claims-outs : (p q k : ℕ) (ss : List (Option Settled)) → p ≡ q + k → outs (claim_events q ss) p ≡ one_if (is_out_by_claim (slice_get ss k))
claims-outs p q k [] same = refl
claims-outs p q zero (s ∷ ss) same = by (is_out_by_claim (Some s)) (claims-past p (q + 1) ss (omega (arith, same)))
  where
    by : (out : Bool) → outs (claim_events (q + 1) ss) p ≡ 0 → outs (if out then ClaimOut q ∷ claim_events (q + 1) ss else claim_events (q + 1) ss) p ≡ one_if out
    by true h = rw (same-test q p (omega (arith, same))) (omega (arith, h))
    by false h = h
claims-outs p q (suc k) (s ∷ ss) same = by (is_out_by_claim (Some s)) (claims-outs p (q + 1) k ss (omega (arith, same)))
  where
    by : (out : Bool) → outs (claim_events (q + 1) ss) p ≡ one_if (is_out_by_claim (slice_get ss k)) →
        outs (if out then ClaimOut q ∷ claim_events (q + 1) ss else claim_events (q + 1) ss) p ≡ one_if (is_out_by_claim (slice_get ss k))
    by true h = rw (other-test q p (λ e. omega (arith, e, same))) (omega (arith, h))
    by false h = h

pub claims-wins : (p q : ℕ) (ss : List (Option Settled)) → wins (claim_events q ss) p ≡ 0
claims-wins p q [] = refl
claims-wins p q (s ∷ ss) = by (is_out_by_claim (Some s)) (claims-wins p (q + 1) ss)
  where
    by : (out : Bool) → wins (claim_events (q + 1) ss) p ≡ 0 → wins (if out then ClaimOut q ∷ claim_events (q + 1) ss else claim_events (q + 1) ss) p ≡ 0
    by true h = omega (arith, h)
    by false h = h

pub claims-spent : (q : ℕ) (ss : List (Option Settled)) → spent (claim_events q ss) ≡ claims_out ss
claims-spent q [] = refl
claims-spent q (s ∷ ss) = by (is_out_by_claim (Some s)) (claims-spent (q + 1) ss)
  where
    by : (out : Bool) → spent (claim_events (q + 1) ss) ≡ claims_out ss → spent (if out then ClaimOut q ∷ claim_events (q + 1) ss else claim_events (q + 1) ss) ≡ one_if out + claims_out ss
    by true h = omega (arith, h)
    by false h = omega (arith, h)

pub claims-events : (n q : ℕ) (ss : List (Option Settled)) → 0 < q → q + length ss ≤ n + 1 → AllEventsOf n (claim_events q ss)
claims-events n q [] some few = tt
claims-events n q (s ∷ ss) some few = by (is_out_by_claim (Some s)) (claims-events n (q + 1) ss (omega arith) (omega (arith, few)))
  where
    by : (out : Bool) → AllEventsOf n (claim_events (q + 1) ss) → AllEventsOf n (if out then ClaimOut q ∷ claim_events (q + 1) ss else claim_events (q + 1) ss)
    by true h = ((some, omega (arith, few)), h)
    by false h = h

-- DISPUTES

any-one : (b : Bool) (n : ℕ) → any (one_if b + n) ≡ (b || any n)
any-one true n = ap any (more n)
  where
    more : (k : ℕ) → 1 + k ≡ suc k
    more k = omega arith
any-one false n = ap any (none n)
  where
    none : (k : ℕ) → 0 + k ≡ k
    none k = omega arith

pub disputes-outs : (p : ℕ) (ds : List Bisection) → any (outs (dispute_events ds) p) ≡ is_out_in ds p
disputes-outs p [] = refl
disputes-outs p (d ∷ ds) = by d.close (disputes-outs p ds)
  where
    by : (o : Option Close) → any (outs (dispute_events ds) p) ≡ is_out_in ds p → any (outs (and_closed d.first d.second o (dispute_events ds)) p) ≡ (is_out_by d o p || is_out_in ds p)
    by None h = h
    by (Some (Out x y)) h = any-one ((x && (d.first == p)) || (y && (d.second == p))) (outs (dispute_events ds) p) ∙ ap (λ (b : Bool). ((x && (d.first == p)) || (y && (d.second == p))) || b) h
    by (Some (Collision s t)) h = any-one false (outs (dispute_events ds) p) ∙ h

disputes-wins : (p : ℕ) (ds : List Bisection) → wins (dispute_events ds) p ≡ wins_in ds p
disputes-wins p [] = refl
disputes-wins p (d ∷ ds) = by d.close (disputes-wins p ds)
  where
    by : (o : Option Close) → wins (dispute_events ds) p ≡ wins_in ds p → wins (and_closed d.first d.second o (dispute_events ds)) p ≡ one_if (is_won_if d.first d.second o p) + wins_in ds p
    by None h = omega (arith, h)
    by (Some c) h = omega (arith, h)

disputes-spent : (ds : List Bisection) → spent (dispute_events ds) ≡ pooled_in ds
disputes-spent [] = refl
disputes-spent (d ∷ ds) = by d.close (disputes-spent ds)
  where
    by : (o : Option Close) → spent (dispute_events ds) ≡ pooled_in ds → spent (and_closed d.first d.second o (dispute_events ds)) ≡ pooled_if o + pooled_in ds
    by None h = omega (arith, h)
    by (Some c) h = omega (arith, h)

disputes-events : (n : ℕ) (ds : List Bisection) → AllSides n ds → AllEventsOf n (dispute_events ds)
disputes-events n [] i = tt
disputes-events n (d ∷ ds) i = by d.close (disputes-events n ds i.1)
  where
    by : (o : Option Close) → AllEventsOf n (dispute_events ds) → AllEventsOf n (and_closed d.first d.second o (dispute_events ds))
    by None h = h
    by (Some c) h = (i.0, h)

-- A RECORD

pub record-events : (n : ℕ) (r : Record) → IsSettledUp n r → AllEventsOf n (events_of r)
record-events n r i =
    let len : length r.claims ≡ n = i.claims in
    all-append n (claim_events 1 r.claims) (dispute_events r.disputes) (claims-events n 1 r.claims (omega arith) (omega (arith, len))) (disputes-events n r.disputes i.sides)

out-count : (a b : Bool) (k : ℕ) → any k ≡ b → one_if a + k ≤ 1 → one_if a + k ≡ one_if (not (not a && not b))
out-count true b zero e le = refl
out-count true b (suc k) e le = absurd (omega (arith, le))
out-count false true zero e le = absurd (cc)
out-count false false zero e le = refl
out-count false true (suc k) e le = omega (arith, le)
out-count false false (suc k) e le = absurd (cc)

pub record-outs : (n : ℕ) (r : Record) (p : ℕ) → IsSettledUp n r → 0 < p → outs (events_of r) p ≡ losses_of r p
record-outs n r p i some =
    let sum : outs (events_of r) p ≡ outs (claim_events 1 r.claims) p + outs (dispute_events r.disputes) p = outs-append (claim_events 1 r.claims) (dispute_events r.disputes) p in
    let claim : outs (claim_events 1 r.claims) p ≡ one_if (is_out_by_claim (slice_get r.claims (p - 1))) = claims-outs p 1 (p - 1) r.claims (omega (arith, some)) in
    let once : outs (events_of r) p ≤ 1 = i.once p in
    sum ∙ ap (λ (k : ℕ). k + outs (dispute_events r.disputes) p) claim
    ∙ out-count (is_out_by_claim (slice_get r.claims (p - 1))) (is_out_in r.disputes p) (outs (dispute_events r.disputes) p) (disputes-outs p r.disputes) (omega (arith, sum, claim, once))

pub record-wins : (r : Record) (p : ℕ) → wins (events_of r) p ≡ wins_of r p
record-wins r p =
    let sum : wins (events_of r) p ≡ wins (claim_events 1 r.claims) p + wins (dispute_events r.disputes) p = wins-append (claim_events 1 r.claims) (dispute_events r.disputes) p in
    omega (arith, sum, claims-wins p 1 r.claims, disputes-wins p r.disputes)

pub record-spent : (r : Record) → spent (events_of r) ≡ claims_out r.claims + pooled_in r.disputes
record-spent r =
    let sum : spent (events_of r) ≡ spent (claim_events 1 r.claims) + spent (dispute_events r.disputes) = spent-append (claim_events 1 r.claims) (dispute_events r.disputes) in
    omega (arith, sum, claims-spent 1 r.claims, disputes-spent r.disputes)

of-record : (s : ℕ) (r : Record) (p n : ℕ) → of_by s (wins_of r) (losses_of r) p n ≡ balances_from s r p n
of-record s r p zero = refl
of-record s r p (suc n) = two-cells _ _ _ _ refl (of-record s r (p + 1) n)

-- the accounts after the events of a record
pub record IsTold (s n : ℕ) (r : Record) (es : List Event) : Type 0 where
  pub can : CanTellAll es (staked s n)
  pub of : (all_told es (staked s n)).of ≡ balances_from s r 1 n
  pub pool : (all_told es (staked s n)).pool ≡ pool s r

pub told-of : (s n : ℕ) (r : Record) (es : List Event) → AllEventsOf n es → ((p : ℕ) → outs es p ≤ 1) → ((p : ℕ) → 0 < p → p ≤ n → wins es p ≡ wins_of r p) →
    ((p : ℕ) → 0 < p → p ≤ n → outs es p ≡ losses_of r p) → spent es ≡ claims_out r.claims + pooled_in r.disputes → IsTold s n r es
told-of s n r es i once e f g =
    let c : IsClosedForm s n es = closed-form s n es i once in
    let all : all_told es (staked s n) ≡ accounts_by s n (wins_of r) (losses_of r) (claims_out r.claims + pooled_in r.disputes) = c.is ∙ accounts-by-same s n _ _ _ _ _ _ e f g in
    record { can = c.can; of = ap (λ (a : Accounts). a.of) all ∙ of-record s r 1 n; pool = ap (λ (a : Accounts). a.pool) all }

pub record-told : (s n : ℕ) (r : Record) → IsSettledUp n r → IsTold s n r (events_of r)
record-told s n r i = told-of s n r (events_of r) (record-events n r i) i.once (λ p some few. record-wins r p) (λ p some few. record-outs n r p i some) (record-spent r)

-- the events of claims and of disputes may be told one list after the other

pub can-both : (es fs : List Event) (a : Accounts) → CanTellAll (es ++ fs) a → CanTellAll es a × CanTellAll fs (all_told es a)
can-both [] fs a can = (tt, can)
can-both (e ∷ es) fs a can = let more = can-both es fs _ can.1 in ((can.0, more.0), more.1)

pub after-both : (es fs : List Event) (a : Accounts) → all_told (es ++ fs) a ≡ all_told fs (all_told es a)
after-both [] fs a = refl
after-both (e ∷ es) fs a = after-both es fs _

-- THE CALL

pub claims-can : (s n : ℕ) (r : Record) → IsSettledUp n r → CanTellAll (claim_events 1 r.claims) (staked s n)
claims-can s n r i = (can-both (claim_events 1 r.claims) (dispute_events r.disputes) (staked s n) (record-told s n r i).can).0

pub disputes-can : (s n : ℕ) (r : Record) → IsSettledUp n r → CanTellAll (dispute_events r.disputes) (all_told (claim_events 1 r.claims) (staked s n))
disputes-can s n r i = (can-both (claim_events 1 r.claims) (dispute_events r.disputes) (staked s n) (record-told s n r i).can).1

pub balances-same : (xs ys : List ℕ) (m n : ℕ) → xs ≡ ys → m ≡ n → let a : Balances = record { of = xs; pool = m } in let b : Balances = record { of = ys; pool = n } in a ≡ b
balances-same xs ys m n e f = cc

pub balances-told : (s n : ℕ) (r : Record) (a : Accounts) (b : Balances) → IsSettledUp n r → a ≡ all_told (dispute_events r.disputes) (all_told (claim_events 1 r.claims) (staked s n)) →
    b.of ≡ a.of → b.pool ≡ a.pool → b ≡ balances_of s n r
balances-told s n r a b i e f g =
    let all : a ≡ all_told (events_of r) (staked s n) = e ∙ sym (after-both (claim_events 1 r.claims) (dispute_events r.disputes) (staked s n)) in
    let t : IsTold s n r (events_of r) = record-told s n r i in
    balances-same b.of (balances_from s r 1 n) b.pool (pool s r) (f ∙ ap (λ (x : Accounts). x.of) all ∙ t.of) (g ∙ ap (λ (x : Accounts). x.pool) all ∙ t.pool)
