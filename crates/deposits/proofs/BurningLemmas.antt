-- What is burned: the events of a record at which each loser leaves its stake, and what they come to.
use Rattle.std.proofs.Common.{◌≡◌, ◌≢◌, ℕ, zero, suc, ◌+◌, ◌-◌, ◌*◌, ◌<◌, ◌≤◌, Bool, true, false, not, ◌&&◌, ◌||◌, ◌==◌, if◌then◌else◌, List, [], ◌∷◌, length, sum, slice_get, inl, inr, Option, Some, None, is_some, refl, sym, ◌∙◌, ap, arith}
use Rattle.std.proofs.lemmas.Bool.Decides.{nat_tests}
use Rattle.std.proofs.lemmas.List.Sums.{sum_by-cons}
use Rattle.std.proofs.lemmas.Bool.{and_parts, cases_Bool}
use Rattle.std.proofs.Math.Nat.{mul-le-mul_left, mul_assoc, mul_comm}
use Rattle.std.specs.Option.{option_or}
use Rattle.bisect_game.specs.declared.settled.Close.{Close}
use Rattle.bisect_game.specs.declared.settled.Close.TheVariants.{Out, Collision}
use Rattle.bisect_game.specs.Bisection.{Bisection, is_closed}
use Rattle.bisect_game.specs.Rules.{Rules}
use Rattle.tournament.specs.OpenDisputes.{one_if, is_side}
use Rattle.tournament.specs.Bracket.{Record, is_out_in, last_stage, all_there, all_closed, is_complete, collided, disputes_collision}
use Rattle.tournament.specs.Posting.{Post, record_after}
use Rattle.tournament.specs.Delay.{rounds_in_sequence, HasFewRoundsInSequence, FewRoundsInSequence}
use Rattle.tournament.specs.Stages.{FirstPlaysAll, StagesHaveDisputes}
use Rattle.tournament.specs.FewPosts.{disputes_played}
use Rattle.tournament.specs.Theorem.{is_out_by_claim, lives}
use Rattle.tournament.specs.Undecided.{is_collision, PutsOutOrCollides, AllPutOutOrCollide, DisputesPutOutOrCollide}
use Rattle.deposits.specs.declared.amounts.Balances.{Balances}
use Rattle.deposits.specs.Events.{outs, wins, spent, AllEventsOf, claim_events, and_closed, dispute_events, events_of}
use Rattle.deposits.specs.Accounts.{Accounts, staked, all_told, CanTellAll}
use Rattle.deposits.specs.Balances.{losses_of, claims_out, balance, balances_from, AllSides, IsSettledUp}
use Rattle.deposits.specs.Burning.{losers_by, losers_in, burned_amount, kept_stake, kept_stakes_from, balances_if_burned, and_burned, burn_events, burn_events_of, BurnedAddUp, StagesBurn, RoundsBurn, kept_by_others_from, OthersPayForStages, between_from, BetweenBurns, FirstIsPaidForStages}
use Rattle.deposits.specs.ExactBalance.{HasWonAll, WhoLivesWinsAll, collisions_among}
use Rattle.deposits.specs.Theorem.{LedgersAddUp, BalancesAddUp, EndedIsSettledUp}
use Rattle.deposits.proofs.StepLemmas.{other-test, two-cells}
use Rattle.deposits.proofs.OrderLemmas.{of_by, accounts_by, accounts-by-same, IsClosedForm, closed-form}
use Rattle.deposits.proofs.RecordLemmas.{outs-append, wins-append, spent-append, all-append, claims-wins, claims-spent, claims-events, record-outs, balances-same, can-both, after-both}

-- THE EVENTS: each loser of a dispute is out as by its claim

losers-events : (n : ℕ) (ds : List Bisection) → AllSides n ds → AllEventsOf n (burn_events ds)
losers-events n [] i = tt
losers-events n (d ∷ ds) i = by d.close (losers-events n ds i.1)
  where
    by : (o : Option Close) → AllEventsOf n (burn_events ds) → AllEventsOf n (and_burned d.first d.second o (burn_events ds))
    by None h = h
    by (Some (Collision s t)) h = h
    by (Some (Out true true)) h = (i.0.first, (i.0.second, h))
    by (Some (Out true false)) h = (i.0.first, h)
    by (Some (Out false true)) h = (i.0.second, h)
    by (Some (Out false false)) h = h

losers-wins : (p : ℕ) (ds : List Bisection) → wins (burn_events ds) p ≡ 0
losers-wins p [] = refl
losers-wins p (d ∷ ds) = by d.close (losers-wins p ds)
  where
    by : (o : Option Close) → wins (burn_events ds) p ≡ 0 → wins (and_burned d.first d.second o (burn_events ds)) p ≡ 0
    by None h = h
    by (Some (Collision s t)) h = h
    by (Some (Out true true)) h = omega (arith, h)
    by (Some (Out true false)) h = omega (arith, h)
    by (Some (Out false true)) h = omega (arith, h)
    by (Some (Out false false)) h = h

losers-spent : (ds : List Bisection) → spent (burn_events ds) ≡ losers_in ds
losers-spent [] = refl
losers-spent (d ∷ ds) = by d.close (losers-spent ds)
  where
    by : (o : Option Close) → spent (burn_events ds) ≡ losers_in ds → spent (and_burned d.first d.second o (burn_events ds)) ≡ losers_by o + losers_in ds
    by None h = omega (arith, h)
    by (Some (Collision s t)) h = omega (arith, h)
    by (Some (Out true true)) h = omega (arith, h)
    by (Some (Out true false)) h = omega (arith, h)
    by (Some (Out false true)) h = omega (arith, h)
    by (Some (Out false false)) h = omega (arith, h)

-- a prover is out by them as often as by the disputes

either : (a b p : ℕ) → a ≢ b → one_if ((a == p) || (b == p)) ≡ one_if (a == p) + one_if (b == p)
either a b p ne = elim (cases_Bool (a == p)) [
  | inl e ↦
      let same : a ≡ p = grind (arith, nat_tests) in
      let other : (b == p) ≡ false = other-test b p (λ f. ne (same ∙ sym f)) in
      rw (e, other) (omega arith)
  | inr e ↦ rw e (omega arith)
]

or-false : (b : Bool) → (b || false) ≡ b
or-false true = refl
or-false false = refl

losers-outs : (n p : ℕ) (ds : List Bisection) → AllSides n ds → outs (burn_events ds) p ≡ outs (dispute_events ds) p
losers-outs n p [] i = refl
losers-outs n p (d ∷ ds) i = by d.close (losers-outs n p ds i.1)
  where
    by : (o : Option Close) → outs (burn_events ds) p ≡ outs (dispute_events ds) p →
        outs (and_burned d.first d.second o (burn_events ds)) p ≡ outs (and_closed d.first d.second o (dispute_events ds)) p
    by None h = h
    by (Some (Collision s t)) h = omega (arith, h)
    by (Some (Out true true)) h = omega (arith, h, either d.first d.second p i.0.two)
    by (Some (Out true false)) h = rw (or-false (d.first == p)) (omega (arith, h))
    by (Some (Out false true)) h = omega (arith, h)
    by (Some (Out false false)) h = omega (arith, h)

burn-events : (n : ℕ) (r : Record) → IsSettledUp n r → AllEventsOf n (burn_events_of r)
burn-events n r i =
    let len : length r.claims ≡ n = i.claims in
    all-append n (claim_events 1 r.claims) (burn_events r.disputes) (claims-events n 1 r.claims (omega arith) (omega (arith, len))) (losers-events n r.disputes i.sides)

burn-outs : (n p : ℕ) (r : Record) → IsSettledUp n r → outs (burn_events_of r) p ≡ outs (events_of r) p
burn-outs n p r i =
    omega (
      arith,
      outs-append (claim_events 1 r.claims) (burn_events r.disputes) p,
      outs-append (claim_events 1 r.claims) (dispute_events r.disputes) p,
      losers-outs n p r.disputes i.sides,
    )

burn-wins : (p : ℕ) (r : Record) → wins (burn_events_of r) p ≡ 0
burn-wins p r = omega (arith, wins-append (claim_events 1 r.claims) (burn_events r.disputes) p, claims-wins p 1 r.claims, losers-wins p r.disputes)

burn-spent : (r : Record) → spent (burn_events_of r) ≡ claims_out r.claims + losers_in r.disputes
burn-spent r = omega (arith, spent-append (claim_events 1 r.claims) (burn_events r.disputes), claims-spent 1 r.claims, losers-spent r.disputes)

-- WHAT THEY COME TO

kept-by : (s : ℕ) (b : Bool) → s * (1 + 0 - one_if (not b)) ≡ (if b then s else 0)
kept-by s true = omega arith
kept-by s false = omega arith

of-kept : (s : ℕ) (r : Record) (p n : ℕ) → of_by s (λ q. 0) (losses_of r) p n ≡ kept_stakes_from s r p n
of-kept s r p zero = refl
of-kept s r p (suc n) = two-cells _ _ _ _ (kept-by s (lives r p)) (of-kept s r (p + 1) n)

record IsBurned (s n : ℕ) (r : Record) : Type 0 where
  can : CanTellAll (burn_events_of r) (staked s n)
  of : (all_told (burn_events_of r) (staked s n)).of ≡ kept_stakes_from s r 1 n
  pool : (all_told (burn_events_of r) (staked s n)).pool ≡ burned_amount s r

record-burned : (s n : ℕ) (r : Record) → IsSettledUp n r → IsBurned s n r
record-burned s n r i =
    let once : (p : ℕ) → outs (burn_events_of r) p ≤ 1 = λ p. rw (burn-outs n p r i) (i.once p) in
    let c : IsClosedForm s n (burn_events_of r) = closed-form s n (burn_events_of r) (burn-events n r i) once in
    let all : all_told (burn_events_of r) (staked s n) ≡ accounts_by s n (λ q. 0) (losses_of r) (claims_out r.claims + losers_in r.disputes) =
    c.is ∙ accounts-by-same s n _ _ _ _ _ _ (λ p some few. burn-wins p r) (λ p some few. burn-outs n p r i ∙ record-outs n r p i some) (burn-spent r) in
    record { can = c.can; of = ap (λ (a : Accounts). a.of) all ∙ of-kept s r 1 n; pool = ap (λ (a : Accounts). a.pool) all }

-- THE CALL

pub burn-claims-can : (s n : ℕ) (r : Record) → IsSettledUp n r → CanTellAll (claim_events 1 r.claims) (staked s n)
burn-claims-can s n r i = (can-both (claim_events 1 r.claims) (burn_events r.disputes) (staked s n) (record-burned s n r i).can).0

pub burn-losers-can : (s n : ℕ) (r : Record) → IsSettledUp n r → CanTellAll (burn_events r.disputes) (all_told (claim_events 1 r.claims) (staked s n))
burn-losers-can s n r i = (can-both (claim_events 1 r.claims) (burn_events r.disputes) (staked s n) (record-burned s n r i).can).1

pub burned-told : (s n : ℕ) (r : Record) (a : Accounts) (b : Balances) → IsSettledUp n r → a ≡ all_told (burn_events r.disputes) (all_told (claim_events 1 r.claims) (staked s n)) →
    b.of ≡ a.of → b.pool ≡ a.pool → b ≡ balances_if_burned s n r
burned-told s n r a b i e f g =
    let all : a ≡ all_told (burn_events_of r) (staked s n) = e ∙ sym (after-both (claim_events 1 r.claims) (burn_events r.disputes) (staked s n)) in
    let t : IsBurned s n r = record-burned s n r i in
    balances-same b.of (kept_stakes_from s r 1 n) b.pool (burned_amount s r) (f ∙ ap (λ (x : Accounts). x.of) all ∙ t.of) (g ∙ ap (λ (x : Accounts). x.pool) all ∙ t.pool)

-- NOTHING ELSE IS LOST

pub burned-add-up : LedgersAddUp → BurnedAddUp
burned-add-up adds s n r i =
    let t : IsBurned s n r = record-burned s n r i in
    rw (t.of, t.pool) at (adds s n (burn_events_of r) t.can)

-- A STAGE costs a stake

loses-one : (c : Option Close) → is_some c ≡ true → PutsOutOrCollides c → collided c ≡ None → 1 ≤ losers_by c
loses-one None e h n = absurd (cc)
loses-one (Some (Collision s u)) e h n = absurd (cc)
loses-one (Some (Out true true)) e h n = omega arith
loses-one (Some (Out true false)) e h n = omega arith
loses-one (Some (Out false true)) e h n = omega arith
loses-one (Some (Out false false)) e h n = absurd (cc)

first-none : (c : Option Close) (o : Option (List ℕ × List ℕ)) → option_or (collided c) o ≡ None → (collided c ≡ None) × (o ≡ None)
first-none None o e = (refl, e)
first-none (Some (Out x y)) o e = (refl, e)
first-none (Some (Collision s u)) o e = absurd (cc)

-- each dispute that has closed without a collision has a loser
each-loses : (ds : List Bisection) → all_closed ds ≡ true → AllPutOutOrCollide ds → disputes_collision ds ≡ None → length ds ≤ losers_in ds
each-loses [] e h n = omega arith
each-loses (d ∷ ds) e h n =
    let two : (is_closed d ≡ true) × (all_closed ds ≡ true) = and_parts (is_closed d) (all_closed ds) e in
    let none : (collided d.close ≡ None) × (disputes_collision ds ≡ None) = first-none d.close (disputes_collision ds) n in
    omega (arith, loses-one d.close two.0 h.0 none.0, each-loses ds two.1 h.1 none.1)

not-true : (b : Bool) → not b ≡ true → b ≡ false
not-true true e = absurd (cc)
not-true false e = refl

-- what others keep

is-eqb : (m n : ℕ) → (m == n) ≡ true → m ≡ n
is-eqb m n e = grind (arith, nat_tests)

sum-cons : (x : ℕ) (xs : List ℕ) → sum (x ∷ xs) ≡ x + sum xs
sum-cons x xs = sum_by-cons (λ (y : ℕ). y) x xs

others-past : (stake : ℕ) (r : Record) (p q n : ℕ) → p < q → sum (kept_stakes_from stake r q n) ≡ kept_by_others_from stake r p q n
others-past stake r p q zero lt = refl
others-past stake r p q (suc n) lt =
    let far : (q == p) ≡ false = other-test q p (λ same. omega (arith, same, lt)) in
    rw far (omega (arith, sum-cons (kept_stake stake r q) (kept_stakes_from stake r (q + 1) n), others-past stake r p (q + 1) n (omega (arith, lt))))

others-sum : (stake : ℕ) (r : Record) (p q n : ℕ) → q ≤ p → p < q + n → sum (kept_stakes_from stake r q n) ≡ kept_stake stake r p + kept_by_others_from stake r p q n
others-sum stake r p q zero low high = absurd (omega arith)
others-sum stake r p q (suc n) low high = elim (cases_Bool (q == p)) [
  | inl e ↦
      let same : q ≡ p = is-eqb q p e in
      let at : kept_stake stake r q ≡ kept_stake stake r p = ap (kept_stake stake r) same in
      rw e (omega (arith, at, sum-cons (kept_stake stake r q) (kept_stakes_from stake r (q + 1) n), others-past stake r p (q + 1) n (omega (arith, same))))
  | inr e ↦
      let far : q ≢ p = λ same. let yes : (q == p) ≡ true = grind (arith, nat_tests) in cc in
      let less : q + 1 ≤ p = omega (arith, low, far) in
      rw e (omega (arith, sum-cons (kept_stake stake r q) (kept_stakes_from stake r (q + 1) n), others-sum stake r p (q + 1) n less (omega (arith, high))))
]

others-less : (stake m s a b : ℕ) → 0 < m → stake + a + b ≡ stake * m → stake * s ≤ b → a + stake * s ≤ stake * (m - 1)
others-less stake zero s a b some all le = absurd (omega arith)
others-less stake (suc m) s a b some all le =
    let e : suc m - 1 ≡ m = omega arith in
    let whole : stake * suc m ≡ stake * m + stake = omega arith in
    rw e (omega (arith, all, whole, le))

-- both parts of the stakes
between-sum : (won rest : ℕ) (r : Record) (p n : ℕ) → between_from won rest r p n ≡ sum (balances_from won r p n) + sum (kept_stakes_from rest r p n)
between-sum won rest r p zero = refl
between-sum won rest r p (suc n) =
    omega (arith, sum-cons (balance won r p) (balances_from won r (p + 1) n), sum-cons (kept_stake rest r p) (kept_stakes_from rest r (p + 1) n), between-sum won rest r (p + 1) n)

no-collision : (p : ℕ) (ds : List Bisection) → disputes_collision ds ≡ None → collisions_among p ds ≡ 0
no-collision p [] n = refl
no-collision p (d ∷ ds) n =
    let none : (collided d.close ≡ None) × (disputes_collision ds ≡ None) = first-none d.close (disputes_collision ds) n in
    by (is_side p d) d.close none.0 (no-collision p ds none.1)
  where
    by : (b : Bool) (c : Option Close) → collided c ≡ None → collisions_among p ds ≡ 0 → one_if (b && is_collision c) + collisions_among p ds ≡ 0
    by true None e h = omega (arith, h)
    by true (Some (Out x y)) e h = omega (arith, h)
    by true (Some (Collision s u)) e h = absurd (cc)
    by false c e h = omega (arith, h)

module _ (puts : DisputesPutOutOrCollide) (stages : StagesHaveDisputes) where
  pub stages-lose : (rules : Rules) (xs : List Post) → is_complete (record_after rules xs) ≡ true → disputes_collision (record_after rules xs).disputes ≡ None →
      last_stage (record_after rules xs).disputes ≤ losers_in (record_after rules xs).disputes
  stages-lose rules xs over none =
      let r : Record = record_after rules xs in
      let closed : all_closed r.disputes ≡ true = (and_parts (all_there r.claims) (all_closed r.disputes) over).1 in
      omega (arith, stages rules xs, each-loses r.disputes closed (puts rules xs) none)

  pub stages-burn : StagesBurn
  stages-burn stake rules xs over none =
      let r : Record = record_after rules xs in
      mul-le-mul_left stake (omega (arith, stages-lose rules xs over none))

  pub rounds-burn : FewRoundsInSequence → RoundsBurn
  rounds-burn few stake rules xs k playable m over none =
      let r : Record = record_after rules xs in
      let f : HasFewRoundsInSequence rules k (record_after rules xs) = few rules xs k playable m in
      let rounds : stake * (rounds_in_sequence r - 1) ≤ stake * (last_stage r.disputes * (k + 1)) = mul-le-mul_left stake (omega (arith, f.by_stage)) in
      let burns : (k + 1) * (stake * last_stage r.disputes) ≤ (k + 1) * burned_amount stake r = mul-le-mul_left (k + 1) (stages-burn stake rules xs over none) in
      let same : stake * (last_stage r.disputes * (k + 1)) ≡ (k + 1) * (stake * last_stage r.disputes) = sym (mul_assoc stake (last_stage r.disputes) (k + 1)) ∙ mul_comm (stake * last_stage r.disputes) (k + 1) in
      let turned : (k + 1) * burned_amount stake r ≡ burned_amount stake r * (k + 1) = mul_comm (k + 1) (burned_amount stake r) in
      omega (arith, rounds, burns, same, turned)

  pub others-pay-for-stages : BurnedAddUp → EndedIsSettledUp → OthersPayForStages
  others-pay-for-stages adds ended stake rules xs p playable some few over none stays =
      let r : Record = record_after rules xs in
      let total : sum (kept_stakes_from stake r 1 rules.setup.provers) + burned_amount stake r ≡ stake * rules.setup.provers = adds stake rules.setup.provers r (ended rules xs playable over) in
      let split : sum (kept_stakes_from stake r 1 rules.setup.provers) ≡ kept_stake stake r p + kept_by_others_from stake r p 1 rules.setup.provers =
      others-sum stake r p 1 rules.setup.provers (omega (arith, some)) (omega (arith, few)) in
      let own : kept_stake stake r p ≡ stake = rw stays refl in
      others-less stake rules.setup.provers (last_stage r.disputes) (kept_by_others_from stake r p 1 rules.setup.provers) (burned_amount stake r) playable.some (omega (arith, total, split, own)) (stages-burn stake rules xs over none)

  pub between-burns : BurnedAddUp → BalancesAddUp → EndedIsSettledUp → BetweenBurns
  between-burns adds pays ended won rest rules xs playable over none =
      let r : Record = record_after rules xs in
      let n : ℕ = rules.setup.provers in
      let up : IsSettledUp rules.setup.provers r = ended rules xs playable over in
      record {
        stages = omega (arith, stages-burn rest rules xs over none);
        total = omega (arith, between-sum won rest r 1 rules.setup.provers, adds rest rules.setup.provers r up, pays won rules.setup.provers r up);
      }

-- BY THE SETTLEMENT OF `balances`

paid-by : (stake played collided_ last : ℕ) → played ≡ last → collided_ ≡ 0 → stake * (1 + (played - collided_)) ≡ stake * (1 + last)
paid-by stake played collided_ last e f = (let same : 1 + (played - collided_) ≡ 1 + last = omega (arith, e, f) in ap (λ (n : ℕ). stake * n) same)

pub first-is-paid-for-stages : FirstPlaysAll → WhoLivesWinsAll → FirstIsPaidForStages
first-is-paid-for-stages plays wins_ stake rules xs c playable over none given stays =
    let r : Record = record_after rules xs in
    let out : is_out_in r.disputes 1 ≡ false = not-true _ (and_parts (not (is_out_by_claim (slice_get r.claims 0))) (not (is_out_in r.disputes 1)) stays).1 in
    let w : HasWonAll stake rules.setup.provers 1 r = wins_ stake rules xs 1 playable (omega arith) (omega (arith, playable.some)) over stays in
    w.balance_ ∙ paid-by stake (disputes_played 1 r) (collisions_among 1 r.disputes) (last_stage r.disputes) (plays rules xs c given out) (no-collision 1 r.disputes none)
