-- The record of a match that has ended: its disputes are between two of its provers, and nobody is put out twice.
use Rattle.std.proofs.Common.{◌≡◌, ℕ, zero, suc, ◌+◌, ◌-◌, ◌<◌, ◌≤◌, Bool, true, false, ◌&&◌, ◌||◌, ◌==◌, List, [], ◌∷◌, slice_get, Option, Some, None, refl, arith}
use Rattle.std.proofs.lemmas.Bool.{and_parts}
use Rattle.bisect_game.specs.declared.settled.Close.{Close}
use Rattle.bisect_game.specs.declared.settled.Close.TheVariants.{Out, Collision}
use Rattle.bisect_game.specs.Bisection.{Bisection}
use Rattle.tournament.specs.OpenDisputes.{one_if, AllApart, SidesAreTwoProvers}
use Rattle.tournament.specs.Bracket.{Record, is_out_by, all_there, all_closed}
use Rattle.tournament.specs.Numbers.{AreNumbered, IsOfProvers, RecordsAreOfProvers}
use Rattle.tournament.specs.Outs.{outs_in, outs_of, NobodyIsOutTwice}
use Rattle.tournament.specs.Posting.{record_after}
use Rattle.tournament.specs.Theorem.{is_out_by_claim}
use Rattle.deposits.specs.Events.{outs, claim_events, and_closed, dispute_events, events_of}
use Rattle.deposits.specs.Balances.{AllSides}
use Rattle.deposits.specs.Theorem.{EndedIsSettledUp}
use Rattle.deposits.proofs.StepLemmas.{other-test}
use Rattle.deposits.proofs.RecordLemmas.{outs-append, claims-past, claims-outs}

sides-of : (n m : ℕ) (ds : List Bisection) → AreNumbered n m ds → AllApart ds → AllSides n ds
sides-of n m [] i j = tt
sides-of n m (d ∷ ds) i j = (record { first = i.0.1.0; second = i.0.1.1; two = j.0 }, sides-of n (m + 1) ds i.1 j.1)

-- the events of disputes put a prover out as often as the disputes do
outs-same : (p : ℕ) (ds : List Bisection) → outs (dispute_events ds) p ≡ outs_in p ds
outs-same p [] = refl
outs-same p (d ∷ ds) = by d.close (outs-same p ds)
  where
    by : (o : Option Close) → outs (dispute_events ds) p ≡ outs_in p ds → outs (and_closed d.first d.second o (dispute_events ds)) p ≡ one_if (is_out_by d o p) + outs_in p ds
    by None h = omega (arith, h)
    by (Some (Out x y)) h = omega (arith, h)
    by (Some (Collision s t)) h = omega (arith, h)

-- no prover has the number 0
nobody-out : (n m : ℕ) (ds : List Bisection) → AreNumbered n m ds → outs_in 0 ds ≡ 0
nobody-out n m [] i = refl
nobody-out n m (d ∷ ds) i =
    let first : 1 ≤ d.first = i.0.1.0.0 in
    let second : 1 ≤ d.second = i.0.1.1.0 in
    by d.close (other-test d.first 0 (λ e. omega (arith, e, first))) (other-test d.second 0 (λ e. omega (arith, e, second))) (nobody-out n (m + 1) ds i.1)
  where
    none : (x y : Bool) → one_if ((x && false) || (y && false)) ≡ 0
    none true true = refl
    none true false = refl
    none false true = refl
    none false false = refl

    by : (o : Option Close) → (d.first == 0) ≡ false → (d.second == 0) ≡ false → outs_in 0 ds ≡ 0 → one_if (is_out_by d o 0) + outs_in 0 ds ≡ 0
    by None f s h = omega (arith, h)
    by (Some (Out x y)) f s h = rw (f, s) (omega (arith, h, none x y))
    by (Some (Collision t u)) f s h = omega (arith, h)

once-of : (n : ℕ) (r : Record) (p : ℕ) → IsOfProvers n r → (0 < p → outs_of p r ≤ 1) → outs (events_of r) p ≤ 1
once-of n r zero i twice =
    omega (
      arith,
      outs-append (claim_events 1 r.claims) (dispute_events r.disputes) 0,
      claims-past 0 1 r.claims (omega arith),
      outs-same 0 r.disputes,
      nobody-out n 1 r.disputes i.disputes,
    )
once-of n r (suc k) i twice =
    let once : one_if (is_out_by_claim (slice_get r.claims (suc k - 1))) + outs_in (suc k) r.disputes ≤ 1 = twice (omega arith) in
    omega (
      arith,
      once,
      outs-append (claim_events 1 r.claims) (dispute_events r.disputes) (suc k),
      claims-outs (suc k) 1 (suc k - 1) r.claims (omega arith),
      outs-same (suc k) r.disputes,
    )

pub ended-is-settled-up : RecordsAreOfProvers → NobodyIsOutTwice → SidesAreTwoProvers → EndedIsSettledUp
ended-is-settled-up of_provers twice apart rules xs playable over =
    let r : Record = record_after rules xs in
    let i : IsOfProvers rules.setup.provers r = of_provers rules xs in
    record {
      claims = i.claims;
      settled = (and_parts (all_there r.claims) (all_closed r.disputes) over).0;
      sides = sides-of rules.setup.provers 1 r.disputes i.disputes (apart rules xs playable);
      once = λ p. once-of rules.setup.provers r p i (twice rules xs p);
    }
