-- Who closes a dispute puts somebody out or has a collision, and a prover is in one dispute at most that has put out nobody.
use Rattle.std.proofs.Common.{◌≡◌, ℕ, zero, suc, ◌+◌, ◌-◌, ◌≤◌, Bool, true, false, not, ◌&&◌, ◌==◌, if◌then◌else◌, List, [], ◌∷◌, ◌++◌, length, slice_get, slice_set, inl, inr, Option, Some, None, is_some, refl, arith, subst}
use Rattle.std.proofs.lemmas.Bool.{and_parts, cases_Bool}
use Rattle.rd_base.specs.declared.claim.Claim.{Claim}
use Rattle.bisect_game.specs.declared.settled.Settled.{Settled}
use Rattle.bisect_game.specs.declared.settled.Close.{Close}
use Rattle.bisect_game.specs.declared.settled.Close.TheVariants.{Out, Collision}
use Rattle.bisect_game.specs.Bisection.{Bisection, settle_first, settle_second}
use Rattle.bisect_game.specs.Rules.{Rules}
use Rattle.tournament.specs.OpenDisputes.{one_if, is_side}
use Rattle.tournament.specs.Bracket.{Record, live, Taken, take_other, pairs_of, pairs, last_stage, disputes_of, all_there, all_out, put_out, is_stage_due, stage_opened, nothing_settled, is_out_by, asks_first, asks_second, claim_missing, settled_in, put, settle}
use Rattle.tournament.specs.Settling.{after}
use Rattle.tournament.specs.Undecided.{PutsOutOrCollides, AllPutOutOrCollide, DisputesPutOutOrCollide, is_collision, CollisionsPutOutNobody, undecided_among, OneIsUndecided}
use Rattle.tournament.proofs.OnceLemmas.{times, times-once, TakenTimes, times-taken, touch, opens, IsOpen}
use Rattle.tournament.proofs.OpenedLemmas.{opened-not, opened-due}
use Rattle.tournament.proofs.SidesLemmas.{SameSides, sides-first, sides-second}
use Rattle.tournament.proofs.PostLemmas.{posts_settle}
use Rattle.tournament.proofs.length.CountLemmas.{IsHonest, AllHonest, IsOrdered, ordered-after, ordered-nothing}

one-less : (a b : Bool) → one_if (a && b) ≤ one_if (a && true)
one-less true true = omega arith
one-less true false = omega arith
one-less false b = omega arith

not-put : (c : Option Close) → is_some c ≡ false → put_out c ≡ false
not-put None e = refl
not-put (Some c) e = absurd (cc)

undecided-same : (p : ℕ) (d e : Bisection) → SameSides d e → is_some d.close ≡ false → one_if (is_side p e && not (put_out e.close)) ≤ one_if (is_side p d && not (put_out d.close))
undecided-same p d e k still = let none : put_out d.close ≡ false = not-put d.close still in rw (k.first, k.second, none) (one-less (is_side p d) (not (put_out e.close)))

undecided-choice : (rules : Rules) (p who : ℕ) (s : Settled) (d : Bisection) (ds : List Bisection) (x y : Bool) → asks_first who d ≡ x → asks_second who d ≡ y →
    undecided_among p (settled_in rules who s ds) ≤ undecided_among p ds →
    undecided_among p (if x then settle_first rules.ruling s d ∷ ds else if y then settle_second rules.ruling s d ∷ ds else d ∷ settled_in rules who s ds) ≤ undecided_among p (d ∷ ds)
undecided-choice rules p who s d ds true y ex ey r =
    let a : ((d.first == who) ≡ true) × IsOpen d.by_first d.close = opens (d.first == who) d.by_first d.close ex in
    omega (arith, undecided-same p d (settle_first rules.ruling s d) (sides-first rules.ruling s d) a.1.still)
undecided-choice rules p who s d ds false true ex ey r =
    let a : ((d.second == who) ≡ true) × IsOpen d.by_second d.close = opens (d.second == who) d.by_second d.close ey in
    omega (arith, undecided-same p d (settle_second rules.ruling s d) (sides-second rules.ruling s d) a.1.still)
undecided-choice rules p who s d ds false false ex ey r = omega (arith, r)

undecided-settled : (rules : Rules) (p who : ℕ) (s : Settled) (ds : List Bisection) → undecided_among p (settled_in rules who s ds) ≤ undecided_among p ds
undecided-settled rules p who s [] = omega arith
undecided-settled rules p who s (d ∷ ds) = undecided-choice rules p who s d ds (asks_first who d) (asks_second who d) refl refl (undecided-settled rules p who s ds)

undecided-both : (p : ℕ) (ds es : List Bisection) → undecided_among p (ds ++ es) ≡ undecided_among p ds + undecided_among p es
undecided-both p [] es = omega arith
undecided-both p (d ∷ ds) es = omega (arith, undecided-both p ds es)

out-decided : (a : Bool) (c : Option Close) → put_out c ≡ true → one_if (a && not (put_out c)) ≡ 0
out-decided true c e = rw e refl
out-decided false c e = refl

undecided-out : (p : ℕ) (ds : List Bisection) → all_out ds ≡ true → undecided_among p ds ≡ 0
undecided-out p [] e = refl
undecided-out p (d ∷ ds) e =
    let two : (put_out d.close ≡ true) × (all_out ds ≡ true) = and_parts (put_out d.close) (all_out ds) e in
    omega (arith, out-decided (is_side p d) d.close two.0, undecided-out p ds two.1)

-- new disputes have each prover once at most, as the live have it

new-by : (rules : Rules) (g : ℕ) (p n k : ℕ) (x : ℕ × Claim) (xs : List (ℕ × Claim)) (t : Taken) → TakenTimes p xs t →
    undecided_among p (disputes_of rules g k (pairs_of rules.ruling n xs)) ≤ times p xs →
    ((ys : List (ℕ × Claim)) → undecided_among p (disputes_of rules g (k + 1) (pairs_of rules.ruling n ys)) ≤ times p ys) →
    undecided_among p (disputes_of rules g k (elim t [ None ↦ pairs_of rules.ruling n xs | Some u ↦ (x, u.0) ∷ pairs_of rules.ruling n u.1 ])) ≤ times p (x ∷ xs)
new-by rules g p n k x xs None c none some = omega (arith, none)
new-by rules g p n k x xs (Some u) c none some = omega (arith, c, some u.1, touch (x.0 == p) (u.0.0 == p))

undecided-new : (rules : Rules) (g : ℕ) (p n k : ℕ) (xs : List (ℕ × Claim)) → undecided_among p (disputes_of rules g k (pairs_of rules.ruling n xs)) ≤ times p xs
undecided-new rules g p zero k xs = omega arith
undecided-new rules g p (suc n) k [] = omega arith
undecided-new rules g p (suc n) k (x ∷ xs) =
    new-by rules g p n k x xs (take_other rules.ruling (rules.ruling.root_of x.1) xs) (times-taken rules.ruling p (rules.ruling.root_of x.1) xs)
    (undecided-new rules g p n k xs) (λ ys. undecided-new rules g p n (k + 1) ys)

-- THE RECORD

record-opened : (rules : Rules) (p : ℕ) (t : Record) → undecided_among p t.disputes ≤ 1 → undecided_among p (stage_opened rules t).disputes ≤ 1
record-opened rules p t one =
    elim (cases_Bool (is_stage_due rules t)) [
      | inl due ↦
          let two : (all_there t.claims ≡ true) × (_ ≡ true) = and_parts (all_there t.claims) _ due in
          let outs : (all_out t.disputes ≡ true) × (_ ≡ true) = and_parts (all_out t.disputes) _ two.1 in
          let none : undecided_among p t.disputes ≡ 0 = undecided-out p t.disputes outs.0 in
          let more : undecided_among p (disputes_of rules (last_stage t.disputes + 1) (length t.disputes + 1) (pairs rules t)) ≤ times p (live t) =
          undecided-new rules (last_stage t.disputes + 1) p rules.setup.provers (length t.disputes + 1) (live t) in
          rw (opened-due rules t due) (omega (
            arith,
            undecided-both p t.disputes (disputes_of rules (last_stage t.disputes + 1) (length t.disputes + 1) (pairs rules t)),
            none,
            more,
            times-once t.disputes p 1 t.claims,
          ))
      | inr not_due ↦ rw (opened-not rules t not_due) one
    ]

record-put : (rules : Rules) (p who : ℕ) (s : Settled) (t : Record) (b : Bool) → undecided_among p t.disputes ≤ 1 →
    undecided_among p (if b then record t { claims = slice_set t.claims (who - 1) (Some s) } else record t { disputes = settled_in rules who s t.disputes }).disputes ≤ 1
record-put rules p who s t true one = one
record-put rules p who s t false one = omega (arith, one, undecided-settled rules p who s t.disputes)

record-after : (rules : Rules) (p : ℕ) (es : List (ℕ × Settled)) (t : Record) → undecided_among p t.disputes ≤ 1 → undecided_among p (after rules es t).disputes ≤ 1
unfolding settle
record-after rules p [] t one = one
record-after rules p (e ∷ es) t one =
    record-after rules p es (settle rules e.0 e.1 t) (record-opened rules p (put rules e.0 e.1 t) (record-put rules p e.0 e.1 t (claim_missing (slice_get t.claims (e.0 - 1))) one))

pub one-is-undecided : OneIsUndecided
one-is-undecided rules xs p =
    let s = posts_settle rules xs in
    subst (λ (r : Record). undecided_among p r.disputes ≤ 1) s.2 (record-after rules p s.0 (nothing_settled rules) (omega arith))

all-put-out : (ds : List Bisection) → AllHonest ds → AllPutOutOrCollide ds
all-put-out [] h = tt
all-put-out (d ∷ ds) h = (by d.close h.0, all-put-out ds h.1)
  where
    by : (c : Option Close) → IsHonest c → PutsOutOrCollides c
    by (Some (Out a b)) h = h
    by (Some (Collision s u)) h = tt
    by None h = tt

pub disputes-put-out-or-collide : DisputesPutOutOrCollide
disputes-put-out-or-collide rules xs =
    let s = posts_settle rules xs in
    let o : IsOrdered rules (after rules s.0 (nothing_settled rules)) = ordered-after rules s.0 (nothing_settled rules) (ordered-nothing rules) in
    subst (λ (r : Record). AllPutOutOrCollide r.disputes) s.2 (all-put-out (after rules s.0 (nothing_settled rules)).disputes o.counted.honest)

pub collisions-put-out-nobody : CollisionsPutOutNobody
collisions-put-out-nobody d p e = by d.close e
  where
    by : (c : Option Close) → is_collision c ≡ true → is_out_by d c p ≡ false
    by (Some (Out a b)) e = absurd (cc)
    by (Some (Collision s u)) e = refl
    by None e = absurd (cc)
