-- Nobody is put out twice: who is out by a claim or by a dispute is in no further dispute.
use Rattle.std.proofs.Common.{◌≡◌, ◌≢◌, ℕ, zero, suc, ◌+◌, ◌-◌, ◌<◌, ◌≤◌, Bool, true, false, not, ◌&&◌, ◌||◌, ◌==◌, if◌then◌else◌, List, [], ◌∷◌, ◌++◌, length, slice_get, slice_set, inl, inr, Option, Some, None, is_some, refl, ap, arith}
use Rattle.std.proofs.lemmas.Bool.{and_parts, cases_Bool}
use Rattle.rd_base.specs.declared.claim.Claim.{Claim}
use Rattle.bisect_game.specs.declared.settled.Settled.{Settled}
use Rattle.bisect_game.specs.declared.settled.Settled.TheVariants.{Given, Faulty, Spent}
use Rattle.bisect_game.specs.declared.settled.Close.{Close}
use Rattle.bisect_game.specs.declared.settled.Close.TheVariants as close
use Rattle.bisect_game.specs.Bisection.{Bisection, settle_first, settle_second}
use Rattle.bisect_game.specs.Rules.{Rules}
use Rattle.tournament.specs.Bracket.{Record, claim_in, is_out_by, is_out_in, also, live_from, live, pairs, last_stage, disputes_of, all_there, all_out, is_stage_due, stage_opened, nothing_settled, asks_first, asks_second, claim_missing, settled_in, put, settle}
use Rattle.tournament.specs.OpenDisputes.{one_if, is_side, open_disputes_of}
use Rattle.tournament.specs.Outs.{outs_in, NobodyIsOutTwice}
use Rattle.tournament.specs.Posting.{record_after}
use Rattle.tournament.specs.Settling.{after}
use Rattle.tournament.specs.Theorem.{is_out_by_claim}
use Rattle.tournament.proofs.OpenedLemmas.{opened-not, opened-due}
use Rattle.tournament.proofs.OnceLemmas.{times, times-below, times-live, is-eqb, opens, IsOpen, engaged-new, engaged-both, engaged-out}
use Rattle.tournament.proofs.PostLemmas.{IsSettled, settled-begun}
use Rattle.tournament.proofs.SidesLemmas.{SameSides, sides-first, sides-second}

-- A DISPUTE that moves

keep : (b : Bool) → one_if (b && true) ≡ one_if b
keep true = refl
keep false = refl

leave : (b : Bool) → one_if (b && false) ≡ 0
leave true = refl
leave false = refl

out-side : (a b u v : Bool) → one_if ((a && u) || (b && v)) ≤ one_if (u || v)
out-side true true u v = omega arith
out-side true false true v = omega arith
out-side true false false v = omega arith
out-side false true true true = omega arith
out-side false true true false = omega arith
out-side false true false v = omega arith
out-side false false u v = omega arith

-- whatever becomes of an open dispute, a side is out by it or in it no more often than before
moved-by : (p : ℕ) (d e : Bisection) (c o : Option Close) → SameSides d e → is_some c ≡ false →
    one_if (is_out_by e o p) + one_if (is_side p e && not (is_some o)) ≤ one_if (is_out_by d c p) + one_if (is_side p d && not (is_some c))
moved-by p d e (Some c) o k still = absurd (cc)
moved-by p d e None None k still = rw (k.first, k.second) (omega arith)
moved-by p d e None (Some (close.Out a b)) k still =
    rw (k.first, k.second) (omega (arith, out-side a b (d.first == p) (d.second == p), keep (is_side p d), leave (is_side p d)))
moved-by p d e None (Some (close.Collision s t)) k still = rw (k.first, k.second) (omega (arith, leave (is_side p d)))

-- how often a prover is out by disputes, or in an open one
abbrev weight : ℕ → List Bisection → ℕ
weight p ds = outs_in p ds + open_disputes_of p ds

weight-choice : (rules : Rules) (p who : ℕ) (s : Settled) (d : Bisection) (ds : List Bisection) (x y : Bool) → asks_first who d ≡ x → asks_second who d ≡ y →
    weight p (settled_in rules who s ds) ≤ weight p ds →
    weight p (if x then settle_first rules.ruling s d ∷ ds else if y then settle_second rules.ruling s d ∷ ds else d ∷ settled_in rules who s ds) ≤ weight p (d ∷ ds)
weight-choice rules p who s d ds true y ex ey r =
    let a : ((d.first == who) ≡ true) × IsOpen d.by_first d.close = opens (d.first == who) d.by_first d.close ex in
    let e : Bisection = settle_first rules.ruling s d in
    omega (arith, moved-by p d e d.close e.close (sides-first rules.ruling s d) a.1.still)
weight-choice rules p who s d ds false true ex ey r =
    let a : ((d.second == who) ≡ true) × IsOpen d.by_second d.close = opens (d.second == who) d.by_second d.close ey in
    let e : Bisection = settle_second rules.ruling s d in
    omega (arith, moved-by p d e d.close e.close (sides-second rules.ruling s d) a.1.still)
weight-choice rules p who s d ds false false ex ey r = omega (arith, r)

weight-settled : (rules : Rules) (p who : ℕ) (s : Settled) (ds : List Bisection) → weight p (settled_in rules who s ds) ≤ weight p ds
weight-settled rules p who s [] = omega arith
weight-settled rules p who s (d ∷ ds) = weight-choice rules p who s d ds (asks_first who d) (asks_second who d) refl refl (weight-settled rules p who s ds)

outs-both : (p : ℕ) (ds es : List Bisection) → outs_in p (ds ++ es) ≡ outs_in p ds + outs_in p es
outs-both p [] es = omega arith
outs-both p (d ∷ ds) es = omega (arith, outs-both p ds es)

-- new disputes put nobody out
outs-new : (rules : Rules) (p g k : ℕ) (ps : List ((ℕ × Claim) × (ℕ × Claim))) → outs_in p (disputes_of rules g k ps) ≡ 0
outs-new rules p g k [] = refl
outs-new rules p g k (x ∷ ps) = omega (arith, outs-new rules p g (k + 1) ps)

-- WHO IS OUT isn't live

outs-some : (p : ℕ) (ds : List Bisection) → is_out_in ds p ≡ false → outs_in p ds ≡ 0
outs-some p [] e = refl
outs-some p (d ∷ ds) e = by (is_out_by d d.close p) e (outs-some p ds)
  where
    by : (b : Bool) → (b || is_out_in ds p) ≡ false → (is_out_in ds p ≡ false → outs_in p ds ≡ 0) → one_if b + outs_in p ds ≡ 0
    by true f r = absurd (cc)
    by false f r = omega (arith, r f)

out-not-live : (ds : List Bisection) (p k : ℕ) (ss : List (Option Settled)) → is_out_in ds p ≡ true → times p (live_from ds k ss) ≡ 0
out-not-live ds p k [] e = refl
out-not-live ds p k (s ∷ ss) e =
    let rest : times p (live_from ds (k + 1) ss) ≡ 0 = out-not-live ds p (k + 1) ss e in
    elim (cases_Bool (k == p)) [
      | inl same ↦ (let here : is_out_in ds k ≡ true = rw (is-eqb k p same) e in rw here rest)
      | inr other ↦
          let none : one_if (k == p) ≡ 0 = ap one_if other in
          omega (arith, none, rest, times-live p k (claim_in s) (live_from ds (k + 1) ss) (is_out_in ds k))
    ]

abbrev count_of : Option Claim → ℕ
count_of None = 0
count_of (Some c) = 1

few-count : (c : Option Claim) → count_of c ≤ 1
few-count None = omega arith
few-count (Some c) = omega arith

-- a claim that counts isn't out
given-or-out : (s : Option Settled) → count_of (claim_in s) + one_if (is_out_by_claim (Some s)) ≤ 1
given-or-out None = omega arith
given-or-out (Some Spent) = omega arith
given-or-out (Some (Faulty a)) = omega arith
given-or-out (Some (Given a)) = omega (arith, few-count (claim_in (Some (Given a))))

one-more : (b : Bool) → one_if b ≤ 1
one-more true = omega arith
one-more false = omega arith

times-also : (p k : ℕ) (c : Option Claim) (xs : List (ℕ × Claim)) (out : Bool) → times p (if out then xs else also k c xs) ≤ count_of c + times p xs
times-also p k None xs true = omega arith
times-also p k (Some c) xs true = omega arith
times-also p k None xs false = omega arith
times-also p k (Some c) xs false = omega (arith, one-more (k == p))

not-same : (m n : ℕ) → m ≢ n → one_if (m == n) ≡ 0
not-same m n ne = elim (cases_Bool (m == n)) [
  | inl same ↦ absurd (ne (is-eqb m n same))
  | inr other ↦ ap one_if other
]

live-or-out : (ds : List Bisection) (p k j : ℕ) (ss : List (Option Settled)) → k + j ≡ p → times p (live_from ds k ss) + one_if (is_out_by_claim (slice_get ss j)) ≤ 1
live-or-out ds p k j [] e = omega arith
live-or-out ds p k zero (s ∷ ss) e =
    omega (arith, times-also p k (claim_in s) (live_from ds (k + 1) ss) (is_out_in ds k), times-below ds p (k + 1) ss (omega (arith, e)), given-or-out s)
live-or-out ds p k (suc j) (s ∷ ss) e =
    omega (arith, times-live p k (claim_in s) (live_from ds (k + 1) ss) (is_out_in ds k), not-same k p (λ f. omega (arith, e, f)), live-or-out ds p (k + 1) j ss (omega (arith, e)))

-- EVERY RECORD OF A MATCH

record IsOnce (p : ℕ) (t : Record) : Type 0 where
  waits : all_there t.claims ≡ false → t.disputes ≡ []
  once : one_if (is_out_by_claim (slice_get t.claims (p - 1))) + weight p t.disputes ≤ 1

opposite : (b : Bool) → b ≡ true → b ≡ false → ⊥
opposite true e f = absurd (cc)
opposite false e f = absurd (cc)

once-opened : (rules : Rules) (p : ℕ) (t : Record) → 0 < p → IsOnce p t → IsOnce p (stage_opened rules t)
once-opened rules p t some i =
    elim (cases_Bool (is_stage_due rules t)) [
      | inl due ↦
          let two : (all_there t.claims ≡ true) × (_ ≡ true) = and_parts (all_there t.claims) _ due in
          let outs : (all_out t.disputes ≡ true) × (_ ≡ true) = and_parts (all_out t.disputes) _ two.1 in
          let fresh : List Bisection = disputes_of rules (last_stage t.disputes + 1) (length t.disputes + 1) (pairs rules t) in
          let none : open_disputes_of p t.disputes ≡ 0 = engaged-out p t.disputes outs.0 in
          let opened : open_disputes_of p (t.disputes ++ fresh) ≡ open_disputes_of p t.disputes + open_disputes_of p fresh = engaged-both p t.disputes fresh in
          let new : open_disputes_of p fresh ≤ times p (live t) = engaged-new rules (last_stage t.disputes + 1) p rules.setup.provers (length t.disputes + 1) (live t) in
          let out : outs_in p (t.disputes ++ fresh) ≡ outs_in p t.disputes + outs_in p fresh = outs-both p t.disputes fresh in
          let still : outs_in p fresh ≡ 0 = outs-new rules p (last_stage t.disputes + 1) (length t.disputes + 1) (pairs rules t) in
          let was : one_if (is_out_by_claim (slice_get t.claims (p - 1))) + weight p t.disputes ≤ 1 = i.once in
          let now : one_if (is_out_by_claim (slice_get t.claims (p - 1))) + (times p (live t) + outs_in p t.disputes) ≤ 1 = elim (cases_Bool (is_out_in t.disputes p)) [
            | inl e ↦ omega (arith, was, out-not-live t.disputes p 1 t.claims e)
            | inr e ↦ omega (arith, outs-some p t.disputes e, live-or-out t.disputes p 1 (p - 1) t.claims (omega (arith, some)))
          ] in
          rw (opened-due rules t due) (record {
            waits = λ f. absurd (opposite (all_there t.claims) two.0 f);
            once = omega (arith, now, none, opened, new, out, still);
          })
      | inr not_due ↦ rw (opened-not rules t not_due) i
    ]

missing-waits : (ss : List (Option Settled)) (k : ℕ) → claim_missing (slice_get ss k) ≡ true → all_there ss ≡ false
missing-waits [] k e = absurd (cc)
missing-waits (None ∷ ss) zero e = refl
missing-waits (Some s ∷ ss) zero e = absurd (cc)
missing-waits (None ∷ ss) (suc k) e = refl
missing-waits (Some s ∷ ss) (suc k) e = missing-waits ss k e

once-put : (rules : Rules) (p who : ℕ) (s : Settled) (t : Record) (b : Bool) → claim_missing (slice_get t.claims (who - 1)) ≡ b → IsOnce p t →
    IsOnce p (if b then record t { claims = slice_set t.claims (who - 1) (Some s) } else record t { disputes = settled_in rules who s t.disputes })
once-put rules p who s t true e i =
    let none : t.disputes ≡ [] = i.waits (missing-waits t.claims (who - 1) e) in
    record {
      waits = λ f. none;
      once = rw none (omega (arith, one-more (is_out_by_claim (slice_get (slice_set t.claims (who - 1) (Some s)) (p - 1)))));
    }
once-put rules p who s t false e i =
    let was : one_if (is_out_by_claim (slice_get t.claims (p - 1))) + weight p t.disputes ≤ 1 = i.once in
    record {
      waits = λ f. ap (settled_in rules who s) (i.waits f);
      once = omega (arith, was, weight-settled rules p who s t.disputes);
    }

once-settle : (rules : Rules) (p who : ℕ) (s : Settled) (t : Record) → 0 < p → IsOnce p t → IsOnce p (settle rules who s t)
unfolding settle
once-settle rules p who s t some i =
    once-opened rules p (put rules who s t) some (once-put rules p who s t (claim_missing (slice_get t.claims (who - 1))) refl i)

once-after : (rules : Rules) (p : ℕ) (es : List (ℕ × Settled)) (t : Record) → 0 < p → IsOnce p t → IsOnce p (after rules es t)
once-after rules p [] t some i = i
once-after rules p (e ∷ es) t some i = once-after rules p es (settle rules e.0 e.1 t) some (once-settle rules p e.0 e.1 t some i)

once-begun : (rules : Rules) (p : ℕ) → IsOnce p (nothing_settled rules)
once-begun rules p = record {
  waits = λ f. refl;
  once = omega (arith, one-more (is_out_by_claim (slice_get (nothing_settled rules).claims (p - 1))));
}

pub nobody-is-out-twice : NobodyIsOutTwice
nobody-is-out-twice rules xs p some =
    let i : IsSettled rules (record_after rules xs) = settled-begun rules xs in
    let k : IsOnce p (record_after rules xs) = rw i.comes at (once-after rules p i.list (nothing_settled rules) some (once-begun rules p)) in
    let once : one_if (is_out_by_claim (slice_get (record_after rules xs).claims (p - 1))) + weight p (record_after rules xs).disputes ≤ 1 = k.once in
    omega (arith, once)
