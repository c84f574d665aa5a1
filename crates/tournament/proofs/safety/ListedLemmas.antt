-- Who lives and whose claim was given is listed with it among the live, and nobody else is.
use Rattle.std.proofs.Common.{◌≡◌, ℕ, zero, suc, ◌+◌, ◌-◌, Bool, true, false, not, if◌then◌else◌, List, [], ◌∷◌, inl, inr, slice_get, Option, Some, None, refl, ◌∙◌, ap, subst, arith, Contains}
use Rattle.std.proofs.lemmas.Bool.{and_parts}
use Rattle.rd_base.specs.declared.claim.Claim.{Claim}
use Rattle.rd_base.specs.declared.answer.Answer.TheVariants as answer
use Rattle.bisect_game.specs.declared.settled.Settled.{Settled}
use Rattle.bisect_game.specs.declared.settled.Settled.TheVariants.{Given, Faulty, Spent}
use Rattle.bisect_game.specs.Bisection.{Bisection}
use Rattle.tournament.specs.Bracket.{claim_in, is_out_in, also, live_from, live}
use Rattle.tournament.specs.Outs.{TheLiveAreListed}
use Rattle.tournament.specs.Theorem.{is_out_by_claim}
use Rattle.tournament.proofs.safety.LiveLemmas.{IsIn, live-in, in-contains}

-- a claim that counts was given
pub claim-given : (s : Option Settled) (c : Claim) → claim_in s ≡ Some c → s ≡ Some (Given (answer.Claim c))
claim-given None c e = absurd (cc)
claim-given (Some Spent) c e = absurd (cc)
claim-given (Some (Faulty a)) c e = absurd (cc)
claim-given (Some (Given (answer.Claim d))) c e = (let same : d ≡ c = cc in ap (λ x. Some (Given (answer.Claim x))) same)
claim-given (Some (Given (answer.Root x))) c e = absurd (cc)
claim-given (Some (Given (answer.Roots xs))) c e = absurd (cc)
claim-given (Some (Given (answer.Step x))) c e = absurd (cc)

-- where a prover is listed from some number on
record IsFrom (ds : List Bisection) (ss : List (Option Settled)) (q p : ℕ) (c : Claim) : Type 0 where
  place : ℕ
  at : q + place ≡ p
  given : slice_get ss place ≡ Some (Some (Given (answer.Claim c)))
  stays : is_out_in ds p ≡ false

next : (ds : List Bisection) (s : Option Settled) (ss : List (Option Settled)) (q p : ℕ) (c : Claim) → IsFrom ds ss (q + 1) p c → IsFrom ds (s ∷ ss) q p c
next ds s ss q p c i = (let at : q + 1 + i.place ≡ p = i.at in record { place = suc i.place; at = omega (arith, at); given = i.given; stays = i.stays })

listed-from : (ds : List Bisection) (ss : List (Option Settled)) (q p : ℕ) (c : Claim) → IsIn p c (live_from ds q ss) → IsFrom ds ss q p c
listed-from ds [] q p c i = absurd i
listed-from ds (s ∷ ss) q p c i = by (is_out_in ds q) (claim_in s) refl refl (λ j. next ds s ss q p c (listed-from ds ss (q + 1) p c j)) i
  where
    by : (out : Bool) (o : Option Claim) → is_out_in ds q ≡ out → claim_in s ≡ o → (IsIn p c (live_from ds (q + 1) ss) → IsFrom ds (s ∷ ss) q p c) →
        IsIn p c (if out then live_from ds (q + 1) ss else also q o (live_from ds (q + 1) ss)) → IsFrom ds (s ∷ ss) q p c
    by true o e f further j = further j
    by false None e f further j = further j
    by false (Some d) e f further (inl same) =
        let who : q ≡ p = ap (λ (x : ℕ × Claim). x.0) same in
        let what : d ≡ c = ap (λ (x : ℕ × Claim). x.1) same in
        record {
          place = 0;
          at = omega (arith, who);
          given = ap Some (claim-given s d f) ∙ ap (λ x. Some (Some (Given (answer.Claim x)))) what;
          stays = subst (λ n. is_out_in ds n ≡ false) who e;
        }
    by false (Some d) e f further (inr j) = further j

pub contains-in : (p : ℕ) (c : Claim) (xs : List (ℕ × Claim)) → Contains xs (p, c) → IsIn p c xs
contains-in p c [] (k, below, is) = absurd (omega (arith, below))
contains-in p c (x ∷ xs) (zero, below, is) = inl is
contains-in p c (x ∷ xs) (suc k, below, is) = inr (contains-in p c xs (k, omega (arith, below), is))

not-true : (b : Bool) → not b ≡ true → b ≡ false
not-true true e = absurd (cc)
not-true false e = refl

pub the-live-are-listed : TheLiveAreListed
the-live-are-listed r p c some =
    let at : 1 + (p - 1) ≡ p = omega (arith, some) in (
      λ contains.
          let i : IsFrom r.disputes r.claims 1 p c = listed-from r.disputes r.claims 1 p c (contains-in p c (live r) contains) in
          let place : 1 + i.place ≡ p = i.at in
          let is : i.place ≡ p - 1 = omega (arith, place) in
          let given : slice_get r.claims (p - 1) ≡ Some (Some (Given (answer.Claim c))) = subst (λ k. slice_get r.claims k ≡ Some (Some (Given (answer.Claim c)))) is i.given in
          (rw (given, i.stays) refl, given),
      λ two.
          let stays : is_out_in r.disputes p ≡ false = not-true _ (and_parts (not (is_out_by_claim (slice_get r.claims (p - 1)))) (not (is_out_in r.disputes p)) two.0).1 in
          in-contains p c (live r) (rw at at (live-in r.disputes 1 (p - 1) c r.claims two.1 (rw at stays))),
    )
