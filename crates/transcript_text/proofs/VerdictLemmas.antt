-- An accepted claim is one that was given.
use Rattle.std.proofs.Common.{◌≡◌, ℕ, zero, suc, ◌+◌, Bool, true, false, List, [], ◌∷◌, slice_get, Option, Some, None, if◌then◌else◌, refl, sym, ◌∙◌, ap, arith}
use Rattle.rd_base.specs.declared.claim.Claim.{Claim}
use Rattle.bisect_game.specs.declared.settled.Settled.{Settled}
use Rattle.bisect_game.specs.Rules.{Rules}
use Rattle.bisect_game.specs.Bisection.{Bisection}
use Rattle.tournament.specs.Bracket.{Record, claim_in, is_out_in, also, live_from, live, claims_collision, disputes_collision, lowest, or_lowest, verdict_of}
use Rattle.std.specs.Option.{option_or}
use Rattle.transcript_text.specs.declared.text.Stated.{Stated}
use Rattle.transcript_text.specs.declared.text.Stated.TheVariants.{Accept, NoneLeft, Collision}
use Rattle.transcript_text.specs.StatedVerdict.{settled_at, given_claim, stated_claim, stated_of, VerdictsAreStated}

-- the first of live provers is the one of this number whose claim stands at this place
record IsFirstLive (p : ℕ) (claims : List (Option Settled)) (x : ℕ × Claim) : Type 0 where
  place : ℕ
  number : x.0 ≡ p + place
  given : given_claim (slice_get claims place) ≡ Some x.1

first-of-two : {A : Type 0} (x y : A) (xs ys : List A) → x ∷ xs ≡ y ∷ ys → x ≡ y
first-of-two x y xs ys e = cc

first-later : (p : ℕ) (s : Option Settled) (ss : List (Option Settled)) (x : ℕ × Claim) → IsFirstLive (p + 1) ss x → IsFirstLive p (s ∷ ss) x
first-later p s ss x i = record { place = suc i.place; number = (let n : x.0 ≡ (p + 1) + i.place = i.number in omega (arith, n)); given = i.given }

first-live : (ds : List Bisection) (p : ℕ) (claims : List (Option Settled)) (x : ℕ × Claim) (xs : List (ℕ × Claim)) → live_from ds p claims ≡ x ∷ xs → IsFirstLive p claims x
first-live ds p [] x xs e = absurd (cc)
first-live ds p (s ∷ ss) x xs e = by (is_out_in ds p) (claim_in s) refl e (first-live ds (p + 1) ss x xs)
  where
    by : (out : Bool) (c : Option Claim) → claim_in s ≡ c → (if out then live_from ds (p + 1) ss else also p c (live_from ds (p + 1) ss)) ≡ x ∷ xs →
        (live_from ds (p + 1) ss ≡ x ∷ xs → IsFirstLive (p + 1) ss x) → IsFirstLive p (s ∷ ss) x
    by true c is h further = first-later p s ss x (further h)
    by false None is h further = first-later p s ss x (further h)
    by false (Some c) is h further =
        let same : (p, c) ≡ x = first-of-two (p, c) x (live_from ds (p + 1) ss) xs h in
        record { place = zero; number = sym (ap (λ (y : ℕ × Claim). y.0) same) ∙ omega arith; given = is ∙ ap (λ (y : ℕ × Claim). Some y.1) same }

accepted-is-stated : (claims : List (Option Settled)) (x : ℕ × Claim) → IsFirstLive 1 claims x → stated_claim (given_claim (settled_at claims x.0)) ≡ stated_claim (Some x.1)
accepted-is-stated claims x i =
    let n : x.0 ≡ suc i.place = (let m : x.0 ≡ 1 + i.place = i.number in omega (arith, m)) in
    ap (λ (p : ℕ). stated_claim (given_claim (settled_at claims p))) n ∙ ap stated_claim i.given

lowest-is-stated : (t : Record) (xs : List (ℕ × Claim)) → live t ≡ xs → (s : Stated) × (stated_of t.claims (lowest xs) ≡ Some s)
lowest-is-stated t [] e = (NoneLeft, refl)
lowest-is-stated t (x ∷ xs) e = (Accept (x.1).ctl.status (x.1).output, accepted-is-stated t.claims x (first-live t.disputes 1 t.claims x xs e))

pub verdicts-are-stated : VerdictsAreStated
verdicts-are-stated rules t = by (option_or (claims_collision rules.ruling (live_from [] 1 t.claims)) (disputes_collision t.disputes))
  where
    by : (o : Option (List ℕ × List ℕ)) → (s : Stated) × (stated_of t.claims (or_lowest o (live t)) ≡ Some s)
    by (Some pair) = (Collision pair.0 pair.1, refl)
    by None = lowest-is-stated t (live t) refl
