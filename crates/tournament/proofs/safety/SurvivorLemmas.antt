-- All live provers of an accepted match have one claim.
use Rattle.std.proofs.Common.{◌≡◌, ℕ, ◌-◌, ◌<◌, true, List, [], ◌∷◌, slice_get, inl, inr, Option, Some, None, refl, sym, ap, arith, subst, Contains}
use Rattle.std.proofs.lemmas.Bool.{and_parts, cases_Bool}
use Rattle.rd_base.specs.declared.claim.Claim.{Claim}
use Rattle.std.specs.Option.{option_or}
use Rattle.bisect_game.specs.Rules.{Rules}
use Rattle.bisect_game.specs.Ruling.{IsFair}
use Rattle.tournament.specs.declared.reading.Verdict.TheVariants.{Accept}
use Rattle.tournament.specs.Bracket.{Record, live_from, live, collision_with, claims_collision, pairs_of, all_there, all_out, all_closed, is_stage_due, stage_opened, nothing_settled, disputes_collision, lowest, or_lowest}
use Rattle.tournament.specs.Posting.{Post, record_after}
use Rattle.tournament.specs.Theorem.{lives}
use Rattle.tournament.specs.Survivors.{SurvivorsAgree}
use Rattle.tournament.proofs.PostLemmas.{posts_settle}
use Rattle.tournament.proofs.safety.MatchLemmas.{HasClaim, AllClaim, live-right}
use Rattle.tournament.proofs.safety.ClaimLemmas.{FitClaims, fit-claims, fit-at, first-none}
use Rattle.tournament.proofs.safety.LiveLemmas.{IsIn}
use Rattle.tournament.proofs.safety.ListedLemmas.{contains-in, the-live-are-listed}
use Rattle.tournament.proofs.safety.VerdictLemmas.{meets-none, collide-sub, other-none, no-pairs, all-out-by, no-pair-left, rests-after, rests-nothing}
use Rattle.bisect_game.specs.Laws.{BisectionLaws}

-- ACCEPTED: there is no collision, and the lowest live prover is meant

record IsAccepted (rules : Rules) (r : Record) (n : ℕ) : Type 0 where
  apart : claims_collision rules.ruling (live_from [] 1 r.claims) ≡ None
  clean : disputes_collision r.disputes ≡ None
  lowest_ : lowest (live r) ≡ Accept n

accepted-by : (rules : Rules) (r : Record) (n : ℕ) (a b : Option (List ℕ × List ℕ)) → claims_collision rules.ruling (live_from [] 1 r.claims) ≡ a → disputes_collision r.disputes ≡ b →
    or_lowest (option_or a b) (live r) ≡ Accept n → IsAccepted rules r n
accepted-by rules r n (Some pair) b ea eb e = absurd (cc)
accepted-by rules r n None (Some pair) ea eb e = absurd (cc)
accepted-by rules r n None None ea eb e = record { apart = ea; clean = eb; lowest_ = e }

-- the first of the live ones, and all others have its claim
record Agree (xs : List (ℕ × Claim)) (n : ℕ) : Type 0 where
  claim : Claim
  first : Contains xs (n, claim)
  all : (p : ℕ) (c : Claim) → IsIn p c xs → c ≡ claim

module _ (laws : BisectionLaws) where
  agree : (rules : Rules) (r : Record) (n : ℕ) (xs : List (ℕ × Claim)) → IsFair rules.ruling → 0 < rules.setup.provers → FitClaims rules.ruling r.claims → AllClaim r.claims xs → lowest xs ≡ Accept n →
      claims_collision rules.ruling xs ≡ None → pairs_of rules.ruling rules.setup.provers xs ≡ [] → Agree xs n
  agree rules r n [] fair some fit h e none over = absurd (cc)
  agree rules r n (x ∷ xs) fair some fit h e none over =
      let who : x.0 ≡ n = cc in
      record {
        claim = x.1;
        first = (0, omega arith, ap (λ (k : ℕ). let y : ℕ × Claim = (k, x.1) in y) who);
        all = λ p c i. elim i [
          | inl same ↦ sym (ap (λ (z : ℕ × Claim). z.1) same)
          | inr further ↦
              let given : HasClaim r.claims (p, c) = has-claim p c xs h.1 further in
              sym (fair.claims_collide x.1 c (fit-at rules.ruling r.claims (x.0 - 1) x.1 fit h.0.is) (fit-at rules.ruling r.claims (p - 1) c fit given.is)
              (sym ((other-none laws) rules.ruling (rules.ruling.root_of x.1) p c xs ((no-pairs laws) rules.ruling rules.setup.provers x xs some over) further))
              ((meets-none laws) rules.ruling x.1 p c xs (first-none (collision_with rules.ruling x.1 xs) (claims_collision rules.ruling xs) none).0 further))
        ];
      }
    where
      has-claim : (p : ℕ) (c : Claim) (ys : List (ℕ × Claim)) → AllClaim r.claims ys → IsIn p c ys → HasClaim r.claims (p, c)
      has-claim p c [] hs i = absurd i
      has-claim p c (y ∷ ys) hs (inl same) = subst (HasClaim r.claims) same hs.0
      has-claim p c (y ∷ ys) hs (inr i) = has-claim p c ys hs.1 i

  fit-posts : (rules : Rules) (xs : List Post) → FitClaims rules.ruling (record_after rules xs).claims
  fit-posts rules xs = let s = posts_settle rules xs in subst (λ (r : Record). FitClaims rules.ruling r.claims) s.2 (fit-claims rules s.0 s.1)

  rests : (rules : Rules) (xs : List Post) → 0 < rules.setup.provers → stage_opened rules (record_after rules xs) ≡ record_after rules xs
  rests rules xs some =
      let s = posts_settle rules xs in
      subst (λ (r : Record). stage_opened rules r ≡ r) s.2 ((rests-after laws) rules s.0 (nothing_settled rules) ((rests-nothing laws) rules some))

  pub survivors-agree : SurvivorsAgree
  survivors-agree rules xs n playable fair over accepted =
      let r : Record = record_after rules xs in
      let a : IsAccepted rules r n = accepted-by rules r n _ _ refl refl accepted in
      let two : (all_there r.claims ≡ true) × (all_closed r.disputes ≡ true) = and_parts (all_there r.claims) (all_closed r.disputes) over in
      let outs : all_out r.disputes ≡ true = (all-out-by laws) r.disputes two.1 a.clean in
      let due : is_stage_due rules r ≡ true = rw (two.0, outs, a.apart) refl in
      let g : Agree (live r) n = agree rules r n (live r) fair playable.some (fit-posts rules xs) ((live-right laws) r.claims r.disputes 0 r.claims (λ i. ap (slice_get r.claims) (omega arith))) a.lowest_
      ((collide-sub laws) rules.ruling r.disputes 1 r.claims a.apart) ((no-pair-left laws) rules r due (rests rules xs playable.some)) in
      record {
        claim = g.claim;
        accepted = g.first;
        all = λ p c there. g.all p c (contains-in p c (live r) there);
        out = λ p c some given other. elim (cases_Bool (lives r p)) [
          | inl still ↦ absurd (other (g.all p c (contains-in p c (live r) ((the-live-are-listed r p c some).1 (still, given)))))
          | inr gone ↦ gone
        ];
      }
