-- The verdict is right.
use Rattle.std.proofs.Common.{◌≡◌, ℕ, zero, suc, ◌+◌, ◌-◌, ◌<◌, Bool, true, false, not, ◌&&◌, ◌||◌, ◌==◌, if◌then◌else◌, List, [], ◌∷◌, ◌++◌, length, slice_get, slice_set, ◌⊎◌, inl, inr, Option, Some, None, is_some, is_none, refl, sym, ◌∙◌, ap, arith, length-append}
use Rattle.std.proofs.lemmas.Bool.{and_parts, cases_Bool}
use Rattle.rd_base.specs.declared.digest.Digest32.{Digest32}
use Rattle.rd_base.specs.declared.claim.Claim.{Claim}
use Rattle.rd_base.specs.declared.proof.Proof.{Proof}
use Rattle.rd_base.specs.declared.answer.Answer.{Answer}
use Rattle.rd_base.specs.declared.answer.Answer.TheVariants as answer
use Rattle.bisect_game.specs.declared.settled.Settled.{Settled}
use Rattle.bisect_game.specs.declared.settled.Settled.TheVariants.{Given}
use Rattle.bisect_game.specs.declared.settled.Close.{Close}
use Rattle.bisect_game.specs.declared.settled.Close.TheVariants.{Out, Collision}
use Rattle.tournament.specs.declared.reading.Verdict.TheVariants.{Collision}
use Rattle.bisect_game.specs.Bisection.{Bisection, is_closed, settle_first, settle_second, closed_or, went_on, decided, advanced}
use Rattle.bisect_game.specs.Closing.{both_proved, closed_by, close_of, is_out, is_proved, is_root, is_step}
use Rattle.bisect_game.specs.Rules.{Rules, ArePlayable}
use Rattle.bisect_game.specs.Ruling.{Ruling, IsFair, IsCollision, same_digest}
use Rattle.bisect_game.specs.Truth.{Truth, IsRun}
use Rattle.tournament.proofs.safety.ClaimLemmas.{FitClaims, fit-at, first-none}
use Rattle.tournament.proofs.safety.LiveLemmas.{IsIn, live-in}
use Rattle.tournament.proofs.safety.MatchLemmas.{HasClaim, AllClaim, live-right, settled_stay, claim-there, IsKept, kept-start}
use Rattle.tournament.proofs.OpenedLemmas.{opened-not, opened-due, opened-twice}
use Rattle.tournament.proofs.ReachLemmas.{same-is}
use Rattle.tournament.proofs.StageLemmas.{IsPlayed, played-nothing}
use Rattle.tournament.specs.Bracket.{Record, is_out_in, claim_in, also, live_from, live, collision_with, claims_collision, Taken, passed_over, take_other, pairs_of, pairs, last_stage, disputes_of, all_there, all_out, put_out, all_closed, is_stage_due, stage_opened, nothing_settled, asks_first, asks_second, claim_missing, settled_in, put, settle, is_complete, collided, disputes_collision, lowest, or_lowest, verdict_of}
use Rattle.std.specs.Option.{option_or}
use Rattle.tournament.specs.Settling.{after}
use Rattle.tournament.specs.Fitting.{AllFit}
use Rattle.tournament.specs.Theorem.{HasTrueClaim, AreTrue, Stays, IsInClaims, IsInDisputes, IsCollisionIn, IsRightVerdict}
use Rattle.bisect_game.specs.Laws.{BisectionLaws}

record MetBy (r : Ruling) (d : Bisection) (pair : List ℕ × List ℕ) : Type 0 where
  one : Proof
  other : Proof
  by_one : d.by_first ≡ Some (Given (answer.Step one))
  by_other : d.by_second ≡ Some (Given (answer.Step other))
  one_leads : is_proved r d.place.agreed d.place.first (answer.Step one) ≡ true
  other_leads : is_proved r d.place.agreed d.place.second (answer.Step other) ≡ true
  collision_with : IsCollision r (r.opened_by_step one) (r.opened_by_step other) pair

abbrev IsMet : Ruling → Bisection → Option Close → Type 0
IsMet r d (Some (Collision s u)) = MetBy r d (s, u)
IsMet r d (Some (Out a b)) = Unit {0}
IsMet r d None = Unit {0}

abbrev AllMet : Ruling → List Bisection → Type 0
AllMet r [] = Unit {0}
AllMet r (d ∷ ds) = IsMet r d d.close × AllMet r ds

module _ (laws : BisectionLaws) where
  -- a collision of a dispute is that of its proofs

  led : (step proved : Bool) → (step && not proved) ≡ false → step ≡ true → proved ≡ true
  led true true e s = refl
  led true false e s = absurd (cc)
  led false proved e s = absurd (cc)

  root-led : (own : Digest32) (o : Option Digest32) → is_root own o ≡ true → (b : Digest32) × (o ≡ Some b)
  root-led own (Some b) e = (b, refl)
  root-led own None e = absurd (cc)

  met-out : (r : Ruling) (d : Bisection) (one other : Proof) (b c : Digest32) (o : Option (List ℕ × List ℕ)) → IsFair r → r.leads d.place.agreed one ≡ Some b → r.leads d.place.agreed other ≡ Some c → r.step_collision d.place.agreed one other ≡ o →
      is_root d.place.first (r.leads d.place.agreed one) ≡ true → is_root d.place.second (r.leads d.place.agreed other) ≡ true →
      d.by_first ≡ Some (Given (answer.Step one)) → d.by_second ≡ Some (Given (answer.Step other)) → IsMet r d (Some (closed_by o))
  met-out r d one other b c (Some pair) fair lb lc e pa pb ea eb = record {
    one = one;
    other = other;
    by_one = ea;
    by_other = eb;
    one_leads = pa;
    other_leads = pb;
    collision_with = fair.step_collisions d.place.agreed one other b c pair lb lc e;
  }
  met-out r d one other b c None fair lb lc e pa pb ea eb = tt

  -- nobody is out in a proof round, so both proofs lead
  met-meeting : (r : Ruling) (d : Bisection) (a b : Settled) → IsFair r → d.by_first ≡ Some a → d.by_second ≡ Some b → is_out r d.place d.place.first a ≡ false → is_out r d.place d.place.second b ≡ false → is_step d.place ≡ true →
      IsMet r d (Some (both_proved r d.place.agreed a b))
  met-meeting r d (Given (answer.Step one)) (Given (answer.Step other)) fair ea eb na nb step =
      let one_leads : is_root d.place.first (r.leads d.place.agreed one) ≡ true = led (is_step d.place) (is_root d.place.first (r.leads d.place.agreed one)) na step in
      let other_leads : is_root d.place.second (r.leads d.place.agreed other) ≡ true = led (is_step d.place) (is_root d.place.second (r.leads d.place.agreed other)) nb step in
      let first : (x : Digest32) × (r.leads d.place.agreed one ≡ Some x) = root-led d.place.first (r.leads d.place.agreed one) one_leads in
      let second : (x : Digest32) × (r.leads d.place.agreed other ≡ Some x) = root-led d.place.second (r.leads d.place.agreed other) other_leads in
      met-out r d one other first.0 second.0 (r.step_collision d.place.agreed one other) fair first.1 second.1 refl one_leads other_leads ea eb
  met-meeting r d _ _ fair ea eb na nb step = tt

  met-close : (r : Ruling) (d : Bisection) (x y z : Bool) (m c : Close) → (if x || y then Some (Out x y) else if z then Some m else None) ≡ Some c → (x ≡ false → y ≡ false → z ≡ true → IsMet r d (Some m)) → IsMet r d (Some c)
  met-close r d true y z m c e h = let same : Out true y ≡ c = cc in rw (← same) tt
  met-close r d false true z m c e h = let same : Out false true ≡ c = cc in rw (← same) tt
  met-close r d false false true m c e h = let same : m ≡ c = cc in rw (← same) (h refl refl refl)
  met-close r d false false false m c e h = absurd (cc)

  met-of : (r : Ruling) (d : Bisection) (a b : Settled) (c : Close) → IsFair r → close_of r d.place a b ≡ Some c → d.by_first ≡ Some a → d.by_second ≡ Some b → IsMet r d (Some c)
  unfolding close_of
  met-of r d a b c fair e ea eb =
      met-close r d (is_out r d.place d.place.first a) (is_out r d.place d.place.second b) (is_step d.place) (both_proved r d.place.agreed a b) c e (λ na nb step. met-meeting r d a b fair ea eb na nb step)

  met-closed : (r : Ruling) (d : Bisection) (by c : Option Close) → IsMet r d c → IsMet r (record d { close = by }) c
  met-closed r d by (Some (Collision s u)) h = record {
    one = h.one;
    other = h.other;
    by_one = h.by_one;
    by_other = h.by_other;
    one_leads = h.one_leads;
    other_leads = h.other_leads;
    collision_with = h.collision_with;
  }
  met-closed r d by (Some (Out a b)) h = tt
  met-closed r d by None h = tt

  met-by : (ruling : Ruling) (d : Bisection) (a b : Settled) (o : Option Close) → IsFair ruling → close_of ruling d.place a b ≡ o → d.by_first ≡ Some a → d.by_second ≡ Some b → d.close ≡ None →
      IsMet ruling (closed_or d (went_on d a b) o) (closed_or d (went_on d a b) o).close
  met-by ruling d a b (Some c) fair e ea eb still = met-closed ruling d (Some c) (Some c) (met-of ruling d a b c fair e ea eb)
  met-by ruling d a b None fair e ea eb still = rw still tt

  met-advanced : (ruling : Ruling) (d : Bisection) (a b : Option Settled) → IsFair ruling → d.by_first ≡ a → d.by_second ≡ b → d.close ≡ None → IsMet ruling (advanced ruling d a b) (advanced ruling d a b).close
  unfolding decided
  met-advanced ruling d (Some a) (Some b) fair ea eb still = met-by ruling d a b (close_of ruling d.place a b) fair refl ea eb still
  met-advanced ruling d (Some a) None fair ea eb still = rw still tt
  met-advanced ruling d None b fair ea eb still = rw still tt

  open-close : (same : Bool) (o : Option Settled) (c : Option Close) → (same && (is_none o && not (is_some c))) ≡ true → c ≡ None
  open-close true None None e = refl
  open-close true None (Some c) e = absurd (cc)
  open-close true (Some s) c e = absurd (cc)
  open-close false o c e = absurd (cc)

  met-first : (ruling : Ruling) (s : Settled) (d : Bisection) → IsFair ruling → d.close ≡ None → IsMet ruling (settle_first ruling s d) (settle_first ruling s d).close
  unfolding settle_first
  met-first ruling s d fair still = met-advanced ruling (record d { by_first = Some s }) (Some s) d.by_second fair refl refl still

  met-second : (ruling : Ruling) (s : Settled) (d : Bisection) → IsFair ruling → d.close ≡ None → IsMet ruling (settle_second ruling s d) (settle_second ruling s d).close
  unfolding settle_second
  met-second ruling s d fair still = met-advanced ruling (record d { by_second = Some s }) d.by_first (Some s) fair refl refl still

  met-choice : (rules : Rules) (p : ℕ) (s : Settled) (d : Bisection) (ds : List Bisection) (x y : Bool) → IsFair rules.ruling → asks_first p d ≡ x → asks_second p d ≡ y → AllMet rules.ruling (d ∷ ds) → AllMet rules.ruling (settled_in rules p s ds) →
      AllMet rules.ruling (if x then settle_first rules.ruling s d ∷ ds else if y then settle_second rules.ruling s d ∷ ds else d ∷ settled_in rules p s ds)
  met-choice rules p s d ds true y fair ex ey h r = (met-first rules.ruling s d fair (open-close (d.first == p) d.by_first d.close ex), h.1)
  met-choice rules p s d ds false true fair ex ey h r = (met-second rules.ruling s d fair (open-close (d.second == p) d.by_second d.close ey), h.1)
  met-choice rules p s d ds false false fair ex ey h r = (h.0, r)

  met-settled : (rules : Rules) (p : ℕ) (s : Settled) (ds : List Bisection) → IsFair rules.ruling → AllMet rules.ruling ds → AllMet rules.ruling (settled_in rules p s ds)
  met-settled rules p s [] fair h = tt
  met-settled rules p s (d ∷ ds) fair h = met-choice rules p s d ds (asks_first p d) (asks_second p d) fair refl refl h (met-settled rules p s ds fair h.1)

  met-new : (rules : Rules) (g : ℕ) (n : ℕ) (ps : List ((ℕ × Claim) × (ℕ × Claim))) → AllMet rules.ruling (disputes_of rules g n ps)
  met-new rules g n [] = tt
  met-new rules g n (p ∷ ps) = (tt, met-new rules g (n + 1) ps)

  met-both : (r : Ruling) (ds es : List Bisection) → AllMet r ds → AllMet r es → AllMet r (ds ++ es)
  met-both r [] es h k = k
  met-both r (d ∷ ds) es h k = (h.0, met-both r ds es h.1 k)

  met-opened : (rules : Rules) (t : Record) → AllMet rules.ruling t.disputes → AllMet rules.ruling (stage_opened rules t).disputes
  met-opened rules t h =
      elim (cases_Bool (is_stage_due rules t)) [
        | inl due ↦ rw (opened-due rules t due) (met-both rules.ruling t.disputes _ h (met-new rules (last_stage t.disputes + 1) (length t.disputes + 1) (pairs rules t)))
        | inr not_due ↦ rw (opened-not rules t not_due) h
      ]

  met-put : (rules : Rules) (p : ℕ) (s : Settled) (t : Record) (b : Bool) → IsFair rules.ruling → AllMet rules.ruling t.disputes →
      AllMet rules.ruling (if b then record t { claims = slice_set t.claims (p - 1) (Some s) } else record t { disputes = settled_in rules p s t.disputes }).disputes
  met-put rules p s t true fair h = h
  met-put rules p s t false fair h = met-settled rules p s t.disputes fair h

  met-after : (rules : Rules) (es : List (ℕ × Settled)) (t : Record) → IsFair rules.ruling → AllMet rules.ruling t.disputes → AllMet rules.ruling (after rules es t).disputes
  unfolding settle
  met-after rules [] t fair h = h
  met-after rules (e ∷ es) t fair h = met-after rules es (settle rules e.0 e.1 t) fair (met-opened rules (put rules e.0 e.1 t) (met-put rules e.0 e.1 t (claim_missing (slice_get t.claims (e.0 - 1))) fair h))

  -- so the collision of the disputes is one of the record

  collision-by : (rules : Rules) (r : Record) (d : Bisection) (ds : List Bisection) (pair : List ℕ × List ℕ) (c : Option Close) → option_or (collided c) (disputes_collision ds) ≡ Some pair → IsMet rules.ruling d c →
      ((a : Answer) → IsInDisputes rules.ruling a (d ∷ ds) → IsInDisputes rules.ruling a r.disputes) → (disputes_collision ds ≡ Some pair → IsCollisionIn rules r pair) → IsCollisionIn rules r pair
  collision-by rules r d ds pair (Some (Collision s u)) e h sub rest =
      let same : (s, u) ≡ pair = cc in
      rw (← same) (record {
        first = answer.Step h.one;
        second = answer.Step h.other;
        first_in = inr (sub (answer.Step h.one) (inl (record { given = h.by_one; leads = h.one_leads })));
        second_in = inr (sub (answer.Step h.other) (inr (inl (record { given = h.by_other; leads = h.other_leads }))));
        collision = h.collision_with;
      })
  collision-by rules r d ds pair (Some (Out a b)) e h sub rest = rest e
  collision-by rules r d ds pair None e h sub rest = rest e

  dispute-collision : (rules : Rules) (r : Record) (ds : List Bisection) (pair : List ℕ × List ℕ) → disputes_collision ds ≡ Some pair → AllMet rules.ruling ds →
      ((a : Answer) → IsInDisputes rules.ruling a ds → IsInDisputes rules.ruling a r.disputes) → IsCollisionIn rules r pair
  dispute-collision rules r [] pair e h sub = absurd (cc)
  dispute-collision rules r (d ∷ ds) pair e h sub =
      collision-by rules r d ds pair d.close e h.0 sub (λ further. dispute-collision rules r ds pair further h.1 (λ a i. sub a (inr (inr i))))

  -- the collision of the claims is one of the record

  in-claims : (a : Answer) (ss : List (Option Settled)) (k : ℕ) → slice_get ss k ≡ Some (Some (Given a)) → IsInClaims a ss
  in-claims a [] k e = absurd (cc)
  in-claims a (s ∷ ss) zero e = let same : s ≡ Some (Given a) = cc in inl same
  in-claims a (s ∷ ss) (suc k) e = inr (in-claims a ss k e)

  meets-choice : (rules : Rules) (r : Record) (x y : ℕ × Claim) (ys : List (ℕ × Claim)) (pair : List ℕ × List ℕ) (o : Option (List ℕ × List ℕ)) → IsFair rules.ruling → FitClaims rules.ruling r.claims → HasClaim r.claims x → HasClaim r.claims y →
      rules.ruling.claim_collision x.1 y.1 ≡ o → option_or o (collision_with rules.ruling x.1 ys) ≡ Some pair → (collision_with rules.ruling x.1 ys ≡ Some pair → IsCollisionIn rules r pair) → IsCollisionIn rules r pair
  meets-choice rules r x y ys pair (Some p) fair fit hx hy em e rest =
      let same : rules.ruling.claim_collision x.1 y.1 ≡ Some pair = cc in
      record {
        first = answer.Claim x.1;
        second = answer.Claim y.1;
        first_in = inl (in-claims (answer.Claim x.1) r.claims (x.0 - 1) hx.is);
        second_in = inl (in-claims (answer.Claim y.1) r.claims (y.0 - 1) hy.is);
        collision =
            fair.claim_collisions x.1 y.1 pair (fit-at rules.ruling r.claims (x.0 - 1) x.1 fit hx.is) (fit-at rules.ruling r.claims (y.0 - 1) y.1 fit hy.is) same;
      }
  meets-choice rules r x y ys pair None fair fit hx hy em e rest = rest e

  meets-collision : (rules : Rules) (r : Record) (x : ℕ × Claim) (ys : List (ℕ × Claim)) (pair : List ℕ × List ℕ) → IsFair rules.ruling → FitClaims rules.ruling r.claims → HasClaim r.claims x → AllClaim r.claims ys →
      collision_with rules.ruling x.1 ys ≡ Some pair → IsCollisionIn rules r pair
  meets-collision rules r x [] pair fair fit hx h e = absurd (cc)
  meets-collision rules r x (y ∷ ys) pair fair fit hx h e =
      meets-choice rules r x y ys pair (rules.ruling.claim_collision x.1 y.1) fair fit hx h.0 refl e (λ further. meets-collision rules r x ys pair fair fit hx h.1 further)

  claims-choice : (rules : Rules) (r : Record) (x : ℕ × Claim) (xs : List (ℕ × Claim)) (pair : List ℕ × List ℕ) (o : Option (List ℕ × List ℕ)) → collision_with rules.ruling x.1 xs ≡ o → option_or o (claims_collision rules.ruling xs) ≡ Some pair →
      (collision_with rules.ruling x.1 xs ≡ Some pair → IsCollisionIn rules r pair) → (claims_collision rules.ruling xs ≡ Some pair → IsCollisionIn rules r pair) → IsCollisionIn rules r pair
  claims-choice rules r x xs pair (Some p) em e here rest = let same : collision_with rules.ruling x.1 xs ≡ Some pair = cc in here same
  claims-choice rules r x xs pair None em e here rest = rest e

  claims-collision : (rules : Rules) (r : Record) (xs : List (ℕ × Claim)) (pair : List ℕ × List ℕ) → IsFair rules.ruling → FitClaims rules.ruling r.claims → AllClaim r.claims xs → claims_collision rules.ruling xs ≡ Some pair → IsCollisionIn rules r pair
  claims-collision rules r [] pair fair fit h e = absurd (cc)
  claims-collision rules r (x ∷ xs) pair fair fit h e =
      claims-choice rules r x xs pair (collision_with rules.ruling x.1 xs) refl e
      (λ here. meets-collision rules r x xs pair fair fit h.0 h.1 here) (λ further. claims-collision rules r xs pair fair fit h.1 further)

  -- without a collision of the claims, live ones of one root are the same

  both-none : (a b : Option (List ℕ × List ℕ)) → a ≡ None → b ≡ None → option_or a b ≡ None
  both-none a b ea eb = rw ea eb

  pub meets-none : (r : Ruling) (x : Claim) (p : ℕ) (c : Claim) (ys : List (ℕ × Claim)) → collision_with r x ys ≡ None → IsIn p c ys → r.claim_collision x c ≡ None
  meets-none r x p c [] e i = absurd i
  meets-none r x p c (y ∷ ys) e (inl same) = let at : y.1 ≡ c = ap (λ (z : ℕ × Claim). z.1) same in rw at at (first-none (r.claim_collision x y.1) (collision_with r x ys) e).0
  meets-none r x p c (y ∷ ys) e (inr i) = meets-none r x p c ys (first-none (r.claim_collision x y.1) (collision_with r x ys) e).1 i

  -- fewer live ones have no more collisions

  meets-sub-by : (r : Ruling) (x : Claim) (p : ℕ) (o : Option Claim) (xs ys : List (ℕ × Claim)) (b : Bool) → collision_with r x (also p o xs) ≡ None → (collision_with r x xs ≡ None → collision_with r x ys ≡ None) → collision_with r x (if b then ys else also p o ys) ≡ None
  meets-sub-by r x p (Some c) xs ys true e h = h (first-none (r.claim_collision x c) (collision_with r x xs) e).1
  meets-sub-by r x p None xs ys true e h = h e
  meets-sub-by r x p (Some c) xs ys false e h = let n : (_ ≡ None) × (_ ≡ None) = first-none (r.claim_collision x c) (collision_with r x xs) e in both-none _ _ n.0 (h n.1)
  meets-sub-by r x p None xs ys false e h = h e

  collide-sub-by : (r : Ruling) (p : ℕ) (o : Option Claim) (xs ys : List (ℕ × Claim)) (b : Bool) → claims_collision r (also p o xs) ≡ None → ((x : Claim) → collision_with r x xs ≡ None → collision_with r x ys ≡ None) → (claims_collision r xs ≡ None → claims_collision r ys ≡ None) →
      claims_collision r (if b then ys else also p o ys) ≡ None
  collide-sub-by r p (Some c) xs ys true e m h = h (first-none (collision_with r c xs) (claims_collision r xs) e).1
  collide-sub-by r p None xs ys true e m h = h e
  collide-sub-by r p (Some c) xs ys false e m h = let n : (_ ≡ None) × (_ ≡ None) = first-none (collision_with r c xs) (claims_collision r xs) e in both-none _ _ (m c n.0) (h n.1)
  collide-sub-by r p None xs ys false e m h = h e

  meets-sub : (r : Ruling) (x : Claim) (ds : List Bisection) (p : ℕ) (ss : List (Option Settled)) → collision_with r x (live_from [] p ss) ≡ None → collision_with r x (live_from ds p ss) ≡ None
  meets-sub r x ds p [] e = refl
  meets-sub r x ds p (s ∷ ss) e = meets-sub-by r x p (claim_in s) (live_from [] (p + 1) ss) (live_from ds (p + 1) ss) (is_out_in ds p) e (λ further. meets-sub r x ds (p + 1) ss further)

  pub collide-sub : (r : Ruling) (ds : List Bisection) (p : ℕ) (ss : List (Option Settled)) → claims_collision r (live_from [] p ss) ≡ None → claims_collision r (live_from ds p ss) ≡ None
  collide-sub r ds p [] e = refl
  collide-sub r ds p (s ∷ ss) e =
      collide-sub-by r p (claim_in s) (live_from [] (p + 1) ss) (live_from ds (p + 1) ss) (is_out_in ds p) e
      (λ x h. meets-sub r x ds (p + 1) ss h) (λ further. collide-sub r ds (p + 1) ss further)

  -- without a pair, live ones have one root

  passed-none : (x : ℕ × Claim) (t : Taken) → passed_over x t ≡ None → t ≡ None
  passed-none x None e = refl
  passed-none x (Some t) e = absurd (cc)

  other-choice : (r : Ruling) (root : Digest32) (p : ℕ) (c : Claim) (x : ℕ × Claim) (xs : List (ℕ × Claim)) (b : Bool) → (same_digest (r.root_of x.1) root) ≡ b → (if b then passed_over x (take_other r root xs) else Some (x, xs)) ≡ None →
      (x ≡ (p, c)) ⊎ IsIn p c xs → (take_other r root xs ≡ None → IsIn p c xs → r.root_of c ≡ root) → r.root_of c ≡ root
  other-choice r root p c x xs true eb e (inl same) rest = let at : x.1 ≡ c = ap (λ (z : ℕ × Claim). z.1) same in rw at at (same-is (r.root_of x.1) root eb)
  other-choice r root p c x xs true eb e (inr i) rest = rest (passed-none x (take_other r root xs) e) i
  other-choice r root p c x xs false eb e i rest = absurd (cc)

  pub other-none : (r : Ruling) (root : Digest32) (p : ℕ) (c : Claim) (xs : List (ℕ × Claim)) → take_other r root xs ≡ None → IsIn p c xs → r.root_of c ≡ root
  other-none r root p c [] e i = absurd i
  other-none r root p c (x ∷ xs) e i = other-choice r root p c x xs (same_digest (r.root_of x.1) root) refl e i (λ further j. other-none r root p c xs further j)

  no-pairs-by : (r : Ruling) (n : ℕ) (x : ℕ × Claim) (xs : List (ℕ × Claim)) (t : Taken) →
      (let ps : List ((ℕ × Claim) × (ℕ × Claim)) = elim t [ None ↦ pairs_of r n xs | Some u ↦ (x, u.0) ∷ pairs_of r n u.1 ] in ps ≡ []) → t ≡ None
  no-pairs-by r n x xs None e = refl
  no-pairs-by r n x xs (Some u) e = absurd (cc)

  pub no-pairs : (r : Ruling) (n : ℕ) (x : ℕ × Claim) (xs : List (ℕ × Claim)) → 0 < n → pairs_of r n (x ∷ xs) ≡ [] → take_other r (r.root_of x.1) xs ≡ None
  no-pairs r zero x xs some e = absurd (omega arith)
  no-pairs r (suc n) x xs some e = no-pairs-by r n x xs (take_other r (r.root_of x.1) xs) e

  -- the lowest live one has the true claim

  lowest-right : (rules : Rules) (t : Truth) (r : Record) (p : ℕ) (xs : List (ℕ × Claim)) → IsFair rules.ruling → 0 < rules.setup.provers → FitClaims rules.ruling r.claims → AllClaim r.claims xs →
      rules.ruling.is_sound t.claim ≡ true → IsIn p t.claim xs → claims_collision rules.ruling xs ≡ None → pairs_of rules.ruling rules.setup.provers xs ≡ [] → IsRightVerdict rules t r (lowest xs)
  lowest-right rules t r p [] fair some fit h sound i none over = absurd i
  lowest-right rules t r p (x ∷ xs) fair some fit h sound i none over =
      let c : x.1 ≡ t.claim = elim i [
        | inl same ↦ ap (λ (z : ℕ × Claim). z.1) same
        | inr further ↦
            fair.claims_collide x.1 t.claim (fit-at rules.ruling r.claims (x.0 - 1) x.1 fit h.0.is) sound
            (sym (other-none rules.ruling (rules.ruling.root_of x.1) p t.claim xs (no-pairs rules.ruling rules.setup.provers x xs some over) further))
            (meets-none rules.ruling x.1 p t.claim xs (first-none (collision_with rules.ruling x.1 xs) (claims_collision rules.ruling xs) none).0 further)
      ] in
      rw c at h.0.is

  -- a complete match without a collision has no pair left

  out-closed : (c : Option Close) → is_some c ≡ true → collided c ≡ None → put_out c ≡ true
  out-closed (Some (Out a b)) e n = refl
  out-closed (Some (Collision s u)) e n = absurd (cc)
  out-closed None e n = absurd (cc)

  pub all-out-by : (ds : List Bisection) → all_closed ds ≡ true → disputes_collision ds ≡ None → all_out ds ≡ true
  all-out-by [] e n = refl
  all-out-by (d ∷ ds) e n =
      let two : (is_closed d ≡ true) × (all_closed ds ≡ true) = and_parts (is_closed d) (all_closed ds) e in
      let none : (collided d.close ≡ None) × (disputes_collision ds ≡ None) = first-none (collided d.close) (disputes_collision ds) n in
      rw (out-closed d.close two.0 none.0, all-out-by ds two.1 none.1) refl

  new-none : (rules : Rules) (g : ℕ) (n : ℕ) (ps : List ((ℕ × Claim) × (ℕ × Claim))) → length (disputes_of rules g n ps) ≡ 0 → ps ≡ []
  new-none rules g n [] e = refl
  new-none rules g n (p ∷ ps) e = absurd (omega arith)

  pub no-pair-left : (rules : Rules) (r : Record) → is_stage_due rules r ≡ true → stage_opened rules r ≡ r → pairs rules r ≡ []
  no-pair-left rules r due rests =
      let e : record r { disputes = r.disputes ++ disputes_of rules (last_stage r.disputes + 1) (length r.disputes + 1) (pairs rules r) } ≡ r = sym (opened-due rules r due) ∙ rests in
      let l : length (r.disputes ++ disputes_of rules (last_stage r.disputes + 1) (length r.disputes + 1) (pairs rules r)) ≡ length r.disputes = ap (λ (u : Record). length u.disputes) e in
      new-none rules (last_stage r.disputes + 1) (length r.disputes + 1) (pairs rules r) (omega (arith, l, length-append r.disputes (disputes_of rules (last_stage r.disputes + 1) (length r.disputes + 1) (pairs rules r))))

  pub rests-after : (rules : Rules) (es : List (ℕ × Settled)) (r : Record) → stage_opened rules r ≡ r → stage_opened rules (after rules es r) ≡ after rules es r
  unfolding settle
  rests-after rules [] r e = e
  rests-after rules (x ∷ es) r e = rests-after rules es (settle rules x.0 x.1 r) (opened-twice rules (put rules x.0 x.1 r))

  pub rests-nothing : (rules : Rules) → 0 < rules.setup.provers → stage_opened rules (nothing_settled rules) ≡ nothing_settled rules
  rests-nothing rules some = let i : IsPlayed rules (nothing_settled rules) = (played-nothing laws) rules some in i.rests

  verdict-by : (rules : Rules) (t : Truth) (r : Record) (p : ℕ) (a b : Option (List ℕ × List ℕ)) → 0 < rules.setup.provers → IsFair rules.ruling → IsRun rules t → 0 < p → IsKept rules t p r → AllMet rules.ruling r.disputes →
      stage_opened rules r ≡ r → is_complete r ≡ true → HasTrueClaim t r.claims p → is_out_in r.disputes p ≡ false →
      claims_collision rules.ruling (live_from [] 1 r.claims) ≡ a → disputes_collision r.disputes ≡ b → IsRightVerdict rules t r (or_lowest (option_or a b) (live r))
  verdict-by rules t r p (Some pair) b some fair run numbered k m rests c claim stays ea eb =
      claims-collision rules r (live_from [] 1 r.claims) pair fair k.fit ((live-right laws) r.claims [] 0 r.claims (λ i. ap (slice_get r.claims) (omega arith))) ea
  verdict-by rules t r p None (Some pair) some fair run numbered k m rests c claim stays ea eb =
      dispute-collision rules r r.disputes pair eb m (λ a i. i)
  verdict-by rules t r p None None some fair run numbered k m rests c claim stays ea eb =
      let two : (all_there r.claims ≡ true) × (all_closed r.disputes ≡ true) = and_parts (all_there r.claims) (all_closed r.disputes) c in
      let outs : all_out r.disputes ≡ true = all-out-by r.disputes two.1 eb in
      let due : is_stage_due rules r ≡ true = rw (two.0, outs, ea) refl in
      let at : 1 + (p - 1) ≡ p = omega arith in
      let i : IsIn p t.claim (live r) = rw at at (live-in r.disputes 1 (p - 1) t.claim r.claims claim (rw at stays)) in
      lowest-right rules t r p (live r) fair some k.fit ((live-right laws) r.claims r.disputes 0 r.claims (λ j. ap (slice_get r.claims) (omega arith))) run.sound i
      (collide-sub rules.ruling r.disputes 1 r.claims ea) (no-pair-left rules r due rests)

  pub settled_right : (rules : Rules) (t : Truth) (es : List (ℕ × Settled)) (p : ℕ) → ArePlayable rules → IsFair rules.ruling → IsRun rules t → 0 < p →
      AllFit rules es (nothing_settled rules) → AreTrue rules t p (after rules es (nothing_settled rules)) → is_complete (after rules es (nothing_settled rules)) ≡ true →
      IsRightVerdict rules t (after rules es (nothing_settled rules)) (verdict_of rules (after rules es (nothing_settled rules)))
  settled_right rules t es p playable fair run numbered fit true_ c =
      let some : 0 < rules.setup.provers = playable.some in
      let more : 1 < rules.setup.fan = playable.parted in
      let long : 0 < rules.setup.bound = playable.steps in
      let s : Stays rules t p (after rules es (nothing_settled rules)) = (settled_stay laws) rules t es p playable fair run numbered fit true_ in
      verdict-by rules t (after rules es (nothing_settled rules)) p _ _ some fair run numbered ((kept-start laws) rules t p es more long fair run fit)
      (met-after rules es (nothing_settled rules) fair tt) (rests-after rules es (nothing_settled rules) (rests-nothing rules some)) c ((claim-there laws) t p (after rules es (nothing_settled rules)) c true_.claim) s.not_out refl refl
