-- What every record of a match keeps: disputes in play, each side right, and claims that fit.
use Rattle.std.proofs.Common.{◌≡◌, ◌≢◌, ℕ, zero, suc, ◌+◌, ◌-◌, ◌<◌, Bool, true, false, not, ◌&&◌, ◌||◌, ◌==◌, if◌then◌else◌, List, [], ◌∷◌, ◌++◌, length, slice_get, slice_set, inl, inr, Option, Some, None, is_some, is_none, refl, sym, ◌∙◌, ap, arith}
use Rattle.std.proofs.lemmas.Bool.Decides.{nat_tests}
use Rattle.std.proofs.lemmas.Bool.{cases_Bool, and_parts}
use Rattle.rd_base.specs.declared.digest.Digest32.{Digest32}
use Rattle.rd_base.specs.declared.claim.Claim.{Claim}
use Rattle.bisect_game.specs.declared.settled.Question.{Question}
use Rattle.rd_base.specs.declared.answer.Answer.TheVariants as answer
use Rattle.bisect_game.specs.declared.settled.Settled.{Settled}
use Rattle.bisect_game.specs.declared.settled.Settled.TheVariants.{Given, Faulty, Spent}
use Rattle.bisect_game.specs.declared.settled.Side.TheVariants.{First, Second}
use Rattle.bisect_game.specs.declared.settled.Close.{Close}
use Rattle.bisect_game.specs.declared.settled.Close.TheVariants.{Out, Collision}
use Rattle.bisect_game.specs.Bisection.{Bisection, question_of, kind_over, settle_first, settle_second}
use Rattle.bisect_game.specs.Laws.{IsPlay, KeepsRight}
use Rattle.bisect_game.specs.Rules.{Rules, ArePlayable}
use Rattle.bisect_game.specs.Ruling.{Ruling, IsFair, same_digest}
use Rattle.bisect_game.specs.Truth.{Truth, IsRun, IsFit, IsRight, is_put_out}
use Rattle.tournament.proofs.safety.ClaimLemmas.{FitClaims, fit-none, fit-set, fit-asked}
use Rattle.tournament.proofs.safety.LiveLemmas.{live-contains}
use Rattle.tournament.proofs.OpenedLemmas.{opened-not, opened-due}
use Rattle.tournament.proofs.ReachLemmas.{same-not}
use Rattle.tournament.proofs.SidesLemmas.{SameSides, sides-first, sides-second}
use Rattle.tournament.specs.Bracket.{Record, is_out_by, is_out_in, claim_in, also, live_from, live, Taken, passed_over, take_other, pairs_of, pairs, last_stage, disputes_of, all_there, is_stage_due, stage_opened, nothing_settled, asks_first, asks_second, question_in, claim_missing, settled_in, put, settle, is_complete}
use Rattle.bisect_game.specs.Rules.{claim_question}
use Rattle.tournament.specs.Settling.{after}
use Rattle.tournament.specs.Fitting.{AllFit}
use Rattle.tournament.specs.Theorem.{Stays, is_out_by_claim, HasTrueClaimSoFar, HasTrueClaim, TrueIn, AllTrueIn, AreTrue, RightIn, AllRightIn, AllProvedIn}
use Rattle.bisect_game.specs.Laws.{BisectionLaws}

-- a dispute in play, in which one prover, whose claim is true, is right so long as its answers are true
pub record IsGood (rules : Rules) (t : Truth) (claims : List (Option Settled)) (p : ℕ) (d : Bisection) : Type 0 where
  pub play : IsPlay rules d
  pub right_first : d.first ≡ p → HasTrueClaim t claims p → KeepsRight t First d
  pub right_second : d.second ≡ p → HasTrueClaim t claims p → KeepsRight t Second d

abbrev pub AllGood : Rules → Truth → List (Option Settled) → ℕ → List Bisection → Type 0
AllGood rules t claims p [] = Unit {0}
AllGood rules t claims p (d ∷ ds) = IsGood rules t claims p d × AllGood rules t claims p ds

-- that a side is asked says that its answer is missing and that the dispute is open
record IsAsked (o : Option Settled) (c : Option Close) : Type 0 where
  missing : o ≡ None
  still : is_some c ≡ false

pub record HasClaim (claims : List (Option Settled)) (x : ℕ × Claim) : Type 0 where
  pub numbered : 0 < x.0
  pub is : slice_get claims (x.0 - 1) ≡ Some (Some (Given (answer.Claim x.1)))

abbrev pub AllClaim : List (Option Settled) → List (ℕ × Claim) → Type 0
AllClaim claims [] = Unit {0}
AllClaim claims (x ∷ xs) = HasClaim claims x × AllClaim claims xs

pub record ArePaired (r : Ruling) (claims : List (Option Settled)) (x y : ℕ × Claim) : Type 0 where
  pub first : HasClaim claims x
  pub second : HasClaim claims y
  pub differ : r.root_of x.1 ≢ r.root_of y.1

abbrev pub AllPaired : Ruling → List (Option Settled) → List ((ℕ × Claim) × (ℕ × Claim)) → Type 0
AllPaired r claims [] = Unit {0}
AllPaired r claims (p ∷ ps) = ArePaired r claims p.0 p.1 × AllPaired r claims ps

record IsTaken (r : Ruling) (claims : List (Option Settled)) (root : Digest32) (t : (ℕ × Claim) × List (ℕ × Claim)) : Type 0 where
  has : HasClaim claims t.0
  differ : r.root_of t.0.1 ≢ root
  rest : AllClaim claims t.1

abbrev TakenRight : Ruling → List (Option Settled) → Digest32 → Taken → Type 0
TakenRight r claims root None = Unit {0}
TakenRight r claims root (Some t) = IsTaken r claims root t

-- what every record of a match keeps
pub record IsKept (rules : Rules) (t : Truth) (p : ℕ) (r : Record) : Type 0 where
  pub good : AllGood rules t r.claims p r.disputes
  pub begun : all_there r.claims ≡ false → r.disputes ≡ []
  pub fit : FitClaims rules.ruling r.claims

module _ (laws : BisectionLaws) where
  good-both : (rules : Rules) (t : Truth) (claims : List (Option Settled)) (p : ℕ) (ds es : List Bisection) → AllGood rules t claims p ds → AllGood rules t claims p es → AllGood rules t claims p (ds ++ es)
  good-both rules t claims p [] es g h = h
  good-both rules t claims p (d ∷ ds) es g h = (g.0, good-both rules t claims p ds es g.1 h)

  asked : (same : Bool) (o : Option Settled) (c : Option Close) → (same && (is_none o && not (is_some c))) ≡ true → IsAsked o c
  asked true None None e = record { missing = refl; still = refl }
  asked true None (Some c) e = absurd (cc)
  asked true (Some s) c e = absurd (cc)
  asked false o c e = absurd (cc)

  good-first : (rules : Rules) (t : Truth) (claims : List (Option Settled)) (p : ℕ) (s : Settled) (d : Bisection) → IsFair rules.ruling → IsRun rules t → IsAsked d.by_first d.close →
      IsFit rules.ruling (kind_over d.fan d.place.lo d.place.hi) s → IsGood rules t claims p d → SameSides d (settle_first rules.ruling s d) →
      IsGood rules t claims p (settle_first rules.ruling s d)
  good-first rules t claims p s d fair run a fit g k = record {
    play = laws.invariant.play rules First s d fit g.play;
    right_first = λ same claim. laws.invariant.right rules t First s d First fair run (rw (a.missing, a.still) refl) fit g.play (g.right_first (sym k.first ∙ same) claim);
    right_second = λ same claim. laws.invariant.right rules t First s d Second fair run (rw (a.missing, a.still) refl) fit g.play (g.right_second (sym k.second ∙ same) claim);
  }

  good-second : (rules : Rules) (t : Truth) (claims : List (Option Settled)) (p : ℕ) (s : Settled) (d : Bisection) → IsFair rules.ruling → IsRun rules t → IsAsked d.by_second d.close →
      IsFit rules.ruling (kind_over d.fan d.place.lo d.place.hi) s → IsGood rules t claims p d → SameSides d (settle_second rules.ruling s d) →
      IsGood rules t claims p (settle_second rules.ruling s d)
  good-second rules t claims p s d fair run a fit g k = record {
    play = laws.invariant.play rules Second s d fit g.play;
    right_first = λ same claim. laws.invariant.right rules t Second s d First fair run (rw (a.missing, a.still) refl) fit g.play (g.right_first (sym k.first ∙ same) claim);
    right_second = λ same claim. laws.invariant.right rules t Second s d Second fair run (rw (a.missing, a.still) refl) fit g.play (g.right_second (sym k.second ∙ same) claim);
  }

  good-choice : (rules : Rules) (t : Truth) (claims : List (Option Settled)) (p who : ℕ) (s : Settled) (d : Bisection) (ds : List Bisection) (x y : Bool) → IsFair rules.ruling → IsRun rules t →
      asks_first who d ≡ x → asks_second who d ≡ y →
      ((q : Question) → (if x || y then Some (question_of d) else question_in who ds) ≡ Some q → IsFit rules.ruling q.kind s) →
      IsGood rules t claims p d → AllGood rules t claims p ds →
      (((q : Question) → question_in who ds ≡ Some q → IsFit rules.ruling q.kind s) → AllGood rules t claims p (settled_in rules who s ds)) →
      AllGood rules t claims p (if x then settle_first rules.ruling s d ∷ ds else if y then settle_second rules.ruling s d ∷ ds else d ∷ settled_in rules who s ds)
  good-choice rules t claims p who s d ds true y fair run ex ey fit g gs rest =
      (good-first rules t claims p s d fair run (asked (d.first == who) d.by_first d.close ex) (fit (question_of d) refl) g (sides-first rules.ruling s d), gs)
  good-choice rules t claims p who s d ds false true fair run ex ey fit g gs rest =
      (good-second rules t claims p s d fair run (asked (d.second == who) d.by_second d.close ey) (fit (question_of d) refl) g (sides-second rules.ruling s d), gs)
  good-choice rules t claims p who s d ds false false fair run ex ey fit g gs rest = (g, rest fit)

  good-settled : (rules : Rules) (t : Truth) (claims : List (Option Settled)) (p who : ℕ) (s : Settled) (ds : List Bisection) → IsFair rules.ruling → IsRun rules t →
      ((q : Question) → question_in who ds ≡ Some q → IsFit rules.ruling q.kind s) → AllGood rules t claims p ds → AllGood rules t claims p (settled_in rules who s ds)
  good-settled rules t claims p who s [] fair run fit g = tt
  good-settled rules t claims p who s (d ∷ ds) fair run fit g =
      good-choice rules t claims p who s d ds (asks_first who d) (asks_second who d) fair run refl refl fit g.0 g.1
      (λ further. good-settled rules t claims p who s ds fair run further g.1)

  -- the live provers have the claims that were settled, and those paired have different roots

  passed-right : (r : Ruling) (claims : List (Option Settled)) (root : Digest32) (x : ℕ × Claim) (t : Taken) → HasClaim claims x → TakenRight r claims root t → TakenRight r claims root (passed_over x t)
  passed-right r claims root x None h i = tt
  passed-right r claims root x (Some t) h i = record { has = i.has; differ = i.differ; rest = (h, i.rest) }

  taken-choice : (r : Ruling) (claims : List (Option Settled)) (root : Digest32) (x : ℕ × Claim) (xs : List (ℕ × Claim)) (b : Bool) → (same_digest (r.root_of x.1) root) ≡ b → HasClaim claims x → AllClaim claims xs →
      TakenRight r claims root (take_other r root xs) → TakenRight r claims root (if b then passed_over x (take_other r root xs) else Some (x, xs))
  taken-choice r claims root x xs true e h hs i = passed-right r claims root x (take_other r root xs) h i
  taken-choice r claims root x xs false e h hs i = record { has = h; differ = same-not (r.root_of x.1) root e; rest = hs }

  taken-right : (r : Ruling) (claims : List (Option Settled)) (root : Digest32) (xs : List (ℕ × Claim)) → AllClaim claims xs → TakenRight r claims root (take_other r root xs)
  taken-right r claims root [] h = tt
  taken-right r claims root (x ∷ xs) h = taken-choice r claims root x xs (same_digest (r.root_of x.1) root) refl h.0 h.1 (taken-right r claims root xs h.1)

  paired : (r : Ruling) (claims : List (Option Settled)) (n : ℕ) (x : ℕ × Claim) (xs : List (ℕ × Claim)) (t : Taken) → HasClaim claims x → TakenRight r claims (r.root_of x.1) t →
      AllPaired r claims (pairs_of r n xs) → ((ys : List (ℕ × Claim)) → AllClaim claims ys → AllPaired r claims (pairs_of r n ys)) →
      AllPaired r claims (elim t [ None ↦ pairs_of r n xs | Some u ↦ (x, u.0) ∷ pairs_of r n u.1 ])
  paired r claims n x xs None h i none some = none
  paired r claims n x xs (Some u) h i none some = (record { first = h; second = i.has; differ = λ same. i.differ (sym same) }, some u.1 i.rest)

  pub pairs-right : (r : Ruling) (claims : List (Option Settled)) (n : ℕ) (xs : List (ℕ × Claim)) → AllClaim claims xs → AllPaired r claims (pairs_of r n xs)
  pairs-right r claims zero xs h = tt
  pairs-right r claims (suc n) [] h = tt
  pairs-right r claims (suc n) (x ∷ xs) h =
      paired r claims n x xs (take_other r (r.root_of x.1) xs) h.0 (taken-right r claims (r.root_of x.1) xs h.1) (pairs-right r claims n xs h.1) (λ ys i. pairs-right r claims n ys i)

  live-choice : (claims : List (Option Settled)) (k : ℕ) (s : Option Settled) (xs : List (ℕ × Claim)) (b : Bool) → slice_get claims k ≡ Some s → AllClaim claims xs →
      AllClaim claims (if b then xs else also (k + 1) (claim_in s) xs)
  live-choice claims k s xs true e h = h
  live-choice claims k (Some (Given (answer.Claim c))) xs false e h =
      let at : k + 1 - 1 ≡ k = omega arith in
      (record { numbered = omega arith; is = rw at e }, h)
  live-choice claims k (Some (Given (answer.Root x))) xs false e h = h
  live-choice claims k (Some (Given (answer.Roots rs))) xs false e h = h
  live-choice claims k (Some (Given (answer.Step x))) xs false e h = h
  live-choice claims k (Some (Faulty a)) xs false e h = h
  live-choice claims k (Some Spent) xs false e h = h
  live-choice claims k None xs false e h = h

  pub live-right : (claims : List (Option Settled)) (ds : List Bisection) (k : ℕ) (ss : List (Option Settled)) → ((i : ℕ) → slice_get claims (k + i) ≡ slice_get ss i) → AllClaim claims (live_from ds (k + 1) ss)
  live-right claims ds k [] same = tt
  live-right claims ds k (s ∷ ss) same =
      let here : slice_get claims k ≡ Some s = ap (slice_get claims) (omega arith) ∙ same 0 in
      live-choice claims k s (live_from ds (k + 1 + 1) ss) (is_out_in ds (k + 1)) here
      (live-right claims ds (k + 1) ss (λ i. ap (slice_get claims) (omega arith) ∙ same (suc i)))

  -- new disputes are good

  true-root : (rules : Rules) (t : Truth) (claims : List (Option Settled)) (p : ℕ) (x : ℕ × Claim) → IsRun rules t → HasClaim claims x → x.0 ≡ p → HasTrueClaim t claims p →
      rules.ruling.root_of x.1 ≡ t.root rules.setup.bound
  true-root rules t claims p x run h same claim =
      let at : slice_get claims (p - 1) ≡ Some (Some (Given (answer.Claim x.1))) = ap (λ (n : ℕ). slice_get claims (n - 1)) (sym same) ∙ h.is in
      let c : x.1 ≡ t.claim = cc in
      ap rules.ruling.root_of c ∙ run.ends

  good-new : (rules : Rules) (g : ℕ) (t : Truth) (claims : List (Option Settled)) (p n : ℕ) (ps : List ((ℕ × Claim) × (ℕ × Claim))) → 1 < rules.setup.fan → 0 < rules.setup.bound → IsRun rules t →
      AllPaired rules.ruling claims ps → AllGood rules t claims p (disputes_of rules g n ps)
  good-new rules g t claims p n [] more long run h = tt
  good-new rules g t claims p n (x ∷ ps) more long run h = (
    record {
      play = record { parted = more; sound = record { some = long; short = omega arith; differ = h.0.differ }; fit_first = tt; fit_second = tt };
      right_first = λ same claim truthful. record { agreed = sym run.begins; own = true-root rules t claims p x.0 run h.0.first same claim; stays = refl };
      right_second = λ same claim truthful. record { agreed = sym run.begins; own = true-root rules t claims p x.1 run h.0.second same claim; stays = refl };
    },
    good-new rules g t claims p (n + 1) ps more long run h.1,
  )

  -- claims that fit

  pub missing-there : (ss : List (Option Settled)) (k : ℕ) → claim_missing (slice_get ss k) ≡ true → all_there ss ≡ false
  missing-there [] k e = absurd (cc)
  missing-there (None ∷ ss) k e = refl
  missing-there (Some s ∷ ss) zero e = absurd (cc)
  missing-there (Some s ∷ ss) (suc k) e = missing-there ss k e

  kept-put : (rules : Rules) (t : Truth) (p who : ℕ) (s : Settled) (r : Record) (b : Bool) → claim_missing (slice_get r.claims (who - 1)) ≡ b → IsFair rules.ruling → IsRun rules t →
      ((q : Question) → (if b then Some claim_question else question_in who r.disputes) ≡ Some q → IsFit rules.ruling q.kind s) → IsKept rules t p r →
      IsKept rules t p (if b then record r { claims = slice_set r.claims (who - 1) (Some s) } else record r { disputes = settled_in rules who s r.disputes })
  kept-put rules t p who s r true e fair run fit k =
      let none : r.disputes ≡ [] = k.begun (missing-there r.claims (who - 1) e) in
      record {
        good = rw none tt;
        begun = λ _. none;
        fit = fit-set rules.ruling r.claims (who - 1) s k.fit (fit claim_question refl);
      }
  kept-put rules t p who s r false e fair run fit k =
      record {
        good = good-settled rules t r.claims p who s r.disputes fair run fit k.good;
        begun = λ (missing : all_there r.claims ≡ false). rw (k.begun missing) refl;
        fit = k.fit;
      }

  kept-opened : (rules : Rules) (t : Truth) (p : ℕ) (r : Record) → 1 < rules.setup.fan → 0 < rules.setup.bound → IsRun rules t → IsKept rules t p r → IsKept rules t p (stage_opened rules r)
  kept-opened rules t p r more long run k =
      elim (cases_Bool (is_stage_due rules r)) [
        | inl due ↦
            let there : all_there r.claims ≡ true = (and_parts _ _ due).0 in
            rw (opened-due rules r due) (record {
              good = good-both rules t r.claims p r.disputes _ k.good
                  (good-new rules (last_stage r.disputes + 1) t r.claims p (length r.disputes + 1) (pairs rules r) more long run (pairs-right rules.ruling r.claims rules.setup.provers (live r) (live-right r.claims r.disputes 0 r.claims (λ i. ap (slice_get r.claims) (omega arith)))));
              begun = λ (missing : all_there r.claims ≡ false). cc;
              fit = k.fit;
            })
        | inr not_due ↦ rw (opened-not rules r not_due) k
      ]

  kept-after : (rules : Rules) (t : Truth) (p : ℕ) (es : List (ℕ × Settled)) (r : Record) → 1 < rules.setup.fan → 0 < rules.setup.bound → IsFair rules.ruling → IsRun rules t →
      AllFit rules es r → IsKept rules t p r → IsKept rules t p (after rules es r)
  unfolding settle
  kept-after rules t p [] r more long fair run fit k = k
  kept-after rules t p (e ∷ es) r more long fair run fit k =
      kept-after rules t p es (settle rules e.0 e.1 r) more long fair run fit.1
      (kept-opened rules t p (put rules e.0 e.1 r) more long run
      (kept-put rules t p e.0 e.1 r (claim_missing (slice_get r.claims (e.0 - 1))) refl fair run (fit-asked rules r e.0 e.1 fit.0) k))

  -- truthful provers stay

  stays-dispute : (rules : Rules) (t : Truth) (claims : List (Option Settled)) (p : ℕ) (d : Bisection) → HasTrueClaim t claims p → IsGood rules t claims p d → TrueIn rules t p d → RightIn t p d
  stays-dispute rules t claims p d claim g true_ = record {
    first = λ same. g.right_first same claim (true_.first same);
    second = λ same. g.right_second same claim (true_.second same);
  }

  out-none : (a b x y : Bool) → (x ≡ true → a ≡ false) → (y ≡ true → b ≡ false) → ((a && x) || (b && y)) ≡ false
  out-none true b true y hx hy = absurd (let e : true ≡ false = hx refl in cc)
  out-none true true false true hx hy = absurd (let e : true ≡ false = hy refl in cc)
  out-none true true false false hx hy = refl
  out-none true false false y hx hy = refl
  out-none false true x true hx hy = absurd (let e : true ≡ false = hy refl in cc)
  out-none false true x false hx hy = refl
  out-none false false x y hx hy = refl

  not-out-by : (d : Bisection) (c : Option Close) (p : ℕ) (x y : Bool) → (d.first == p) ≡ x → (d.second == p) ≡ y → (x ≡ true → is_put_out First c ≡ false) → (y ≡ true → is_put_out Second c ≡ false) → is_out_by d c p ≡ false
  not-out-by d None p x y ex ey hx hy = refl
  not-out-by d (Some (Collision s u)) p x y ex ey hx hy = refl
  not-out-by d (Some (Out a b)) p x y ex ey hx hy = rw (ex, ey) (out-none a b x y hx hy)

  eqb-is : (m n : ℕ) → (m == n) ≡ true → m ≡ n
  eqb-is m n e = grind (arith, nat_tests)

  stays-all : (rules : Rules) (t : Truth) (claims : List (Option Settled)) (p : ℕ) (ds : List Bisection) → HasTrueClaim t claims p → AllGood rules t claims p ds → AllTrueIn rules t p ds →
      (is_out_in ds p ≡ false) × AllRightIn t p ds
  stays-all rules t claims p [] claim g true_ = (refl, tt)
  stays-all rules t claims p (d ∷ ds) claim g true_ =
      let here : RightIn t p d = stays-dispute rules t claims p d claim g.0 true_.0 in
      let rest : (is_out_in ds p ≡ false) × AllRightIn t p ds = stays-all rules t claims p ds claim g.1 true_.1 in
      let no : is_out_by d d.close p ≡ false =
      not-out-by d d.close p (d.first == p) (d.second == p) refl refl
      (λ e. let r : IsRight t First d = here.first (eqb-is d.first p e) in r.stays)
      (λ e. let r : IsRight t Second d = here.second (eqb-is d.second p e) in r.stays) in
      (rw (no, rest.0) refl, (here, rest.1))

  pub kept-start : (rules : Rules) (t : Truth) (p : ℕ) (es : List (ℕ × Settled)) → 1 < rules.setup.fan → 0 < rules.setup.bound → IsFair rules.ruling → IsRun rules t → AllFit rules es (nothing_settled rules) →
      IsKept rules t p (after rules es (nothing_settled rules))
  kept-start rules t p es more long fair run fit =
      kept-after rules t p es (nothing_settled rules) more long fair run fit (record { good = tt; begun = λ _. refl; fit = fit-none rules.ruling rules.setup.provers })

  proved-all : (rules : Rules) (t : Truth) (claims : List (Option Settled)) (p : ℕ) (ds : List Bisection) → IsRun rules t → AllGood rules t claims p ds → AllTrueIn rules t p ds → AllRightIn t p ds → AllProvedIn rules p ds
  proved-all rules t claims p [] run g true_ right = tt
  proved-all rules t claims p (d ∷ ds) run g true_ right = (
    record {
      first = λ same. laws.proofs rules t First d run g.0.play (true_.0.first same) (right.0.first same);
      second = λ same. laws.proofs rules t Second d run g.0.play (true_.0.second same) (right.0.second same);
    },
    proved-all rules t claims p ds run g.1 true_.1 right.1,
  )

  not-out-by-claim : (t : Truth) (claims : List (Option Settled)) (p : ℕ) → HasTrueClaimSoFar t claims p → is_out_by_claim (slice_get claims (p - 1)) ≡ false
  not-out-by-claim t claims p (inl e) = rw e refl
  not-out-by-claim t claims p (inr e) = rw e refl

  stays-from : (rules : Rules) (t : Truth) (p : ℕ) (r : Record) → 0 < p → IsRun rules t → IsKept rules t p r → HasTrueClaimSoFar t r.claims p → AllTrueIn rules t p r.disputes → is_out_in r.disputes p ≡ false → AllRightIn t p r.disputes → Stays rules t p r
  stays-from rules t p r some run k so_far true_ out right = record {
    is_live = rw (not-out-by-claim t r.claims p so_far, out) refl;
    is_listed = λ claim. live-contains t p r some claim out;
    not_out = out;
    right = right;
    proved = proved-all rules t r.claims p r.disputes run k.good true_ right;
  }

  stays-none : (rules : Rules) (t : Truth) (p : ℕ) (r : Record) → 0 < p → IsRun rules t → IsKept rules t p r → HasTrueClaimSoFar t r.claims p → AllTrueIn rules t p r.disputes → r.disputes ≡ [] → Stays rules t p r
  stays-none rules t p r some run k so_far true_ e = stays-from rules t p r some run k so_far true_ (rw e refl) (rw e tt)

  pub settled_stay : (rules : Rules) (t : Truth) (es : List (ℕ × Settled)) (p : ℕ) → ArePlayable rules → IsFair rules.ruling → IsRun rules t → 0 < p →
      AllFit rules es (nothing_settled rules) → AreTrue rules t p (after rules es (nothing_settled rules)) → Stays rules t p (after rules es (nothing_settled rules))
  settled_stay rules t es p playable fair run numbered fit true_ =
      let more : 1 < rules.setup.fan = playable.parted in
      let long : 0 < rules.setup.bound = playable.steps in
      let k : IsKept rules t p (after rules es (nothing_settled rules)) = kept-start rules t p es more long fair run fit in
      elim true_.claim [
        | inl missing ↦ stays-none rules t p (after rules es (nothing_settled rules)) numbered run k true_.claim true_.disputes (k.begun (missing-there (after rules es (nothing_settled rules)).claims (p - 1) (ap claim_missing missing)))
        | inr claim ↦
            let s : (_ ≡ false) × AllRightIn t p (after rules es (nothing_settled rules)).disputes =
            stays-all rules t (after rules es (nothing_settled rules)).claims p (after rules es (nothing_settled rules)).disputes claim k.good true_.disputes in
            stays-from rules t p (after rules es (nothing_settled rules)) numbered run k true_.claim true_.disputes s.0 s.1
      ]

  -- once nothing is open, the claim is there
  pub claim-there : (t : Truth) (p : ℕ) (r : Record) → is_complete r ≡ true → HasTrueClaimSoFar t r.claims p → HasTrueClaim t r.claims p
  claim-there t p r c (inr claim) = claim
  claim-there t p r c (inl missing) =
      let part : all_there r.claims ≡ false = missing-there r.claims (p - 1) (ap claim_missing missing) in
      let whole : all_there r.claims ≡ true = (and_parts _ _ c).0 in
      absurd (cc)
