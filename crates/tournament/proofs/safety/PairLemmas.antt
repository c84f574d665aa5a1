-- The sides of a dispute gave claims of two roots.
use Rattle.std.proofs.Common.{◌≡◌, ◌≢◌, ℕ, ◌+◌, ◌-◌, Bool, true, false, ◌==◌, if◌then◌else◌, List, [], ◌∷◌, ◌++◌, length, slice_get, slice_set, inl, inr, Option, Some, refl, sym, ◌∙◌, ap, arith, subst}
use Rattle.std.proofs.lemmas.Bool.{cases_Bool, and_parts}
use Rattle.rd_base.specs.declared.claim.Claim.{Claim}
use Rattle.bisect_game.specs.declared.settled.Settled.{Settled}
use Rattle.bisect_game.specs.declared.settled.Side.{Side}
use Rattle.bisect_game.specs.declared.settled.Side.TheVariants.{First, Second}
use Rattle.bisect_game.specs.Bisection.{Bisection, asks, settle_first, settle_second, settle_side}
use Rattle.bisect_game.specs.Disputes.{dispute_of}
use Rattle.bisect_game.specs.Held.{settled_one_by_one, EachIsAsked}
use Rattle.bisect_game.specs.Rules.{Rules}
use Rattle.bisect_game.specs.Ruling.{Ruling}
use Rattle.bisect_game.specs.Truth.{Truth}
use Rattle.tournament.specs.Bracket.{Record, live, pairs, last_stage, disputes_of, all_there, is_stage_due, stage_opened, nothing_settled, asks_first, asks_second, claim_missing, settled_in, put, settle}
use Rattle.tournament.specs.Collisions.{HasGiven}
use Rattle.tournament.specs.Posting.{Post, record_after}
use Rattle.tournament.specs.Settling.{after}
use Rattle.tournament.specs.Theorem.{HasTrueClaimSoFar}
use Rattle.tournament.specs.Survivors.{AllOfTwoRoots, SidesHaveTwoRoots, NoneBetween, OneRootNeverMeets, TruthfulNeverMeet}
use Rattle.tournament.proofs.OpenedLemmas.{opened-not, opened-due}
use Rattle.tournament.proofs.SidesLemmas.{SameSides, sides-first, sides-second}
use Rattle.tournament.proofs.PostLemmas.{posts_settle}
use Rattle.tournament.proofs.safety.MatchLemmas.{AllPaired, pairs-right, live-right, missing-there}
use Rattle.bisect_game.specs.Laws.{BisectionLaws}

-- EACH DISPUTE is that of two claims of two roots, after answers of its sides

pub record IsOneByOne (rules : Rules) (r : Record) (d : Bisection) : Type 0 where
  pub p : ℕ
  pub q : ℕ
  pub is_first : d.first ≡ p
  pub is_second : d.second ≡ q
  pub first : Claim
  pub second : Claim
  pub by_first : HasGiven r.claims p first
  pub by_second : HasGiven r.claims q second
  pub differ : rules.ruling.root_of first ≢ rules.ruling.root_of second
  pub stage : ℕ
  pub number : ℕ
  pub answers : List (Side × Settled)
  pub asked : EachIsAsked rules.ruling answers (dispute_of rules.setup stage number (record { prover = p; root = rules.ruling.root_of first }) (record { prover = q; root = rules.ruling.root_of second }))
  pub after_ : d ≡ settled_one_by_one rules.ruling answers (dispute_of rules.setup stage number (record { prover = p; root = rules.ruling.root_of first }) (record { prover = q; root = rules.ruling.root_of second }))

abbrev pub AllOneByOne : Rules → Record → List Bisection → Type 0
AllOneByOne rules r [] = Unit {0}
AllOneByOne rules r (d ∷ ds) = IsOneByOne rules r d × AllOneByOne rules r ds

one-more : (ruling : Ruling) (xs : List (Side × Settled)) (x : Side × Settled) (d : Bisection) → settled_one_by_one ruling (xs ++ x ∷ []) d ≡ settle_side ruling x.0 x.1 (settled_one_by_one ruling xs d)
one-more ruling [] x d = refl
one-more ruling (y ∷ xs) x d = one-more ruling xs x (settle_side ruling y.0 y.1 d)

asked-more : (ruling : Ruling) (xs : List (Side × Settled)) (x : Side × Settled) (d : Bisection) → EachIsAsked ruling xs d → asks x.0 (settled_one_by_one ruling xs d) ≡ true → EachIsAsked ruling (xs ++ x ∷ []) d
asked-more ruling [] x d each last = (last, tt)
asked-more ruling (y ∷ xs) x d each last = (each.0, asked-more ruling xs x (settle_side ruling y.0 y.1 d) each.1 last)

one-side : (rules : Rules) (r : Record) (by : Side) (s : Settled) (d : Bisection) → SameSides d (settle_side rules.ruling by s d) → asks by d ≡ true → IsOneByOne rules r d → IsOneByOne rules r (settle_side rules.ruling by s d)
one-side rules r by s d k asked o =
    let begun : Bisection = dispute_of rules.setup o.stage o.number (record { prover = o.p; root = rules.ruling.root_of o.first }) (record { prover = o.q; root = rules.ruling.root_of o.second }) in
    record {
      p = o.p;
      q = o.q;
      is_first = k.first ∙ o.is_first;
      is_second = k.second ∙ o.is_second;
      first = o.first;
      second = o.second;
      by_first = o.by_first;
      by_second = o.by_second;
      differ = o.differ;
      stage = o.stage;
      number = o.number;
      answers = o.answers ++ (by, s) ∷ [];
      asked = asked-more rules.ruling o.answers (by, s) begun o.asked (subst (λ (e : Bisection). asks by e ≡ true) o.after_ asked);
      after_ = ap (settle_side rules.ruling by s) o.after_ ∙ sym (one-more rules.ruling o.answers (by, s) begun);
    }

-- only the claims of a record count
one-claims : (rules : Rules) (r u : Record) (ds : List Bisection) → u.claims ≡ r.claims → AllOneByOne rules r ds → AllOneByOne rules u ds
one-claims rules r u [] same a = tt
one-claims rules r u (d ∷ ds) same a = (
  record {
    p = a.0.p;
    q = a.0.q;
    is_first = a.0.is_first;
    is_second = a.0.is_second;
    first = a.0.first;
    second = a.0.second;
    by_first = ap (λ (ss : List (Option Settled)). slice_get ss (a.0.p - 1)) same ∙ a.0.by_first;
    by_second = ap (λ (ss : List (Option Settled)). slice_get ss (a.0.q - 1)) same ∙ a.0.by_second;
    differ = a.0.differ;
    stage = a.0.stage;
    number = a.0.number;
    answers = a.0.answers;
    asked = a.0.asked;
    after_ = a.0.after_;
  },
  one-claims rules r u ds same a.1,
)

one-both : (rules : Rules) (r : Record) (ds es : List Bisection) → AllOneByOne rules r ds → AllOneByOne rules r es → AllOneByOne rules r (ds ++ es)
one-both rules r [] es a b = b
one-both rules r (d ∷ ds) es a b = (a.0, one-both rules r ds es a.1 b)

one-new : (rules : Rules) (g n : ℕ) (r : Record) (ps : List ((ℕ × Claim) × (ℕ × Claim))) → AllPaired rules.ruling r.claims ps → AllOneByOne rules r (disputes_of rules g n ps)
one-new rules g n r [] h = tt
one-new rules g n r (x ∷ ps) h = (
  record {
    p = x.0.0;
    q = x.1.0;
    is_first = refl;
    is_second = refl;
    first = x.0.1;
    second = x.1.1;
    by_first = h.0.first.is;
    by_second = h.0.second.is;
    differ = h.0.differ;
    stage = g;
    number = n;
    answers = [];
    asked = tt;
    after_ = refl;
  },
  one-new rules g (n + 1) r ps h.1,
)

one-choice : (rules : Rules) (r : Record) (who : ℕ) (s : Settled) (d : Bisection) (ds : List Bisection) (x y : Bool) → asks_first who d ≡ x → asks_second who d ≡ y →
    AllOneByOne rules r (d ∷ ds) → AllOneByOne rules r (settled_in rules who s ds) →
    AllOneByOne rules r (if x then settle_first rules.ruling s d ∷ ds else if y then settle_second rules.ruling s d ∷ ds else d ∷ settled_in rules who s ds)
one-choice rules r who s d ds true y ex ey a rest = (one-side rules r First s d (sides-first rules.ruling s d) (and_parts (d.first == who) (asks First d) ex).1 a.0, a.1)
one-choice rules r who s d ds false true ex ey a rest = (one-side rules r Second s d (sides-second rules.ruling s d) (and_parts (d.second == who) (asks Second d) ey).1 a.0, a.1)
one-choice rules r who s d ds false false ex ey a rest = (a.0, rest)

one-settled : (rules : Rules) (r : Record) (who : ℕ) (s : Settled) (ds : List Bisection) → AllOneByOne rules r ds → AllOneByOne rules r (settled_in rules who s ds)
one-settled rules r who s [] a = tt
one-settled rules r who s (d ∷ ds) a = one-choice rules r who s d ds (asks_first who d) (asks_second who d) refl refl a (one-settled rules r who s ds a.1)

-- so its sides gave claims of two roots
all-two-roots : (rules : Rules) (r : Record) (ds : List Bisection) → AllOneByOne rules r ds → AllOfTwoRoots rules.ruling r ds
all-two-roots rules r [] a = tt
all-two-roots rules r (d ∷ ds) a = (
  record { first = a.0.first; second = a.0.second; by_first = rw a.0.is_first a.0.by_first; by_second = rw a.0.is_second a.0.by_second; differ = a.0.differ },
  all-two-roots rules r ds a.1,
)

-- THE RECORD of what posts settled

record IsKept (rules : Rules) (r : Record) : Type 0 where
  ones : AllOneByOne rules r r.disputes
  begun : all_there r.claims ≡ false → r.disputes ≡ []

module _ (laws : BisectionLaws) where
  kept-put : (rules : Rules) (who : ℕ) (s : Settled) (r : Record) (b : Bool) → claim_missing (slice_get r.claims (who - 1)) ≡ b → IsKept rules r →
      IsKept rules (if b then record r { claims = slice_set r.claims (who - 1) (Some s) } else record r { disputes = settled_in rules who s r.disputes })
  kept-put rules who s r true e k =
      let none : r.disputes ≡ [] = k.begun ((missing-there laws) r.claims (who - 1) e) in
      record { ones = rw none tt; begun = λ _. none }
  kept-put rules who s r false e k =
      record {
        ones = one-claims rules r (record r { disputes = settled_in rules who s r.disputes }) (settled_in rules who s r.disputes) refl (one-settled rules r who s r.disputes k.ones);
        begun = λ (missing : all_there r.claims ≡ false). rw (k.begun missing) refl;
      }

  kept-opened : (rules : Rules) (r : Record) → IsKept rules r → IsKept rules (stage_opened rules r)
  kept-opened rules r k =
      elim (cases_Bool (is_stage_due rules r)) [
        | inl due ↦
            let there : all_there r.claims ≡ true = (and_parts _ _ due).0 in
            let ds : List Bisection = disputes_of rules (last_stage r.disputes + 1) (length r.disputes + 1) (pairs rules r) in
            let all : AllOneByOne rules r (r.disputes ++ ds) =
            one-both rules r r.disputes ds k.ones (one-new rules (last_stage r.disputes + 1) (length r.disputes + 1) r (pairs rules r) ((pairs-right laws) rules.ruling r.claims rules.setup.provers (live r) ((live-right laws) r.claims r.disputes 0 r.claims (λ i. ap (slice_get r.claims) (omega arith))))) in
            rw (opened-due rules r due) (record {
              ones = one-claims rules r (record r { disputes = r.disputes ++ ds }) (r.disputes ++ ds) refl all;
              begun = λ (missing : all_there r.claims ≡ false). cc;
            })
        | inr not_due ↦ rw (opened-not rules r not_due) k
      ]

  kept-after : (rules : Rules) (es : List (ℕ × Settled)) (r : Record) → IsKept rules r → IsKept rules (after rules es r)
  unfolding settle
  kept-after rules [] r k = k
  kept-after rules (e ∷ es) r k =
      kept-after rules es (settle rules e.0 e.1 r) (kept-opened rules (put rules e.0 e.1 r) (kept-put rules e.0 e.1 r (claim_missing (slice_get r.claims (e.0 - 1))) refl k))

  -- each dispute of a match is so
  pub all-one-by-one : (rules : Rules) (xs : List Post) → AllOneByOne rules (record_after rules xs) (record_after rules xs).disputes
  all-one-by-one rules xs =
      let s = posts_settle rules xs in
      let k : IsKept rules (record_after rules xs) = subst (IsKept rules) s.2 (kept-after rules s.0 (nothing_settled rules) (record { ones = tt; begun = λ _. refl })) in
      k.ones

  pub sides-have-two-roots : SidesHaveTwoRoots
  sides-have-two-roots rules xs = all-two-roots rules (record_after rules xs) (record_after rules xs).disputes (all-one-by-one rules xs)

  -- a prover gave one claim
  one-claim : (r : Record) (p : ℕ) (c d : Claim) → HasGiven r.claims p c → HasGiven r.claims p d → c ≡ d
  one-claim r p c d g h = cc

  none-of-one-root : (ruling : Ruling) (r : Record) (p q : ℕ) (c e : Claim) (ds : List Bisection) → HasGiven r.claims p c → HasGiven r.claims q e → ruling.root_of c ≡ ruling.root_of e → AllOfTwoRoots ruling r ds → NoneBetween p q ds
  none-of-one-root ruling r p q c e [] gp gq same a = tt
  none-of-one-root ruling r p q c e (d ∷ ds) gp gq same a = (
    λ first second.
        let one : a.0.first ≡ c = one-claim r p a.0.first c (rw first at a.0.by_first) gp in
        let other : a.0.second ≡ e = one-claim r q a.0.second e (rw second at a.0.by_second) gq in
        a.0.differ (ap ruling.root_of one ∙ same ∙ sym (ap ruling.root_of other)),
    none-of-one-root ruling r p q c e ds gp gq same a.1,
  )

  pub one-root-never-meets : OneRootNeverMeets
  one-root-never-meets rules xs p q c e gp gq same =
      none-of-one-root rules.ruling (record_after rules xs) p q c e (record_after rules xs).disputes gp gq same (sides-have-two-roots rules xs)

  -- a claim that is true, or not settled yet
  pub true-given : (t : Truth) (r : Record) (p : ℕ) (c : Claim) → HasTrueClaimSoFar t r.claims p → HasGiven r.claims p c → c ≡ t.claim
  true-given t r p c (inl none) g = absurd (cc)
  true-given t r p c (inr true_) g = cc

  none-between : (ruling : Ruling) (t : Truth) (r : Record) (p q : ℕ) (ds : List Bisection) → HasTrueClaimSoFar t r.claims p → HasTrueClaimSoFar t r.claims q → AllOfTwoRoots ruling r ds → NoneBetween p q ds
  none-between ruling t r p q [] tp tq a = tt
  none-between ruling t r p q (d ∷ ds) tp tq a = (
    λ first second.
        let one : a.0.first ≡ t.claim = true-given t r p a.0.first tp (rw first at a.0.by_first) in
        let other : a.0.second ≡ t.claim = true-given t r q a.0.second tq (rw second at a.0.by_second) in
        a.0.differ (ap ruling.root_of (one ∙ sym other)),
    none-between ruling t r p q ds tp tq a.1,
  )

  pub truthful-never-meet : TruthfulNeverMeet
  truthful-never-meet rules t xs p q tp tq = none-between rules.ruling t (record_after rules xs) p q (record_after rules xs).disputes tp tq (sides-have-two-roots rules xs)
