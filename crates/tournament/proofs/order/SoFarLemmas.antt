-- A record of a match is the bracket over the answers that it holds.
use Rattle.std.proofs.Common.{◌≡◌, ◌≢◌, ℕ, zero, suc, ◌+◌, ◌-◌, ◌<◌, ◌≤◌, Bool, true, false, ◌||◌, ◌==◌, if◌then◌else◌, List, [], ◌∷◌, ◌++◌, length, map, slice_get, slice_set, inl, inr, Option, Some, None, refl, sym, ◌∙◌, ap, arith}
use Rattle.std.proofs.lemmas.Bool.Decides.{nat_tests}
use Rattle.std.proofs.lemmas.Bool.{cases_Bool}
use Rattle.rd_base.specs.declared.answer.Answer.TheVariants as answer
use Rattle.rd_base.specs.declared.answer.Qid.{Qid}
use Rattle.rd_base.specs.declared.claim.Claim.{Claim}
use Rattle.bisect_game.specs.declared.settled.Question.{Question}
use Rattle.bisect_game.specs.declared.settled.Settled.{Settled}
use Rattle.bisect_game.specs.declared.settled.Settled.TheVariants.{Given}
use Rattle.bisect_game.specs.declared.settled.Side.TheVariants.{First, Second}
use Rattle.bisect_game.specs.Bisection.{Bisection, question_of, settle_first, settle_second}
use Rattle.bisect_game.specs.Disputes.{Answers, played}
use Rattle.std.specs.Option.{option_or}
use Rattle.bisect_game.specs.Held.{settled_after_rounds, settled_in_round}
use Rattle.bisect_game.specs.OverAnswers.{HoldsOn}
use Rattle.bisect_game.specs.Laws.{BisectionLaws}
use Rattle.bisect_game.specs.Rules.{Rules, ArePlayable}
use Rattle.bisect_game.specs.Ruling.{Ruling}
use Rattle.tournament.specs.Bracket.{Record, live, pairs, last_stage, disputes_of, is_stage_due, stage_opened, claims_over, carried, stage_over, nothing_settled, asks_first, asks_second, question_in, claim_missing, open_question, settled_in, put, settle, bracket}
use Rattle.bisect_game.specs.Rules.{claim_question}
use Rattle.tournament.specs.Settling.{after, Fits}
use Rattle.tournament.specs.Posting.{record_after}
use Rattle.tournament.specs.Fitting.{AllFit}
use Rattle.tournament.specs.SoFar.{settled_among, claim_at, answers_in, RecordIsBracket}
use Rattle.tournament.proofs.order.AskedLemmas.{Numbered, numbered-settle}
use Rattle.tournament.proofs.order.BracketLemmas.{bracket-is}
use Rattle.tournament.proofs.length.CountLemmas.{few_disputes}
use Rattle.tournament.proofs.safety.MatchLemmas.{ArePaired, AllPaired, pairs-right, live-right}
use Rattle.tournament.specs.OpenDisputes.{AllApart, OpenDisputesShareNoProver, SidesAreTwoProvers}
use Rattle.tournament.proofs.OnceLemmas.{IsApart, IsOpen, apart-nothing, opens, not-eqb, is-eqb}
use Rattle.tournament.proofs.OpenedLemmas.{opened-not, opened-due}
use Rattle.tournament.proofs.length.OverLemmas.{AllMove, apart-after, moves-after}
use Rattle.tournament.proofs.PostLemmas.{IsSettled, settled-begun}
use Rattle.tournament.proofs.ReachLemmas.{reach_back}
use Rattle.tournament.proofs.SidesLemmas.{SameSides, sides-first, sides-second}
use Rattle.tournament.proofs.StageLemmas.{IsPlayed, Ends, played-settle, played-nothing, steps-settle}

abbrev pub AllHold : List Bisection → List Bisection → Type 0
AllHold [] es = Unit {0}
AllHold (d ∷ ds) [] = ⊥
AllHold (d ∷ ds) (e ∷ es) = HoldsOn d e × AllHold ds es

pub record Holds (t u : Record) : Type 0 where
  pub claims : (k : ℕ) (s : Settled) → claim_at (slice_get t.claims k) ≡ Some s → claim_at (slice_get u.claims k) ≡ Some s
  pub disputes : AllHold t.disputes u.disputes

-- each side's answer, by these answers, is what is settled of the last round
abbrev AllOwn : Answers → List Bisection → Type 0
AllOwn f [] = Unit {0}
AllOwn f (d ∷ ds) = (f d.first (question_of d) ≡ d.by_first) × (f d.second (question_of d) ≡ d.by_second) × AllOwn f ds

-- what every record of a match keeps
pub record IsApartIn (rules : Rules) (t : Record) : Type 0 where
  pub apart : AllApart t.disputes
  pub numbered : Numbered 1 t.disputes
  pub played : IsPlayed rules t

module _ (laws : BisectionLaws) where
  -- disputes and records

  all-same : (ds : List Bisection) → AllHold ds ds
  all-same [] = tt
  all-same (d ∷ ds) = (laws.held.same d, all-same ds)

  all-append : (ds es : List Bisection) → AllHold ds (ds ++ es)
  all-append [] es = tt
  all-append (d ∷ ds) es = (laws.held.same d, all-append ds es)

  all-further : (cs ds es : List Bisection) → AllHold cs ds → AllHold ds es → AllHold cs es
  all-further [] ds es g h = tt
  all-further (c ∷ cs) [] es g h = absurd g
  all-further (c ∷ cs) (d ∷ ds) [] g h = absurd h
  all-further (c ∷ cs) (d ∷ ds) (e ∷ es) g h = (laws.held.further c d e g.0 h.0, all-further cs ds es g.1 h.1)

  hold-choice : (rules : Rules) (p : ℕ) (s : Settled) (d : Bisection) (ds : List Bisection) (x y : Bool) → asks_first p d ≡ x → asks_second p d ≡ y → AllHold ds (settled_in rules p s ds) →
      AllHold (d ∷ ds) (if x then settle_first rules.ruling s d ∷ ds else if y then settle_second rules.ruling s d ∷ ds else d ∷ settled_in rules p s ds)
  hold-choice rules p s d ds true y ex ey r =
      let a : ((d.first == p) ≡ true) × IsOpen d.by_first d.close = opens (d.first == p) d.by_first d.close ex in
      (laws.held.stays rules.ruling First s d a.1.missing, all-same ds)
  hold-choice rules p s d ds false true ex ey r =
      let a : ((d.second == p) ≡ true) × IsOpen d.by_second d.close = opens (d.second == p) d.by_second d.close ey in
      (laws.held.stays rules.ruling Second s d a.1.missing, all-same ds)
  hold-choice rules p s d ds false false ex ey r = (laws.held.same d, r)

  hold-settled : (rules : Rules) (p : ℕ) (s : Settled) (ds : List Bisection) → AllHold ds (settled_in rules p s ds)
  hold-settled rules p s [] = tt
  hold-settled rules p s (d ∷ ds) = hold-choice rules p s d ds (asks_first p d) (asks_second p d) refl refl (hold-settled rules p s ds)

  hold-claim : (ss : List (Option Settled)) (k j : ℕ) (x s : Settled) → claim_missing (slice_get ss k) ≡ true → claim_at (slice_get ss j) ≡ Some s → claim_at (slice_get (slice_set ss k (Some x)) j) ≡ Some s
  hold-claim [] k j x s missing e = absurd (cc)
  hold-claim (None ∷ ss) zero zero x s missing e = absurd (cc)
  hold-claim (Some y ∷ ss) zero zero x s missing e = absurd (cc)
  hold-claim (o ∷ ss) zero (suc j) x s missing e = e
  hold-claim (o ∷ ss) (suc k) zero x s missing e = e
  hold-claim (o ∷ ss) (suc k) (suc j) x s missing e = hold-claim ss k j x s missing e

  holds-put : (rules : Rules) (p : ℕ) (s : Settled) (t : Record) (b : Bool) → claim_missing (slice_get t.claims (p - 1)) ≡ b →
      Holds t (if b then record t { claims = slice_set t.claims (p - 1) (Some s) } else record t { disputes = settled_in rules p s t.disputes })
  holds-put rules p s t true e = record { claims = λ k x is. hold-claim t.claims (p - 1) k s x e is; disputes = all-same t.disputes }
  holds-put rules p s t false e = record { claims = λ k x is. is; disputes = hold-settled rules p s t.disputes }

  holds-opened : (rules : Rules) (t : Record) → Holds t (stage_opened rules t)
  holds-opened rules t =
      elim (cases_Bool (is_stage_due rules t)) [
        | inl due ↦ rw (opened-due rules t due) (record { claims = λ k s e. e; disputes = all-append t.disputes _ })
        | inr not_due ↦ rw (opened-not rules t not_due) (record { claims = λ k s e. e; disputes = all-same t.disputes })
      ]

  holds-further : (t u v : Record) → Holds t u → Holds u v → Holds t v
  holds-further t u v g h = record { claims = λ k s e. h.claims k s (g.claims k s e); disputes = all-further t.disputes u.disputes v.disputes g.disputes h.disputes }

  holds-settle : (rules : Rules) (p : ℕ) (s : Settled) (t : Record) → Holds t (settle rules p s t)
  unfolding settle
  holds-settle rules p s t = holds-further t (put rules p s t) _ (holds-put rules p s t (claim_missing (slice_get t.claims (p - 1))) refl) (holds-opened rules (put rules p s t))

  pub holds-after : (rules : Rules) (es : List (ℕ × Settled)) (t : Record) → Holds t (after rules es t)
  holds-after rules [] t = record { claims = λ k s e. e; disputes = all-same t.disputes }
  holds-after rules (e ∷ es) t = holds-further t (settle rules e.0 e.1 t) _ (holds-settle rules e.0 e.1 t) (holds-after rules es (settle rules e.0 e.1 t))

  -- so a record has the answers that an earlier one had

  side-held : (d e : Bisection) (z x y : Bool) (k : ℕ) (s : Settled) → HoldsOn d e →
      (if z then None else if x then settled_after_rounds First d.past d.by_first k else if y then settled_after_rounds Second d.past d.by_second k else None) ≡ Some s →
      (if z then None else if x then settled_after_rounds First e.past e.by_first k else if y then settled_after_rounds Second e.past e.by_second k else None) ≡ Some s
  side-held d e true x y k s h is = absurd (cc)
  side-held d e false true y k s h is = h.keeps First k s is
  side-held d e false false true k s h is = h.keeps Second k s is
  side-held d e false false false k s h is = absurd (cc)

  number-held : (p : ℕ) (qid : Qid) (d e : Bisection) (ds es : List Bisection) (b : Bool) (s : Settled) → HoldsOn d e →
      (if b then settled_in_round p qid.round d else settled_among p qid ds) ≡ Some s → (settled_among p qid ds ≡ Some s → settled_among p qid es ≡ Some s) →
      (if b then settled_in_round p qid.round e else settled_among p qid es) ≡ Some s
  number-held p qid d e ds es true s h is rest = rw (h.first, h.second) (side-held d e (qid.round == 0) (d.first == p) (d.second == p) (qid.round - 1) s h is)
  number-held p qid d e ds es false s h is rest = rest is

  among-held : (p : ℕ) (qid : Qid) (ds es : List Bisection) (s : Settled) → AllHold ds es → settled_among p qid ds ≡ Some s → settled_among p qid es ≡ Some s
  among-held p qid [] es s h is = absurd (cc)
  among-held p qid (d ∷ ds) [] s h is = absurd h
  among-held p qid (d ∷ ds) (e ∷ es) s h is =
      let g : HoldsOn d e = h.0 in
      rw g.number (number-held p qid d e ds es (d.number == qid.dispute) s g is (λ further. among-held p qid ds es s h.1 further))

  held-by : (t u : Record) (p : ℕ) (q : Question) (s : Settled) (b : Bool) → Holds t u →
      (if b then claim_at (slice_get t.claims (p - 1)) else settled_among p q.qid t.disputes) ≡ Some s → (if b then claim_at (slice_get u.claims (p - 1)) else settled_among p q.qid u.disputes) ≡ Some s
  held-by t u p q s true h e = h.claims (p - 1) s e
  held-by t u p q s false h e = among-held p q.qid t.disputes u.disputes s h.disputes e

  pub held : (t u : Record) (p : ℕ) (q : Question) (s : Settled) → Holds t u → answers_in t p q ≡ Some s → answers_in u p q ≡ Some s
  held t u p q s h e = held-by t u p q s (q.qid.dispute == 0) h e

  -- what was just settled is what the record holds of its question

  eqb-same : (n : ℕ) → (n == n) ≡ true
  eqb-same n = grind (arith, nat_tests)

  -- the round of an open question is at least 1
  not-first-0 : (n : ℕ) → (n + 1 == 0) ≡ false
  not-first-0 n = grind (arith, nat_tests)

  claim-set : (ss : List (Option Settled)) (k : ℕ) (s : Settled) → claim_missing (slice_get ss k) ≡ true → claim_at (slice_get (slice_set ss k (Some s)) k) ≡ Some s
  claim-set [] k s e = absurd (cc)
  claim-set (o ∷ ss) zero s e = refl
  claim-set (o ∷ ss) (suc k) s e = claim-set ss k s e

  -- from this number on, and held
  record IsFound (p n : ℕ) (q : Question) (s : Settled) (ds : List Bisection) : Type 0 where
    from : n ≤ q.qid.dispute
    is : settled_among p q.qid ds ≡ Some s

  first-found : (ruling : Ruling) (p : ℕ) (s : Settled) (d : Bisection) (ds : List Bisection) → (d.first == p) ≡ true → d.by_first ≡ None →
      settled_among p (question_of d).qid (settle_first ruling s d ∷ ds) ≡ Some s
  first-found ruling p s d ds mine none =
      let h : HoldsOn d (settle_first ruling s d) = laws.held.stays ruling First s d none in
      let n : length d.past + 1 - 1 ≡ length d.past = omega arith in
      rw (h.number, eqb-same d.number, not-first-0 (length d.past), h.first, mine, n) (laws.held.holds ruling First s d)

  second-found : (ruling : Ruling) (p : ℕ) (s : Settled) (d : Bisection) (ds : List Bisection) → (d.first == p) ≡ false → (d.second == p) ≡ true → d.by_second ≡ None →
      settled_among p (question_of d).qid (settle_second ruling s d ∷ ds) ≡ Some s
  second-found ruling p s d ds other mine none =
      let h : HoldsOn d (settle_second ruling s d) = laws.held.stays ruling Second s d none in
      let n : length d.past + 1 - 1 ≡ length d.past = omega arith in
      rw (h.number, eqb-same d.number, not-first-0 (length d.past), h.first, other, h.second, mine, n) (laws.held.holds ruling Second s d)

  found-choice : (rules : Rules) (p n : ℕ) (s : Settled) (q : Question) (d : Bisection) (ds : List Bisection) (x y : Bool) → asks_first p d ≡ x → asks_second p d ≡ y → d.number ≡ n → d.first ≢ d.second →
      (if x || y then Some (question_of d) else question_in p ds) ≡ Some q → (question_in p ds ≡ Some q → IsFound p (n + 1) q s (settled_in rules p s ds)) →
      IsFound p n q s (if x then settle_first rules.ruling s d ∷ ds else if y then settle_second rules.ruling s d ∷ ds else d ∷ settled_in rules p s ds)
  found-choice rules p n s q d ds true y ex ey num apart e rest =
      let a : ((d.first == p) ≡ true) × IsOpen d.by_first d.close = opens (d.first == p) d.by_first d.close ex in
      let same : question_of d ≡ q = cc in
      rw (← same) (record { from = omega (arith, num); is = first-found rules.ruling p s d ds a.0 a.1.missing })
  found-choice rules p n s q d ds false true ex ey num apart e rest =
      let a : ((d.second == p) ≡ true) × IsOpen d.by_second d.close = opens (d.second == p) d.by_second d.close ey in
      let same : question_of d ≡ q = cc in
      let other : (d.first == p) ≡ false = not-eqb d.first p (λ z. apart (z ∙ sym (is-eqb d.second p a.0))) in
      rw (← same) (record { from = omega (arith, num); is = second-found rules.ruling p s d ds other a.0 a.1.missing })
  found-choice rules p n s q d ds false false ex ey num apart e rest =
      let i : IsFound p (n + 1) q s (settled_in rules p s ds) = rest e in
      let other : (d.number == q.qid.dispute) ≡ false = not-eqb d.number q.qid.dispute (λ z. omega (arith, i.from, num)) in
      record { from = omega (arith, i.from); is = rw other i.is }

  found : (rules : Rules) (p n : ℕ) (s : Settled) (q : Question) (ds : List Bisection) → Numbered n ds → AllApart ds → question_in p ds ≡ Some q → IsFound p n q s (settled_in rules p s ds)
  found rules p n s q [] num apart e = absurd (cc)
  found rules p n s q (d ∷ ds) num apart e =
      found-choice rules p n s q d ds (asks_first p d) (asks_second p d) refl refl num.0 apart.0 e (λ further. found rules p (n + 1) s q ds num.1 apart.1 further)

  answer-put : (rules : Rules) (p : ℕ) (s : Settled) (q : Question) (t : Record) (b : Bool) → claim_missing (slice_get t.claims (p - 1)) ≡ b → Numbered 1 t.disputes → AllApart t.disputes →
      (if b then Some claim_question else question_in p t.disputes) ≡ Some q →
      answers_in (if b then record t { claims = slice_set t.claims (p - 1) (Some s) } else record t { disputes = settled_in rules p s t.disputes }) p q ≡ Some s
  answer-put rules p s q t true missing num apart e =
      let same : claim_question ≡ q = cc in
      rw (← same) (claim-set t.claims (p - 1) s missing)
  answer-put rules p s q t false missing num apart e =
      let i : IsFound p 1 q s (settled_in rules p s t.disputes) = found rules p 1 s q t.disputes num apart e in
      let no_claim : (q.qid.dispute == 0) ≡ false = not-eqb q.qid.dispute 0 (λ z. omega (arith, i.from)) in
      rw no_claim i.is

  pub answer-settled : (rules : Rules) (p : ℕ) (s : Settled) (q : Question) (t : Record) → Numbered 1 t.disputes → AllApart t.disputes → open_question rules t p ≡ Some q → answers_in (settle rules p s t) p q ≡ Some s
  unfolding settle
  answer-settled rules p s q t num apart e =
      held (put rules p s t) (stage_opened rules (put rules p s t)) p q s (holds-opened rules (put rules p s t))
      (answer-put rules p s q t (claim_missing (slice_get t.claims (p - 1))) refl num apart e)

  -- over its own answers a record stays

  or-same : (o : Option Settled) → option_or o o ≡ o
  or-same (Some s) = refl
  or-same None = refl

  played-same : (rules : Rules) (f : Answers) (ds : List Bisection) → AllMove ds → AllOwn f ds → map (played rules f) ds ≡ ds
  played-same rules f [] m own = refl
  played-same rules f (d ∷ ds) m own =
      rw (laws.played.own rules f d m.0 own.0 own.1, played-same rules f ds m.1 own.2) refl

  claims-own : (f : Answers) (k : ℕ) (ss : List (Option Settled)) → ((i : ℕ) → f (k + i) claim_question ≡ claim_at (slice_get ss i)) → claims_over f k ss ≡ ss
  claims-own f k [] h = refl
  claims-own f k (o ∷ ss) h =
      let here : f k claim_question ≡ o = ap (λ (n : ℕ). f n claim_question) (omega arith) ∙ h 0 in
      let rest : claims_over f (k + 1) ss ≡ ss = claims-own f (k + 1) ss (λ i. ap (λ (n : ℕ). f n claim_question) (omega arith) ∙ h (suc i)) in
      rw (here, rest) (ap (λ (x : Option Settled). x ∷ ss) (or-same o))

  abbrev among : List Bisection → Answers
  among ds p q = settled_among p q.qid ds

  own-here : (d : Bisection) (ds : List Bisection) → d.first ≢ d.second → (among (d ∷ ds) d.first (question_of d) ≡ d.by_first) × (among (d ∷ ds) d.second (question_of d) ≡ d.by_second)
  own-here d ds apart =
      let n : length d.past + 1 - 1 ≡ length d.past = omega arith in
      let far : (d.first == d.second) ≡ false = not-eqb d.first d.second apart in (
        rw (eqb-same d.number, not-first-0 (length d.past), eqb-same d.first, n) (laws.held.last First d.past d.by_first),
        rw (eqb-same d.number, not-first-0 (length d.past), far, eqb-same d.second, n) (laws.held.last Second d.past d.by_second),
      )

  own-skip : (n m : ℕ) (d : Bisection) (ds es : List Bisection) → d.number ≡ n → n < m → Numbered m es → AllOwn (among ds) es → AllOwn (among (d ∷ ds)) es
  own-skip n m d ds [] is lt num own = tt
  own-skip n m d ds (e ∷ es) is lt num own =
      let other : (d.number == e.number) ≡ false = not-eqb d.number e.number (λ z. omega (arith, z, is, lt, num.0)) in
      (rw other own.0, rw other own.1, own-skip n (m + 1) d ds es is (omega arith) num.1 own.2)

  own-all : (n : ℕ) (ds : List Bisection) → Numbered n ds → AllApart ds → AllOwn (among ds) ds
  own-all n [] num apart = tt
  own-all n (d ∷ ds) num apart =
      let here : (among (d ∷ ds) d.first (question_of d) ≡ d.by_first) × (among (d ∷ ds) d.second (question_of d) ≡ d.by_second) = own-here d ds apart.0 in
      (here.0, here.1, own-skip n (n + 1) d ds ds num.0 (omega arith) num.1 (own-all (n + 1) ds num.1 apart.1))

  own-record : (n : ℕ) (t : Record) (ds : List Bisection) → 0 < n → Numbered n ds → AllOwn (among t.disputes) ds → AllOwn (answers_in t) ds
  own-record n t [] some num own = tt
  own-record n t (d ∷ ds) some num own =
      let no_claim : (d.number == 0) ≡ false = not-eqb d.number 0 (λ z. omega (arith, z, num.0, some)) in
      (rw no_claim own.0, rw no_claim own.1, own-record (n + 1) t ds (omega arith) num.1 own.2)

  claim-own : (t : Record) (k : ℕ) → answers_in t (1 + k) claim_question ≡ claim_at (slice_get t.claims k)
  claim-own t k = let at : 1 + k - 1 ≡ k = omega arith in rw at refl

  carried-same : (rules : Rules) (t : Record) → Numbered 1 t.disputes → AllApart t.disputes → AllMove t.disputes → carried rules (answers_in t) t ≡ t
  unfolding carried
  carried-same rules t num apart m =
      let own : AllOwn (answers_in t) t.disputes = own-record 1 t t.disputes (omega arith) num (own-all 1 t.disputes num apart) in
      rw (claims-own (answers_in t) 1 t.claims (claim-own t), played-same rules (answers_in t) t.disputes m own) refl

  -- the sides of a pair are two provers

  paired-apart : (r : Ruling) (claims : List (Option Settled)) (x y : ℕ × Claim) → ArePaired r claims x y → x.0 ≢ y.0
  paired-apart r claims x y a same =
      let here : slice_get claims (y.0 - 1) ≡ Some (Some (Given (answer.Claim x.1))) = ap (λ (n : ℕ). slice_get claims (n - 1)) (sym same) ∙ a.first.is in
      let there : slice_get claims (y.0 - 1) ≡ Some (Some (Given (answer.Claim y.1))) = a.second.is in
      let c : x.1 ≡ y.1 = cc in
      a.differ (ap r.root_of c)

  apart-new : (rules : Rules) (g n : ℕ) (claims : List (Option Settled)) (ps : List ((ℕ × Claim) × (ℕ × Claim))) → AllPaired rules.ruling claims ps → AllApart (disputes_of rules g n ps)
  apart-new rules g n claims [] h = tt
  apart-new rules g n claims (p ∷ ps) h = (paired-apart rules.ruling claims p.0 p.1 h.0, apart-new rules g (n + 1) claims ps h.1)

  apart-both : (ds es : List Bisection) → AllApart ds → AllApart es → AllApart (ds ++ es)
  apart-both [] es a b = b
  apart-both (d ∷ ds) es a b = (a.0, apart-both ds es a.1 b)

  apart-sides : (d e : Bisection) → SameSides d e → d.first ≢ d.second → e.first ≢ e.second
  apart-sides d e k a = λ same. a (sym k.first ∙ (same ∙ k.second))

  apart-choice : (rules : Rules) (p : ℕ) (s : Settled) (d : Bisection) (ds : List Bisection) (x y : Bool) → AllApart (d ∷ ds) → AllApart (settled_in rules p s ds) →
      AllApart (if x then settle_first rules.ruling s d ∷ ds else if y then settle_second rules.ruling s d ∷ ds else d ∷ settled_in rules p s ds)
  apart-choice rules p s d ds true y a r = (apart-sides d _ (sides-first rules.ruling s d) a.0, a.1)
  apart-choice rules p s d ds false true a r = (apart-sides d _ (sides-second rules.ruling s d) a.0, a.1)
  apart-choice rules p s d ds false false a r = (a.0, r)

  apart-settled : (rules : Rules) (p : ℕ) (s : Settled) (ds : List Bisection) → AllApart ds → AllApart (settled_in rules p s ds)
  apart-settled rules p s [] a = tt
  apart-settled rules p s (d ∷ ds) a = apart-choice rules p s d ds (asks_first p d) (asks_second p d) a (apart-settled rules p s ds a.1)

  apart-put : (rules : Rules) (p : ℕ) (s : Settled) (t : Record) (b : Bool) → AllApart t.disputes →
      AllApart (if b then record t { claims = slice_set t.claims (p - 1) (Some s) } else record t { disputes = settled_in rules p s t.disputes }).disputes
  apart-put rules p s t true a = a
  apart-put rules p s t false a = apart-settled rules p s t.disputes a

  apart-opened : (rules : Rules) (t : Record) → AllApart t.disputes → AllApart (stage_opened rules t).disputes
  apart-opened rules t a =
      elim (cases_Bool (is_stage_due rules t)) [
        | inl due ↦
            rw (opened-due rules t due) (apart-both t.disputes _ a
            (apart-new rules (last_stage t.disputes + 1) (length t.disputes + 1) t.claims (pairs rules t)
            ((pairs-right laws) rules.ruling t.claims rules.setup.provers (live t) ((live-right laws) t.claims t.disputes 0 t.claims (λ i. ap (slice_get t.claims) (omega arith))))))
        | inr not_due ↦ rw (opened-not rules t not_due) a
      ]

  apart-settle : (rules : Rules) (p : ℕ) (s : Settled) (t : Record) → AllApart t.disputes → AllApart (settle rules p s t).disputes
  unfolding settle
  apart-settle rules p s t a = apart-opened rules (put rules p s t) (apart-put rules p s t (claim_missing (slice_get t.claims (p - 1))) a)

  pub kept-settle : (rules : Rules) (p : ℕ) (s : Settled) (t : Record) → 1 < rules.setup.fan → 0 < rules.setup.bound → IsApartIn rules t → IsApartIn rules (settle rules p s t)
  kept-settle rules p s t more long i = record {
    apart = apart-settle rules p s t i.apart;
    numbered = (numbered-settle laws) rules p s t i.numbered;
    played = (played-settle laws) rules p s t more long i.played;
  }

  kept-after : (rules : Rules) (es : List (ℕ × Settled)) (t : Record) → 1 < rules.setup.fan → 0 < rules.setup.bound → IsApartIn rules t → IsApartIn rules (after rules es t)
  kept-after rules [] t more long i = i
  kept-after rules (e ∷ es) t more long i = kept-after rules es (settle rules e.0 e.1 t) more long (kept-settle rules e.0 e.1 t more long i)

  -- the answers that it holds at the end are those that were settled

  fits-own : (rules : Rules) (f : Answers) (es : List (ℕ × Settled)) (t : Record) → 1 < rules.setup.fan → 0 < rules.setup.bound → IsApartIn rules t → AllFit rules es t →
      ((p : ℕ) (q : Question) (s : Settled) → answers_in (after rules es t) p q ≡ Some s → f p q ≡ Some s) → Fits rules f es t
  fits-own rules f [] t more long i fit below = tt
  fits-own rules f (e ∷ es) t more long i fit below = (
    record {
      question = fit.0.question;
      numbered = fit.0.numbered;
      asked = fit.0.asked;
      is = below e.0 fit.0.question e.1
          (held (settle rules e.0 e.1 t) (after rules es (settle rules e.0 e.1 t)) e.0 fit.0.question e.1 (holds-after rules es (settle rules e.0 e.1 t))
          (answer-settled rules e.0 e.1 fit.0.question t i.numbered i.apart fit.0.asked));
    },
    fits-own rules f es (settle rules e.0 e.1 t) more long (kept-settle rules e.0 e.1 t more long i) fit.1 below,
  )

  ends-own : (rules : Rules) (f : Answers) (es : List (ℕ × Settled)) (t : Record) → 1 < rules.setup.fan → 0 < rules.setup.bound → IsPlayed rules t →
      Fits rules f es t → stage_over rules f (after rules es t) ≡ after rules es t → Ends rules f t (after rules es t)
  ends-own rules f [] t more long i fits fixed = record { fixed = fixed; reaches = (0, refl) }
  ends-own rules f (e ∷ es) t more long i fits fixed =
      let rest : Ends rules f (settle rules e.0 e.1 t) (after rules es (settle rules e.0 e.1 t)) = ends-own rules f es (settle rules e.0 e.1 t) more long ((played-settle laws) rules e.0 e.1 t more long i) fits.1 fixed in
      record {
        fixed = rest.fixed;
        reaches = reach_back (stage_over rules f) t (settle rules e.0 e.1 t) (after rules es (settle rules e.0 e.1 t))
            ((steps-settle laws) rules f e.0 e.1 fits.0.question t fits.0.numbered more long i fits.0.asked fits.0.is) rest.fixed rest.reaches;
      }

  bracket-own : (rules : Rules) (es : List (ℕ × Settled)) → ArePlayable rules → AllFit rules es (nothing_settled rules) →
      after rules es (nothing_settled rules) ≡ bracket rules (answers_in (after rules es (nothing_settled rules)))
  bracket-own rules es playable fit =
      let some : 0 < rules.setup.provers = playable.some in
      let more : 1 < rules.setup.fan = playable.parted in
      let long : 0 < rules.setup.bound = playable.steps in
      let begun : IsApartIn rules (nothing_settled rules) = record { apart = tt; numbered = tt; played = (played-nothing laws) rules some } in
      let i : IsApartIn rules (after rules es (nothing_settled rules)) = kept-after rules es (nothing_settled rules) more long begun in
      let same : carried rules (answers_in (after rules es (nothing_settled rules))) (after rules es (nothing_settled rules)) ≡ after rules es (nothing_settled rules) =
      carried-same rules (after rules es (nothing_settled rules)) i.numbered i.apart ((moves-after laws) rules es (nothing_settled rules) tt) in
      let fits : Fits rules (answers_in (after rules es (nothing_settled rules))) es (nothing_settled rules) =
      fits-own rules (answers_in (after rules es (nothing_settled rules))) es (nothing_settled rules) more long begun fit (λ p q s e. e) in
      (bracket-is laws) rules (answers_in (after rules es (nothing_settled rules))) (after rules es (nothing_settled rules)) more long
      (ends-own rules (answers_in (after rules es (nothing_settled rules))) es (nothing_settled rules) more long begun.played fits (ap (stage_opened rules) same ∙ i.played.rests))
      (few_disputes rules es some)

  pub record_is_bracket : RecordIsBracket
  record_is_bracket rules xs playable =
      let i : IsSettled rules (record_after rules xs) = settled-begun rules xs in
      rw i.comes at (bracket-own rules i.list playable i.fit)

  pub open_disputes_share_no_prover : OpenDisputesShareNoProver
  open_disputes_share_no_prover rules xs p =
      let i : IsSettled rules (record_after rules xs) = settled-begun rules xs in
      let a : IsApart rules p (record_after rules xs) = rw i.comes at ((apart-after laws) rules p i.list (nothing_settled rules) (apart-nothing rules p)) in
      a.one

  pub sides_are_two_provers : SidesAreTwoProvers
  sides_are_two_provers rules xs playable =
      let i : IsSettled rules (record_after rules xs) = settled-begun rules xs in
      let begun : IsApartIn rules (nothing_settled rules) = record { apart = tt; numbered = tt; played = (played-nothing laws) rules playable.some } in
      let k : IsApartIn rules (record_after rules xs) = rw i.comes at (kept-after rules i.list (nothing_settled rules) playable.parted playable.steps begun) in
      k.apart
