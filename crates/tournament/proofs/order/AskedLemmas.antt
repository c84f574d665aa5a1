-- An open question is the one that the case's own match asks under its number.
use Rattle.std.proofs.Common.{◌≡◌, ◌≢◌, ℕ, zero, suc, ◌+◌, ◌-◌, ◌<◌, ◌≤◌, Bool, true, false, ◌||◌, ◌==◌, if◌then◌else◌, List, [], ◌∷◌, ◌++◌, length, map, slice_get, slice_set, ◌⊎◌, inl, inr, Option, Some, None, refl, ◌∙◌, ap, subst, arith}
use Rattle.std.proofs.lemmas.Bool.Decides.{nat_tests}
use Rattle.std.specs.Fn.{iterate}
use Rattle.std.proofs.lemmas.Bool.{cases_Bool, or_left, or_right}
use Rattle.bisect_game.specs.Ruling.{Ruling}
use Rattle.bisect_game.specs.declared.settled.Interval.{Interval}
use Rattle.bisect_game.specs.declared.settled.Round.{Round}
use Rattle.rd_base.specs.declared.answer.Qid.{Qid}
use Rattle.bisect_game.specs.declared.settled.Kind.{Kind}
use Rattle.bisect_game.specs.declared.settled.Question.{Question}
use Rattle.bisect_game.specs.declared.settled.Settled.{Settled}
use Rattle.rd_base.specs.declared.claim.Claim.{Claim}
use Rattle.bisect_game.specs.declared.settled.Close.{Close}
use Rattle.bisect_game.specs.Bisection.{Bisection, kind_over, question_of, is_closed, advanced, decided, closed_or, went_on, settle_first, settle_second}
use Rattle.bisect_game.specs.Closing.{close_of}
use Rattle.bisect_game.specs.Disputes.{Answers, filled, round_over, played}
use Rattle.bisect_game.specs.Rules.{Rules}
use Rattle.bisect_game.specs.Says.{Says}
use Rattle.tournament.proofs.order.JournalLemmas.{AreCounts, counts-begun, turned, Turned, Passed, Settles, counts-turn, turns-keep, at-other}
use Rattle.tournament.proofs.OnceLemmas.{IsApart, IsOpen, opens, not-eqb, stays-asked}
use Rattle.tournament.proofs.OpenedLemmas.{opened-not, opened-due}
use Rattle.tournament.proofs.ReachLemmas.{Reaches}
use Rattle.tournament.proofs.SidesLemmas.{round-closed, round-open}
use Rattle.tournament.proofs.StageLemmas.{IsPlayed, played-settle, played-nothing, steps-settle}
use Rattle.tournament.proofs.order.StagedLemmas.{bracket-fixed}
use Rattle.tournament.specs.Asked.{kind_in, kind_of, asked_in, asked, AskedByTheCase, QuestionsStay}
use Rattle.tournament.specs.Bracket.{Record, pairs, last_stage, disputes_of, is_stage_due, stage_opened, carried, stage_over, bracket, asks_first, asks_second, question_in, claim_missing, open_question, settled_in, put, settle}
use Rattle.bisect_game.specs.Rules.{claim_question}
use Rattle.tournament.specs.Journals.{turn, turn_on, turns, answers_of}
use Rattle.tournament.specs.Moves.{MatchState, begun, passes_of, settled_by, moved}
use Rattle.bisect_game.specs.Laws.{BisectionLaws}

-- a dispute that another goes on from
pub record GoesOn (d e : Bisection) : Type 0 where
  pub number : e.number ≡ d.number
  pub first : e.first ≡ d.first
  pub second : e.second ≡ d.second
  pub kinds : (k : ℕ) (x : Kind) → kind_in d.fan d.place d.past k ≡ Some x → kind_in e.fan e.place e.past k ≡ Some x

abbrev pub AllGoOn : List Bisection → List Bisection → Type 0
AllGoOn [] es = Unit {0}
AllGoOn (d ∷ ds) [] = ⊥
AllGoOn (d ∷ ds) (e ∷ es) = GoesOn d e × AllGoOn ds es

abbrev pub Numbered : ℕ → List Bisection → Type 0
Numbered n [] = Unit {0}
Numbered n (d ∷ ds) = d.number ≡ n × Numbered (n + 1) ds

-- numbered from here on, and asked
pub record IsAskedIn (p n : ℕ) (q : Question) (ds : List Bisection) : Type 0 where
  pub after : n ≤ q.qid.dispute
  pub kind : asked_in p q.qid ds ≡ Some q.kind

-- what a legal journal keeps on its way to the record of its case
pub record IsOnWay (rules : Rules) (says : Says) (n : ℕ) (st : MatchState) : Type 0 where
  pub counts : AreCounts rules says st
  pub played : IsPlayed rules st.record_
  pub numbered : Numbered 1 st.record_.disputes
  pub reaches : Reaches (stage_over rules (answers_of rules says)) st.record_ (bracket rules (answers_of rules says))

module _ (laws : BisectionLaws) where
  on-same : (d : Bisection) → GoesOn d d
  on-same d = record { number = refl; first = refl; second = refl; kinds = λ k x e. e }

  on-further : (c d e : Bisection) → GoesOn c d → GoesOn d e → GoesOn c e
  on-further c d e g h = record {
    number = h.number ∙ g.number;
    first = h.first ∙ g.first;
    second = h.second ∙ g.second;
    kinds = λ k x is. h.kinds k x (g.kinds k x is);
  }

  all-same : (ds : List Bisection) → AllGoOn ds ds
  all-same [] = tt
  all-same (d ∷ ds) = (on-same d, all-same ds)

  all-further : (cs ds es : List Bisection) → AllGoOn cs ds → AllGoOn ds es → AllGoOn cs es
  all-further [] ds es g h = tt
  all-further (c ∷ cs) [] es g h = absurd g
  all-further (c ∷ cs) (d ∷ ds) [] g h = absurd h
  all-further (c ∷ cs) (d ∷ ds) (e ∷ es) g h = (on-further c d e g.0 h.0, all-further cs ds es g.1 h.1)

  all-append : (ds es : List Bisection) → AllGoOn ds (ds ++ es)
  all-append [] es = tt
  all-append (d ∷ ds) es = (on-same d, all-append ds es)

  -- rounds, stages and the bracket go on

  kinds-more : (fan : ℕ) (i j : Interval) (r : Round) (past : List Round) (k : ℕ) (x : Kind) → r.lo ≡ i.lo → r.hi ≡ i.hi → kind_in fan i past k ≡ Some x → kind_in fan j (past ++ r ∷ []) k ≡ Some x
  kinds-more fan i j r [] zero x el eh e = rw (el, eh) e
  kinds-more fan i j r [] (suc k) x el eh e = absurd (cc)
  kinds-more fan i j r (y ∷ past) zero x el eh e = e
  kinds-more fan i j r (y ∷ past) (suc k) x el eh e = kinds-more fan i j r past k x el eh e

  on-decided : (ruling : Ruling) (d : Bisection) (a b : Settled) (o : Option Close) → GoesOn d (closed_or d (went_on d a b) o)
  on-decided ruling d a b (Some c) = record { number = refl; first = refl; second = refl; kinds = λ k x e. e }
  on-decided ruling d a b None = record { number = refl; first = refl; second = refl; kinds = λ k x e. kinds-more d.fan d.place (closed_or d (went_on d a b) None).place (record { lo = d.place.lo; hi = d.place.hi; first = a; second = b }) d.past k x refl refl e }

  pub on-advanced : (ruling : Ruling) (d : Bisection) (a b : Option Settled) → GoesOn d (advanced ruling d a b)
  unfolding decided
  on-advanced ruling d (Some a) (Some b) = on-decided ruling d a b (close_of ruling d.place a b)
  on-advanced ruling d (Some a) None = on-same d
  on-advanced ruling d None b = on-same d

  on-round : (ruling : Ruling) (f : Answers) (d : Bisection) → GoesOn d (round_over ruling f d)
  on-round ruling f d =
      elim (cases_Bool (is_closed d)) [
        | inl closed ↦ rw (round-closed ruling f d closed) (on-same d)
        | inr open_ ↦
            let filled_ : GoesOn d (filled f d) = record { number = refl; first = refl; second = refl; kinds = λ k x e. e } in
            rw (round-open ruling f d open_) (on-further d (filled f d) _ filled_ (on-advanced ruling (filled f d) (filled f d).by_first (filled f d).by_second))
      ]

  on-rounds : (ruling : Ruling) (f : Answers) (n : ℕ) (d : Bisection) → GoesOn d (iterate (round_over ruling f) n d)
  on-rounds ruling f zero d = on-same d
  on-rounds ruling f (suc n) d = on-further d (round_over ruling f d) _ (on-round ruling f d) (on-rounds ruling f n (round_over ruling f d))

  all-played : (rules : Rules) (f : Answers) (ds : List Bisection) → AllGoOn ds (map (played rules f) ds)
  unfolding played
  all-played rules f [] = tt
  all-played rules f (d ∷ ds) = (on-rounds rules.ruling f rules.setup.bound d, all-played rules f ds)

  all-opened : (rules : Rules) (t : Record) → AllGoOn t.disputes (stage_opened rules t).disputes
  all-opened rules t =
      elim (cases_Bool (is_stage_due rules t)) [
        | inl due ↦ rw (opened-due rules t due) (all-append t.disputes _)
        | inr not_due ↦ rw (opened-not rules t not_due) (all-same t.disputes)
      ]

  all-carried : (rules : Rules) (f : Answers) (t : Record) → AllGoOn t.disputes (carried rules f t).disputes
  unfolding carried
  all-carried rules f t = all-played rules f t.disputes

  all-stages : (rules : Rules) (f : Answers) (n : ℕ) (t : Record) → AllGoOn t.disputes (iterate (stage_over rules f) n t).disputes
  all-stages rules f zero t = all-same t.disputes
  all-stages rules f (suc n) t =
      all-further t.disputes (stage_over rules f t).disputes _
      (all-further t.disputes (carried rules f t).disputes _ (all-carried rules f t) (all-opened rules (carried rules f t)))
      (all-stages rules f n (stage_over rules f t))

  -- what is asked under a number is asked under it further on

  kind-on : (round : ℕ) (d e : Bisection) (x : Kind) → GoesOn d e → kind_of d round ≡ Some x → kind_of e round ≡ Some x
  kind-on round d e x g is =
      elim (cases_Bool (round == 0)) [
        | inl zero_ ↦ let none : kind_of d round ≡ None = rw zero_ refl in absurd (cc)
        | inr more ↦ rw more (g.kinds (round - 1) x (rw more at is))
      ]

  side-on : (round : ℕ) (d e : Bisection) (x : Kind) (b : Bool) → GoesOn d e → (if b then kind_of d round else None) ≡ Some x → (if b then kind_of e round else None) ≡ Some x
  side-on round d e x true g is = kind-on round d e x g is
  side-on round d e x false g is = absurd (cc)

  here-on : (p : ℕ) (qid : Qid) (d e : Bisection) (ds es : List Bisection) (x : Kind) (a b : Bool) → GoesOn d e →
      (if a then (if b then kind_of d qid.round else None) else asked_in p qid ds) ≡ Some x → (asked_in p qid ds ≡ Some x → asked_in p qid es ≡ Some x) →
      (if a then (if b then kind_of e qid.round else None) else asked_in p qid es) ≡ Some x
  here-on p qid d e ds es x true b g is r = side-on qid.round d e x b g is
  here-on p qid d e ds es x false b g is r = r is

  asked-on : (p : ℕ) (qid : Qid) (ds es : List Bisection) (x : Kind) → AllGoOn ds es → asked_in p qid ds ≡ Some x → asked_in p qid es ≡ Some x
  asked-on p qid [] es x g is = absurd (cc)
  asked-on p qid (d ∷ ds) [] x g is = absurd g
  asked-on p qid (d ∷ ds) (e ∷ es) x g is =
      let h : GoesOn d e = g.0 in
      rw (h.number, h.first, h.second)
      (here-on p qid d e ds es x (d.number == qid.dispute) ((d.first == p) || (d.second == p)) h is (λ further. asked-on p qid ds es x g.1 further))

  pub asked-further : (rules : Rules) (t u : Record) (p : ℕ) (qid : Qid) (x : Kind) → AllGoOn t.disputes u.disputes → asked rules t p qid ≡ Some x → asked rules u p qid ≡ Some x
  asked-further rules t u p qid x g is =
      elim (cases_Bool (qid.dispute == 0)) [
        | inl claim ↦ rw claim (rw claim at is)
        | inr dispute ↦ rw dispute (asked-on p qid t.disputes u.disputes x g (rw dispute at is))
      ]

  -- disputes are numbered on

  numbered-both : (n : ℕ) (ds es : List Bisection) → Numbered n ds → Numbered (n + length ds) es → Numbered n (ds ++ es)
  numbered-both n [] es a b = let e : n + 0 ≡ n = omega arith in rw e at b
  numbered-both n (d ∷ ds) es a b = let e : n + suc (length ds) ≡ n + 1 + length ds = omega arith in (a.0, numbered-both (n + 1) ds es a.1 (rw e at b))

  numbered-new : (rules : Rules) (g : ℕ) (n : ℕ) (ps : List ((ℕ × Claim) × (ℕ × Claim))) → Numbered n (disputes_of rules g n ps)
  numbered-new rules g n [] = tt
  numbered-new rules g n (p ∷ ps) = (refl, numbered-new rules g (n + 1) ps)

  numbered-opened : (rules : Rules) (t : Record) → Numbered 1 t.disputes → Numbered 1 (stage_opened rules t).disputes
  numbered-opened rules t a =
      elim (cases_Bool (is_stage_due rules t)) [
        | inl due ↦
            let e : length t.disputes + 1 ≡ 1 + length t.disputes = omega arith in
            rw (opened-due rules t due) (numbered-both 1 t.disputes _ a (subst (λ (n : ℕ). Numbered n (disputes_of rules (last_stage t.disputes + 1) (length t.disputes + 1) (pairs rules t))) e (numbered-new rules (last_stage t.disputes + 1) (length t.disputes + 1) (pairs rules t))))
        | inr not_due ↦ rw (opened-not rules t not_due) a
      ]

  number-first : (ruling : Ruling) (s : Settled) (d : Bisection) → (settle_first ruling s d).number ≡ d.number
  unfolding settle_first
  number-first ruling s d = let g : GoesOn (record d { by_first = Some s }) (advanced ruling (record d { by_first = Some s }) (Some s) d.by_second) = on-advanced ruling (record d { by_first = Some s }) (Some s) d.by_second in g.number

  number-second : (ruling : Ruling) (s : Settled) (d : Bisection) → (settle_second ruling s d).number ≡ d.number
  unfolding settle_second
  number-second ruling s d = let g : GoesOn (record d { by_second = Some s }) (advanced ruling (record d { by_second = Some s }) d.by_first (Some s)) = on-advanced ruling (record d { by_second = Some s }) d.by_first (Some s) in g.number

  numbered-choice : (rules : Rules) (n p : ℕ) (s : Settled) (d : Bisection) (ds : List Bisection) (x y : Bool) → Numbered n (d ∷ ds) → Numbered (n + 1) (settled_in rules p s ds) →
      Numbered n (if x then settle_first rules.ruling s d ∷ ds else if y then settle_second rules.ruling s d ∷ ds else d ∷ settled_in rules p s ds)
  numbered-choice rules n p s d ds true y a r = (number-first rules.ruling s d ∙ a.0, a.1)
  numbered-choice rules n p s d ds false true a r = (number-second rules.ruling s d ∙ a.0, a.1)
  numbered-choice rules n p s d ds false false a r = (a.0, r)

  numbered-settled : (rules : Rules) (n p : ℕ) (s : Settled) (ds : List Bisection) → Numbered n ds → Numbered n (settled_in rules p s ds)
  numbered-settled rules n p s [] a = tt
  numbered-settled rules n p s (d ∷ ds) a = numbered-choice rules n p s d ds (asks_first p d) (asks_second p d) a (numbered-settled rules (n + 1) p s ds a.1)

  numbered-put : (rules : Rules) (p : ℕ) (s : Settled) (t : Record) (b : Bool) → Numbered 1 t.disputes →
      Numbered 1 (if b then record t { claims = slice_set t.claims (p - 1) (Some s) } else record t { disputes = settled_in rules p s t.disputes }).disputes
  numbered-put rules p s t true a = a
  numbered-put rules p s t false a = numbered-settled rules 1 p s t.disputes a

  pub numbered-settle : (rules : Rules) (p : ℕ) (s : Settled) (t : Record) → Numbered 1 t.disputes → Numbered 1 (settle rules p s t).disputes
  unfolding settle
  numbered-settle rules p s t a = numbered-opened rules (put rules p s t) (numbered-put rules p s t (claim_missing (slice_get t.claims (p - 1))) a)

  -- an open question is asked under its number

  last-kind : (fan : ℕ) (i : Interval) (past : List Round) → kind_in fan i past (length past) ≡ Some (kind_over fan i.lo i.hi)
  last-kind fan i [] = refl
  last-kind fan i (x ∷ past) = last-kind fan i past

  this-kind : (d : Bisection) → kind_of d (length d.past + 1) ≡ Some (kind_over d.fan d.place.lo d.place.hi)
  this-kind d =
      let e : (length d.past + 1 == 0) ≡ false = not-eqb (length d.past + 1) 0 (λ z. omega arith) in
      let n : length d.past + 1 - 1 ≡ length d.past = omega arith in
      rw (e, n) (last-kind d.fan d.place d.past)

  eqb-same : (n : ℕ) → (n == n) ≡ true
  eqb-same n = grind (arith, nat_tests)

  asked-here : (p n : ℕ) (d : Bisection) (ds : List Bisection) → ((d.first == p) || (d.second == p)) ≡ true → asked_in p (question_of d).qid (d ∷ ds) ≡ Some (question_of d).kind
  asked-here p n d ds side = rw (eqb-same d.number, side) (this-kind d)

  asked-by : (p n : ℕ) (q : Question) (d : Bisection) (ds : List Bisection) (x y : Bool) → asks_first p d ≡ x → asks_second p d ≡ y → d.number ≡ n →
      (if x || y then Some (question_of d) else question_in p ds) ≡ Some q → (question_in p ds ≡ Some q → IsAskedIn p (n + 1) q ds) → IsAskedIn p n q (d ∷ ds)
  asked-by p n q d ds true y ex ey num e r =
      let a : ((d.first == p) ≡ true) × IsOpen d.by_first d.close = opens (d.first == p) d.by_first d.close ex in
      let same : question_of d ≡ q = cc in
      rw (← same) (record { after = omega (arith, num); kind = asked-here p n d ds (or_left _ _ a.0) })
  asked-by p n q d ds false true ex ey num e r =
      let a : ((d.second == p) ≡ true) × IsOpen d.by_second d.close = opens (d.second == p) d.by_second d.close ey in
      let same : question_of d ≡ q = cc in
      rw (← same) (record { after = omega (arith, num); kind = asked-here p n d ds (or_right _ _ a.0) })
  asked-by p n q d ds false false ex ey num e r =
      let i : IsAskedIn p (n + 1) q ds = r e in
      let other : (d.number == q.qid.dispute) ≡ false = not-eqb d.number q.qid.dispute (λ z. omega (arith, i.after, num)) in
      record { after = omega (arith, i.after); kind = rw other i.kind }

  asked-open : (p n : ℕ) (q : Question) (ds : List Bisection) → Numbered n ds → question_in p ds ≡ Some q → IsAskedIn p n q ds
  asked-open p n q [] a e = absurd (cc)
  asked-open p n q (d ∷ ds) a e = asked-by p n q d ds (asks_first p d) (asks_second p d) refl refl a.0 e (λ further. asked-open p (n + 1) q ds a.1 further)

  open-by : (rules : Rules) (p : ℕ) (q : Question) (t : Record) (b : Bool) → Numbered 1 t.disputes →
      (if b then Some claim_question else question_in p t.disputes) ≡ Some q → asked rules t p q.qid ≡ Some q.kind
  open-by rules p q t true a e = let same : claim_question ≡ q = cc in rw (← same) refl
  open-by rules p q t false a e =
      let i : IsAskedIn p 1 q t.disputes = asked-open p 1 q t.disputes a e in
      let no_claim : (q.qid.dispute == 0) ≡ false = not-eqb q.qid.dispute 0 (λ z. omega (arith, i.after)) in
      rw no_claim i.kind

  pub open-asked : (rules : Rules) (p : ℕ) (q : Question) (t : Record) → Numbered 1 t.disputes → open_question rules t p ≡ Some q → asked rules t p q.qid ≡ Some q.kind
  open-asked rules p q t a e = open-by rules p q t (claim_missing (slice_get t.claims (p - 1))) a e

  -- every legal journal comes to the bracket

  -- a value from which steps come to a fixed one, and what is a step further or steps to the same
  reach_on : {A : Type 0} (h : A → A) (x y z : A) → (h y ≡ h x) ⊎ (y ≡ h x) → h z ≡ z → Reaches h x z → Reaches h y z
  reach_on h x y z (inl e) fixed (zero, r) = (1, e ∙ (ap h r ∙ fixed))
  reach_on h x y z (inl e) fixed (suc n, r) = (suc n, ap (iterate h n) e ∙ r)
  reach_on h x y z (inr e) fixed (zero, r) = (zero, e ∙ (ap h r ∙ fixed))
  reach_on h x y z (inr e) fixed (suc n, r) = (n, ap (iterate h n) e ∙ r)

  way-by : (rules : Rules) (says : Says) (n : ℕ) (st u : MatchState) (p : ℕ) (q : Question) → 0 < rules.setup.provers → 1 < rules.setup.fan → 0 < rules.setup.bound → 0 < p → open_question rules st.record_ p ≡ Some q →
      Turned rules says st p q u → IsOnWay rules says n st → IsOnWay rules says (suc n) u
  way-by rules says n st u p q some more long numbered asked (Passed same cs) i =
      record { counts = cs; played = rw same i.played; numbered = rw same i.numbered; reaches = rw same i.reaches }
  way-by rules says n st u p q some more long numbered asked (Settles s same cs is) i =
      let z : Record = bracket rules (answers_of rules says) in
      record {
        counts = cs;
        played = rw same ((played-settle laws) rules p s st.record_ more long i.played);
        numbered = rw same (numbered-settle rules p s st.record_ i.numbered);
        reaches = rw same (reach_on (stage_over rules (answers_of rules says)) st.record_ (settle rules p s st.record_) (bracket rules (answers_of rules says))
            ((steps-settle laws) rules (answers_of rules says) p s q st.record_ numbered more long i.played asked is)
            ((bracket-fixed laws) rules (answers_of rules says) some more long) i.reaches);
      }

  pub way-begun : (rules : Rules) (says : Says) → 0 < rules.setup.provers → IsOnWay rules says 0 (begun rules)
  unfolding bracket
  way-begun rules says some = record { counts = (counts-begun laws) rules says; played = (played-nothing laws) rules some; numbered = tt; reaches = (rules.setup.provers, refl) }

  pub way-turn : (rules : Rules) (says : Says) → 0 < rules.setup.provers → 1 < rules.setup.fan → 0 < rules.setup.bound → (n : ℕ) (st : MatchState) (p : ℕ) (q : Question) → 0 < p → open_question rules st.record_ p ≡ Some q →
      IsOnWay rules says n st → IsOnWay rules says (suc n) (turn rules says st p q)
  way-turn rules says some more long n st p q numbered asked i =
      way-by rules says n st (turn rules says st p q) p q some more long numbered asked ((turned laws) rules says st p q numbered asked i.counts) i

  pub way-asked : (rules : Rules) (says : Says) (n : ℕ) (st : MatchState) (p : ℕ) (q : Question) → IsOnWay rules says n st → open_question rules st.record_ p ≡ Some q →
      asked rules (bracket rules (answers_of rules says)) p q.qid ≡ Some q.kind
  way-asked rules says n st p q i e =
      let here : asked rules st.record_ p q.qid ≡ Some q.kind = open-asked rules p q st.record_ i.numbered e in
      let on : AllGoOn st.record_.disputes (bracket rules (answers_of rules says)).disputes =
      rw i.reaches.1 at (all-stages rules (answers_of rules says) i.reaches.0 st.record_) in
      asked-further rules st.record_ (bracket rules (answers_of rules says)) p q.qid q.kind on here

  pub asked_by_the_case : AskedByTheCase
  asked_by_the_case rules says ps p q playable legal numbered e =
      let some : 0 < rules.setup.provers = playable.some in
      let more : 1 < rules.setup.fan = playable.parted in
      let long : 0 < rules.setup.bound = playable.steps in
      let i : IsOnWay rules says (0 + length ps) (turns rules says ps (begun rules)) =
      (turns-keep laws) rules says (IsOnWay rules says) (way-turn rules says some more long) ps 0 (begun rules) legal (way-begun rules says some) in
      way-asked rules says (0 + length ps) (turns rules says ps (begun rules)) p q i e

  -- an open question stays

  stay-moved : (rules : Rules) (st : MatchState) (p other : ℕ) (q : Question) (o : Option Settled) → ((r : ℕ) → IsApart rules r st.record_) → 0 < p → 0 < other → other ≢ p → open_question rules st.record_ p ≡ Some q →
      (open_question rules (moved rules st other o).record_ p ≡ Some q) × (passes_of (moved rules st other o) p ≡ passes_of st p)
  stay-moved rules st p other q None apart some more far e = (e, (at-other laws) st.passed (other - 1) (p - 1) (passes_of st other + 1) (λ k. far (omega arith)))
  stay-moved rules st p other q (Some s) apart some more far e =
      (stays-asked rules p other s q st.record_ some more far (apart p) e, (at-other laws) st.passed (other - 1) (p - 1) 0 (λ k. far (omega arith)))

  stay-on : (rules : Rules) (says : Says) (st : MatchState) (p other : ℕ) (q : Question) (o : Option Question) → ((r : ℕ) → IsApart rules r st.record_) → 0 < p → 0 < other → other ≢ p → open_question rules st.record_ p ≡ Some q →
      (open_question rules (turn_on rules says st other o).record_ p ≡ Some q) × (passes_of (turn_on rules says st other o) p ≡ passes_of st p)
  stay-on rules says st p other q None apart some more far e = (e, refl)
  stay-on rules says st p other q (Some r) apart some more far e = stay-moved rules st p other q (settled_by rules r (passes_of st other) (says other r (passes_of st other))) apart some more far e

  pub questions_stay : QuestionsStay
  questions_stay rules says ps p other q legal some more far e =
      let i : AreCounts rules says (turns rules says ps (begun rules)) =
      (turns-keep laws) rules says (λ n st. AreCounts rules says st) (λ n st r x nr ax cs. (counts-turn laws) rules says st r x (turn rules says st r x) ((turned laws) rules says st r x nr ax cs)) ps 0 (begun rules) legal ((counts-begun laws) rules says) in
      stay-on rules says (turns rules says ps (begun rules)) p other q (open_question rules (turns rules says ps (begun rules)).record_ other) i.apart some more far e
