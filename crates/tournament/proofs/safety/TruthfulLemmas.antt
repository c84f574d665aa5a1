-- A truthful prover's settled answers are given and true, whoever moves in whatever order.
use Rattle.std.proofs.Common.{◌≡◌, ◌≢◌, ℕ, zero, suc, ◌+◌, ◌-◌, ◌<◌, ◌≤◌, Bool, true, false, ◌||◌, ◌==◌, if◌then◌else◌, List, [], ◌∷◌, ◌++◌, length, replicate, slice_get, slice_set, inl, inr, Option, Some, None, refl, sym, ◌∙◌, ap, arith}
use Rattle.std.proofs.lemmas.Bool.Decides.{nat_tests}
use Rattle.std.proofs.lemmas.Bool.{cases_Bool, and_parts}
use Rattle.rd_base.specs.declared.answer.Answer.{Answer}
use Rattle.rd_base.specs.declared.answer.Answer.TheVariants as answer
use Rattle.rd_base.specs.declared.claim.Claim.{Claim}
use Rattle.bisect_game.specs.declared.settled.Round.{Round}
use Rattle.bisect_game.specs.declared.settled.Kind.{Kind}
use Rattle.bisect_game.specs.declared.settled.Kind.TheVariants as kind
use Rattle.bisect_game.specs.declared.settled.Question.{Question}
use Rattle.bisect_game.specs.declared.settled.Close.{Close}
use Rattle.bisect_game.specs.declared.settled.Settled.{Settled}
use Rattle.bisect_game.specs.declared.settled.Settled.TheVariants.{Given, Faulty, Spent}
use Rattle.bisect_game.specs.declared.settled.Side.{Side}
use Rattle.bisect_game.specs.declared.settled.Side.TheVariants.{First, Second}
use Rattle.bisect_game.specs.Says.{Says}
use Rattle.bisect_game.specs.Ruling.{Ruling}
use Rattle.bisect_game.specs.Rules.{Rules, is_fit, judged}
use Rattle.bisect_game.specs.Closing.{close_of}
use Rattle.bisect_game.specs.Bisection.{Bisection, kind_over, question_of, closed_with, went_on, closed_or, decided, advanced, settle_first, settle_second}
use Rattle.bisect_game.specs.Truth.{Truth, IsTrueAnswer, IsTrueSettled, IsFit, AllTrue, IsTruthful, own_answer, own_open}
use Rattle.bisect_game.specs.Laws.{BisectionLaws, TrueAnswersFit}
use Rattle.tournament.specs.Bracket.{Record, claim_missing, asks_first, asks_second, question_in, open_question, disputes_of, last_stage, pairs, is_stage_due, stage_opened, settled_in, put, settle, nothing_settled, bracket}
use Rattle.bisect_game.specs.Rules.{claim_question}
use Rattle.tournament.specs.Settling.{after}
use Rattle.tournament.specs.Moves.{MatchState, begun}
use Rattle.tournament.specs.Journals.{turn, turns, said, settled_after, answers_of}
use Rattle.tournament.specs.Asked.{asked}
use Rattle.tournament.specs.Fitting.{AllFit}
use Rattle.tournament.specs.Theorem.{HasTrueClaimSoFar, TrueIn, AllTrueIn, AreTrue, Stays}
use Rattle.tournament.specs.Lies.{ScriptsOfARun}
use Rattle.tournament.specs.Truthful.{AnswersTruly, IsTruthfulProver, TruthfulProversAreSafe}
use Rattle.tournament.proofs.OpenedLemmas.{opened-not, opened-due}
use Rattle.tournament.proofs.OnceLemmas.{is-eqb}
use Rattle.tournament.proofs.SidesLemmas.{SameSides, sides-first, sides-second}
use Rattle.tournament.proofs.safety.LiveLemmas.{live-contains}
use Rattle.tournament.proofs.safety.MatchLemmas.{settled_stay, claim-there}
use Rattle.tournament.proofs.safety.VerdictLemmas.{settled_right}
use Rattle.tournament.proofs.order.JournalLemmas.{Turned, Passed, Settles, turned, turns-keep}
use Rattle.tournament.proofs.PostLemmas.{fit-judged, fit-last, after-last}
use Rattle.tournament.proofs.order.AskedLemmas.{IsOnWay, way-begun, way-turn, way-asked}

-- a side that has answered truly so far is truthful after a round was decided

all-last : (t : Truth) (fan : ℕ) (side : Side) (rs : List Round) (r : Round) → AllTrue t fan side rs → IsTrueSettled t (kind_over fan r.lo r.hi) (own_answer side r) → AllTrue t fan side (rs ++ r ∷ [])
all-last t fan side [] r all is = (is, tt)
all-last t fan side (x ∷ rs) r all is = (all.0, all-last t fan side rs r all.1 is)

abbrev own-of : Side → Settled → Settled → Settled
own-of First a b = a
own-of Second a b = b

own-is : (side : Side) (d : Bisection) (a b : Settled) → d.by_first ≡ Some a → d.by_second ≡ Some b → own_open side d ≡ Some (own-of side a b)
own-is First d a b ea eb = ea
own-is Second d a b ea eb = eb

own-round : (side : Side) (lo hi : ℕ) (a b : Settled) → own_answer side (record { lo = lo; hi = hi; first = a; second = b }) ≡ own-of side a b
own-round First lo hi a b = refl
own-round Second lo hi a b = refl

none-open : (side : Side) (d : Bisection) → d.by_first ≡ None → d.by_second ≡ None → own_open side d ≡ None
none-open First d ea eb = ea
none-open Second d ea eb = eb

same-open : (side : Side) (d : Bisection) (c : Close) → own_open side (closed_with d c) ≡ own_open side d
same-open First d c = refl
same-open Second d c = refl

truthful-by : (ruling : Ruling) (t : Truth) (side : Side) (d : Bisection) (a b : Settled) (o : Option Close) → d.by_first ≡ Some a → d.by_second ≡ Some b → IsTruthful t side d →
    IsTruthful t side (closed_or d (went_on d a b) o)
truthful-by ruling t side d a b (Some c) ea eb h = record { past = h.past; open_ = rw (same-open side d c) h.open_ }
truthful-by ruling t side d a b None ea eb h =
    let is : IsTrueSettled t (kind_over d.fan d.place.lo d.place.hi) (own-of side a b) = rw (own-is side d a b ea eb) at h.open_ in
    record {
      past = all-last t d.fan side d.past _ h.past (rw (own-round side d.place.lo d.place.hi a b) is);
      open_ = rw (none-open side (went_on d a b) refl refl) tt;
    }

truthful-advanced : (ruling : Ruling) (t : Truth) (side : Side) (d : Bisection) (a b : Option Settled) → d.by_first ≡ a → d.by_second ≡ b → IsTruthful t side d → IsTruthful t side (advanced ruling d a b)
unfolding decided
truthful-advanced ruling t side d (Some a) (Some b) ea eb h = truthful-by ruling t side d a b (close_of ruling d.place a b) ea eb h
truthful-advanced ruling t side d (Some a) None ea eb h = h
truthful-advanced ruling t side d None b ea eb h = h

truthful-own-first : (ruling : Ruling) (t : Truth) (s : Settled) (d : Bisection) → IsTrueSettled t (kind_over d.fan d.place.lo d.place.hi) s → IsTruthful t First d → IsTruthful t First (settle_first ruling s d)
unfolding settle_first
truthful-own-first ruling t s d is h = truthful-advanced ruling t First (record d { by_first = Some s }) (Some s) d.by_second refl refl (record { past = h.past; open_ = is })

truthful-other-first : (ruling : Ruling) (t : Truth) (s : Settled) (d : Bisection) → IsTruthful t Second d → IsTruthful t Second (settle_first ruling s d)
unfolding settle_first
truthful-other-first ruling t s d h = truthful-advanced ruling t Second (record d { by_first = Some s }) (Some s) d.by_second refl refl (record { past = h.past; open_ = h.open_ })

truthful-own-second : (ruling : Ruling) (t : Truth) (s : Settled) (d : Bisection) → IsTrueSettled t (kind_over d.fan d.place.lo d.place.hi) s → IsTruthful t Second d → IsTruthful t Second (settle_second ruling s d)
unfolding settle_second
truthful-own-second ruling t s d is h = truthful-advanced ruling t Second (record d { by_second = Some s }) d.by_first (Some s) refl refl (record { past = h.past; open_ = is })

truthful-other-second : (ruling : Ruling) (t : Truth) (s : Settled) (d : Bisection) → IsTruthful t First d → IsTruthful t First (settle_second ruling s d)
unfolding settle_second
truthful-other-second ruling t s d h = truthful-advanced ruling t First (record d { by_second = Some s }) d.by_first (Some s) refl refl (record { past = h.past; open_ = h.open_ })

-- an answer that is settled keeps a prover's answers true, if it is another's or true

abbrev IsOwnTrue : Rules → Truth → ℕ → ℕ → Settled → Bisection → Type 0
IsOwnTrue rules t p other s d = other ≡ p → IsTrueSettled t (question_of d).kind s

true-first : (rules : Rules) (t : Truth) (p other : ℕ) (s : Settled) (d : Bisection) → d.first ≡ other → IsOwnTrue rules t p other s d → TrueIn rules t p d → TrueIn rules t p (settle_first rules.ruling s d)
true-first rules t p other s d by own h =
    let k : SameSides d (settle_first rules.ruling s d) = sides-first rules.ruling s d in
    record {
      first = λ e. let same : d.first ≡ p = sym k.first ∙ e in truthful-own-first rules.ruling t s d (own (sym by ∙ same)) (h.first same);
      second = λ e. truthful-other-first rules.ruling t s d (h.second (sym k.second ∙ e));
    }

true-second : (rules : Rules) (t : Truth) (p other : ℕ) (s : Settled) (d : Bisection) → d.second ≡ other → IsOwnTrue rules t p other s d → TrueIn rules t p d → TrueIn rules t p (settle_second rules.ruling s d)
true-second rules t p other s d by own h =
    let k : SameSides d (settle_second rules.ruling s d) = sides-second rules.ruling s d in
    record {
      first = λ e. truthful-other-second rules.ruling t s d (h.first (sym k.first ∙ e));
      second = λ e. let same : d.second ≡ p = sym k.second ∙ e in truthful-own-second rules.ruling t s d (own (sym by ∙ same)) (h.second same);
    }

true-choice : (rules : Rules) (t : Truth) (p other : ℕ) (s : Settled) (q : Question) (d : Bisection) (ds : List Bisection) (x y : Bool) → asks_first other d ≡ x → asks_second other d ≡ y →
    (if x || y then Some (question_of d) else question_in other ds) ≡ Some q → (other ≡ p → IsTrueSettled t q.kind s) → TrueIn rules t p d → AllTrueIn rules t p ds →
    (question_in other ds ≡ Some q → AllTrueIn rules t p (settled_in rules other s ds)) →
    AllTrueIn rules t p (if x then settle_first rules.ruling s d ∷ ds else if y then settle_second rules.ruling s d ∷ ds else d ∷ settled_in rules other s ds)
true-choice rules t p other s q d ds true y ex ey e own h hs rest =
    let same : question_of d ≡ q = cc in
    let two : ((d.first == other) ≡ true) × _ = and_parts _ _ ex in
    (true-first rules t p other s d (is-eqb d.first other two.0) (λ mine. rw (← same) at (own mine)) h, hs)
true-choice rules t p other s q d ds false true ex ey e own h hs rest =
    let same : question_of d ≡ q = cc in
    let two : ((d.second == other) ≡ true) × _ = and_parts _ _ ey in
    (true-second rules t p other s d (is-eqb d.second other two.0) (λ mine. rw (← same) at (own mine)) h, hs)
true-choice rules t p other s q d ds false false ex ey e own h hs rest = (h, rest e)

true-settled : (rules : Rules) (t : Truth) (p other : ℕ) (s : Settled) (q : Question) (ds : List Bisection) → question_in other ds ≡ Some q → (other ≡ p → IsTrueSettled t q.kind s) →
    AllTrueIn rules t p ds → AllTrueIn rules t p (settled_in rules other s ds)
true-settled rules t p other s q [] e own h = tt
true-settled rules t p other s q (d ∷ ds) e own h =
    true-choice rules t p other s q d ds (asks_first other d) (asks_second other d) refl refl e own h.0 h.1 (λ further. true-settled rules t p other s q ds further own h.1)

true-new : (rules : Rules) (t : Truth) (p g n : ℕ) (ps : List ((ℕ × Claim) × (ℕ × Claim))) → AllTrueIn rules t p (disputes_of rules g n ps)
true-new rules t p g n [] = tt
true-new rules t p g n (x ∷ ps) = (record { first = λ e. record { past = tt; open_ = tt }; second = λ e. record { past = tt; open_ = tt } }, true-new rules t p g (n + 1) ps)

true-both : (rules : Rules) (t : Truth) (p : ℕ) (ds es : List Bisection) → AllTrueIn rules t p ds → AllTrueIn rules t p es → AllTrueIn rules t p (ds ++ es)
true-both rules t p [] es h k = k
true-both rules t p (d ∷ ds) es h k = (h.0, true-both rules t p ds es h.1 k)

true-opened : (rules : Rules) (t : Truth) (p : ℕ) (r : Record) → AreTrue rules t p r → AreTrue rules t p (stage_opened rules r)
true-opened rules t p r h =
    elim (cases_Bool (is_stage_due rules r)) [
      | inl due ↦ rw (opened-due rules r due) (record { claim = h.claim; disputes = true-both rules t p r.disputes _ h.disputes (true-new rules t p (last_stage r.disputes + 1) (length r.disputes + 1) (pairs rules r)) })
      | inr not_due ↦ rw (opened-not rules r not_due) h
    ]

-- claims

get-set : (ss : List (Option Settled)) (k : ℕ) (s : Settled) → claim_missing (slice_get ss k) ≡ true → slice_get (slice_set ss k (Some s)) k ≡ Some (Some s)
get-set [] k s e = absurd (cc)
get-set (x ∷ ss) zero s e = refl
get-set (x ∷ ss) (suc k) s e = get-set ss k s e

get-other : (ss : List (Option Settled)) (k j : ℕ) (s : Option Settled) → k ≢ j → slice_get (slice_set ss k s) j ≡ slice_get ss j
get-other [] k j s far = refl
get-other (x ∷ ss) zero zero s far = absurd (far refl)
get-other (x ∷ ss) zero (suc j) s far = refl
get-other (x ∷ ss) (suc k) zero s far = refl
get-other (x ∷ ss) (suc k) (suc j) s far = get-other ss k j s (λ e. far (ap suc e))

true-claim : (t : Truth) (s : Settled) → IsTrueSettled t kind.Claim s → s ≡ Given (answer.Claim t.claim)
true-claim t (Given (answer.Claim c)) is = ap (λ (x : Claim). Given (answer.Claim x)) is
true-claim t (Given (answer.Root x)) is = absurd is
true-claim t (Given (answer.Roots xs)) is = absurd is
true-claim t (Given (answer.Step x)) is = absurd is
true-claim t (Faulty a) is = absurd is
true-claim t Spent is = absurd is

claim-put : (t : Truth) (claims : List (Option Settled)) (p other : ℕ) (s : Settled) → 0 < p → 0 < other → claim_missing (slice_get claims (other - 1)) ≡ true → (other ≡ p → IsTrueSettled t kind.Claim s) →
    HasTrueClaimSoFar t claims p → HasTrueClaimSoFar t (slice_set claims (other - 1) (Some s)) p
claim-put t claims p other s some far missing own h =
    elim (cases_Bool (other == p)) [
      | inl e ↦
          let same : other ≡ p = is-eqb other p e in
          let mine : s ≡ Given (answer.Claim t.claim) = true-claim t s (own same) in
          inr (rw (← same) (get-set claims (other - 1) s missing ∙ ap (λ (x : Settled). Some (Some x)) mine))
      | inr e ↦
          let differ : other - 1 ≢ p - 1 = λ same. let eq : other ≡ p = omega (arith, same, some, far) in let yes : (other == p) ≡ true = grind (arith, nat_tests) in cc in
          rw (get-other claims (other - 1) (p - 1) (Some s) differ) h
    ]

true-put : (rules : Rules) (t : Truth) (p other : ℕ) (s : Settled) (q : Question) (r : Record) (b : Bool) → 0 < p → 0 < other → claim_missing (slice_get r.claims (other - 1)) ≡ b →
    (if b then Some claim_question else question_in other r.disputes) ≡ Some q → (other ≡ p → IsTrueSettled t q.kind s) → AreTrue rules t p r →
    AreTrue rules t p (if b then record r { claims = slice_set r.claims (other - 1) (Some s) } else record r { disputes = settled_in rules other s r.disputes })
true-put rules t p other s q r true some far missing e own h =
    let same : claim_question ≡ q = cc in
    record { claim = claim-put t r.claims p other s some far missing (λ mine. rw (← same) at (own mine)) h.claim; disputes = h.disputes }
true-put rules t p other s q r false some far missing e own h = record { claim = h.claim; disputes = true-settled rules t p other s q r.disputes e own h.disputes }

pub true-settle : (rules : Rules) (t : Truth) (p other : ℕ) (s : Settled) (q : Question) (r : Record) → 0 < p → 0 < other → open_question rules r other ≡ Some q → (other ≡ p → IsTrueSettled t q.kind s) →
    AreTrue rules t p r → AreTrue rules t p (settle rules other s r)
unfolding settle
true-settle rules t p other s q r some far e own h = true-opened rules t p (put rules other s r) (true-put rules t p other s q r (claim_missing (slice_get r.claims (other - 1))) some far refl e own h)

-- what a truthful prover's question is settled as

pub judged-true : TrueAnswersFit → (r : Ruling) (t : Truth) (k : Kind) (a : Answer) → r.is_sound t.claim ≡ true → IsTrueAnswer t k a → IsTrueSettled t k (judged r k a)
judged-true fits r t k a sound is = rw (fits r t k a sound is) is

settled-true : TrueAnswersFit → (rules : Rules) (says : Says) (t : Truth) (p : ℕ) (q : Question) (a : AnswersTruly says rules.setup.patience t p q) (left n : ℕ) → rules.ruling.is_sound t.claim ≡ true → n ≤ a.passes → a.passes ≤ n + left →
    IsTrueSettled t q.kind (settled_after rules says p q left n)
unfolding settled_after
settled-true fits rules says t p q a zero n sound low high =
    let here : n ≡ a.passes = omega arith in
    rw (here, a.gives) (judged-true fits rules.ruling t q.kind a.answer sound a.is_true)
settled-true fits rules says t p q a (suc left) n sound low high =
    elim (cases_Bool (n == a.passes)) [
      | inl e ↦ let here : n ≡ a.passes = is-eqb n a.passes e in rw (here, a.gives) (judged-true fits rules.ruling t q.kind a.answer sound a.is_true)
      | inr e ↦
          let differ : n ≢ a.passes = λ same. let yes : (n == a.passes) ≡ true = grind (arith, nat_tests) in cc in
          let before : n < a.passes = omega (arith, low, differ) in
          rw (a.passing n before) (settled-true fits rules says t p q a left (n + 1) sound (omega arith) (omega arith))
    ]

answers-true : TrueAnswersFit → (rules : Rules) (says : Says) (t : Truth) (p : ℕ) (q : Question) (s : Settled) → AnswersTruly says rules.setup.patience t p q → rules.ruling.is_sound t.claim ≡ true → answers_of rules says p q ≡ Some s → IsTrueSettled t q.kind s
unfolding answers_of
answers-true fits rules says t p q s a sound e =
    let same : settled_after rules says p q rules.setup.patience 0 ≡ s = cc in
    rw (← same) (settled-true fits rules says t p q a rules.setup.patience 0 sound (omega arith) (omega (arith, a.few)))

-- what a legal list of moves keeps

fit-said : (rules : Rules) (q : Question) (o : Option Answer) (s : Settled) → IsFit rules.ruling q.kind s → IsFit rules.ruling q.kind (said rules q o s)
fit-said rules q (Some a) s h = fit-judged rules.ruling q.kind a (is_fit rules.ruling q.kind a) refl
fit-said rules q None s h = h

fit-after : (rules : Rules) (says : Says) (p : ℕ) (q : Question) (left n : ℕ) → IsFit rules.ruling q.kind (settled_after rules says p q left n)
unfolding settled_after
fit-after rules says p q zero n = fit-said rules q (says p q n) Spent tt
fit-after rules says p q (suc left) n = fit-said rules q (says p q n) _ (fit-after rules says p q left (n + 1))

fit-answers : (rules : Rules) (says : Says) (p : ℕ) (q : Question) (s : Settled) → answers_of rules says p q ≡ Some s → IsFit rules.ruling q.kind s
unfolding answers_of
fit-answers rules says p q s e = let same : settled_after rules says p q rules.setup.patience 0 ≡ s = cc in rw (← same) (fit-after rules says p q rules.setup.patience 0)

pub none-yet : (n k : ℕ) (o : Option Settled) → k < n → slice_get (replicate n o) k ≡ Some o
none-yet zero k o lt = absurd (omega arith)
none-yet (suc n) zero o lt = refl
none-yet (suc n) (suc k) o lt = none-yet n k o (omega arith)

record IsTold (rules : Rules) (says : Says) (t : Truth) (p n : ℕ) (st : MatchState) : Type 0 where
  way : IsOnWay rules says n st
  answers : AreTrue rules t p st.record_
  settled : List (ℕ × Settled)
  fit : AllFit rules settled (nothing_settled rules)
  reaches : after rules settled (nothing_settled rules) ≡ st.record_

module _ (laws : BisectionLaws) where
  told-begun : (rules : Rules) (says : Says) (t : Truth) (p : ℕ) → 0 < rules.setup.provers → 0 < p → p ≤ rules.setup.provers → IsTold rules says t p 0 (begun rules)
  told-begun rules says t p some low high = record {
    way = (way-begun laws) rules says some;
    answers = record { claim = inl (none-yet rules.setup.provers (p - 1) None (omega (arith, low, high))); disputes = tt };
    settled = [];
    fit = tt;
    reaches = refl;
  }

  told-by : (rules : Rules) (says : Says) (t : Truth) (p other n : ℕ) (q : Question) (st u : MatchState) → 0 < p → 0 < other → rules.ruling.is_sound t.claim ≡ true → IsTruthfulProver rules says t p → open_question rules st.record_ other ≡ Some q →
      IsOnWay rules says (suc n) u → Turned rules says st other q u → IsTold rules says t p n st → IsTold rules says t p (suc n) u
  told-by rules says t p other n q st u some far sound truthful asked_ way (Passed same cs) i =
      record { way = way; answers = rw same i.answers; settled = i.settled; fit = i.fit; reaches = i.reaches ∙ sym same }
  told-by rules says t p other n q st u some far sound truthful asked_ way (Settles s same cs is) i =
      let mine : other ≡ p → IsTrueSettled t q.kind s = λ e.
      let here : asked rules (bracket rules (answers_of rules says)) p q.qid ≡ Some q.kind = rw e at ((way-asked laws) rules says n st other q i.way asked_) in
      answers-true laws.fits rules says t p q s (truthful q here) sound (rw e at is) in
      record {
        way = way;
        answers = rw same (true-settle rules t p other s q st.record_ some far asked_ mine i.answers);
        settled = i.settled ++ (other, s) ∷ [];
        fit = fit-last rules i.settled other s (nothing_settled rules) i.fit (record {
          question = q;
          numbered = far;
          asked = ap (λ (r : Record). open_question rules r other) i.reaches ∙ asked_;
          fits = fit-answers rules says other q s is;
        });
        reaches = after-last rules i.settled other s (nothing_settled rules) ∙ (ap (settle rules other s) i.reaches ∙ sym same);
      }

  told-turn : (rules : Rules) (says : Says) (t : Truth) (p : ℕ) → 0 < rules.setup.provers → 1 < rules.setup.fan → 0 < rules.setup.bound → 0 < p → rules.ruling.is_sound t.claim ≡ true → IsTruthfulProver rules says t p →
      (n : ℕ) (st : MatchState) (other : ℕ) (q : Question) → 0 < other → open_question rules st.record_ other ≡ Some q → IsTold rules says t p n st → IsTold rules says t p (suc n) (turn rules says st other q)
  told-turn rules says t p some more long numbered sound truthful n st other q far asked_ i =
      told-by rules says t p other n q st (turn rules says st other q) numbered far sound truthful asked_ ((way-turn laws) rules says some more long n st other q far asked_ i.way)
      ((turned laws) rules says st other q far asked_ i.way.counts) i

  -- the answers are those of a run, be it a true one or not
  pub scripts-of-a-run : ScriptsOfARun
  scripts-of-a-run rules says t ps p playable sound numbered within truthful legal =
      let i : IsTold rules says t p (0 + length ps) (turns rules says ps (begun rules)) =
      (turns-keep laws) rules says (IsTold rules says t p) (told-turn rules says t p playable.some playable.parted playable.steps numbered sound truthful) ps 0 (begun rules) legal (told-begun rules says t p playable.some numbered within) in
      i.answers

  pub truthful_provers_are_safe : TruthfulProversAreSafe
  truthful_provers_are_safe rules says t ps p playable fair run numbered within truthful legal =
      let more : 1 < rules.setup.fan = playable.parted in
      let i : IsTold rules says t p (0 + length ps) (turns rules says ps (begun rules)) =
      (turns-keep laws) rules says (IsTold rules says t p) (told-turn rules says t p playable.some more playable.steps numbered run.sound truthful) ps 0 (begun rules) legal (told-begun rules says t p playable.some numbered within) in
      let stays : Stays rules t p (turns rules says ps (begun rules)).record_ = rw i.reaches at ((settled_stay laws) rules t i.settled p playable fair run numbered i.fit (rw (← i.reaches) at i.answers)) in
      record {
        answers = i.answers;
        stays = stays;
        live_at_end = λ c. live-contains t p (turns rules says ps (begun rules)).record_ numbered ((claim-there laws) t p (turns rules says ps (begun rules)).record_ c i.answers.claim) stays.not_out;
        verdict = λ c. rw i.reaches at ((settled_right laws) rules t i.settled p playable fair run numbered i.fit (rw (← i.reaches) at i.answers) (rw i.reaches c));
      }
