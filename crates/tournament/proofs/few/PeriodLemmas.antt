-- A match that is served is over after few periods: in each the slower side of every open dispute comes further.
use Rattle.std.proofs.Common.{◌≡◌, ℕ, zero, suc, ◌+◌, ◌-◌, ◌*◌, ◌<◌, ◌≤◌, nat_lt, Bool, true, false, not, ◌&&◌, ◌||◌, ◌==◌, if◌then◌else◌, List, [], ◌∷◌, length, slice_get, slice_index, ◌⊎◌, inl, inr, Option, Some, None, is_some, is_none, refl, ◌∙◌, ap, arith, subst}
use Rattle.std.proofs.Math.Nat.{mul-le-mul_left, mul-add, mul_assoc, mul_comm}
use Rattle.std.proofs.lemmas.Bool.Decides.{nat_tests}
use Rattle.std.proofs.lemmas.Bool.{cases_Bool}
use Rattle.bisect_game.specs.declared.settled.Question.{Question}
use Rattle.bisect_game.specs.declared.settled.Settled.{Settled}
use Rattle.bisect_game.specs.declared.settled.Close.{Close}
use Rattle.bisect_game.specs.declared.settled.Side.TheVariants.{First, Second}
use Rattle.bisect_game.specs.Bisection.{Bisection, is_closed, question_of, asks}
use Rattle.bisect_game.specs.Laws.{BisectionLaws}
use Rattle.bisect_game.specs.OverAnswers.{Waits}
use Rattle.bisect_game.specs.Rules.{Rules, ArePlayable, claim_question}
use Rattle.tournament.specs.Bracket.{Record, all_there, all_closed, nothing_settled, asks_first, asks_second, question_in, claim_missing, open_question, is_complete}
use Rattle.tournament.specs.FewPosts.{effective_posts_of}
use Rattle.tournament.specs.Length.{IsMost}
use Rattle.tournament.specs.Moves.{MatchState, begun}
use Rattle.tournament.specs.Numbers.{AreNumbered, IsOfProvers, RecordsAreOfProvers}
use Rattle.tournament.specs.OpenDisputes.{one_if, open_disputes_of, OpenDisputesShareNoProver, AllApart, SidesAreTwoProvers}
use Rattle.tournament.specs.Periods.{IsServed, after_periods, AllServed, PeriodsAreFew}
use Rattle.tournament.specs.Posting.{Post, posted, posted_on, after_posts, record_after, NobodyAskedIsOver}
use Rattle.tournament.specs.Theorem.{AllShort, FewDisputes, FewRounds}
use Rattle.tournament.proofs.PostLemmas.{posts_settle}
use Rattle.tournament.proofs.few.SpentLemmas.{IsAfterPosts, one-post-more, is-prover, IsKept, kept-posts, kept-begun}
use Rattle.tournament.proofs.few.SumLemmas.{few-past}
use Rattle.tournament.proofs.length.CountLemmas.{IsOrdered, ordered-after, ordered-nothing}
use Rattle.tournament.proofs.length.OverLemmas.{AllMove, moves-after}
use Rattle.tournament.proofs.few.ProgressLemmas.{AllGrow, ClaimGrows, ClaimsGrow, DisputeGrows, StateGrows, claim_of, far, first_of, progress, second_of, slowest, total}
use Rattle.tournament.proofs.few.ServedLemmas.{IsFine, grows-posts, have, same-test}

-- A SERVED PERIOD: whoever was asked when it began has made a post

-- the sides of a list of disputes that are asked
asked-first : (d : Bisection) (ds : List Bisection) → asks First d ≡ true → is_some (question_in d.first (d ∷ ds)) ≡ true
asked-first d ds a =
    let yes : (d.first == d.first) ≡ true = same-test d.first d.first refl in
    rw (yes, a) refl

asked-second : (d : Bisection) (ds : List Bisection) → asks Second d ≡ true → is_some (question_in d.second (d ∷ ds)) ≡ true
asked-second d ds a =
    let yes : (d.second == d.second) ≡ true = same-test d.second d.second refl in
    by (asks_first d.second d) yes a
  where
    by : (b : Bool) → (d.second == d.second) ≡ true → asks Second d ≡ true → is_some (if b || ((d.second == d.second) && asks Second d) then Some (question_of d) else question_in d.second ds) ≡ true
    by true self b = refl
    by false self b = rw (self, b) refl

asked-later : (p : ℕ) (d : Bisection) (ds : List Bisection) → is_some (question_in p ds) ≡ true → is_some (question_in p (d ∷ ds)) ≡ true
asked-later p d ds e = by (asks_first p d || asks_second p d) e
  where
    by : (b : Bool) → is_some (question_in p ds) ≡ true → is_some (if b then Some (question_of d) else question_in p ds) ≡ true
    by true e = refl
    by false e = e

-- a dispute comes no less far
no-less : (n : ℕ) (made : ℕ → Bool) (xs ys : List ℕ) (d e : Bisection) → DisputeGrows n made xs ys d e → progress n xs d ≤ progress n ys e
no-less n made xs ys d e g = omega (arith, g.first_more, g.second_more)

waiting-side : (n a x : ℕ) (b : Bool) → x ≤ n → (n + 1) * (a + 0) + (if b then x else 0) + 1 ≤ (n + 1) * (a + 1)
waiting-side n a x true le = omega (arith, le)
waiting-side n a x false le = omega arith

done-side : (o : Option Settled) (k : Bool) → is_some o ≡ true → (is_none o && not k) ≡ false
done-side (Some s) k e = refl
done-side None k e = absurd (cc)

-- and an open one further
further-by : (n : ℕ) (made : ℕ → Bool) (xs ys : List ℕ) (d e : Bisection) (x y : Option Settled) (c : Option Close) → d.by_first ≡ x → d.by_second ≡ y → d.close ≡ c → Waits x y c → is_some c ≡ false → DisputeGrows n made xs ys d e →
    slice_index xs (d.first - 1) ≤ n → slice_index xs (d.second - 1) ≤ n →
    (asks First d ≡ true → made d.first ≡ true) → (asks Second d ≡ true → made d.second ≡ true) → progress n xs d + 1 ≤ progress n ys e
further-by n made xs ys d e (Some a) (Some b) None ex ey ec w open_ g le le2 own own2 = absurd w
further-by n made xs ys d e x y (Some c) ex ey ec w open_ g le le2 own own2 = absurd (cc)
further-by n made xs ys d e None None None ex ey ec w open_ g le le2 own own2 =
    let a : asks First d ≡ true = rw (ex, ec) refl in
    let b : asks Second d ≡ true = rw (ey, ec) refl in
    let one : one_if (asks First d && made d.first) ≡ 1 = rw (a, own a) refl in
    let two : one_if (asks Second d && made d.second) ≡ 1 = rw (b, own2 b) refl in
    omega (arith, g.first_more, g.second_more, one, two)
further-by n made xs ys d e (Some s) None None ex ey ec w open_ g le le2 own own2 =
    let b : asks Second d ≡ true = rw (ey, ec) refl in
    let two : one_if (asks Second d && made d.second) ≡ 1 = rw (b, own2 b) refl in
    let done : first_of n xs d ≡ (n + 1) * (length d.past + 1) = rw ex (omega arith) in
    let low : second_of n xs d + 1 ≤ (n + 1) * (length d.past + 1) = rw (ey, ec) (waiting-side n (length d.past) (slice_index xs (d.second - 1)) true le2) in
    omega (arith, g.first_more, g.second_more, two, done, low)
further-by n made xs ys d e None (Some s) None ex ey ec w open_ g le le2 own own2 =
    let a : asks First d ≡ true = rw (ex, ec) refl in
    let one : one_if (asks First d && made d.first) ≡ 1 = rw (a, own a) refl in
    let done : second_of n xs d ≡ (n + 1) * (length d.past + 1) = rw ey (omega arith) in
    let low : first_of n xs d + 1 ≤ (n + 1) * (length d.past + 1) = rw (ex, ec) (waiting-side n (length d.past) (slice_index xs (d.first - 1)) true le) in
    omega (arith, g.first_more, g.second_more, one, done, low)

total-no-less : (n : ℕ) (made : ℕ → Bool) (xs ys : List ℕ) (ds es : List Bisection) → AllGrow n made xs ys ds es → total n xs ds ≤ total n ys es
total-no-less n made xs ys [] es g = omega arith
total-no-less n made xs ys (d ∷ ds) [] g = absurd g
total-no-less n made xs ys (d ∷ ds) (e ∷ es) g = omega (arith, no-less n made xs ys d e g.0, total-no-less n made xs ys ds es g.1)

total-further : (n m k : ℕ) (made : ℕ → Bool) (xs ys : List ℕ) (ds es : List Bisection) → AllGrow n made xs ys ds es → AllMove ds → AreNumbered m k ds → ((p : ℕ) → 0 < p → slice_index xs (p - 1) ≤ n) →
    ((p : ℕ) → 0 < p → is_some (question_in p ds) ≡ true → made p ≡ true) → all_closed ds ≡ false → total n xs ds + 1 ≤ total n ys es
total-further n m k made xs ys [] es g w i le served open_ = absurd (cc)
total-further n m k made xs ys (d ∷ ds) [] g w i le served open_ = absurd g
total-further n m k made xs ys (d ∷ ds) (e ∷ es) g w i le served open_ = elim (cases_Bool (is_closed d)) [
  | inl closed ↦
      let rest : all_closed ds ≡ false = rw closed at open_ in
      omega (arith, no-less n made xs ys d e g.0, total-further n m (k + 1) made xs ys ds es g.1 w.1 i.1 le (λ p some asked. served p some (asked-later p d ds asked)) rest)
  | inr still ↦
      let one : progress n xs d + 1 ≤ progress n ys e =
      further-by n made xs ys d e d.by_first d.by_second d.close refl refl refl w.0 still g.0 (le d.first i.0.1.0.0) (le d.second i.0.1.1.0)
      (λ a. served d.first i.0.1.0.0 (asked-first d ds a)) (λ a. served d.second i.0.1.1.0 (asked-second d ds a)) in
      omega (arith, one, total-no-less n made xs ys ds es g.1)
]

-- claims

slowest-no-less : (n : ℕ) (made : ℕ → Bool) (xs ys : List ℕ) (p : ℕ) (ss ts : List (Option Settled)) → ClaimsGrow n made xs ys p ss ts → slowest n xs p ss ≤ slowest n ys p ts
slowest-no-less n made xs ys p [] [] g = omega arith
slowest-no-less n made xs ys p [] (t ∷ ts) g = absurd g
slowest-no-less n made xs ys p (s ∷ ss) [] g = absurd g
slowest-no-less n made xs ys p (s ∷ ss) (t ∷ ts) g = omega (arith, g.0.more, slowest-no-less n made xs ys (p + 1) ss ts g.1)

slowest-low : (n : ℕ) (xs : List ℕ) (p : ℕ) (ss : List (Option Settled)) → 0 < p → ((q : ℕ) → 0 < q → slice_index xs (q - 1) ≤ n) → all_there ss ≡ false → slowest n xs p ss ≤ n
slowest-low n xs p [] some le e = absurd (cc)
slowest-low n xs p (None ∷ ss) some le e = omega (arith, le p some)
slowest-low n xs p (Some s ∷ ss) some le e = omega (arith, slowest-low n xs (p + 1) ss (omega arith) le e)

claim-further : (n c : ℕ) (made : ℕ → Bool) (xs ys : List ℕ) (p : ℕ) (s t : Option Settled) → c ≤ n → c ≤ claim_of n xs p s → ClaimGrows n made xs ys p s t → (is_none s ≡ true → made p ≡ true) → c + 1 ≤ claim_of n ys p t
claim-further n c made xs ys p (Some s) t few low g own = omega (arith, few, g.more)
claim-further n c made xs ys p None t few low g own = (let one : one_if (true && made p) ≡ 1 = rw (own refl) refl in omega (arith, low, g.more, one))

slowest-further : (n c : ℕ) (made : ℕ → Bool) (xs ys : List ℕ) (p : ℕ) (ss ts : List (Option Settled)) → c ≤ n → c ≤ slowest n xs p ss → ClaimsGrow n made xs ys p ss ts →
    ((j : ℕ) → claim_missing (slice_get ss j) ≡ true → made (p + j) ≡ true) → c + 1 ≤ slowest n ys p ts
slowest-further n c made xs ys p [] [] few low g served = omega (arith, few)
slowest-further n c made xs ys p [] (t ∷ ts) few low g served = absurd g
slowest-further n c made xs ys p (s ∷ ss) [] few low g served = absurd g
slowest-further n c made xs ys p (s ∷ ss) (t ∷ ts) few low g served =
    omega (
      arith,
      claim-further n c made xs ys p s t few (omega (arith, low)) g.0 (λ none. own s none (served 0)),
      slowest-further n c made xs ys (p + 1) ss ts few (omega (arith, low)) g.1 (λ j missing. ap made (next j) ∙ served (suc j) missing),
    )
  where
    next : (j : ℕ) → p + 1 + j ≡ p + suc j
    next j = omega arith

    own : (o : Option Settled) → is_none o ≡ true → (claim_missing (Some o) ≡ true → made (p + 0) ≡ true) → made p ≡ true
    own None e h = (let same : p ≡ p + 0 = omega arith in ap made same ∙ h refl)
    own (Some u) e h = absurd (cc)

-- ALL OF IT

from-some : (o : Option Question) → is_some o ≡ true → (q : Question) × (o ≡ Some q)
from-some (Some q) e = (q, refl)
from-some None e = absurd (cc)

some-post : (n : ℕ) → 1 ≤ n → nat_lt 0 n ≡ true
some-post n le = (let lt : 0 < n = omega (arith, le) in grind (arith, nat_tests))

there-all : (ss : List (Option Settled)) (k : ℕ) → all_there ss ≡ true → claim_missing (slice_get ss k) ≡ false
there-all [] k e = refl
there-all (None ∷ ss) k e = absurd (cc)
there-all (Some s ∷ ss) zero e = refl
there-all (Some s ∷ ss) (suc k) e = there-all ss k e

module _ (of_provers : RecordsAreOfProvers) where
  period-further : (rules : Rules) → ((st : MatchState) → IsAfterPosts rules st → IsFine rules st) → (xs : List Post) (st : MatchState) → IsAfterPosts rules st → IsServed rules st xs → is_complete st.record_ ≡ false →
      far rules.setup.patience st + 1 ≤ far rules.setup.patience (after_posts rules xs st)
  period-further rules fine xs st i served open_ =
      let n : ℕ = rules.setup.patience in
      let f : IsFine rules st = fine st i in
      let next : MatchState = after_posts rules xs st in
      let g : StateGrows rules.setup.patience (have of_provers rules xs st) st (after_posts rules xs st) = grows-posts of_provers rules fine xs st i in
      elim (cases_Bool (all_there st.record_.claims)) [
        | inl there ↦
            let still : all_closed st.record_.disputes ≡ false = rw there at open_ in
            let asked : (p : ℕ) → 0 < p → is_some (question_in p st.record_.disputes) ≡ true → have of_provers rules xs st p ≡ true = λ p some is.
            let q : (q : Question) × (question_in p st.record_.disputes ≡ Some q) = from-some (question_in p st.record_.disputes) is in
            let o : open_question rules st.record_ p ≡ Some q.0 = rw (there-all st.record_.claims (p - 1) there) q.1 in
            some-post (effective_posts_of rules p xs st) (served.each p q.0 some o) in
            omega (
              arith,
              slowest-no-less rules.setup.patience (have of_provers rules xs st) st.passed (after_posts rules xs st).passed 1 st.record_.claims (after_posts rules xs st).record_.claims g.claims,
              total-further rules.setup.patience rules.setup.provers 1 (have of_provers rules xs st) st.passed (after_posts rules xs st).passed st.record_.disputes (after_posts rules xs st).record_.disputes g.disputes f.waits f.of_provers.disputes f.passes asked still,
            )
        | inr missing ↦
            let low : slowest rules.setup.patience st.passed 1 st.record_.claims ≤ rules.setup.patience = slowest-low rules.setup.patience st.passed 1 st.record_.claims (omega arith) f.passes missing in
            let asked : (j : ℕ) → claim_missing (slice_get st.record_.claims j) ≡ true → have of_provers rules xs st (1 + j) ≡ true = λ j none.
            let at : 1 + j - 1 ≡ j = omega arith in
            let o : open_question rules st.record_ (1 + j) ≡ Some claim_question = rw (at, none) refl in
            some-post (effective_posts_of rules (1 + j) xs st) (served.each (1 + j) claim_question (omega arith) o) in
            omega (
              arith,
              slowest-further rules.setup.patience (slowest rules.setup.patience st.passed 1 st.record_.claims) (have of_provers rules xs st) st.passed (after_posts rules xs st).passed 1 st.record_.claims (after_posts rules xs st).record_.claims low (omega arith) g.claims asked,
              total-no-less rules.setup.patience (have of_provers rules xs st) st.passed (after_posts rules xs st).passed st.record_.disputes (after_posts rules xs st).record_.disputes g.disputes,
            )
      ]

-- HOW FAR it can come

slowest-most : (n : ℕ) (xs : List ℕ) (p : ℕ) (ss : List (Option Settled)) → slowest n xs p ss ≤ n + 1
slowest-most n xs p [] = omega arith
slowest-most n xs p (s ∷ ss) = omega (arith, slowest-most n xs (p + 1) ss)

side-most : (n a x : ℕ) (o : Option Settled) (k : Bool) → x ≤ n → (n + 1) * (a + one_if (is_some o)) + (if is_none o && not k then x else 0) ≤ (n + 1) * (a + 1)
side-most n a x (Some s) k le = omega arith
side-most n a x None true le = omega arith
side-most n a x None false le = omega (arith, le)

side-open : (n a x : ℕ) (k : Bool) → x ≤ n → (n + 1) * (a + 0) + (if not k then x else 0) + 1 ≤ (n + 1) * (a + 1)
side-open n a x true le = omega arith
side-open n a x false le = omega (arith, le)

progress-most : (n k : ℕ) (xs : List ℕ) (d : Bisection) → slice_index xs (d.first - 1) ≤ n → length d.past ≤ k → progress n xs d ≤ (n + 1) * (k + 1)
progress-most n k xs d le few =
    let up : (n + 1) * (length d.past + 1) ≤ (n + 1) * (k + 1) = mul-le-mul_left (n + 1) (omega (arith, few)) in
    omega (arith, up, side-most n (length d.past) (slice_index xs (d.first - 1)) d.by_first (is_closed d) le)

progress-open : (n k : ℕ) (xs : List ℕ) (d : Bisection) (x y : Option Settled) (c : Option Close) → d.by_first ≡ x → d.by_second ≡ y → d.close ≡ c → Waits x y c → is_some c ≡ false →
    slice_index xs (d.first - 1) ≤ n → slice_index xs (d.second - 1) ≤ n → length d.past ≤ k → progress n xs d + 1 ≤ (n + 1) * (k + 1)
progress-open n k xs d (Some a) (Some b) None ex ey ec w open_ le le2 few = absurd w
progress-open n k xs d x y (Some c) ex ey ec w open_ le le2 few = absurd (cc)
progress-open n k xs d None y None ex ey ec w open_ le le2 few =
    let up : (n + 1) * (length d.past + 1) ≤ (n + 1) * (k + 1) = mul-le-mul_left (n + 1) (omega (arith, few)) in
    let low : first_of n xs d + 1 ≤ (n + 1) * (length d.past + 1) = rw (ex, ec) (waiting-side n (length d.past) (slice_index xs (d.first - 1)) true le) in
    omega (arith, up, low)
progress-open n k xs d (Some s) None None ex ey ec w open_ le le2 few =
    let up : (n + 1) * (length d.past + 1) ≤ (n + 1) * (k + 1) = mul-le-mul_left (n + 1) (omega (arith, few)) in
    let low : second_of n xs d + 1 ≤ (n + 1) * (length d.past + 1) = rw (ey, ec) (waiting-side n (length d.past) (slice_index xs (d.second - 1)) true le2) in
    omega (arith, up, low)

total-most : (rules : Rules) (n m j k : ℕ) (xs : List ℕ) (ds : List Bisection) → AreNumbered m j ds → ((p : ℕ) → 0 < p → slice_index xs (p - 1) ≤ n) → IsMost rules.setup.fan rules.setup.bound k → AllShort rules ds →
    total n xs ds ≤ (n + 1) * (k + 1) * length ds
total-most rules n m j k xs [] i le most short = omega arith
total-most rules n m j k xs (d ∷ ds) i le most short =
    omega (arith, progress-most n k xs d (le d.first i.0.1.0.0) (few-past rules k d most short.0.bisections), total-most rules n m (j + 1) k xs ds i.1 le most short.1)

total-open : (rules : Rules) (n m j k : ℕ) (xs : List ℕ) (ds : List Bisection) → AreNumbered m j ds → ((p : ℕ) → 0 < p → slice_index xs (p - 1) ≤ n) → IsMost rules.setup.fan rules.setup.bound k → AllShort rules ds → AllMove ds →
    all_closed ds ≡ false → total n xs ds + 1 ≤ (n + 1) * (k + 1) * length ds
total-open rules n m j k xs [] i le most short w open_ = absurd (cc)
total-open rules n m j k xs (d ∷ ds) i le most short w open_ = elim (cases_Bool (is_closed d)) [
  | inl closed ↦
      let rest : all_closed ds ≡ false = rw closed at open_ in
      omega (arith, progress-most n k xs d (le d.first i.0.1.0.0) (few-past rules k d most short.0.bisections), total-open rules n m (j + 1) k xs ds i.1 le most short.1 w.1 rest)
  | inr still ↦
      omega (
        arith,
        progress-open n k xs d d.by_first d.by_second d.close refl refl refl w.0 still (le d.first i.0.1.0.0) (le d.second i.0.1.1.0) (few-past rules k d most short.0.bisections),
        total-most rules n m (j + 1) k xs ds i.1 le most short.1,
      )
]

all-most : (n k m l a b : ℕ) → l ≤ m → a + b ≤ n + 1 + (n + 1) * (k + 1) * l → a + b ≤ (n + 1) * (1 + m * (k + 1))
all-most n k m l a b le few =
    let up : (n + 1) * (k + 1) * l ≤ (n + 1) * (k + 1) * m = mul-le-mul_left ((n + 1) * (k + 1)) le in
    let same : (n + 1) * (k + 1) * m ≡ (n + 1) * (m * (k + 1)) = mul_assoc (n + 1) (k + 1) m ∙ ap (λ (x : ℕ). (n + 1) * x) (mul_comm (k + 1) m) in
    let sum : (n + 1) * (1 + m * (k + 1)) ≡ (n + 1) + (n + 1) * (m * (k + 1)) = mul-add (n + 1) 1 (m * (k + 1)) ∙ ap (λ (x : ℕ). x + (n + 1) * (m * (k + 1))) (one n) in
    omega (arith, few, up, same, sum)
  where
    one : (j : ℕ) → (j + 1) * 1 ≡ j + 1
    one j = omega arith

far-open : (rules : Rules) (k : ℕ) (st : MatchState) → IsFine rules st → IsMost rules.setup.fan rules.setup.bound k → is_complete st.record_ ≡ false →
    far rules.setup.patience st + 1 ≤ (rules.setup.patience + 1) * (1 + (rules.setup.provers - 1) * (k + 1))
far-open rules k st f most open_ =
    let n : ℕ = rules.setup.patience in
    let ds : List Bisection = st.record_.disputes in
    let few : length st.record_.disputes ≤ rules.setup.provers - 1 = omega (arith, f.few) in
    let both : slowest n st.passed 1 st.record_.claims + total n st.passed st.record_.disputes + 1 ≤ n + 1 + (n + 1) * (k + 1) * length st.record_.disputes =
    elim (cases_Bool (all_there st.record_.claims)) [
      | inl there ↦
          let still : all_closed st.record_.disputes ≡ false = rw there at open_ in
          omega (arith, slowest-most n st.passed 1 st.record_.claims, total-open rules n rules.setup.provers 1 k st.passed st.record_.disputes f.of_provers.disputes f.passes most f.short f.waits still)
      | inr missing ↦
          omega (
            arith,
            slowest-low n st.passed 1 st.record_.claims (omega arith) f.passes missing,
            total-most rules n rules.setup.provers 1 k st.passed st.record_.disputes f.of_provers.disputes f.passes most f.short,
          )
    ] in
    let most_ : slowest n st.passed 1 st.record_.claims + (total n st.passed st.record_.disputes + 1) ≤ (n + 1) * (1 + (rules.setup.provers - 1) * (k + 1)) =
    all-most n k (rules.setup.provers - 1) (length st.record_.disputes) (slowest n st.passed 1 st.record_.claims) (total n st.passed st.record_.disputes + 1) few (omega (arith, both)) in
    omega (arith, most_)

-- ONCE OVER, over for good

module _ (of_provers : RecordsAreOfProvers) (nobody : NobodyAskedIsOver) where
  unasked : (rules : Rules) (st : MatchState) (who : ℕ) (o : Option Question) → open_question rules st.record_ who ≡ o → 0 < who → ArePlayable rules → IsAfterPosts rules st → is_complete st.record_ ≡ true → o ≡ None
  unasked rules st who None e some playable i over = refl
  unasked rules st who (Some q) e some playable i over =
      let small : who ≤ rules.setup.provers = is-prover of_provers rules who q st some i e in
      absurd (let all : (p : ℕ) → 0 < p → p ≤ rules.setup.provers → open_question rules (record_after rules i.posts) p ≡ None = (nobody rules i.posts playable).1 (ap (λ (u : MatchState). is_complete u.record_) i.comes ∙ over) in
      let none : open_question rules st.record_ who ≡ None = subst (λ (u : MatchState). open_question rules u.record_ who ≡ None) i.comes (all who some small) in
      cc)

  stays-over : (rules : Rules) (xs : List Post) (st : MatchState) → ArePlayable rules → IsAfterPosts rules st → is_complete st.record_ ≡ true → is_complete (after_posts rules xs st).record_ ≡ true
  stays-over rules [] st playable i over = over
  stays-over rules (x ∷ xs) st playable i over =
      let none : open_question rules st.record_ x.prover ≡ None = unasked rules st x.prover (open_question rules st.record_ x.prover) refl x.numbered playable i over in
      let same : posted rules st x.prover x.qid x.answer ≡ st = ap (posted_on rules st x.prover x.qid x.answer) none in
      stays-over rules xs (posted rules st x.prover x.qid x.answer) playable (one-post-more rules x st i) (ap (λ (u : MatchState). is_complete u.record_) same ∙ over)

  after-more : (rules : Rules) (xs : List Post) (st : MatchState) → IsAfterPosts rules st → IsAfterPosts rules (after_posts rules xs st)
  after-more rules [] st i = i
  after-more rules (x ∷ xs) st i = after-more rules xs (posted rules st x.prover x.qid x.answer) (one-post-more rules x st i)

  periods-over : (rules : Rules) (periods : List (List Post)) (st : MatchState) → ArePlayable rules → IsAfterPosts rules st → is_complete st.record_ ≡ true → is_complete (after_periods rules periods st).record_ ≡ true
  periods-over rules [] st playable i over = over
  periods-over rules (xs ∷ periods) st playable i over =
      periods-over rules periods (after_posts rules xs st) playable (after-more rules xs st i) (stays-over rules xs st playable i over)

  -- after each period it is over, or has come further
  periods-further : (rules : Rules) → ((st : MatchState) → IsAfterPosts rules st → IsFine rules st) → (periods : List (List Post)) (st : MatchState) → ArePlayable rules → IsAfterPosts rules st → AllServed rules periods st →
      (is_complete (after_periods rules periods st).record_ ≡ true) ⊎ (far rules.setup.patience st + length periods ≤ far rules.setup.patience (after_periods rules periods st))
  periods-further rules fine [] st playable i served = inr (omega arith)
  periods-further rules fine (xs ∷ periods) st playable i served = elim (cases_Bool (is_complete st.record_)) [
    | inl over ↦ inl (periods-over rules (xs ∷ periods) st playable i over)
    | inr open_ ↦
        let one : far rules.setup.patience st + 1 ≤ far rules.setup.patience (after_posts rules xs st) = period-further of_provers rules fine xs st i served.0 open_ in
        elim (periods-further rules fine periods (after_posts rules xs st) playable (after-more rules xs st i) served.1) [
          | inl over ↦ inl over
          | inr more ↦ inr (omega (arith, one, more))
        ]
  ]

  all-after : (rules : Rules) (periods : List (List Post)) (st : MatchState) → IsAfterPosts rules st → IsAfterPosts rules (after_periods rules periods st)
  all-after rules [] st i = i
  all-after rules (xs ∷ periods) st i = all-after rules periods (after_posts rules xs st) (after-more rules xs st i)

  pub periods-are-few : BisectionLaws → FewDisputes → FewRounds → SidesAreTwoProvers → OpenDisputesShareNoProver → PeriodsAreFew
  periods-are-few laws disputes rounds sides one rules periods k playable most served full =
      let start : IsAfterPosts rules (begun rules) = record { posts = []; comes = refl } in
      let end : MatchState = after_periods rules periods (begun rules) in
      elim (cases_Bool (is_complete (after_periods rules periods (begun rules)).record_)) [
        | inl over ↦ over
        | inr open_ ↦ elim (periods-further rules fine periods (begun rules) playable start served) [
          | inl over ↦ over
          | inr more ↦ absurd (omega (arith, more, full, far-open rules k (after_periods rules periods (begun rules)) (fine (after_periods rules periods (begun rules)) (all-after rules periods (begun rules) start)) most open_))
        ]
      ]
    where
      fine : (st : MatchState) → IsAfterPosts rules st → IsFine rules st
      fine st i =
          let r : Record = record_after rules i.posts in
          let s = posts_settle rules i.posts in
          let known : (p : ℕ) → 0 < p → IsKept rules p (0 + effective_posts_of rules p i.posts (begun rules)) st = λ p some.
          subst (IsKept rules p (0 + effective_posts_of rules p i.posts (begun rules))) i.comes (kept-posts of_provers rules p some i.posts 0 (begun rules) (kept-begun rules p)) in
          let ordered : IsOrdered rules (record_after rules i.posts) = subst (IsOrdered rules) s.2 (ordered-after rules s.0 (nothing_settled rules) (ordered-nothing rules)) in
          let waits : AllMove (record_after rules i.posts).disputes = subst (λ (t : Record). AllMove t.disputes) s.2 (moves-after laws rules s.0 (nothing_settled rules) tt) in
          record {
            after_ = i;
            known = (known 1 (omega arith)).known;
            passes = λ p some. (known p some).spent.passes;
            of_provers = subst (λ (u : MatchState). IsOfProvers rules.setup.provers u.record_) i.comes (of_provers rules i.posts);
            two = subst (λ (u : MatchState). AllApart u.record_.disputes) i.comes (sides rules i.posts playable);
            apart = λ p. subst (λ (u : MatchState). open_disputes_of p u.record_.disputes ≤ 1) i.comes (one rules i.posts p);
            begun_ = subst (λ (u : MatchState). all_there u.record_.claims ≡ false → u.record_.disputes ≡ []) i.comes ordered.first;
            waits = subst (λ (u : MatchState). AllMove u.record_.disputes) i.comes waits;
            short = subst (λ (u : MatchState). AllShort rules u.record_.disputes) i.comes (rounds rules i.posts playable);
            few = subst (λ (u : MatchState). length u.record_.disputes < rules.setup.provers) i.comes (disputes rules i.posts playable.some);
          }
