-- Whatever is posted, a match comes no less far, and each dispute and claim further by the posts of its provers that are not stale.
use Rattle.std.proofs.Common.{◌≡◌, ◌≢◌, ℕ, zero, suc, ◌+◌, ◌-◌, ◌*◌, ◌<◌, ◌≤◌, nat_lt, Bool, true, false, not, ◌&&◌, ◌||◌, ◌==◌, if◌then◌else◌, List, [], ◌∷◌, ◌++◌, length, slice_get, slice_set, slice_index, inl, inr, Option, Some, None, is_some, is_none, refl, sym, ◌∙◌, ap, arith, subst}
use Rattle.std.proofs.Math.Nat.{mul-le-mul_left}
use Rattle.std.proofs.lemmas.Bool.Decides.{nat_tests}
use Rattle.std.proofs.lemmas.Bool.{and_parts, cases_Bool}
use Rattle.rd_base.specs.Questions.{same_qid}
use Rattle.bisect_game.specs.declared.settled.Question.{Question}
use Rattle.bisect_game.specs.declared.settled.Settled.{Settled}
use Rattle.bisect_game.specs.declared.settled.Close.{Close}
use Rattle.bisect_game.specs.declared.settled.Side.TheVariants.{First, Second}
use Rattle.bisect_game.specs.Bisection.{Bisection, is_closed, asks, settle_first, settle_second}
use Rattle.bisect_game.specs.Rules.{Rules}
use Rattle.tournament.specs.Bracket.{Record, pairs, last_stage, disputes_of, all_there, is_stage_due, stage_opened, asks_first, asks_second, claim_missing, open_question, settled_in, put, settle}
use Rattle.tournament.specs.FewPosts.{effective_posts_of}
use Rattle.tournament.specs.Moves.{MatchState, passes_of, settled_by, moved}
use Rattle.tournament.specs.Numbers.{AreNumbered, IsOfProvers, RecordsAreOfProvers}
use Rattle.tournament.specs.OpenDisputes.{one_if, is_side, open_disputes_of, AllApart}
use Rattle.tournament.specs.Posting.{Post, posted, posted_on, reply_on, reply_to, reply_by, after_posts, is_stale}
use Rattle.tournament.specs.declared.posting.Reply.TheVariants as reply
use Rattle.tournament.specs.Theorem.{AllShort}
use Rattle.tournament.proofs.OnceLemmas.{is-eqb, not-eqb, first-waits, second-waits}
use Rattle.tournament.proofs.OpenedLemmas.{opened-not, opened-due}
use Rattle.tournament.proofs.SidesLemmas.{SameSides, sides-first, sides-second}
use Rattle.tournament.proofs.few.NeverLemmas.{reply-not-stale}
use Rattle.tournament.proofs.few.QuestionLemmas.{settled_by_first, settled_by_second, Grows, grows-first, grows-second}
use Rattle.tournament.proofs.few.SpentLemmas.{IsAfterPosts, one-post-more, is-prover, at-set, at-other}
use Rattle.tournament.proofs.length.OverLemmas.{AllMove}
use Rattle.tournament.proofs.few.ProgressLemmas.{AllGrow, ClaimGrows, ClaimsGrow, DisputeGrows, StateGrows, grows-as, grows-still, grows-then}

-- ANOTHER LIST OF PASSES, in which only a prover's own number differs

-- what becomes of the passes of those that are asked: the prover's own are one more, or it isn't asked, and the others' stay
abbrev Passing : (who : ℕ) → List ℕ → List ℕ → Type 0
Passing who xs ys = (p : ℕ) → 0 < p → p ≢ who → slice_index ys (p - 1) ≡ slice_index xs (p - 1)

side-if : (a : Bool) (x y m : ℕ) (b : Bool) → (a ≡ true → x + one_if b ≤ y) → m + (if a then x else 0) + one_if (a && b) ≤ m + (if a then y else 0)
side-if true x y m b h = omega (arith, h refl)
side-if false x y m b h = omega arith

-- of one side
side-passes : (who p : ℕ) (xs ys : List ℕ) → 0 < p → Passing who xs ys → (who ≡ p → slice_index xs (p - 1) + 1 ≤ slice_index ys (p - 1)) → slice_index xs (p - 1) + one_if (who == p) ≤ slice_index ys (p - 1)
side-passes who p xs ys some pass own = elim (cases_Bool (who == p)) [
  | inl e ↦ (let one : one_if (who == p) ≡ 1 = ap one_if e in omega (arith, one, own (is-eqb who p e)))
  | inr e ↦
      let none : one_if (who == p) ≡ 0 = ap one_if e in
      let other : p ≢ who = λ same. let yes : (who == p) ≡ true = (let back : who ≡ p = sym same in grind (arith, nat_tests)) in cc in
      omega (arith, none, pass p some other)
]

-- a dispute that stays
dispute-passes : (n who : ℕ) (xs ys : List ℕ) (d : Bisection) → 0 < d.first → 0 < d.second → Passing who xs ys →
    (who ≡ d.first → asks First d ≡ true → slice_index xs (d.first - 1) + 1 ≤ slice_index ys (d.first - 1)) →
    (who ≡ d.second → asks Second d ≡ true → slice_index xs (d.second - 1) + 1 ≤ slice_index ys (d.second - 1)) → DisputeGrows n (λ p. who == p) xs ys d d
dispute-passes n who xs ys d some some2 pass own own2 = record {
  first = refl;
  second = refl;
  first_more = side-if (asks First d) _ _ ((n + 1) * settled_by_first d) (who == d.first) (λ a. side-passes who d.first xs ys some pass (λ same. own same a));
  second_more = side-if (asks Second d) _ _ ((n + 1) * settled_by_second d) (who == d.second) (λ a. side-passes who d.second xs ys some2 pass (λ same. own2 same a));
  first_stays = λ a none. a;
  second_stays = λ a none. a;
}

-- A PASS

all-pass : (n who m k : ℕ) (xs ys : List ℕ) (ds : List Bisection) → AreNumbered m k ds → Passing who xs ys → (0 < who → slice_index xs (who - 1) + 1 ≤ slice_index ys (who - 1)) → AllGrow n (λ p. who == p) xs ys ds ds
all-pass n who m k xs ys [] i pass own = tt
all-pass n who m k xs ys (d ∷ ds) i pass own =
    let some : 0 < d.first = i.0.1.0.0 in
    let some2 : 0 < d.second = i.0.1.1.0 in (
      dispute-passes n who xs ys d some some2 pass
          (λ same asked. subst (λ (q : ℕ). slice_index xs (q - 1) + 1 ≤ slice_index ys (q - 1)) same (own (rw same some)))
          (λ same asked. subst (λ (q : ℕ). slice_index xs (q - 1) + 1 ≤ slice_index ys (q - 1)) same (own (rw same some2))),
      all-pass n who m (k + 1) xs ys ds i.1 pass own,
    )

claims-pass : (n who : ℕ) (xs ys : List ℕ) (p : ℕ) (ss : List (Option Settled)) → 0 < p → Passing who xs ys → (0 < who → slice_index xs (who - 1) + 1 ≤ slice_index ys (who - 1)) → ClaimsGrow n (λ q. who == q) xs ys p ss ss
claims-pass n who xs ys p [] some pass own = tt
claims-pass n who xs ys p (Some s ∷ ss) some pass own = (record { more = omega arith; stays = λ a none. a }, claims-pass n who xs ys (p + 1) ss (omega arith) pass own)
claims-pass n who xs ys p (None ∷ ss) some pass own = (
  record {
    more = side-passes who p xs ys some pass (λ same. subst (λ (q : ℕ). slice_index xs (q - 1) + 1 ≤ slice_index ys (q - 1)) same (own (rw same some)));
    stays = λ a none. a;
  },
  claims-pass n who xs ys (p + 1) ss (omega arith) pass own,
)

-- AN ANSWER

all-both : (n : ℕ) (made : ℕ → Bool) (xs ys : List ℕ) (ds es new : List Bisection) → AllGrow n made xs ys ds es → AllGrow n made xs ys ds (es ++ new)
all-both n made xs ys [] es new g = tt
all-both n made xs ys (d ∷ ds) [] new g = absurd g
all-both n made xs ys (d ∷ ds) (e ∷ es) new g = (g.0, all-both n made xs ys ds es new g.1)

up-by : (n a b c x : ℕ) → a + 1 ≡ b → x ≤ n → (n + 1) * a + x + 1 ≤ (n + 1) * b + c
up-by n a b c x e le = let more : (n + 1) * (a + 1) ≤ (n + 1) * b = mul-le-mul_left (n + 1) (omega (arith, e)) in omega (arith, more, le)

if-more : (b : Bool) (m x : ℕ) → m ≤ m + (if b then x else 0)
if-more true m x = omega arith
if-more false m x = omega arith

open-side : (o : Option Settled) (c : Option Close) → (is_none o && not (is_some c)) ≡ true → o ≡ None
open-side None c e = refl
open-side (Some s) c e = absurd (cc)

-- the side that doesn't answer
wait-by : (n a b : ℕ) (x y : ℕ) (was is_ : Bool) (k : Bool) → a + 0 ≡ b → (was ≡ true → is_ ≡ true) → (was ≡ true → x ≡ y) → (was ≡ true → k ≡ false) →
    (n + 1) * a + (if was then x else 0) + one_if (was && k) ≤ (n + 1) * b + (if is_ then y else 0)
wait-by n a b x y true is_ k e stays same none =
    let more : (n + 1) * a ≤ (n + 1) * b = mul-le-mul_left (n + 1) (omega (arith, e)) in
    rw (stays refl, none refl) (omega (arith, more, same refl))
wait-by n a b x y false is_ k e stays same none =
    let more : (n + 1) * a ≤ (n + 1) * b = mul-le-mul_left (n + 1) (omega (arith, e)) in
    omega (arith, more, if-more is_ ((n + 1) * b) y)

made-not : (who p : ℕ) → p ≢ who → (who == p) ≡ false
made-not who p ne = not-eqb who p (λ e. ne (sym e))

asked-own : (n a x c : ℕ) (b : Bool) (was k : Bool) → was ≡ true → x ≤ n → a + 1 ≡ c → (y : ℕ) → (n + 1) * a + (if was then x else 0) + one_if (was && k) ≤ (n + 1) * c + (if b then y else 0)
asked-own n a x c b true true e le up y = omega (arith, up-by n a c 0 x up le, if-more b ((n + 1) * c) y)
asked-own n a x c b true false e le up y = omega (arith, up-by n a c 0 x up le, if-more b ((n + 1) * c) y)
asked-own n a x c b false k e le up y = absurd (cc)

dispute-first : (rules : Rules) (n who : ℕ) (s : Settled) (xs ys : List ℕ) (d : Bisection) → asks_first who d ≡ true → d.first ≢ d.second → 0 < d.second → slice_index xs (d.first - 1) ≤ n → Passing who xs ys →
    DisputeGrows n (λ p. who == p) xs ys d (settle_first rules.ruling s d)
dispute-first rules n who s xs ys d asked two some le pass =
    let a : ((d.first == who) ≡ true) × (asks First d ≡ true) = and_parts (d.first == who) (asks First d) asked in
    let is : d.first ≡ who = is-eqb d.first who a.0 in
    let none : d.by_first ≡ None = open-side d.by_first d.close a.1 in
    let k : SameSides d (settle_first rules.ruling s d) = sides-first rules.ruling s d in
    let g : Grows d (settle_first rules.ruling s d) 1 0 = grows-first rules.ruling s d none in
    let other : d.second ≢ who = λ same. two (is ∙ sym same) in
    let waits : asks Second d ≡ true → settle_first rules.ruling s d ≡ record d { by_first = Some s } = λ b. first-waits rules.ruling s d (open-side d.by_second d.close b) in
    let stays : asks Second d ≡ true → asks Second (settle_first rules.ruling s d) ≡ true = λ b. ap (λ (e : Bisection). asks Second e) (waits b) ∙ b in
    record {
      first = k.first;
      second = k.second;
      first_more = asked-own n (settled_by_first d) (slice_index xs (d.first - 1)) (settled_by_first (settle_first rules.ruling s d)) (asks First (settle_first rules.ruling s d)) (asks First d) (who == d.first) a.1 le g.first _;
      second_more = wait-by n (settled_by_second d) (settled_by_second (settle_first rules.ruling s d)) (slice_index xs (d.second - 1)) _ (asks Second d) (asks Second (settle_first rules.ruling s d)) (who == d.second) g.second stays
          (λ b. sym (ap (λ (p : ℕ). slice_index ys (p - 1)) k.second ∙ pass d.second some other)) (λ b. made-not who d.second other);
      first_stays = λ b away. absurd (let yes : (who == d.first) ≡ true = (let back : who ≡ d.first = sym is in grind (arith, nat_tests)) in cc);
      second_stays = λ b away. stays b;
    }

dispute-second : (rules : Rules) (n who : ℕ) (s : Settled) (xs ys : List ℕ) (d : Bisection) → asks_second who d ≡ true → d.first ≢ d.second → 0 < d.first → slice_index xs (d.second - 1) ≤ n → Passing who xs ys →
    DisputeGrows n (λ p. who == p) xs ys d (settle_second rules.ruling s d)
dispute-second rules n who s xs ys d asked two some le pass =
    let a : ((d.second == who) ≡ true) × (asks Second d ≡ true) = and_parts (d.second == who) (asks Second d) asked in
    let is : d.second ≡ who = is-eqb d.second who a.0 in
    let none : d.by_second ≡ None = open-side d.by_second d.close a.1 in
    let k : SameSides d (settle_second rules.ruling s d) = sides-second rules.ruling s d in
    let g : Grows d (settle_second rules.ruling s d) 0 1 = grows-second rules.ruling s d none in
    let other : d.first ≢ who = λ same. two (same ∙ sym is) in
    let waits : asks First d ≡ true → settle_second rules.ruling s d ≡ record d { by_second = Some s } = λ b. second-waits rules.ruling s d (open-side d.by_first d.close b) in
    let stays : asks First d ≡ true → asks First (settle_second rules.ruling s d) ≡ true = λ b. ap (λ (e : Bisection). asks First e) (waits b) ∙ b in
    record {
      first = k.first;
      second = k.second;
      first_more = wait-by n (settled_by_first d) (settled_by_first (settle_second rules.ruling s d)) (slice_index xs (d.first - 1)) _ (asks First d) (asks First (settle_second rules.ruling s d)) (who == d.first) g.first stays
          (λ b. sym (ap (λ (p : ℕ). slice_index ys (p - 1)) k.first ∙ pass d.first some other)) (λ b. made-not who d.first other);
      second_more = asked-own n (settled_by_second d) (slice_index xs (d.second - 1)) (settled_by_second (settle_second rules.ruling s d)) (asks Second (settle_second rules.ruling s d)) (asks Second d) (who == d.second) a.1 le g.second _;
      first_stays = λ b away. stays b;
      second_stays = λ b away. absurd (let yes : (who == d.second) ≡ true = (let back : who ≡ d.second = sym is in grind (arith, nat_tests)) in cc);
    }

-- where a prover isn't asked, its passes don't count

pub same-test : (p q : ℕ) → p ≡ q → (q == p) ≡ true
same-test p q e = grind (arith, nat_tests)

not-asked : (who p : ℕ) (b : Bool) → ((p == who) && b) ≡ false → who ≡ p → b ≡ true → ⊥
not-asked who p true e same f = let yes : (p == who) ≡ true = same-test who p same in let away : (p == who) ≡ false = by (p == who) e in cc
  where
    by : (c : Bool) → (c && true) ≡ false → c ≡ false
    by true e = e
    by false e = refl
not-asked who p false e same f = cc

dispute-unasked : (n who : ℕ) (xs ys : List ℕ) (d : Bisection) → asks_first who d ≡ false → asks_second who d ≡ false → 0 < d.first → 0 < d.second → Passing who xs ys → DisputeGrows n (λ p. who == p) xs ys d d
dispute-unasked n who xs ys d away away2 some some2 pass =
    dispute-passes n who xs ys d some some2 pass (λ same asked. absurd (not-asked who d.first (asks First d) away same asked)) (λ same asked. absurd (not-asked who d.second (asks Second d) away2 same asked))

-- who is in no open dispute is asked in none
closed-first : (a b c k : Bool) → one_if ((a || b) && not k) ≡ 0 → (a && (c && not k)) ≡ false
closed-first true b c false e = absurd (cc)
closed-first true b true true e = refl
closed-first true b false true e = refl
closed-first false b c k e = refl

closed-second : (a b c k : Bool) → one_if ((a || b) && not k) ≡ 0 → (b && (c && not k)) ≡ false
closed-second true true c false e = absurd (cc)
closed-second false true c false e = absurd (cc)
closed-second a true true true e = refl
closed-second a true false true e = refl
closed-second a false c k e = refl

all-unasked : (n who m k : ℕ) (xs ys : List ℕ) (ds : List Bisection) → AreNumbered m k ds → open_disputes_of who ds ≡ 0 → Passing who xs ys → AllGrow n (λ p. who == p) xs ys ds ds
all-unasked n who m k xs ys [] i none pass = tt
all-unasked n who m k xs ys (d ∷ ds) i none pass =
    let here : one_if (is_side who d && not (is_closed d)) ≡ 0 = omega (arith, none) in (
      dispute-unasked n who xs ys d (closed-first (d.first == who) (d.second == who) (is_none d.by_first) (is_closed d) here) (closed-second (d.first == who) (d.second == who) (is_none d.by_second) (is_closed d) here)
          i.0.1.0.0 i.0.1.1.0 pass,
      all-unasked n who m (k + 1) xs ys ds i.1 (omega (arith, none)) pass,
    )

one-here : (a b c k : Bool) → (a && (c && not k)) ≡ true → one_if ((a || b) && not k) ≡ 1
one-here true b true false e = refl
one-here true b true true e = absurd (cc)
one-here true b false k e = absurd (cc)
one-here false b c k e = absurd (cc)

one-there : (a b c k : Bool) → (b && (c && not k)) ≡ true → one_if ((a || b) && not k) ≡ 1
one-there true true true false e = refl
one-there false true true false e = refl
one-there a true true true e = absurd (cc)
one-there a true false k e = absurd (cc)
one-there a false c k e = absurd (cc)

all-choice : (rules : Rules) (n who m k : ℕ) (s : Settled) (xs ys : List ℕ) (d : Bisection) (ds : List Bisection) (x y : Bool) → asks_first who d ≡ x → asks_second who d ≡ y → AreNumbered m k (d ∷ ds) → AllApart (d ∷ ds) →
    ((p : ℕ) → 0 < p → slice_index xs (p - 1) ≤ n) → open_disputes_of who (d ∷ ds) ≤ 1 → Passing who xs ys → AllGrow n (λ p. who == p) xs ys ds (settled_in rules who s ds) →
    AllGrow n (λ p. who == p) xs ys (d ∷ ds) (if x then settle_first rules.ruling s d ∷ ds else if y then settle_second rules.ruling s d ∷ ds else d ∷ settled_in rules who s ds)
all-choice rules n who m k s xs ys d ds true y ex ey i two le one pass rest =
    let here : one_if (is_side who d && not (is_closed d)) ≡ 1 = one-here (d.first == who) (d.second == who) (is_none d.by_first) (is_closed d) ex in
    (dispute-first rules n who s xs ys d ex two.0 i.0.1.1.0 (le d.first i.0.1.0.0) pass, all-unasked n who m (k + 1) xs ys ds i.1 (omega (arith, one, here)) pass)
all-choice rules n who m k s xs ys d ds false true ex ey i two le one pass rest =
    let here : one_if (is_side who d && not (is_closed d)) ≡ 1 = one-there (d.first == who) (d.second == who) (is_none d.by_second) (is_closed d) ey in
    (dispute-second rules n who s xs ys d ey two.0 i.0.1.0.0 (le d.second i.0.1.1.0) pass, all-unasked n who m (k + 1) xs ys ds i.1 (omega (arith, one, here)) pass)
all-choice rules n who m k s xs ys d ds false false ex ey i two le one pass rest = (dispute-unasked n who xs ys d ex ey i.0.1.0.0 i.0.1.1.0 pass, rest)

all-settled : (rules : Rules) (n who m k : ℕ) (s : Settled) (xs ys : List ℕ) (ds : List Bisection) → AreNumbered m k ds → AllApart ds → ((p : ℕ) → 0 < p → slice_index xs (p - 1) ≤ n) → open_disputes_of who ds ≤ 1 → Passing who xs ys →
    AllGrow n (λ p. who == p) xs ys ds (settled_in rules who s ds)
all-settled rules n who m k s xs ys [] i two le one pass = tt
all-settled rules n who m k s xs ys (d ∷ ds) i two le one pass =
    all-choice rules n who m k s xs ys d ds (asks_first who d) (asks_second who d) refl refl i two le one pass
    (all-settled rules n who m (k + 1) s xs ys ds i.1 two.1 le (omega (arith, one)) pass)

-- claims, where a prover's own isn't missing
claims-given : (n who : ℕ) (xs ys : List ℕ) (p : ℕ) (ss : List (Option Settled)) → 0 < p → Passing who xs ys → ((j : ℕ) → who ≡ p + j → claim_missing (slice_get ss j) ≡ false) → ClaimsGrow n (λ q. who == q) xs ys p ss ss
claims-given n who xs ys p [] some pass given = tt
claims-given n who xs ys p (Some s ∷ ss) some pass given =
    (record { more = omega arith; stays = λ a none. a }, claims-given n who xs ys (p + 1) ss (omega arith) pass (λ j e. given (suc j) (omega (arith, e))))
claims-given n who xs ys p (None ∷ ss) some pass given = (
  record {
    more = side-passes who p xs ys some pass (λ same. absurd (let e : true ≡ false = given 0 (omega (arith, same)) in cc));
    stays = λ a none. a;
  },
  claims-given n who xs ys (p + 1) ss (omega arith) pass (λ j e. given (suc j) (omega (arith, e))),
)

one-most : (b : Bool) → one_if b ≤ 1
one-most true = omega arith
one-most false = omega arith

-- and where it is settled now
claims-past : (n who : ℕ) (xs ys : List ℕ) (p : ℕ) (ss : List (Option Settled)) → who < p → 0 < p → Passing who xs ys → ClaimsGrow n (λ q. who == q) xs ys p ss ss
claims-past n who xs ys p ss lt some pass = claims-given n who xs ys p ss some pass (λ j e. absurd (omega (arith, e, lt)))

claims-set : (n who : ℕ) (s : Settled) (xs ys : List ℕ) (p j : ℕ) (ss : List (Option Settled)) → 0 < p → who ≡ p + j → ((q : ℕ) → 0 < q → slice_index xs (q - 1) ≤ n) → Passing who xs ys →
    ClaimsGrow n (λ q. who == q) xs ys p ss (slice_set ss j (Some s))
claims-set n who s xs ys p j [] some e le pass = tt
claims-set n who s xs ys p zero (Some t ∷ ss) some e le pass =
    (record { more = omega arith; stays = λ a none. absurd (cc) }, claims-past n who xs ys (p + 1) ss (omega (arith, e)) (omega arith) pass)
claims-set n who s xs ys p zero (None ∷ ss) some e le pass = (
  record {
    more = omega (arith, le p some, one-most (who == p));
    stays = λ a none. absurd (let same : who ≡ p = omega (arith, e) in let yes : (who == p) ≡ true = grind (arith, nat_tests) in cc);
  },
  claims-past n who xs ys (p + 1) ss (omega (arith, e)) (omega arith) pass,
)
claims-set n who s xs ys p (suc j) (t ∷ ss) some e le pass =
    let ne : p ≢ who = λ same. omega (arith, e, same) in
    let away : (who == p) ≡ false = made-not who p ne in (
      by t away (pass p some ne),
      claims-set n who s xs ys (p + 1) j ss (omega arith) (omega (arith, e)) le pass,
    )
  where
    by : (o : Option Settled) → (who == p) ≡ false → slice_index ys (p - 1) ≡ slice_index xs (p - 1) → ClaimGrows n (λ q. who == q) xs ys p o o
    by (Some u) away same = record { more = omega arith; stays = λ a none. a }
    by None away same = record { more = rw away (omega (arith, same)); stays = λ a none. a }

-- THE STATE of a match

pub record IsFine (rules : Rules) (st : MatchState) : Type 0 where
  pub after_ : IsAfterPosts rules st
  pub known : length st.passed ≡ rules.setup.provers
  pub passes : (p : ℕ) → 0 < p → passes_of st p ≤ rules.setup.patience
  pub of_provers : IsOfProvers rules.setup.provers st.record_
  pub two : AllApart st.record_.disputes
  pub apart : (p : ℕ) → open_disputes_of p st.record_.disputes ≤ 1
  pub begun_ : all_there st.record_.claims ≡ false → st.record_.disputes ≡ []
  pub waits : AllMove st.record_.disputes
  pub short : AllShort rules st.record_.disputes
  pub few : length st.record_.disputes < rules.setup.provers

missing-there : (ss : List (Option Settled)) (k : ℕ) → claim_missing (slice_get ss k) ≡ true → all_there ss ≡ false
missing-there [] k e = absurd (cc)
missing-there (None ∷ ss) k e = refl
missing-there (Some s ∷ ss) zero e = absurd (cc)
missing-there (Some s ∷ ss) (suc k) e = missing-there ss k e

place : (p : ℕ) → 0 < p → p ≡ 1 + (p - 1)
place p some = omega (arith, some)

apart-places : (p q : ℕ) → 0 < p → 0 < q → p ≢ q → p - 1 ≢ q - 1
apart-places p q some some2 ne e = ne (omega (arith, some, some2, e))

passing-set : (who v : ℕ) (xs : List ℕ) → 0 < who → Passing who xs (slice_set xs (who - 1) v)
passing-set who v xs numbered p some ne = at-other xs (who - 1) (p - 1) v (apart-places who p numbered some (λ e. ne (sym e)))

-- what settles nothing, and what settles something
grows-pass : (rules : Rules) (st : MatchState) (who : ℕ) → IsFine rules st → 0 < who → who ≤ rules.setup.provers → StateGrows rules.setup.patience (λ p. who == p) st (moved rules st who None)
grows-pass rules st who i numbered small =
    let ys : List ℕ = slice_set st.passed (who - 1) (passes_of st who + 1) in
    let pass : Passing who st.passed (slice_set st.passed (who - 1) (passes_of st who + 1)) = passing-set who (passes_of st who + 1) st.passed numbered in
    let at : slice_index (slice_set st.passed (who - 1) (passes_of st who + 1)) (who - 1) ≡ passes_of st who + 1 = at-set st.passed (who - 1) (passes_of st who + 1) (omega (arith, i.known, numbered, small)) in
    record {
      claims = claims-pass rules.setup.patience who st.passed ys 1 st.record_.claims (omega arith) pass (λ some. omega (arith, at));
      disputes = all-pass rules.setup.patience who rules.setup.provers 1 st.passed ys st.record_.disputes i.of_provers.disputes pass (λ some. omega (arith, at));
    }

all-opened : (rules : Rules) (n : ℕ) (made : ℕ → Bool) (xs ys : List ℕ) (ds : List Bisection) (t : Record) → AllGrow n made xs ys ds t.disputes → AllGrow n made xs ys ds (stage_opened rules t).disputes
all-opened rules n made xs ys ds t g =
    elim (cases_Bool (is_stage_due rules t)) [
      | inl due ↦ rw (opened-due rules t due) (all-both n made xs ys ds t.disputes (disputes_of rules (last_stage t.disputes + 1) (length t.disputes + 1) (pairs rules t)) g)
      | inr not_due ↦ rw (opened-not rules t not_due) g
    ]

claims-opened : (rules : Rules) (t : Record) → (stage_opened rules t).claims ≡ t.claims
claims-opened rules t =
    elim (cases_Bool (is_stage_due rules t)) [
      | inl due ↦ ap (λ (u : Record). u.claims) (opened-due rules t due)
      | inr not_due ↦ ap (λ (u : Record). u.claims) (opened-not rules t not_due)
    ]

record PutGrows (n : ℕ) (made : ℕ → Bool) (xs ys : List ℕ) (t u : Record) : Type 0 where
  claims : ClaimsGrow n made xs ys 1 t.claims u.claims
  disputes : AllGrow n made xs ys t.disputes u.disputes

none-grow : (n : ℕ) (made : ℕ → Bool) (xs ys : List ℕ) (ds es : List Bisection) → ds ≡ [] → AllGrow n made xs ys ds es
none-grow n made xs ys [] es e = tt
none-grow n made xs ys (d ∷ ds) es e = absurd (cc)

put-grows : (rules : Rules) (st : MatchState) (who : ℕ) (s : Settled) (b : Bool) → claim_missing (slice_get st.record_.claims (who - 1)) ≡ b → IsFine rules st → 0 < who →
    PutGrows rules.setup.patience (λ p. who == p) st.passed (slice_set st.passed (who - 1) 0) st.record_
    (if b then record st.record_ { claims = slice_set st.record_.claims (who - 1) (Some s) } else record st.record_ { disputes = settled_in rules who s st.record_.disputes })
put-grows rules st who s true e i numbered =
    let pass : Passing who st.passed (slice_set st.passed (who - 1) 0) = passing-set who 0 st.passed numbered in
    record {
      claims = claims-set rules.setup.patience who s st.passed (slice_set st.passed (who - 1) 0) 1 (who - 1) st.record_.claims (omega arith) (place who numbered) i.passes pass;
      disputes = none-grow rules.setup.patience (λ p. who == p) st.passed (slice_set st.passed (who - 1) 0) st.record_.disputes st.record_.disputes (i.begun_ (missing-there st.record_.claims (who - 1) e));
    }
put-grows rules st who s false e i numbered =
    let pass : Passing who st.passed (slice_set st.passed (who - 1) 0) = passing-set who 0 st.passed numbered in
    record {
      claims = claims-given rules.setup.patience who st.passed (slice_set st.passed (who - 1) 0) 1 st.record_.claims (omega arith) pass
          (λ j at. let same : j ≡ who - 1 = omega (arith, at) in ap (λ (k : ℕ). claim_missing (slice_get st.record_.claims k)) same ∙ e);
      disputes = all-settled rules rules.setup.patience who rules.setup.provers 1 s st.passed (slice_set st.passed (who - 1) 0) st.record_.disputes i.of_provers.disputes i.two i.passes (i.apart who) pass;
    }

grows-settle : (rules : Rules) (st : MatchState) (who : ℕ) (s : Settled) → IsFine rules st → 0 < who → StateGrows rules.setup.patience (λ p. who == p) st (moved rules st who (Some s))
unfolding settle
grows-settle rules st who s i numbered =
    let g : PutGrows rules.setup.patience (λ p. who == p) st.passed (slice_set st.passed (who - 1) 0) st.record_ (put rules who s st.record_) =
    put-grows rules st who s (claim_missing (slice_get st.record_.claims (who - 1))) refl i numbered in
    record {
      claims = subst (λ (ss : List (Option Settled)). ClaimsGrow rules.setup.patience (λ p. who == p) st.passed (slice_set st.passed (who - 1) 0) 1 st.record_.claims ss) (sym (claims-opened rules (put rules who s st.record_))) g.claims;
      disputes = all-opened rules rules.setup.patience (λ p. who == p) st.passed (slice_set st.passed (who - 1) 0) st.record_.disputes (put rules who s st.record_) g.disputes;
    }

grows-moved : (rules : Rules) (st : MatchState) (who : ℕ) (o : Option Settled) → IsFine rules st → 0 < who → who ≤ rules.setup.provers → StateGrows rules.setup.patience (λ p. who == p) st (moved rules st who o)
grows-moved rules st who None i numbered small = grows-pass rules st who i numbered small
grows-moved rules st who (Some s) i numbered small = grows-settle rules st who s i numbered

-- ONE POST

and-true : (b : Bool) → b ≡ (b && true)
and-true true = refl
and-true false = refl

and-false : (b : Bool) → false ≡ (b && false)
and-false true = refl
and-false false = refl

abbrev effects : Rules → MatchState → ℕ → Post → Bool
effects rules st p x = (x.prover == p) && not (is_stale (reply_to rules st x.prover x.qid x.answer))

module _ (of_provers : RecordsAreOfProvers) where
  grows-if : (rules : Rules) (st : MatchState) (x : Post) (q : Question) (b : Bool) → IsFine rules st → x.prover ≤ rules.setup.provers →
      StateGrows rules.setup.patience (λ p. (x.prover == p) && not (is_stale (if b then reply_by (settled_by rules q (passes_of st x.prover) x.answer) else reply.Stale (Some q.qid)))) st
      (if b then moved rules st x.prover (settled_by rules q (passes_of st x.prover) x.answer) else st)
  grows-if rules st x q true i small =
      rw (reply-not-stale (settled_by rules q (passes_of st x.prover) x.answer))
      (grows-as rules.setup.patience (λ p. x.prover == p) (λ p. (x.prover == p) && true) st (moved rules st x.prover (settled_by rules q (passes_of st x.prover) x.answer)) (λ p. and-true (x.prover == p))
      (grows-moved rules st x.prover (settled_by rules q (passes_of st x.prover) x.answer) i x.numbered small))
  grows-if rules st x q false i small = grows-as rules.setup.patience (λ p. false) (λ p. (x.prover == p) && false) st st (λ p. and-false (x.prover == p)) (grows-still rules.setup.patience st)

  grows-on : (rules : Rules) (st : MatchState) (x : Post) (o : Option Question) → open_question rules st.record_ x.prover ≡ o → IsFine rules st →
      StateGrows rules.setup.patience (λ p. (x.prover == p) && not (is_stale (reply_on rules st x.prover x.qid x.answer o))) st (posted_on rules st x.prover x.qid x.answer o)
  grows-on rules st x None e i = grows-as rules.setup.patience (λ p. false) (λ p. (x.prover == p) && false) st st (λ p. and-false (x.prover == p)) (grows-still rules.setup.patience st)
  grows-on rules st x (Some q) e i = grows-if rules st x q (same_qid q.qid x.qid) i (is-prover of_provers rules x.prover q st x.numbered i.after_ e)

  -- POSTS

  abbrev pub have : Rules → List Post → MatchState → ℕ → Bool
  have rules xs st p = nat_lt 0 (effective_posts_of rules p xs st)

  some-more : (b : Bool) (n : ℕ) → (b || nat_lt 0 n) ≡ nat_lt 0 (one_if b + n)
  some-more true n = (let lt : 0 < 1 + n = omega arith in let yes : nat_lt 0 (1 + n) ≡ true = grind (arith, nat_tests) in sym yes)
  some-more false n = ap (nat_lt 0) (plain n)
    where
      plain : (k : ℕ) → k ≡ 0 + k
      plain k = omega arith

  pub grows-posts : (rules : Rules) → ((st : MatchState) → IsAfterPosts rules st → IsFine rules st) → (xs : List Post) (st : MatchState) → IsAfterPosts rules st →
      StateGrows rules.setup.patience (have rules xs st) st (after_posts rules xs st)
  grows-posts rules fine [] st i = grows-as rules.setup.patience (λ p. false) (have rules [] st) st st (λ p. refl) (grows-still rules.setup.patience st)
  grows-posts rules fine (x ∷ xs) st i =
      let next : MatchState = posted rules st x.prover x.qid x.answer in
      let one : StateGrows rules.setup.patience (λ p. effects rules st p x) st (posted rules st x.prover x.qid x.answer) = grows-on rules st x (open_question rules st.record_ x.prover) refl (fine st i) in
      let rest : StateGrows rules.setup.patience (have rules xs next) next (after_posts rules xs next) = grows-posts rules fine xs (posted rules st x.prover x.qid x.answer) (one-post-more rules x st i) in
      grows-as rules.setup.patience (λ p. effects rules st p x || have rules xs next p) (have rules (x ∷ xs) st) st (after_posts rules xs next)
      (λ p. some-more (effects rules st p x) (effective_posts_of rules p xs next))
      (grows-then rules.setup.patience (λ p. effects rules st p x) (have rules xs next) st next (after_posts rules xs next) one rest)
