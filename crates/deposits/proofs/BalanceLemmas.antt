-- Who lives at the end has won each of its disputes but that of a collision.
use Rattle.std.proofs.Common.{◌≡◌, ◌≢◌, ℕ, zero, suc, ◌+◌, ◌-◌, ◌*◌, ◌<◌, ◌≤◌, Bool, true, false, not, ◌&&◌, ◌||◌, ◌==◌, ◌⊎◌, List, [], ◌∷◌, sum, slice_get, inl, inr, Option, Some, None, is_some, refl, ◌∙◌, ap, arith, subst}
use Rattle.std.proofs.lemmas.Bool.Decides.{nat_tests}
use Rattle.std.proofs.lemmas.List.Sums.{sum_by-cons}
use Rattle.std.proofs.lemmas.Bool.{and_parts, cases_Bool}
use Rattle.bisect_game.specs.declared.settled.Close.{Close}
use Rattle.bisect_game.specs.declared.settled.Close.TheVariants.{Out, Collision}
use Rattle.bisect_game.specs.Bisection.{Bisection, is_closed}
use Rattle.tournament.specs.OpenDisputes.{one_if, is_side}
use Rattle.tournament.specs.Bracket.{Record, is_out_by, is_out_in, all_there, all_closed, is_complete, put_out}
use Rattle.tournament.specs.Journals.{turns, LegalListsArePosts}
use Rattle.tournament.specs.Moves.{MatchState, begun}
use Rattle.tournament.specs.Posting.{Post, after_posts, record_after}
use Rattle.tournament.specs.FewPosts.{disputes_among, disputes_played}
use Rattle.tournament.specs.Undecided.{is_collision, PutsOutOrCollides, AllPutOutOrCollide, DisputesPutOutOrCollide, undecided_among, OneIsUndecided}
use Rattle.tournament.specs.Theorem.{is_out_by_claim, lives}
use Rattle.tournament.specs.Truthful.{IsSafe, TruthfulProversAreSafe}
use Rattle.tournament.specs.TrueMoves.{TrueMovesAreSafe}
use Rattle.deposits.specs.Balances.{balance, balances_from, pool, losses_of, wins_of, wins_in, is_won_if}
use Rattle.deposits.specs.Theorem.{BalancesAddUp, EndedIsSettledUp}
use Rattle.deposits.specs.ExactBalance.{collisions_among, collisions_of, AllWon, others_from, HasWonAll, WhoLivesWinsAll, OthersGainNothing, TrueMovesWinAll, TruthfulWinAll}

-- ONE DISPUTE that has closed and did not put the prover out

-- a is whether the prover is the first side, b whether it is the second
won-out : (x y a b : Bool) → (x || y) ≡ true → ((x && a) || (y && b)) ≡ false → (a || b) ≡ true → ((not x && y && a) || (x && not y && b)) ≡ true
won-out true true true b h n s = absurd (cc)
won-out true true false true h n s = absurd (cc)
won-out true true false false h n s = absurd (cc)
won-out true false true b h n s = absurd (cc)
won-out true false false true h n s = refl
won-out true false false false h n s = absurd (cc)
won-out false true true b h n s = refl
won-out false true false true h n s = absurd (cc)
won-out false true false false h n s = absurd (cc)
won-out false false a b h n s = absurd (cc)

lost-none : (x y a b : Bool) → (a || b) ≡ false → ((not x && y && a) || (x && not y && b)) ≡ false
lost-none x y true b s = absurd (cc)
lost-none x y false true s = absurd (cc)
lost-none true true false false s = refl
lost-none true false false false s = refl
lost-none false true false false s = refl
lost-none false false false false s = refl

-- of a closed dispute a side that stays has won or met a collision, and who is no side neither
record Ends (p : ℕ) (d : Bisection) (c : Option Close) : Type 0 where
  won : is_side p d ≡ true → (is_won_if d.first d.second c p ≡ true) ⊎ (is_collision c ≡ true)
  counts : one_if (is_side p d) ≡ one_if (is_won_if d.first d.second c p) + one_if (is_side p d && is_collision c)
  collides : one_if (is_side p d && is_collision c) ≤ one_if (is_side p d && not (put_out c))

none-side : (b : Bool) → one_if (b && false) ≡ 0
none-side true = refl
none-side false = refl

all-side : (b : Bool) → one_if (b && true) ≡ one_if b
all-side true = refl
all-side false = refl

ends-by : (p : ℕ) (d : Bisection) (c : Option Close) → is_some c ≡ true → PutsOutOrCollides c → is_out_by d c p ≡ false → Ends p d c
ends-by p d None e h n = absurd (cc)
ends-by p d (Some (Collision s u)) e h n = record {
  won = λ side. inr refl;
  counts = omega (arith, all-side (is_side p d));
  collides = omega arith;
}
ends-by p d (Some (Out x y)) e h n = elim (cases_Bool ((d.first == p) || (d.second == p))) [
  | inl side ↦
      let won_ : ((not x && y && (d.first == p)) || (x && not y && (d.second == p))) ≡ true = won-out x y (d.first == p) (d.second == p) h n side in
      record {
        won = λ s. inl won_;
        counts = rw (side, won_) (omega arith);
        collides = omega (arith, none-side (is_side p d));
      }
  | inr far ↦
      let lost : ((not x && y && (d.first == p)) || (x && not y && (d.second == p))) ≡ false = lost-none x y (d.first == p) (d.second == p) far in
      record {
        won = λ s. absurd (cc);
        counts = rw (far, lost) (omega arith);
        collides = omega (arith, none-side (is_side p d));
      }
]

-- ALL DISPUTES
record AllEnd (p : ℕ) (ds : List Bisection) : Type 0 where
  won : AllWon p ds
  counts : disputes_among p ds ≡ wins_in ds p + collisions_among p ds
  collides : collisions_among p ds ≤ undecided_among p ds

or-false : (a b : Bool) → (a || b) ≡ false → (a ≡ false) × (b ≡ false)
or-false true b e = absurd (cc)
or-false false b e = (refl, e)

all-end : (p : ℕ) (ds : List Bisection) → all_closed ds ≡ true → AllPutOutOrCollide ds → is_out_in ds p ≡ false → AllEnd p ds
all-end p [] e h n = record { won = tt; counts = refl; collides = omega arith }
all-end p (d ∷ ds) e h n =
    let two : (is_closed d ≡ true) × (all_closed ds ≡ true) = and_parts (is_closed d) (all_closed ds) e in
    let none : (is_out_by d d.close p ≡ false) × (is_out_in ds p ≡ false) = or-false (is_out_by d d.close p) (is_out_in ds p) n in
    let one : Ends p d d.close = ends-by p d d.close two.0 h.0 none.0 in
    let rest : AllEnd p ds = all-end p ds two.1 h.1 none.1 in
    record {
      won = (one.won, rest.won);
      counts = omega (arith, one.counts, rest.counts);
      collides = omega (arith, one.collides, rest.collides);
    }

-- THE OTHERS have what is left

is-eqb : (m n : ℕ) → (m == n) ≡ true → m ≡ n
is-eqb m n e = grind (arith, nat_tests)

sum-cons : (x : ℕ) (xs : List ℕ) → sum (x ∷ xs) ≡ x + sum xs
sum-cons x xs = sum_by-cons (λ (y : ℕ). y) x xs

others-past : (stake : ℕ) (r : Record) (p q n : ℕ) → p < q → sum (balances_from stake r q n) ≡ others_from stake r p q n
others-past stake r p q zero lt = refl
others-past stake r p q (suc n) lt =
    let far : (q == p) ≡ false = elim (cases_Bool (q == p)) [ inl e ↦ absurd (let same : q ≡ p = is-eqb q p e in omega (arith, same, lt)) | inr e ↦ e ] in
    rw far (omega (arith, sum-cons (balance stake r q) (balances_from stake r (q + 1) n), others-past stake r p (q + 1) n (omega (arith, lt))))

others-sum : (stake : ℕ) (r : Record) (p q n : ℕ) → q ≤ p → p < q + n → sum (balances_from stake r q n) ≡ balance stake r p + others_from stake r p q n
others-sum stake r p q zero low high = absurd (omega arith)
others-sum stake r p q (suc n) low high = elim (cases_Bool (q == p)) [
  | inl e ↦
      let same : q ≡ p = is-eqb q p e in
      let at : balance stake r q ≡ balance stake r p = ap (balance stake r) same in
      rw e (omega (arith, at, sum-cons (balance stake r q) (balances_from stake r (q + 1) n), others-past stake r p (q + 1) n (omega (arith, same))))
  | inr e ↦
      let far : q ≢ p = λ same. let yes : (q == p) ≡ true = grind (arith, nat_tests) in cc in
      let less : q + 1 ≤ p = omega (arith, low, far) in
      rw e (omega (arith, sum-cons (balance stake r q) (balances_from stake r (q + 1) n), others-sum stake r p (q + 1) n less (omega (arith, high))))
]

not-true : (b : Bool) → not b ≡ true → b ≡ false
not-true true e = absurd (cc)
not-true false e = refl

rest-of : (stake m a b pool_ w : ℕ) → 0 < m → a + b + pool_ ≡ stake * m → a ≡ stake * (1 + w) → b + pool_ + stake * w ≡ stake * (m - 1)
rest-of stake (suc n) a b pool_ w some all own =
    let e : suc n - 1 ≡ n = omega arith in
    let whole : stake * suc n ≡ stake * n + stake = omega arith in
    let mine : stake * (1 + w) ≡ stake + stake * w = omega arith in
    rw e (omega (arith, all, own, whole, mine))
rest-of stake zero a b pool_ w some all own = absurd (omega arith)

module _ (puts : DisputesPutOutOrCollide) (one : OneIsUndecided) (adds : BalancesAddUp) (ended : EndedIsSettledUp) where
  pub who-lives-wins-all : WhoLivesWinsAll
  who-lives-wins-all stake rules xs p playable some few over stays =
      let r : Record = record_after rules xs in
      let closed : all_closed r.disputes ≡ true = (and_parts (all_there r.claims) (all_closed r.disputes) over).1 in
      let out : is_out_in r.disputes p ≡ false = not-true _ (and_parts (not (is_out_by_claim (slice_get r.claims (p - 1)))) (not (is_out_in r.disputes p)) stays).1 in
      let a : AllEnd p r.disputes = all-end p r.disputes closed (puts rules xs) out in
      let lost : losses_of r p ≡ 0 = rw stays refl in
      let w : 1 + wins_of r p - losses_of r p ≡ 1 + (disputes_played p r - collisions_of p r) = omega (arith, lost, a.counts) in
      let own : balance stake r p ≡ stake * (1 + (disputes_played p r - collisions_of p r)) = ap (λ (n : ℕ). stake * n) w in
      let total : sum (balances_from stake r 1 rules.setup.provers) + pool stake r ≡ stake * rules.setup.provers = adds stake rules.setup.provers r (ended rules xs playable over) in
      let split : sum (balances_from stake r 1 rules.setup.provers) ≡ balance stake r p + others_from stake r p 1 rules.setup.provers = others-sum stake r p 1 rules.setup.provers (omega (arith, some)) (omega (arith, few)) in
      record {
        each = a.won;
        counts = a.counts;
        one_collision = omega (arith, a.collides, one rules xs p);
        balance_ = own;
        others = rest-of stake rules.setup.provers (balance stake r p) (others_from stake r p 1 rules.setup.provers) (pool stake r) (disputes_played p r - collisions_of p r) playable.some (omega (arith, total, split)) own;
      }

  pub others-gain-nothing : OthersGainNothing
  others-gain-nothing stake rules xs p playable some few over stays =
      let w : HasWonAll stake rules.setup.provers p (record_after rules xs) = who-lives-wins-all stake rules xs p playable some few over stays in
      omega (arith, w.others)

  pub true-moves-win-all : TrueMovesAreSafe → TrueMovesWinAll
  true-moves-win-all safe stake rules t xs p playable fair run some few moves over =
      let s : IsSafe rules t p (record_after rules xs) = safe rules t xs p playable fair run some few moves in
      who-lives-wins-all stake rules xs p playable some few over s.stays.is_live

  pub truthful-win-all : TruthfulProversAreSafe → LegalListsArePosts → TruthfulWinAll
  truthful-win-all safe posts stake rules says t ps p playable fair run some few truthful legal over =
      let x : (xs : List Post) × (after_posts rules xs (begun rules) ≡ turns rules says ps (begun rules)) = posts rules says ps legal in
      let same : record_after rules x.0 ≡ (turns rules says ps (begun rules)).record_ = ap (λ (st : MatchState). st.record_) x.1 in
      let s : IsSafe rules t p (turns rules says ps (begun rules)).record_ = safe rules says t ps p playable fair run some few truthful legal in
      subst (HasWonAll stake rules.setup.provers p) same
      (who-lives-wins-all stake rules x.0 p playable some few (ap is_complete same ∙ over) (ap (λ (r : Record). lives r p) same ∙ s.stays.is_live))
