-- A prover's posts that aren't stale are at most one more than the patience times as many as the questions that it has been asked.
use Rattle.std.proofs.Common.{◌≡◌, ◌≢◌, ℕ, zero, suc, ◌+◌, ◌-◌, ◌*◌, ◌<◌, ◌≤◌, nat_lt, Bool, true, false, not, ◌&&◌, ◌||◌, ◌==◌, if◌then◌else◌, List, [], ◌∷◌, ◌++◌, length, replicate, slice_get, slice_set, slice_index, inl, inr, Option, Some, None, refl, ◌∙◌, ap, arith, subst}
use Rattle.std.proofs.Math.Nat.{mul-le-mul_left}
use Rattle.std.proofs.lemmas.Bool.Decides.{nat_tests}
use Rattle.std.proofs.lemmas.Bool.{cases_Bool}
use Rattle.rd_base.specs.declared.answer.Answer.{Answer}
use Rattle.rd_base.specs.declared.answer.Qid.{Qid}
use Rattle.rd_base.specs.Questions.{same_qid}
use Rattle.bisect_game.specs.declared.settled.Question.{Question}
use Rattle.bisect_game.specs.declared.settled.Settled.{Settled}
use Rattle.bisect_game.specs.declared.settled.Settled.TheVariants.{Spent}
use Rattle.bisect_game.specs.Bisection.{Bisection, question_of}
use Rattle.bisect_game.specs.Rules.{Rules, claim_question}
use Rattle.tournament.specs.OpenDisputes.{one_if}
use Rattle.tournament.specs.Bracket.{Record, asks_first, asks_second, question_in, claim_missing, open_question, settle}
use Rattle.tournament.specs.Moves.{MatchState, begun, passes_of, settled_by, moved}
use Rattle.tournament.specs.Numbers.{IsProver, AreNumbered, IsOfProvers, RecordsAreOfProvers}
use Rattle.tournament.specs.declared.posting.Reply.TheVariants as reply
use Rattle.tournament.specs.Posting.{Post, posted, posted_on, reply_on, reply_by, after_posts, record_after, is_stale}
use Rattle.tournament.specs.FewPosts.{effective_posts_of}
use Rattle.tournament.proofs.OnceLemmas.{opens, is-eqb}
use Rattle.tournament.proofs.few.NeverLemmas.{reply-not-stale}
use Rattle.tournament.proofs.few.QuestionLemmas.{settled_of, asked_of, settled-asked, room, IsLaterRecord, later, own}

-- A STATE after posts: each law over lists of posts holds of it

pub record IsAfterPosts (rules : Rules) (st : MatchState) : Type 0 where
  pub posts : List Post
  pub comes : after_posts rules posts (begun rules) ≡ st

after-last : (rules : Rules) (xs : List Post) (x : Post) (st : MatchState) →
    after_posts rules (xs ++ x ∷ []) st ≡ posted rules (after_posts rules xs st) x.prover x.qid x.answer
after-last rules [] x st = refl
after-last rules (y ∷ xs) x st = after-last rules xs x (posted rules st y.prover y.qid y.answer)

pub one-post-more : (rules : Rules) (x : Post) (st : MatchState) → IsAfterPosts rules st → IsAfterPosts rules (posted rules st x.prover x.qid x.answer)
one-post-more rules x st i = record {
  posts = i.posts ++ x ∷ [];
  comes = after-last rules i.posts x (begun rules) ∙ ap (λ (u : MatchState). posted rules u x.prover x.qid x.answer) i.comes;
}

-- WHO IS ASKED is one of the provers

has-claim : (ss : List (Option Settled)) (k : ℕ) → claim_missing (slice_get ss k) ≡ true → k < length ss
has-claim [] k e = absurd (cc)
has-claim (s ∷ ss) zero e = omega arith
has-claim (s ∷ ss) (suc k) e = omega (arith, has-claim ss k e)

side-by : (n m p : ℕ) (q : Question) (d : Bisection) (ds : List Bisection) (x y : Bool) → asks_first p d ≡ x → asks_second p d ≡ y → IsProver n d.first → IsProver n d.second →
    (if x || y then Some (question_of d) else question_in p ds) ≡ Some q → (question_in p ds ≡ Some q → p ≤ n) → p ≤ n
side-by n m p q d ds true y ex ey f s e r = let same : d.first ≡ p = is-eqb d.first p (opens (d.first == p) d.by_first d.close ex).0 in omega (arith, same, f.1)
side-by n m p q d ds false true ex ey f s e r = let same : d.second ≡ p = is-eqb d.second p (opens (d.second == p) d.by_second d.close ey).0 in omega (arith, same, s.1)
side-by n m p q d ds false false ex ey f s e r = r e

side-of : (n m p : ℕ) (q : Question) (ds : List Bisection) → AreNumbered n m ds → question_in p ds ≡ Some q → p ≤ n
side-of n m p q [] i e = absurd (cc)
side-of n m p q (d ∷ ds) i e =
    side-by n m p q d ds (asks_first p d) (asks_second p d) refl refl i.0.1.0 i.0.1.1 e (λ further. side-of n (m + 1) p q ds i.1 further)

prover-by : (n p : ℕ) (q : Question) (t : Record) (b : Bool) → claim_missing (slice_get t.claims (p - 1)) ≡ b → 0 < p → IsOfProvers n t →
    (if b then Some claim_question else question_in p t.disputes) ≡ Some q → p ≤ n
prover-by n p q t true eb some i e = omega (arith, has-claim t.claims (p - 1) eb, i.claims)
prover-by n p q t false eb some i e = side-of n 1 p q t.disputes i.disputes e

pub is-prover : RecordsAreOfProvers → (rules : Rules) (p : ℕ) (q : Question) (st : MatchState) → 0 < p → IsAfterPosts rules st → open_question rules st.record_ p ≡ Some q → p ≤ rules.setup.provers
is-prover of_provers rules p q st some i e =
    let o : IsOfProvers rules.setup.provers st.record_ = subst (λ (u : MatchState). IsOfProvers rules.setup.provers u.record_) i.comes (of_provers rules i.posts) in
    prover-by rules.setup.provers p q st.record_ (claim_missing (slice_get st.record_.claims (p - 1))) refl some o e

-- THE PASSES

pub at-set : (xs : List ℕ) (k v : ℕ) → k < length xs → slice_index (slice_set xs k v) k ≡ v
at-set [] k v lt = absurd (omega arith)
at-set (x ∷ xs) zero v lt = refl
at-set (x ∷ xs) (suc k) v lt = at-set xs k v (omega arith)

pub at-other : (xs : List ℕ) (k j v : ℕ) → k ≢ j → slice_index (slice_set xs k v) j ≡ slice_index xs j
at-other [] k j v ne = refl
at-other (x ∷ xs) zero zero v ne = absurd (ne refl)
at-other (x ∷ xs) zero (suc j) v ne = refl
at-other (x ∷ xs) (suc k) zero v ne = refl
at-other (x ∷ xs) (suc k) (suc j) v ne = at-other xs k j v (λ e. ne (ap suc e))

nat-length : (xs : List ℕ) (k v : ℕ) → length (slice_set xs k v) ≡ length xs
nat-length [] k v = refl
nat-length (x ∷ xs) zero v = refl
nat-length (x ∷ xs) (suc k) v = ap suc (nat-length xs k v)

-- WHAT EACH POST KEEPS of a prover that has posted so often: as each post that isn't stale is a pass or settles a question, they are few for
-- what is settled; and, since a question was open at the last of them, few for what was asked
pub record IsSpent (rules : Rules) (p n : ℕ) (st : MatchState) : Type 0 where
  pub passes : passes_of st p ≤ rules.setup.patience
  pub entries : n ≤ (rules.setup.patience + 1) * settled_of p st.record_ + passes_of st p
  pub most : n ≤ (rules.setup.patience + 1) * asked_of p st.record_

-- a move of its own
own-passed : (m n x a b : ℕ) → n ≤ (m + 1) * a + x → x < m → a + 1 ≤ b → n + 1 ≤ (m + 1) * b
own-passed m n x a b le few room_ =
    let up : (m + 1) * (a + 1) ≤ (m + 1) * b = mul-le-mul_left (m + 1) room_ in
    omega (arith, le, few, up)

own-settled : (m n x a b : ℕ) → n ≤ (m + 1) * a + x → x ≤ m → a + 1 ≤ b → n + 1 ≤ (m + 1) * b
own-settled m n x a b le few more =
    let up : (m + 1) * (a + 1) ≤ (m + 1) * b = mul-le-mul_left (m + 1) more in
    omega (arith, le, few, up)

own-by : (rules : Rules) (p n : ℕ) (q : Question) (st : MatchState) (o : Option Settled) → p - 1 < length st.passed → open_question rules st.record_ p ≡ Some q →
    (o ≡ None → passes_of st p < rules.setup.patience) → IsSpent rules p n st → IsSpent rules p (n + 1) (moved rules st p o)
own-by rules p n q st None known e passing i =
    let at : passes_of (moved rules st p None) p ≡ passes_of st p + 1 = at-set st.passed (p - 1) (passes_of st p + 1) known in
    let few : passes_of st p < rules.setup.patience = passing refl in
    let space : settled_of p st.record_ + 1 ≤ asked_of p st.record_ = room rules p q st.record_ e in
    record {
      passes = omega (arith, at, few);
      entries = omega (arith, at, i.entries);
      most = own-passed rules.setup.patience n (passes_of st p) (settled_of p st.record_) (asked_of p st.record_) i.entries few space;
    }
own-by rules p n q st (Some s) known e passing i =
    let at : passes_of (moved rules st p (Some s)) p ≡ 0 = at-set st.passed (p - 1) 0 known in
    let l : IsLaterRecord p 1 st.record_ (settle rules p s st.record_) = own rules p s q st.record_ e in
    let up : n + 1 ≤ (rules.setup.patience + 1) * settled_of p (settle rules p s st.record_) =
    own-settled rules.setup.patience n (passes_of st p) (settled_of p st.record_) (settled_of p (settle rules p s st.record_)) i.entries i.passes l.settled_ in
    let over : (rules.setup.patience + 1) * settled_of p (settle rules p s st.record_) ≤ (rules.setup.patience + 1) * asked_of p (settle rules p s st.record_) =
    mul-le-mul_left (rules.setup.patience + 1) (settled-asked p (settle rules p s st.record_)) in
    record {
      passes = omega (arith, at);
      entries = omega (arith, at, up);
      most = omega (arith, up, over);
    }

-- a move of another one
other-by : (rules : Rules) (p who n : ℕ) (st : MatchState) (o : Option Settled) → 0 < p → 0 < who → who ≢ p → IsSpent rules p n st → IsSpent rules p n (moved rules st who o)
other-by rules p who n st None some numbered far i =
    let at : passes_of (moved rules st who None) p ≡ passes_of st p = at-other st.passed (who - 1) (p - 1) (passes_of st who + 1) (λ k. far (omega arith)) in
    record { passes = omega (arith, at, i.passes); entries = omega (arith, at, i.entries); most = i.most }
other-by rules p who n st (Some s) some numbered far i =
    let at : passes_of (moved rules st who (Some s)) p ≡ passes_of st p = at-other st.passed (who - 1) (p - 1) 0 (λ k. far (omega arith)) in
    let l : IsLaterRecord p 0 st.record_ (settle rules who s st.record_) = later rules p who s st.record_ in
    let up : (rules.setup.patience + 1) * settled_of p st.record_ ≤ (rules.setup.patience + 1) * settled_of p (settle rules who s st.record_) =
    mul-le-mul_left (rules.setup.patience + 1) (omega (arith, l.settled_)) in
    let over : (rules.setup.patience + 1) * asked_of p st.record_ ≤ (rules.setup.patience + 1) * asked_of p (settle rules who s st.record_) =
    mul-le-mul_left (rules.setup.patience + 1) l.asked_ in
    record {
      passes = omega (arith, at, i.passes);
      entries = omega (arith, at, i.entries, up);
      most = omega (arith, i.most, over);
    }

-- a move passes only within the patience
passing-if : (b : Bool) → (let o : Option Settled = if b then None else Some Spent in o ≡ None) → b ≡ true
passing-if true e = refl
passing-if false e = absurd (cc)

passing-by : (rules : Rules) (q : Question) (n : ℕ) (m : Option Answer) → settled_by rules q n m ≡ None → n < rules.setup.patience
passing-by rules q n (Some a) e = absurd (cc)
passing-by rules q n None e = let lt : nat_lt n rules.setup.patience ≡ true = passing-if (nat_lt n rules.setup.patience) e in grind (arith, nat_tests)

length-moved : (rules : Rules) (p : ℕ) (st : MatchState) (o : Option Settled) → length (moved rules st p o).passed ≡ length st.passed
length-moved rules p st None = nat-length st.passed (p - 1) (passes_of st p + 1)
length-moved rules p st (Some s) = nat-length st.passed (p - 1) 0

-- the whole of what posts keep
pub record IsKept (rules : Rules) (p n : ℕ) (st : MatchState) : Type 0 where
  pub after_ : IsAfterPosts rules st
  pub known : length st.passed ≡ rules.setup.provers
  pub spent : IsSpent rules p n st

record IsStep (rules : Rules) (p n : ℕ) (st : MatchState) : Type 0 where
  known : length st.passed ≡ rules.setup.provers
  spent : IsSpent rules p n st

eqb-same : (n : ℕ) → (n == n) ≡ true
eqb-same n = grind (arith, nat_tests)

none-counts : (b : Bool) → one_if (b && false) ≡ 0
none-counts true = refl
none-counts false = refl

stale-step : (rules : Rules) (p who n : ℕ) (st : MatchState) → IsStep rules p n st → IsStep rules p (n + one_if ((who == p) && false)) st
stale-step rules p who n st i = let e : n + one_if ((who == p) && false) ≡ n = omega (arith, none-counts (who == p)) in rw e i

moved-step : (rules : Rules) (p who n : ℕ) (q : Question) (m : Option Answer) (st : MatchState) → 0 < p → 0 < who → who ≤ rules.setup.provers → open_question rules st.record_ who ≡ Some q →
    IsStep rules p n st → IsStep rules p (n + one_if ((who == p) && true)) (moved rules st who (settled_by rules q (passes_of st who) m))
moved-step rules p who n q m st some numbered small e i = elim (cases_Bool (who == p)) [
  | inl same ↦
      let is : who ≡ p = is-eqb who p same in
      let asked : open_question rules st.record_ p ≡ Some q = rw is at e in
      let few : p ≤ rules.setup.provers = rw is at small in
      let one : n + one_if ((who == p) && true) ≡ n + 1 = rw same refl in
      rw (one, is) (record {
        known = length-moved rules p st (settled_by rules q (passes_of st p) m) ∙ i.known;
        spent = own-by rules p n q st (settled_by rules q (passes_of st p) m) (omega (arith, i.known, some, few)) asked (passing-by rules q (passes_of st p) m) i.spent;
      })
  | inr differ ↦
      let far : who ≢ p = λ is. let yes : (who == p) ≡ true = rw is (eqb-same p) in cc in
      let none : n + one_if ((who == p) && true) ≡ n = rw differ (omega arith) in
      rw none (record {
        known = length-moved rules who st (settled_by rules q (passes_of st who) m) ∙ i.known;
        spent = other-by rules p who n st (settled_by rules q (passes_of st who) m) some numbered far i.spent;
      })
]

post-if : (rules : Rules) (p who n : ℕ) (q : Question) (m : Option Answer) (st : MatchState) (b : Bool) → 0 < p → 0 < who → who ≤ rules.setup.provers → open_question rules st.record_ who ≡ Some q → IsStep rules p n st →
    IsStep rules p (n + one_if ((who == p) && not (is_stale (if b then reply_by (settled_by rules q (passes_of st who) m) else reply.Stale (Some q.qid)))))
    (if b then moved rules st who (settled_by rules q (passes_of st who) m) else st)
post-if rules p who n q m st true some numbered small e i = rw (reply-not-stale (settled_by rules q (passes_of st who) m)) (moved-step rules p who n q m st some numbered small e i)
post-if rules p who n q m st false some numbered small e i = stale-step rules p who n st i

post-on : RecordsAreOfProvers → (rules : Rules) (p who n : ℕ) (qid : Qid) (m : Option Answer) (st : MatchState) (o : Option Question) → 0 < p → 0 < who → open_question rules st.record_ who ≡ o → IsKept rules p n st →
    IsStep rules p (n + one_if ((who == p) && not (is_stale (reply_on rules st who qid m o)))) (posted_on rules st who qid m o)
post-on of_provers rules p who n qid m st None some numbered e i = stale-step rules p who n st (record { known = i.known; spent = i.spent })
post-on of_provers rules p who n qid m st (Some q) some numbered e i =
    post-if rules p who n q m st (same_qid q.qid qid) some numbered (is-prover of_provers rules who q st numbered i.after_ e) e (record { known = i.known; spent = i.spent })

pub kept-posts : RecordsAreOfProvers → (rules : Rules) (p : ℕ) → 0 < p → (xs : List Post) (n : ℕ) (st : MatchState) → IsKept rules p n st →
    IsKept rules p (n + effective_posts_of rules p xs st) (after_posts rules xs st)
kept-posts of_provers rules p some [] n st i = let e : n + 0 ≡ n = omega arith in rw e i
kept-posts of_provers rules p some (x ∷ xs) n st i =
    let one : ℕ = one_if ((x.prover == p) && not (is_stale (reply_on rules st x.prover x.qid x.answer (open_question rules st.record_ x.prover)))) in
    let s : IsStep rules p (n + one) (posted rules st x.prover x.qid x.answer) =
    post-on of_provers rules p x.prover n x.qid x.answer st (open_question rules st.record_ x.prover) some x.numbered refl i in
    let rest : IsKept rules p (n + one + effective_posts_of rules p xs (posted rules st x.prover x.qid x.answer)) (after_posts rules xs (posted rules st x.prover x.qid x.answer)) =
    kept-posts of_provers rules p some xs (n + one) (posted rules st x.prover x.qid x.answer) (record { after_ = one-post-more rules x st i.after_; known = s.known; spent = s.spent }) in
    let sum : n + (one + effective_posts_of rules p xs (posted rules st x.prover x.qid x.answer)) ≡ n + one + effective_posts_of rules p xs (posted rules st x.prover x.qid x.answer) = omega arith in
    rw sum rest

none-yet : (n k : ℕ) → slice_index (replicate n 0) k ≡ 0
none-yet zero k = refl
none-yet (suc n) zero = refl
none-yet (suc n) (suc k) = none-yet n k

count-length : (n : ℕ) → let none : List ℕ = replicate n 0 in length none ≡ n
count-length zero = refl
count-length (suc n) = ap suc (count-length n)

pub kept-begun : (rules : Rules) (p : ℕ) → IsKept rules p 0 (begun rules)
kept-begun rules p = record {
  after_ = record { posts = []; comes = refl };
  known = count-length rules.setup.provers;
  spent = record { passes = omega (arith, none-yet rules.setup.provers (p - 1)); entries = omega arith; most = omega arith };
}

pub few-by-questions : RecordsAreOfProvers → (rules : Rules) (xs : List Post) (p : ℕ) → 0 < p →
    effective_posts_of rules p xs (begun rules) ≤ (rules.setup.patience + 1) * asked_of p (record_after rules xs)
few-by-questions of_provers rules xs p some =
    let k : IsKept rules p (0 + effective_posts_of rules p xs (begun rules)) (after_posts rules xs (begun rules)) = kept-posts of_provers rules p some xs 0 (begun rules) (kept-begun rules p) in
    omega (arith, k.spent.most)
