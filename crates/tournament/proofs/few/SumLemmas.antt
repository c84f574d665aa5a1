-- All posts of a match: the sum over its provers.
use Rattle.std.proofs.Common.{◌≡◌, ◌≢◌, ℕ, zero, suc, ◌+◌, ◌-◌, ◌*◌, ◌^◌, ◌<◌, ◌≤◌, Bool, true, false, not, ◌&&◌, ◌||◌, ◌==◌, if◌then◌else◌, List, [], ◌∷◌, length, inl, inr, Option, Some, None, refl, sym, ◌∙◌, arith}
use Rattle.std.proofs.Math.Nat.{mul-le-mul_left}
use Rattle.std.proofs.lemmas.Bool.Decides.{nat_tests}
use Rattle.std.proofs.lemmas.Bool.{cases_Bool}
use Rattle.rd_base.specs.declared.answer.Answer.{Answer}
use Rattle.rd_base.specs.declared.answer.Qid.{Qid}
use Rattle.bisect_game.specs.declared.settled.Question.{Question}
use Rattle.bisect_game.specs.Bisection.{Bisection, rounds_of}
use Rattle.bisect_game.specs.Closing.{is_step}
use Rattle.bisect_game.specs.Rules.{Rules}
use Rattle.tournament.specs.OpenDisputes.{one_if, is_side, AllApart, SidesAreTwoProvers}
use Rattle.tournament.specs.Bracket.{Record, open_question}
use Rattle.tournament.specs.Length.{IsMost}
use Rattle.tournament.specs.Moves.{MatchState, begun}
use Rattle.tournament.specs.Numbers.{RecordsAreOfProvers}
use Rattle.tournament.specs.Posting.{Post, posted, reply_on, record_after, is_stale}
use Rattle.tournament.specs.Theorem.{FewDisputes, FewRounds, AllShort}
use Rattle.tournament.specs.FewPosts.{effective_posts, effective_posts_of, questions_among, questions_of, disputes_among, FewQuestions, QuestionsCost, PostsByQuestions, FewPostsOfEach, FewPosts}
use Rattle.tournament.proofs.OnceLemmas.{is-eqb, not-eqb}
use Rattle.tournament.proofs.few.QuestionLemmas.{only, one-most, asked_of_in, asked_of}
use Rattle.tournament.proofs.few.SpentLemmas.{IsAfterPosts, one-post-more, is-prover, few-by-questions}

-- FEW QUESTIONS: a side of a dispute is asked once in each of its rounds

sides-two : (x y p n : ℕ) → x ≢ y → only (x == p) n + only (y == p) n ≤ (if (x == p) || (y == p) then n else 0)
sides-two x y p n two = elim (cases_Bool (x == p)) [
  | inl e ↦
      let same : x ≡ p = is-eqb x p e in
      let other : (y == p) ≡ false = not-eqb y p (λ f. two (same ∙ sym f)) in
      rw (e, other) (omega arith)
  | inr e ↦ rw e (omega (arith, one (y == p)))
]
  where
    one : (b : Bool) → only b n ≤ (if b then n else 0)
    one true = omega arith
    one false = omega arith

asked-questions : (p : ℕ) (ds : List Bisection) → AllApart ds → asked_of_in p ds ≤ questions_among p ds
asked-questions p [] two = omega arith
asked-questions p (d ∷ ds) two = omega (arith, sides-two d.first d.second p (length d.past + 1) two.0, asked-questions p ds two.1)

rounds-past : (d : Bisection) (b : Bool) → length d.past ≤ length d.past + (if b then 0 else 1)
rounds-past d true = omega arith
rounds-past d false = omega arith

pub few-past : (rules : Rules) (k : ℕ) (d : Bisection) → IsMost rules.setup.fan rules.setup.bound k → rules.setup.fan ^ rounds_of d < rules.setup.fan * rules.setup.bound → length d.past ≤ k
few-past rules k d m short = omega (arith, m.most (rounds_of d) short, rounds-past d (is_step d.place))

-- a dispute costs a side of it at most k + 1 questions

if-one : (b : Bool) (m n : ℕ) → m ≤ n → (if b then m else 0) ≤ one_if b * n
if-one true m n le = omega (arith, le)
if-one false m n le = omega arith

questions-cost-in : (rules : Rules) (k p : ℕ) (ds : List Bisection) → IsMost rules.setup.fan rules.setup.bound k → AllShort rules ds → questions_among p ds ≤ disputes_among p ds * (k + 1)
questions-cost-in rules k p [] m short = omega arith
questions-cost-in rules k p (d ∷ ds) m short =
    let one : (if is_side p d then length d.past + 1 else 0) ≤ one_if (is_side p d) * (k + 1) = if-one (is_side p d) (length d.past + 1) (k + 1) (omega (arith, few-past rules k d m short.0.bisections)) in
    omega (arith, one, questions-cost-in rules k p ds m short.1)

pub questions-cost : FewRounds → QuestionsCost
questions-cost rounds rules xs k p playable m = omega (arith, questions-cost-in rules k p (record_after rules xs).disputes m (rounds rules xs playable))

few-disputes-of : (p : ℕ) (ds : List Bisection) → disputes_among p ds ≤ length ds
few-disputes-of p [] = omega arith
few-disputes-of p (d ∷ ds) = omega (arith, one-most (is_side p d), few-disputes-of p ds)

pub few-questions : FewDisputes → FewRounds → FewQuestions
few-questions disputes rounds rules xs k p playable m =
    let ds : List Bisection = (record_after rules xs).disputes in
    let few : disputes_among p ds ≤ rules.setup.provers - 1 = omega (arith, few-disputes-of p (record_after rules xs).disputes, disputes rules xs playable.some) in
    let less : (k + 1) * disputes_among p ds ≤ (k + 1) * (rules.setup.provers - 1) = mul-le-mul_left (k + 1) few in
    omega (arith, questions-cost rounds rules xs k p playable m, less)

-- ALL POSTS of a prover
module _ (disputes : FewDisputes) (rounds : FewRounds) (of_provers : RecordsAreOfProvers) (two : SidesAreTwoProvers) where
  pub posts-by-questions : PostsByQuestions
  posts-by-questions rules xs p playable some =
      let q : (rules.setup.patience + 1) * asked_of p (record_after rules xs) ≤ (rules.setup.patience + 1) * questions_of p (record_after rules xs) =
      mul-le-mul_left (rules.setup.patience + 1) (omega (arith, asked-questions p (record_after rules xs).disputes (two rules xs playable))) in
      omega (arith, few-by-questions of_provers rules xs p some, q)

  pub few-posts-of-each : FewPostsOfEach
  few-posts-of-each rules xs k p playable m some =
      let q : (rules.setup.patience + 1) * questions_of p (record_after rules xs) ≤ (rules.setup.patience + 1) * (1 + (rules.setup.provers - 1) * (k + 1)) =
      mul-le-mul_left (rules.setup.patience + 1) (few-questions disputes rounds rules xs k p playable m) in
      omega (arith, posts-by-questions rules xs p playable some, q)

  -- ALL POSTS

  -- the sum over so many provers, from one on
  abbrev over : ℕ → ℕ → (ℕ → ℕ) → ℕ
  over k zero g = 0
  over k (suc n) g = g k + over (k + 1) n g

  over-add : (k n : ℕ) (f g : ℕ → ℕ) → over k n (λ p. f p + g p) ≡ over k n f + over k n g
  over-add k zero f g = refl
  over-add k (suc n) f g = omega (arith, over-add (k + 1) n f g)

  over-none : (k n : ℕ) → over k n (λ p. 0) ≡ 0
  over-none k zero = refl
  over-none k (suc n) = omega (arith, over-none (k + 1) n)

  over-le : (k n : ℕ) (f g : ℕ → ℕ) → ((p : ℕ) → k ≤ p → f p ≤ g p) → over k n f ≤ over k n g
  over-le k zero f g le = omega arith
  over-le k (suc n) f g le = omega (arith, le k (omega arith), over-le (k + 1) n f g (λ p h. le p (omega arith)))

  over-times : (c k n : ℕ) (f : ℕ → ℕ) → over k n (λ p. c * f p) ≡ c * over k n f
  over-times c k zero f = omega arith
  over-times c k (suc n) f = omega (arith, over-times c (k + 1) n f)

  -- who is among them counts once

  one-and : (a b : Bool) → a ≡ true → one_if (a && b) ≡ one_if b
  one-and a b e = rw e refl

  counts-one : (x k n : ℕ) (b : Bool) → k ≤ x → x < k + n → one_if b ≤ over k n (λ p. one_if ((x == p) && b))
  counts-one x k zero b low high = absurd (omega arith)
  counts-one x k (suc n) b low high = elim (cases_Bool (x == k)) [
    | inl e ↦ omega (arith, one-and (x == k) b e)
    | inr e ↦ (let far : x ≢ k = λ same. let yes : (x == k) ≡ true = grind (arith, nat_tests) in cc in let l : k + 1 ≤ x = omega (arith, low, far) in omega (arith, counts-one x (k + 1) n b l (omega (arith, high))))
  ]

  only-not : (a : Bool) (n : ℕ) → a ≡ false → only a n ≡ 0
  only-not a n e = rw e refl

  only-most : (a : Bool) (n : ℕ) → only a n ≤ n
  only-most true n = omega arith
  only-most false n = omega arith

  only-past : (x k n m : ℕ) → x < k → over k n (λ p. only (x == p) m) ≡ 0
  only-past x k zero m lt = refl
  only-past x k (suc n) m lt = omega (arith, only-not (x == k) m (not-eqb x k (λ e. omega (arith, e, lt))), only-past x (k + 1) n m (omega arith))

  only-once : (x k n m : ℕ) → over k n (λ p. only (x == p) m) ≤ m
  only-once x k zero m = omega arith
  only-once x k (suc n) m = elim (cases_Bool (x == k)) [
    | inl e ↦ (let same : x ≡ k = is-eqb x k e in omega (arith, only-most (x == k) m, only-past x (k + 1) n m (omega (arith, same))))
    | inr e ↦ omega (arith, only-not (x == k) m e, only-once x (k + 1) n m)
  ]

  asked-all-in : (rules : Rules) (k j n : ℕ) (ds : List Bisection) → IsMost rules.setup.fan rules.setup.bound k → AllShort rules ds → over j n (λ p. asked_of_in p ds) ≤ (2 * (k + 1)) * length ds
  asked-all-in rules k j n [] m short = omega (arith, over-none j n)
  asked-all-in rules k j n (d ∷ ds) m short =
      omega (
        arith,
        over-add j n (λ p. only (d.first == p) (length d.past + 1) + only (d.second == p) (length d.past + 1)) (λ p. asked_of_in p ds),
        over-add j n (λ p. only (d.first == p) (length d.past + 1)) (λ p. only (d.second == p) (length d.past + 1)),
        only-once d.first j n (length d.past + 1),
        only-once d.second j n (length d.past + 1),
        few-past rules k d m short.0.bisections,
        asked-all-in rules k j n ds m short.1,
      )

  over-ones : (j n : ℕ) → over j n (λ p. 1) ≡ n
  over-ones j zero = refl
  over-ones j (suc n) = omega (arith, over-ones (j + 1) n)

  asked-all : (rules : Rules) (k : ℕ) (r : Record) → IsMost rules.setup.fan rules.setup.bound k → AllShort rules r.disputes → over 1 rules.setup.provers (λ p. asked_of p r) ≤ rules.setup.provers + (2 * (k + 1)) * length r.disputes
  asked-all rules k r m short =
      omega (arith, over-add 1 rules.setup.provers (λ p. 1) (λ p. asked_of_in p r.disputes), over-ones 1 rules.setup.provers, asked-all-in rules k 1 rules.setup.provers r.disputes m short)

  -- each post that isn't stale is one of a prover of the match

  post-counts : (rules : Rules) (who : ℕ) (qid : Qid) (m : Option Answer) (st : MatchState) (o : Option Question) → 0 < who → IsAfterPosts rules st → open_question rules st.record_ who ≡ o →
      one_if (not (is_stale (reply_on rules st who qid m o))) ≤ over 1 rules.setup.provers (λ p. one_if ((who == p) && not (is_stale (reply_on rules st who qid m o))))
  post-counts rules who qid m st None numbered i e = omega arith
  post-counts rules who qid m st (Some q) numbered i e =
      counts-one who 1 rules.setup.provers (not (is_stale (reply_on rules st who qid m (Some q)))) (omega (arith, numbered)) (omega (arith, is-prover of_provers rules who q st numbered i e))

  all-are-of-each : (rules : Rules) (xs : List Post) (st : MatchState) → IsAfterPosts rules st → effective_posts rules xs st ≤ over 1 rules.setup.provers (λ p. effective_posts_of rules p xs st)
  all-are-of-each rules [] st i = omega arith
  all-are-of-each rules (x ∷ xs) st i =
      omega (
        arith,
        over-add 1 rules.setup.provers
            (λ p. one_if ((x.prover == p) && not (is_stale (reply_on rules st x.prover x.qid x.answer (open_question rules st.record_ x.prover)))))
            (λ p. effective_posts_of rules p xs (posted rules st x.prover x.qid x.answer)),
        post-counts rules x.prover x.qid x.answer st (open_question rules st.record_ x.prover) x.numbered i refl,
        all-are-of-each rules xs (posted rules st x.prover x.qid x.answer) (one-post-more rules x st i),
      )

  most-by : (n c m k d a : ℕ) → n ≤ c * a → a ≤ m + (2 * (k + 1)) * d → d ≤ m - 1 → n ≤ c * (m + 2 * (m - 1) * (k + 1))
  most-by n c m k d a le asked few =
      let s : (2 * (k + 1)) * d ≤ (2 * (k + 1)) * (m - 1) = mul-le-mul_left (2 * (k + 1)) few in
      let e : m + (2 * (k + 1)) * (m - 1) ≡ m + 2 * (m - 1) * (k + 1) = omega arith in
      let u : c * a ≤ c * (m + 2 * (m - 1) * (k + 1)) = mul-le-mul_left c (omega (arith, asked, s, e)) in
      omega (arith, le, u)

  pub few-posts : FewPosts
  few-posts rules xs k playable m =
      let r : Record = record_after rules xs in
      let each : over 1 rules.setup.provers (λ p. effective_posts_of rules p xs (begun rules)) ≤ over 1 rules.setup.provers (λ p. (rules.setup.patience + 1) * asked_of p r) =
      over-le 1 rules.setup.provers (λ p. effective_posts_of rules p xs (begun rules)) (λ p. (rules.setup.patience + 1) * asked_of p r) (λ p low. few-by-questions of_provers rules xs p (omega (arith, low))) in
      most-by (effective_posts rules xs (begun rules)) (rules.setup.patience + 1) rules.setup.provers k (length r.disputes) (over 1 rules.setup.provers (λ p. asked_of p r))
      (omega (arith, all-are-of-each rules xs (begun rules) (record { posts = []; comes = refl }), each, over-times (rules.setup.patience + 1) 1 rules.setup.provers (λ p. asked_of p r)))
      (asked-all rules k r m (rounds rules xs playable))
      (omega (arith, disputes rules xs playable.some))
