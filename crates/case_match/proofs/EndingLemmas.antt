-- Every match can be played out, whatever its provers say, so what holds of each legal complete list of moves holds of the
-- record of the case.
use Rattle.std.proofs.Common.{◌≡◌, ℕ, zero, suc, ◌+◌, ◌<◌, ◌≤◌, nat_lt, true, List, [], ◌∷◌, ◌++◌, length, ◌⊎◌, inl, inr, Option, Some, None, refl, sym, subst, arith, length-append, ap, ◌∙◌, cond}
use Rattle.std.proofs.lemmas.Bool.Decides.{nat_tests}
use Rattle.std.proofs.lemmas.Bool.{cases_Bool}
use Rattle.rd_base.specs.declared.answer.Qid.{Qid}
use Rattle.bisect_game.specs.declared.settled.Question.{Question}
use Rattle.bisect_game.specs.Says.{Says}
use Rattle.bisect_game.specs.Ruling.{IsFair}
use Rattle.bisect_game.specs.Rules.{Rules, ArePlayable}
use Rattle.bisect_game.specs.Truth.{Truth, IsRun}
use Rattle.tournament.specs.Bracket.{Record, open_question, is_complete, bracket}
use Rattle.tournament.specs.Moves.{MatchState, begun, passes_of}
use Rattle.tournament.specs.Journals.{turn, turn_on, turns, IsAskedOf, Legal, answers_of, RecordOfCase}
use Rattle.rd_base.specs.Questions.{same_qid}
use Rattle.tournament.specs.Posting.{posted, posted_on, Post, after_posts, record_after, NobodyAskedIsOver}
use Rattle.tournament.specs.Theorem.{lives}
use Rattle.tournament.specs.Length.{IsMost, most_entries, SpareIsEnough, ThereIsAMost}
use Rattle.tournament.specs.Truthful.{IsTruthfulProver, IsSafe, TruthfulProversAreSafe}
use Rattle.deposits.specs.Balances.{IsSettledUp}
use Rattle.deposits.specs.Theorem.{EndedIsSettledUp}
use Rattle.deposits.specs.ExactBalance.{HasWonAll, WhoLivesWinsAll}
use Rattle.case_match.specs.Earnings.{WhoLivesInACaseWinsAll}
use Rattle.case_match.specs.Match.{RecordsOfCasesAreSettledUp}
use Rattle.case_match.specs.Ended.{RecordsOfCasesHaveEnded}

-- one more move

legal-last : (rules : Rules) (says : Says) (ps : List ℕ) (p : ℕ) (st : MatchState) → Legal rules says ps st → IsAskedOf rules (turns rules says ps st) p → Legal rules says (ps ++ p ∷ []) st
legal-last rules says [] p st legal asked = (asked, tt)
legal-last rules says (q ∷ ps) p st legal asked = (legal.0, legal-last rules says ps p _ legal.1 asked)

-- moves are posts

same-number : (a : Qid) → same_qid a a ≡ true
same-number a = grind (arith, nat_tests)

posted-turn : (rules : Rules) (says : Says) (st : MatchState) (p : ℕ) (q : Question) → open_question rules st.record_ p ≡ Some q
    → posted rules st p q.qid (says p q (passes_of st p)) ≡ turn_on rules says st p (open_question rules st.record_ p)
posted-turn rules says st p q asked =
    ap (posted_on rules st p q.qid (says p q (passes_of st p))) asked
    ∙ (ap (λ b. cond b (turn rules says st p q) st) (same-number q.qid) ∙ sym (ap (turn_on rules says st p) asked))

posts-of : (rules : Rules) (says : Says) (ps : List ℕ) (st : MatchState) → Legal rules says ps st → (xs : List Post) × (after_posts rules xs st ≡ turns rules says ps st)
posts-of rules says [] st legal = ([], refl)
posts-of rules says (p ∷ ps) st legal =
    let q = legal.0.question in
    let rest = posts-of rules says ps _ legal.1 in
    let post : Post = record { prover = p; numbered = legal.0.numbered; qid = q.qid; answer = says p q (passes_of st p) } in
    (post ∷ rest.0, ap (after_posts rules rest.0) (posted-turn rules says st p q legal.0.asked) ∙ rest.1)

over-after : NobodyAskedIsOver → (rules : Rules) (says : Says) (ps : List ℕ) → ArePlayable rules → Legal rules says ps (begun rules)
    → ((p : ℕ) → 0 < p → p ≤ rules.setup.provers → open_question rules (turns rules says ps (begun rules)).record_ p ≡ None)
    → is_complete (turns rules says ps (begun rules)).record_ ≡ true
over-after over rules says ps playable legal nobody =
    let posts = posts-of rules says ps (begun rules) legal in
    subst (λ (st : MatchState). is_complete st.record_ ≡ true) posts.1
    ((over rules posts.0 playable).0 (λ p some few. subst (λ (st : MatchState). open_question rules st.record_ p ≡ None) (sym posts.1) (nobody p some few)))

-- somebody of the first n provers is asked, or nobody is

abbrev NobodyAsked : Rules → MatchState → ℕ → Type 0
NobodyAsked rules st n = (p : ℕ) → 0 < p → p ≤ n → open_question rules st.record_ p ≡ None

somebody : (rules : Rules) (st : MatchState) (n : ℕ) → ((p : ℕ) × IsAskedOf rules st p) ⊎ NobodyAsked rules st n
somebody rules st zero = inr (λ p some few. absurd (omega (arith, some, few)))
somebody rules st (suc n) = by (open_question rules st.record_ (suc n)) refl (somebody rules st n)
  where
    by : (o : Option Question) → open_question rules st.record_ (suc n) ≡ o → (((p : ℕ) × IsAskedOf rules st p) ⊎ NobodyAsked rules st n)
        → ((p : ℕ) × IsAskedOf rules st p) ⊎ NobodyAsked rules st (suc n)
    by (Some q) is below = inl (suc n, record { question = q; numbered = omega arith; asked = is })
    by None is (inl asked) = inl asked
    by None is (inr nobody) = inr (λ p some few. elim (cases_Bool (nat_lt p (suc n))) [
      | inl less ↦ nobody p some (grind (arith, nat_tests))
      | inr more ↦ (let e : p ≡ suc n = grind (arith, nat_tests) in subst (λ k. open_question rules st.record_ k ≡ None) (sym e) is)
    ])

-- a legal list of moves after which nothing is open
pub record IsEnding (rules : Rules) (says : Says) (ps : List ℕ) : Type 0 where
  pub legal : Legal rules says ps (begun rules)
  pub complete : is_complete (turns rules says ps (begun rules)).record_ ≡ true

ends-from : SpareIsEnough → NobodyAskedIsOver → (rules : Rules) (says : Says) (k : ℕ) → ArePlayable rules → IsMost rules.setup.fan rules.setup.bound k
    → (fuel : ℕ) (ps : List ℕ) → Legal rules says ps (begun rules) → most_entries rules.setup k < length ps + fuel → (qs : List ℕ) × IsEnding rules says qs
ends-from enough over rules says k playable most zero ps legal spare = absurd (omega (arith, enough rules says ps k playable most legal, spare))
ends-from enough over rules says k playable most (suc fuel) ps legal spare =
    by (λ p asked. ends-from enough over rules says k playable most fuel (ps ++ p ∷ []) (legal-last rules says ps p (begun rules) legal asked)
    (omega (arith, spare, length-append ps (p ∷ [])))) (somebody rules (turns rules says ps (begun rules)) rules.setup.provers)
  where
    by : ((p : ℕ) → IsAskedOf rules (turns rules says ps (begun rules)) p → (qs : List ℕ) × IsEnding rules says qs)
        → (((p : ℕ) × IsAskedOf rules (turns rules says ps (begun rules)) p) ⊎ NobodyAsked rules (turns rules says ps (begun rules)) rules.setup.provers) → (qs : List ℕ) × IsEnding rules says qs
    by further (inl asked) = further asked.0 asked.1
    by further (inr nobody) = (ps, record { legal = legal; complete = over-after over rules says ps playable legal nobody })

-- what the laws of a match say together
pub record AreLaws : Type 0 where
  pub spare : SpareIsEnough
  pub over : NobodyAskedIsOver
  pub most : ThereIsAMost
  pub of_case : RecordOfCase
  pub safe : TruthfulProversAreSafe

-- each case has a legal list of moves after which nothing is open
pub case-ends : SpareIsEnough → NobodyAskedIsOver → ThereIsAMost → (rules : Rules) (says : Says) → ArePlayable rules → (ps : List ℕ) × IsEnding rules says ps
case-ends enough over most rules says playable =
    let k = most rules.setup.fan rules.setup.bound playable.parted playable.steps in
    ends-from enough over rules says k.0 playable k.1 (suc (most_entries rules.setup k.0)) [] tt (omega arith)

-- in the record of a case nothing is open, and a truthful prover is safe
pub record IsSafeCase (rules : Rules) (t : Truth) (p : ℕ) (r : Record) : Type 0 where
  pub complete : is_complete r ≡ true
  pub safe : IsSafe rules t p r

pub case-is-safe : AreLaws → (rules : Rules) (says : Says) (t : Truth) (p : ℕ) → ArePlayable rules → IsFair rules.ruling → IsRun rules t → 0 < p → p ≤ rules.setup.provers → IsTruthfulProver rules says t p
    → IsSafeCase rules t p (bracket rules (answers_of rules says))
case-is-safe laws rules says t p playable fair run some few truthful =
    let ending = case-ends laws.spare laws.over laws.most rules says playable in
    let e = laws.of_case rules says ending.0 playable ending.1.legal ending.1.complete in
    record {
      complete = subst (λ r. is_complete r ≡ true) e ending.1.complete;
      safe = subst (IsSafe rules t p) e (laws.safe rules says t ending.0 p playable fair run some few truthful ending.1.legal);
    }

-- legal moves, and posts, that come to the record of a case, in which nothing is open
pub record IsComeTo (rules : Rules) (says : Says) : Type 0 where
  pub moves : List ℕ
  pub legal : Legal rules says moves (begun rules)
  pub by_moves : (turns rules says moves (begun rules)).record_ ≡ bracket rules (answers_of rules says)
  pub posts : List Post
  pub by_posts : record_after rules posts ≡ bracket rules (answers_of rules says)
  pub complete : is_complete (bracket rules (answers_of rules says)) ≡ true

pub come-to : SpareIsEnough → NobodyAskedIsOver → ThereIsAMost → RecordOfCase → (rules : Rules) (says : Says) → ArePlayable rules → IsComeTo rules says
come-to enough over most of_case rules says playable =
    let ending = case-ends enough over most rules says playable in
    let posts = posts-of rules says ending.0 (begun rules) ending.1.legal in
    let comes = of_case rules says ending.0 playable ending.1.legal ending.1.complete in
    record {
      moves = ending.0;
      legal = ending.1.legal;
      by_moves = comes;
      posts = posts.0;
      by_posts = ap (λ (st : MatchState). st.record_) posts.1 ∙ comes;
      complete = subst (λ (r : Record). is_complete r ≡ true) comes ending.1.complete;
    }

-- so it is that of a match that is over
pub case-has-ended : SpareIsEnough → NobodyAskedIsOver → ThereIsAMost → RecordOfCase → RecordsOfCasesHaveEnded
case-has-ended enough over most of_case rules says playable =
    let case : IsComeTo rules says = come-to enough over most of_case rules says playable in
    record { posts = case.posts; comes = case.by_posts; complete = case.complete }

-- it may be paid
pub case-is-settled-up : SpareIsEnough → NobodyAskedIsOver → ThereIsAMost → RecordOfCase → EndedIsSettledUp → RecordsOfCasesAreSettledUp
case-is-settled-up enough over most of_case ended rules says playable =
    let case : IsComeTo rules says = come-to enough over most of_case rules says playable in
    subst (λ (r : Record). IsSettledUp rules.setup.provers r) case.by_posts
    (ended rules case.posts playable (subst (λ (r : Record). is_complete r ≡ true) (sym case.by_posts) case.complete))

-- and who is live in it has won all
pub who-lives-in-a-case-wins-all : SpareIsEnough → NobodyAskedIsOver → ThereIsAMost → RecordOfCase → WhoLivesWinsAll → WhoLivesInACaseWinsAll
who-lives-in-a-case-wins-all enough over most of_case wins stake rules says p playable some few stays =
    let case : IsComeTo rules says = come-to enough over most of_case rules says playable in
    subst (λ (r : Record). HasWonAll stake rules.setup.provers p r) case.by_posts
    (wins stake rules case.posts p playable some few (subst (λ (r : Record). is_complete r ≡ true) (sym case.by_posts) case.complete)
    (subst (λ (r : Record). lives r p ≡ true) (sym case.by_posts) stays))
