-- Whatever was posted, a match that is over is that of a case.
use Rattle.std.proofs.Common.{◌≡◌, ℕ, zero, suc, ◌+◌, ◌<◌, nat_lt, Bool, true, false, List, [], ◌∷◌, ◌++◌, Option, Some, None, refl, sym, ◌∙◌, ap, if◌then◌else◌}
use Rattle.rd_base.specs.declared.answer.Answer.{Answer}
use Rattle.rd_base.specs.declared.answer.Qid.{Qid}
use Rattle.bisect_game.specs.declared.settled.Kind.{Kind}
use Rattle.bisect_game.specs.declared.settled.Question.{Question}
use Rattle.bisect_game.specs.declared.settled.Settled.{Settled}
use Rattle.bisect_game.specs.declared.settled.Settled.TheVariants.{Given, Faulty, Spent}
use Rattle.bisect_game.specs.Ruling.{Ruling}
use Rattle.bisect_game.specs.Rules.{Rules, ArePlayable, is_fit, judged}
use Rattle.bisect_game.specs.Says.{Says}
use Rattle.bisect_game.specs.Laws.{BisectionLaws}
use Rattle.tournament.specs.Bracket.{Record, open_question, settle, nothing_settled, bracket, is_complete}
use Rattle.tournament.specs.Settling.{after, Fits}
use Rattle.tournament.specs.Journals.{settled_after, answers_of}
use Rattle.tournament.specs.Moves.{MatchState, begun, passes_of, settled_by, moved}
use Rattle.rd_base.specs.Questions.{same_qid}
use Rattle.tournament.specs.Posting.{posted, posted_on, Post, after_posts, record_after}
use Rattle.tournament.specs.SoFar.{answers_in}
use Rattle.tournament.specs.OfCases.{answer_held, says_of, EndedMatchesAreOfCases}
use Rattle.tournament.proofs.PostLemmas.{after-last}
use Rattle.tournament.proofs.length.CountLemmas.{few_disputes}
use Rattle.tournament.proofs.order.BracketLemmas.{bracket-is}
use Rattle.tournament.proofs.order.SoFarLemmas.{IsApartIn, held, holds-after, answer-settled, kept-settle}
use Rattle.tournament.proofs.StageLemmas.{ends, played-nothing}

-- an answer is called what it is: given if it fits, and else faulty
abbrev IsCalled : Ruling → Kind → Settled → Type 0
IsCalled r k (Given a) = is_fit r k a ≡ true
IsCalled r k (Faulty a) = is_fit r k a ≡ false
IsCalled r k Spent = Unit {0}

record MayCome (rules : Rules) (t : Record) (p : ℕ) (s : Settled) : Type 0 where
  question : Question
  numbered : 0 < p
  asked : open_question rules t p ≡ Some question
  called : IsCalled rules.ruling question.kind s

abbrev AllCome : Rules → List (ℕ × Settled) → Record → Type 0
AllCome rules [] t = Unit {0}
AllCome rules (e ∷ es) t = MayCome rules t e.0 e.1 × AllCome rules es (settle rules e.0 e.1 t)

-- posts settle such a list

come-last : (rules : Rules) (es : List (ℕ × Settled)) (p : ℕ) (s : Settled) (r : Record) → AllCome rules es r → MayCome rules (after rules es r) p s → AllCome rules (es ++ (p, s) ∷ []) r
come-last rules [] p s r h is = (is, tt)
come-last rules (e ∷ es) p s r h is = (h.0, come-last rules es p s (settle rules e.0 e.1 r) h.1 is)

called-judged : (r : Ruling) (k : Kind) (a : Answer) (b : Bool) → is_fit r k a ≡ b → IsCalled r k (if b then Given a else Faulty a)
called-judged r k a true e = e
called-judged r k a false e = e

called-spent : (r : Ruling) (k : Kind) (s : Settled) (b : Bool) → (if b then None else Some Spent) ≡ Some s → IsCalled r k s
called-spent r k s true e = absurd (cc)
called-spent r k s false e = let same : Spent ≡ s = cc in rw (← same) tt

called-settled : (rules : Rules) (q : Question) (n : ℕ) (m : Option Answer) (s : Settled) → settled_by rules q n m ≡ Some s → IsCalled rules.ruling q.kind s
called-settled rules q n (Some a) s e = let same : judged rules.ruling q.kind a ≡ s = cc in rw (← same) (called-judged rules.ruling q.kind a (is_fit rules.ruling q.kind a) refl)
called-settled rules q n None s e = called-spent rules.ruling q.kind s (nat_lt n rules.setup.patience) e

-- a record to which some such list comes
record IsCome (rules : Rules) (t : Record) : Type 0 where
  list : List (ℕ × Settled)
  come : AllCome rules list (nothing_settled rules)
  comes : after rules list (nothing_settled rules) ≡ t

come-moved : (rules : Rules) (st : MatchState) (p : ℕ) (q : Question) (o : Option Settled) → 0 < p → open_question rules st.record_ p ≡ Some q → ((s : Settled) → o ≡ Some s → IsCalled rules.ruling q.kind s) →
    IsCome rules st.record_ → IsCome rules (moved rules st p o).record_
come-moved rules st p q None some asked called i = i
come-moved rules st p q (Some s) some asked called i = record {
  list = i.list ++ (p, s) ∷ [];
  come = come-last rules i.list p s (nothing_settled rules) i.come (record {
    question = q;
    numbered = some;
    asked = ap (λ (r : Record). open_question rules r p) i.comes ∙ asked;
    called = called s refl;
  });
  comes = after-last rules i.list p s (nothing_settled rules) ∙ ap (settle rules p s) i.comes;
}

come-if : (rules : Rules) (st : MatchState) (p : ℕ) (q : Question) (m : Option Answer) (b : Bool) → 0 < p → open_question rules st.record_ p ≡ Some q → IsCome rules st.record_ →
    IsCome rules (if b then moved rules st p (settled_by rules q (passes_of st p) m) else st).record_
come-if rules st p q m true some asked i =
    come-moved rules st p q (settled_by rules q (passes_of st p) m) some asked (λ s e. called-settled rules q (passes_of st p) m s e) i
come-if rules st p q m false some asked i = i

come-on : (rules : Rules) (st : MatchState) (p : ℕ) (qid : Qid) (m : Option Answer) (o : Option Question) → 0 < p → open_question rules st.record_ p ≡ o → IsCome rules st.record_ →
    IsCome rules (posted_on rules st p qid m o).record_
come-on rules st p qid m None some asked i = i
come-on rules st p qid m (Some q) some asked i = come-if rules st p q m (same_qid q.qid qid) some asked i

come-posts : (rules : Rules) (xs : List Post) (st : MatchState) → IsCome rules st.record_ → IsCome rules (after_posts rules xs st).record_
come-posts rules [] st i = i
come-posts rules (x ∷ xs) st i =
    come-posts rules xs (posted rules st x.prover x.qid x.answer) (come-on rules st x.prover x.qid x.answer (open_question rules st.record_ x.prover) x.numbered refl i)

come-begun : (rules : Rules) (xs : List Post) → IsCome rules (record_after rules xs)
come-begun rules xs = come-posts rules xs (begun rules) (record { list = []; come = tt; comes = refl })

-- a prover that says at once what was settled has it settled

at-once : (rules : Rules) (says : Says) (p : ℕ) (q : Question) (left n : ℕ) (a : Answer) → ((k : ℕ) → says p q k ≡ Some a) → settled_after rules says p q left n ≡ judged rules.ruling q.kind a
unfolding settled_after
at-once rules says p q zero n a e = rw (e n) refl
at-once rules says p q (suc left) n a e = rw (e n) refl

never : (rules : Rules) (says : Says) (p : ℕ) (q : Question) (left n : ℕ) → ((k : ℕ) → says p q k ≡ None) → settled_after rules says p q left n ≡ Spent
unfolding settled_after
never rules says p q zero n e = rw (e n) refl
never rules says p q (suc left) n e = rw (e n) (never rules says p q left (n + 1) e)

said-again : (rules : Rules) (t : Record) (p : ℕ) (q : Question) (s : Settled) → answers_in t p q ≡ Some s → IsCalled rules.ruling q.kind s → answers_of rules (says_of t) p q ≡ Some s
unfolding answers_of
said-again rules t p q (Given a) e called =
    let says : (k : ℕ) → says_of t p q k ≡ Some a = λ k. ap answer_held e in
    ap Some (at-once rules (says_of t) p q rules.setup.patience 0 a says ∙ rw called refl)
said-again rules t p q (Faulty a) e called =
    let says : (k : ℕ) → says_of t p q k ≡ Some a = λ k. ap answer_held e in
    ap Some (at-once rules (says_of t) p q rules.setup.patience 0 a says ∙ rw called refl)
said-again rules t p q Spent e called =
    let says : (k : ℕ) → says_of t p q k ≡ None = λ k. ap answer_held e in
    ap Some (never rules (says_of t) p q rules.setup.patience 0 says)

module _ (laws : BisectionLaws) where
  -- what the last record says is what was settled

  come-said : (rules : Rules) (u : Record) (es : List (ℕ × Settled)) (t : Record) → 1 < rules.setup.fan → 0 < rules.setup.bound → after rules es t ≡ u → IsApartIn rules t → AllCome rules es t →
      Fits rules (answers_of rules (says_of u)) es t
  come-said rules u [] t more long same i come = tt
  come-said rules u (e ∷ es) t more long same i come =
      let last : answers_in (after rules es (settle rules e.0 e.1 t)) e.0 come.0.question ≡ Some e.1 =
      (held laws) (settle rules e.0 e.1 t) (after rules es (settle rules e.0 e.1 t)) e.0 come.0.question e.1 ((holds-after laws) rules es (settle rules e.0 e.1 t))
      ((answer-settled laws) rules e.0 e.1 come.0.question t i.numbered i.apart come.0.asked) in (
        record {
          question = come.0.question;
          numbered = come.0.numbered;
          asked = come.0.asked;
          is = said-again rules u e.0 come.0.question e.1 (ap (λ (r : Record). answers_in r e.0 come.0.question) (sym same) ∙ last) come.0.called;
        },
        come-said rules u es (settle rules e.0 e.1 t) more long same ((kept-settle laws) rules e.0 e.1 t more long i) come.1,
      )

  of-case : (rules : Rules) (es : List (ℕ × Settled)) → ArePlayable rules → AllCome rules es (nothing_settled rules) → is_complete (after rules es (nothing_settled rules)) ≡ true →
      after rules es (nothing_settled rules) ≡ bracket rules (answers_of rules (says_of (after rules es (nothing_settled rules))))
  of-case rules es playable come c =
      let some : 0 < rules.setup.provers = playable.some in
      let more : 1 < rules.setup.fan = playable.parted in
      let long : 0 < rules.setup.bound = playable.steps in
      let u : Record = after rules es (nothing_settled rules) in
      let begun_ : IsApartIn rules (nothing_settled rules) = record { apart = tt; numbered = tt; played = (played-nothing laws) rules some } in
      let fits : Fits rules (answers_of rules (says_of u)) es (nothing_settled rules) = come-said rules u es (nothing_settled rules) more long refl begun_ come in
      (bracket-is laws) rules (answers_of rules (says_of u)) u more long
      ((ends laws) rules (answers_of rules (says_of u)) es (nothing_settled rules) more long begun_.played fits c)
      (few_disputes rules es some)

  pub ended_matches_are_of_cases : EndedMatchesAreOfCases
  ended_matches_are_of_cases rules xs playable c =
      let i : IsCome rules (record_after rules xs) = come-begun rules xs in
      rw i.comes at (of-case rules i.list playable i.come (rw i.comes c))
