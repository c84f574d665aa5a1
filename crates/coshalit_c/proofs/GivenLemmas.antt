-- What `coshalit_answer` gives is true, so that whoever posts it is safe.
use Rattle.std.proofs.Common.{◌≡◌, ℕ, ◌-◌, ◌^◌, ◌<◌, ◌≤◌, Bool, true, false, cond, ◌&&◌, nat_lt, nat_le, List, [], ◌∷◌, ◌++◌, length, Option, Some, None, Result, Ok, Err, refl, sym, ap, subst, ◌∙◌, arith}
use Rattle.std.proofs.lemmas.Bool.{and_from}
use Rattle.std.proofs.lemmas.Bool.Decides.{nat_tests}
use Rattle.sha2.specs.Sha256.{sha256}
use Rattle.rd_base.specs.Results.{◌>>=◌}
use Rattle.rd_base.specs.declared.answer.Answer.{Answer}
use Rattle.rd_base.specs.declared.tamper.Tamper.TheVariants.{Untouched}
use Rattle.proof_wire.specs.Reading.{answer_in}
use Rattle.proof_wire.specs.Wire.{Spells, wire_form}
use Rattle.rv_step.specs.State.{State}
use Rattle.rv_step.specs.Step.{state_at}
use Rattle.state_commit.specs.StateRoot.{root_in}
use Rattle.plain_answers.specs.Plain.{plain}
use Rattle.checkpoint_run.specs.TamperedRun.{run_at}
use Rattle.prover_run.specs.Growing.{OutputGrowsSlowly}
use Rattle.bisect_game.specs.declared.settled.Kind.{Kind}
use Rattle.bisect_game.specs.declared.settled.Kind.TheVariants as kind
use Rattle.bisect_game.specs.declared.settled.Question.{Question}
use Rattle.bisect_game.specs.Bisection.{can_cut}
use Rattle.bisect_game.specs.Rules.{Rules}
use Rattle.bisect_game.specs.Truth.{IsTrueAnswer}
use Rattle.tournament.specs.Asked.{IsWithinBound, OpenIsWithinBound}
use Rattle.tournament.specs.Bracket.{open_question}
use Rattle.tournament.specs.Moves.{MatchState, begun, passes_of}
use Rattle.tournament.specs.Posting.{Post, posted, after_posts, record_after}
use Rattle.tournament.specs.TrueMoves.{IsTrueMove, MovesTruly}
use Rattle.step_referee.specs.MachineRuling.{machine_ruling}
use Rattle.step_referee.specs.MachineTruth.{machine_truth}
use Rattle.machine_audit.specs.MachineAudit.{IsStatedStart, machine_rules}
use Rattle.image_reader.specs.Image.{Image}
use Rattle.rv_step.specs.Loaded.{started}
use Rattle.case_reader.specs.Case.{CaseData}
use Rattle.open_match.specs.Laws.{HeadsArePlayable, HeadsHaveShortRuns, OpenMatchesAreRight, TrueAnswersHaveWireForms}
use Rattle.delegate.specs.Loading.{within_limit, case_or_refusal, image_by, start_or_refusal, of_case}
use Rattle.delegate.specs.Outcome.{either_way}
use Rattle.delegate.specs.Refusal.{too_long}
use Rattle.delegate.specs.OfCase.{root_of_start, start_response, response_by, may_ask, answer_of_run, answer_response}
use Rattle.delegate.specs.declared.response.Subject.TheVariants.{Whole}
use Rattle.delegate.specs.declared.response.Answered.TheVariants.{Done}
use Rattle.delegate.specs.declared.response.Response.{Response}
use Rattle.coshalit_c.specs.declared.asked.CoshalitQuestion.{CoshalitQuestion}
use Rattle.coshalit_c.specs.declared.numbers.CoshalitNumbers.{CoshalitNumbers}
use Rattle.coshalit_c.specs.Asked.{kind_to, question_to}
use Rattle.coshalit_c.specs.HostMatch.{head_of_match}
use Rattle.coshalit_c.specs.Questions.{kind_numbered, response_on}
use Rattle.coshalit_c.specs.GivenAnswers.{IsMatchOfCase, response_asked, IsGiven, IsGivenMove, PostsWhatIsGiven, GivenAnswersAreRight, QuestionsAreAnswered}

-- THE QUESTION that is written is the one that is asked

numbered : (base : CoshalitQuestion) (k : Kind) → base.kind ≡ 1 → kind_numbered (kind_to base k).kind (kind_to base k).low (kind_to base k).high (kind_to base k).parts ≡ Some k
numbered base kind.Claim one = ap (λ (number : ℕ). kind_numbered number base.low base.high base.parts) one
numbered base (kind.Root i) one = refl
numbered base (kind.Roots lo hi parts) one = refl
numbered base (kind.Proof i) one = refl

asks : (bytes : List ℕ) (p passes : ℕ) (q : Question) → response_asked bytes (question_to p q passes) ≡ response_on (Some q.kind) bytes
asks bytes p passes q =
    ap (λ (k : Option Kind). response_on k bytes)
    (numbered (record { prover = p; dispute = q.qid.dispute; round = q.qid.round; kind = 1; parts = 0; passes = passes; low = 0; high = 0 }) q.kind refl)

passes-kept : (base : CoshalitQuestion) (k : Kind) → (kind_to base k).passes ≡ base.passes
passes-kept base kind.Claim = refl
passes-kept base (kind.Root i) = refl
passes-kept base (kind.Roots lo hi parts) = refl
passes-kept base (kind.Proof i) = refl

-- THE RESPONSES to the bytes of a case that is read and loaded

abbrev Answering : Type 0
Answering = List ℕ → Result Response Response

limit-as : Bool → List ℕ → Result (List ℕ) Response
limit-as many bytes = cond many (Err too_long) (Ok bytes)

responds : (bytes : List ℕ) (c : CaseData) (answer : Answering) (r : Response) → (within_limit bytes >>= case_or_refusal) ≡ Ok c → (case_or_refusal bytes ≡ Ok c → answer bytes ≡ Ok r) → response_by answer bytes ≡ r
responds bytes c answer r = by (nat_lt 16777216 (length bytes))
  where
    by : (many : Bool) → (cond many (Err too_long) (Ok bytes) >>= case_or_refusal) ≡ Ok c → (case_or_refusal bytes ≡ Ok c → answer bytes ≡ Ok r) → either_way (cond many (Err too_long) (Ok bytes) >>= answer) ≡ r
    by true read then = absurd (cc read)
    by false read then = ap either_way (then read)

answers : (k : Kind) (bytes : List ℕ) (c : CaseData) (start : State) → may_ask c.bound k ≡ true → start_or_refusal Whole c ≡ Ok start → case_or_refusal bytes ≡ Ok c → answer_response k bytes ≡ Ok (answer_of_run k c start)
unfolding of_case
answers k bytes c start may loaded read = rw (read, may, loaded) refl

begins : (bytes : List ℕ) (c : CaseData) (start : State) → start_or_refusal Whole c ≡ Ok start → case_or_refusal bytes ≡ Ok c → start_response bytes ≡ Ok (root_of_start start)
unfolding of_case
begins bytes c start loaded read = rw (read, loaded) refl

-- a start has no output, and the version of its case
starts : (c : CaseData) (start : State) → start_or_refusal Whole c ≡ Ok start → (start.output ≡ []) × (start.version ≡ c.version)
unfolding start_or_refusal
starts c start = by (image_by Whole c.format c.image)
  where
    by : (image : Result Image Response) → (image >>= (λ i. Ok (started c.version i.memory i.entry c.input))) ≡ Ok start → (start.output ≡ []) × (start.version ≡ c.version)
    by (Ok i) loaded =
        let is : started c.version i.memory i.entry c.input ≡ start = cc loaded in
        (sym (ap (λ (s : State). s.output) is), sym (ap (λ (s : State). s.version) is))
    by (Err refused) loaded = absurd (cc loaded)

-- WHAT A MATCH ASKS may be asked of its case

above-zero : (i : ℕ) → 0 < i → nat_lt 0 i ≡ true
above-zero i lt = grind (arith, nat_tests)

below-as : (a b : ℕ) → a < b → nat_lt a b ≡ true
below-as a b lt = grind (arith, nat_tests)

most-as : (a b : ℕ) → a ≤ b → nat_le a b ≡ true
most-as a b le = grind (arith, nat_tests)

may : (bound : ℕ) (k : Kind) → IsWithinBound bound k → may_ask bound k ≡ true
may bound kind.Claim within = refl
may bound (kind.Root i) within = and_from (nat_lt 0 i) (nat_lt i bound) (above-zero i within.0) (below-as i bound within.1)
may bound (kind.Roots lo hi parts) within =
    and_from (can_cut lo hi parts) (nat_le hi bound)
    (and_from (nat_le 2 parts) (nat_le parts 16 && nat_le parts (hi - lo)) (most-as 2 parts (omega (arith, within.parted)))
    (and_from (nat_le parts 16) (nat_le parts (hi - lo)) (most-as parts 16 within.few_parts) (most-as parts (hi - lo) within.long)))
    (most-as hi bound within.high)
may bound (kind.Proof i) within = below-as i bound within

-- THE ANSWERS

abbrev pub PlainAreTrue : Type 0
PlainAreTrue = (c : CaseData) (start : State) (k : Kind) → may_ask c.bound k ≡ true → IsTrueAnswer (machine_truth sha256 start c.bound) k (plain sha256 (state_at start) c.bound k)

abbrev pub ReadingIsSpelling : Type 0
ReadingIsSpelling = (answer : Answer) (bytes : List ℕ) → Spells answer bytes → answer_in bytes ≡ Ok answer

-- what the laws below say
pub record Below : Type 0 where
  pub playable : HeadsArePlayable
  pub short : HeadsHaveShortRuns
  pub right : OpenMatchesAreRight sha256
  pub forms : TrueAnswersHaveWireForms sha256
  pub plain_true : PlainAreTrue
  pub reading : ReadingIsSpelling
  pub grows : OutputGrowsSlowly
  pub untouched : (s : State) (i : ℕ) → run_at Untouched s i ≡ state_at s i
  pub within : OpenIsWithinBound

module _ (below : Below) (bytes : List ℕ) (n : CoshalitNumbers) (m : IsMatchOfCase bytes n) where
  abbrev the-rules : Rules
  the-rules = machine_rules sha256 (head_of_match n)

  short : length (state_at m.start m.of.bound).output < 2 ^ 32
  short =
      let grown = below.grows Untouched m.start m.of.bound in
      let same : length (run_at Untouched m.start m.of.bound).output ≡ length (state_at m.start m.of.bound).output = ap (λ (s : State). length s.output) (below.untouched m.start m.of.bound) in
      let none : length m.start.output ≡ 0 = ap (length {A = ℕ}) (starts m.of m.start m.loaded).0 in
      omega (arith, grown, same, none, m.bound, below.short (head_of_match n) m.limits)

  -- what is answered on a question that the match asks
  true-plain : (k : Kind) → IsWithinBound m.of.bound k → IsTrueAnswer (machine_truth sha256 m.start m.of.bound) k (plain sha256 (state_at m.start) m.of.bound k)
  true-plain k within = below.plain_true m.of m.start k (may m.of.bound k within)

  given : (k : Kind) → IsWithinBound m.of.bound k → response_on (Some k) bytes ≡ answer_of_run k m.of m.start
  given k within = responds bytes m.of (answer_response k) (answer_of_run k m.of m.start) m.read (answers k bytes m.of m.start (may m.of.bound k within) m.loaded)

  reads : (k : Kind) → IsWithinBound m.of.bound k → answer_in (answer_of_run k m.of m.start).text ≡ Ok (plain sha256 (state_at m.start) m.of.bound k)
  reads k within =
      let a : Answer = plain sha256 (state_at m.start) m.of.bound k in
      below.reading a (wire_form a).bytes (below.forms m.start m.of.bound k a m.valid short within (true-plain k within), refl)

  answered-so : (p passes : ℕ) (q : Question) → IsWithinBound m.of.bound q.kind → IsGiven bytes (question_to p q passes) (plain sha256 (state_at m.start) m.of.bound q.kind)
  answered-so p passes q within =
      let is : response_asked bytes (question_to p q passes) ≡ answer_of_run q.kind m.of m.start = asks bytes p passes q ∙ given q.kind within in
      record { done = ap (λ (r : Response). r.answered) is; read = ap (λ (r : Response). answer_in r.text) is ∙ reads q.kind within }

  -- it is the one that is given, and it is true
  true-given : (p passes : ℕ) (q : Question) (a : Answer) → IsWithinBound m.of.bound q.kind → IsGiven bytes (question_to p q passes) a → IsTrueAnswer (machine_truth sha256 m.start m.of.bound) q.kind a
  true-given p passes q a within is =
      let same : plain sha256 (state_at m.start) m.of.bound q.kind ≡ a = cc ((answered-so p passes q within).read, is.read) in
      subst (λ (x : Answer). IsTrueAnswer (machine_truth sha256 m.start m.of.bound) q.kind x) same (true-plain q.kind within)

  true-move : (p passes : ℕ) (q : Question) (o : Option Answer) → IsWithinBound m.of.bound q.kind → IsGivenMove bytes n.patience (question_to p q passes) o
      → IsTrueMove the-rules (machine_truth sha256 m.start m.of.bound) q passes o
  true-move p passes q (Some a) within is = true-given p passes q a within is
  true-move p passes q None within few =
      subst (λ (k : ℕ). k < n.patience) (passes-kept (record { prover = p; dispute = q.qid.dispute; round = q.qid.round; kind = 1; parts = 0; passes = passes; low = 0; high = 0 }) q.kind) few

  -- THE LOG

  after-more : (xs : List Post) (x : Post) (st : MatchState) → after_posts the-rules (xs ++ x ∷ []) st ≡ posted the-rules (after_posts the-rules xs st) x.prover x.qid x.answer
  after-more [] x st = refl
  after-more (y ∷ xs) x st = after-more xs x (posted the-rules st y.prover y.qid y.answer)

  asked-within : (ys : List Post) (st : MatchState) (p : ℕ) (q : Question) → after_posts the-rules ys (begun the-rules) ≡ st → open_question the-rules st.record_ p ≡ Some q → IsWithinBound m.of.bound q.kind
  asked-within ys st p q at open_ =
      let there : open_question the-rules (record_after the-rules ys) p ≡ Some q = subst (λ (u : MatchState). open_question the-rules u.record_ p ≡ Some q) (sym at) open_ in
      subst (λ (b : ℕ). IsWithinBound b q.kind) m.bound (below.within the-rules ys p q (below.playable (machine_ruling sha256 n.version) (head_of_match n) m.limits) there)

  truly : (ys xs : List Post) (st : MatchState) (p : ℕ) → after_posts the-rules ys (begun the-rules) ≡ st → PostsWhatIsGiven the-rules bytes p st xs
      → MovesTruly the-rules (machine_truth sha256 m.start m.of.bound) p st xs
  truly ys [] st p at posts = tt
  truly ys (x ∷ xs) st p at posts = (
    λ q own open_ same. true-move p (passes_of st p) q x.answer (asked-within ys st p q at open_) (posts.0 q own open_ same),
    truly (ys ++ x ∷ []) xs (posted the-rules st x.prover x.qid x.answer) p
        (after-more ys x (begun the-rules) ∙ ap (λ (u : MatchState). posted the-rules u x.prover x.qid x.answer) at) posts.1,
  )

  -- the start is the one that the match states
  stated : IsStatedStart sha256 (head_of_match n) m.start
  stated =
      let start = starts m.of m.start m.loaded in
      let is : root_of_start m.start ≡ record { answered = Done; text = n.start } =
      sym (responds bytes m.of start_response (root_of_start m.start) m.read (begins bytes m.of m.start m.loaded)) ∙ m.root in
      let version : m.start.version ≡ n.version = start.1 ∙ sym m.version in
      record {
        valid = m.valid;
        silent = start.0;
        version = version;
        root = sym (ap (λ (r : Response). r.text) is) ∙ ap (λ (v : ℕ). root_in sha256 v m.start) version;
      }

pub right : Below → GivenAnswersAreRight
right below bytes log n xs p m logged some known posts =
    let moves = truly below bytes n m [] xs (begun (machine_rules sha256 (head_of_match n))) p refl posts in
    below.right (head_of_match n) log xs m.start p m.limits logged (stated below bytes n m) some known
    (subst (λ (b : ℕ). MovesTruly (machine_rules sha256 (head_of_match n)) (machine_truth sha256 m.start b) p (begun (machine_rules sha256 (head_of_match n))) xs) (sym m.bound) moves)

pub answered : Below → QuestionsAreAnswered
answered below bytes n xs p passes q m open_ = (
  plain sha256 (state_at m.start) m.of.bound q.kind,
  answered-so below bytes n m p passes q (asked-within below bytes n m xs _ p q refl open_),
)
