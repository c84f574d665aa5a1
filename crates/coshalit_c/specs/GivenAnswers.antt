-- To believe, for the law `given_answers_are_right`: a prover that posts what `coshalit_answer` gives is never out, whatever the others post.
use Rattle.std.specs.Prelude.{◌≡◌, ℕ, ◌<◌, ◌≤◌, true, List, [], ◌∷◌, Option, Some, None, Ok}
use Rattle.sha2.specs.Sha256.{sha256}
use Rattle.rd_base.specs.Results.{◌>>=◌}
use Rattle.rd_base.specs.Questions.{same_qid}
use Rattle.rd_base.specs.declared.answer.Answer.{Answer}
use Rattle.proof_wire.specs.Reading.{answer_in}
use Rattle.rv_step.specs.State.{State}
use Rattle.rv_step.specs.Valid.{IsValid}
use Rattle.bisect_game.specs.declared.settled.Question.{Question}
use Rattle.bisect_game.specs.Rules.{Rules}
use Rattle.tournament.specs.Bracket.{open_question}
use Rattle.tournament.specs.Moves.{MatchState, begun, passes_of}
use Rattle.tournament.specs.Posting.{Post, posted, record_after}
use Rattle.case_reader.specs.Case.{CaseData}
use Rattle.open_match.specs.Log.{IsLogOf}
use Rattle.open_match.specs.Laws.{IsSafeAndRight}
use Rattle.delegate.specs.Loading.{within_limit, case_or_refusal, start_or_refusal}
use Rattle.delegate.specs.OfCase.{start_response, response_by}
use Rattle.delegate.specs.declared.response.Subject.TheVariants.{Whole}
use Rattle.delegate.specs.declared.response.Answered.TheVariants.{Done}
use Rattle.delegate.specs.declared.response.Response.{Response}
use Rattle.coshalit_c.specs.declared.asked.CoshalitQuestion.{CoshalitQuestion}
use Rattle.coshalit_c.specs.declared.numbers.CoshalitNumbers.{CoshalitNumbers}
use Rattle.coshalit_c.specs.Asked.{question_to}
use Rattle.coshalit_c.specs.HostMatch.{head_of_match}
use Rattle.coshalit_c.specs.Questions.{kind_numbered, response_on}
use Rattle.transcript_text.specs.Limits.{numbers_are_in_limits}
use Rattle.machine_audit.specs.MachineAudit.{machine_rules}

-- A MATCH OF A CASE. The case of the bytes is read and loaded, and its run starts in a valid state, as the clause `valid` of
-- `coshalit_start_root` says. The match has the version and the bound of the case, and the root that `coshalit_start_root` gives of it
pub record IsMatchOfCase (bytes : List ℕ) (n : CoshalitNumbers) : Type 0 where
  pub limits : numbers_are_in_limits (head_of_match n) ≡ true
  pub of : CaseData
  pub start : State
  pub read : (within_limit bytes >>= case_or_refusal) ≡ Ok of
  pub loaded : start_or_refusal Whole of ≡ Ok start
  pub valid : IsValid start
  pub version : n.version ≡ of.version
  pub bound : n.bound ≡ of.bound
  pub root : response_by start_response bytes ≡ record { answered = Done; text = n.start }

-- the response of `coshalit_answer` to a question that `coshalit_match` writes
abbrev pub response_asked : List ℕ → CoshalitQuestion → Response
response_asked bytes q = response_on (kind_numbered q.kind q.low q.high q.parts) bytes

-- it is done, and its bytes are read as this answer
pub record IsGiven (bytes : List ℕ) (q : CoshalitQuestion) (a : Answer) : Type 0 where
  pub done : (response_asked bytes q).answered ≡ Done
  pub read : answer_in (response_asked bytes q).text ≡ Ok a

-- a move of who posts what is given: that answer, or one more pass within the patience
abbrev pub IsGivenMove : List ℕ → ℕ → CoshalitQuestion → Option Answer → Type 0
IsGivenMove bytes patience q (Some a) = IsGiven bytes q a
IsGivenMove bytes patience q None = q.passes < patience

-- such is each post in a prover's name on its open question; on another question it is stale, and free. So are the posts of others
abbrev pub PostsWhatIsGiven : Rules → List ℕ → ℕ → MatchState → List Post → Type 0
PostsWhatIsGiven rules bytes p st [] = Unit {0}
PostsWhatIsGiven rules bytes p st (x ∷ xs) =
    ((q : Question) → x.prover ≡ p → open_question rules st.record_ p ≡ Some q → same_qid q.qid x.qid ≡ true →
    IsGivenMove bytes rules.setup.patience (question_to p q (passes_of st p)) x.answer)
    × PostsWhatIsGiven rules bytes p (posted rules st x.prover x.qid x.answer) xs

-- GIVEN ANSWERS ARE RIGHT: for each case in bytes, each log of a match of it, and each prover in whose name nothing else is posted, the prover
-- isn't out, and a match that is over accepts the status and the output of the case's own run, or shows two strings of one digest
abbrev pub GivenAnswersAreRight : Type 0
GivenAnswersAreRight =
    (bytes log : List ℕ) (n : CoshalitNumbers) (xs : List Post) (p : ℕ) (m : IsMatchOfCase bytes n) →
    let rules : Rules = machine_rules sha256 (head_of_match n) in
    IsLogOf n.provers xs log → 0 < p → p ≤ n.provers → PostsWhatIsGiven rules bytes p (begun rules) xs →
    IsSafeAndRight sha256 (head_of_match n) m.start p (record_after rules xs)

-- and whatever was posted, each question that is open is given an answer
abbrev pub QuestionsAreAnswered : Type 0
QuestionsAreAnswered =
    (bytes : List ℕ) (n : CoshalitNumbers) (xs : List Post) (p passes : ℕ) (q : Question) → IsMatchOfCase bytes n →
    open_question (machine_rules sha256 (head_of_match n)) (record_after (machine_rules sha256 (head_of_match n)) xs) p ≡ Some q →
    (a : Answer) × IsGiven bytes (question_to p q passes) a
