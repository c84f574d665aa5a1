-- To believe: a prover whose moves are true, in a list of posts by anybody and with any contents.
use Rattle.std.specs.Prelude.{◌≡◌, ℕ, ◌<◌, ◌≤◌, true, List, [], ◌∷◌, Option, Some, None}
use Rattle.rd_base.specs.declared.answer.Answer.{Answer}
use Rattle.bisect_game.specs.declared.settled.Question.{Question}
use Rattle.bisect_game.specs.Ruling.{IsFair}
use Rattle.bisect_game.specs.Rules.{Rules, ArePlayable}
use Rattle.bisect_game.specs.Truth.{Truth, IsRun, IsTrueAnswer}
use Rattle.tournament.specs.Bracket.{open_question}
use Rattle.tournament.specs.Moves.{MatchState, begun, passes_of}
use Rattle.rd_base.specs.Questions.{same_qid}
use Rattle.tournament.specs.Posting.{posted, Post, record_after}
use Rattle.tournament.specs.Theorem.{AreTrue}
use Rattle.tournament.specs.Truthful.{IsSafe}

-- a true move on a question after this many passes on it: the true answer, or one more pass within the patience
abbrev pub IsTrueMove : Rules → Truth → Question → ℕ → Option Answer → Type 0
IsTrueMove rules t q passes (Some a) = IsTrueAnswer t q.kind a
IsTrueMove rules t q passes None = passes < rules.setup.patience

-- if a post is this prover's and on its open question, its move is true. The posts of others are free, and so are its own on
-- any other question, which are stale.
abbrev pub IsTruePost : Rules → Truth → ℕ → MatchState → Post → Type 0
IsTruePost rules t p st x =
    (q : Question) → x.prover ≡ p → open_question rules st.record_ p ≡ Some q → same_qid q.qid x.qid ≡ true → IsTrueMove rules t q (passes_of st p) x.answer

-- the prover's moves in these posts are true, from this state on
abbrev pub MovesTruly : Rules → Truth → ℕ → MatchState → List Post → Type 0
MovesTruly rules t p st [] = Unit {0}
MovesTruly rules t p st (x ∷ xs) = IsTruePost rules t p st x × MovesTruly rules t p (posted rules st x.prover x.qid x.answer) xs

-- so its settled answers so far are given and true
abbrev pub TrueMovesAreTrueAnswers : Type 0
TrueMovesAreTrueAnswers =
    (rules : Rules) (t : Truth) (xs : List Post) (p : ℕ) → IsRun rules t → 0 < p → p ≤ rules.setup.provers →
    MovesTruly rules t p (begun rules) xs → AreTrue rules t p (record_after rules xs)

-- and it is safe
abbrev pub TrueMovesAreSafe : Type 0
TrueMovesAreSafe =
    (rules : Rules) (t : Truth) (xs : List Post) (p : ℕ) → ArePlayable rules → IsFair rules.ruling → IsRun rules t → 0 < p → p ≤ rules.setup.provers →
    MovesTruly rules t p (begun rules) xs → IsSafe rules t p (record_after rules xs)
