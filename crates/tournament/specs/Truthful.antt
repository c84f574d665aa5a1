-- To believe: a prover that answers a case truthfully, and what the dispute theorem says of it.
use Rattle.std.specs.Prelude.{◌≡◌, ℕ, ◌<◌, ◌≤◌, true, List, Some, None, Contains}
use Rattle.rd_base.specs.declared.answer.Answer.{Answer}
use Rattle.bisect_game.specs.declared.settled.Question.{Question}
use Rattle.bisect_game.specs.Says.{Says}
use Rattle.bisect_game.specs.Ruling.{IsFair}
use Rattle.bisect_game.specs.Rules.{Rules, ArePlayable}
use Rattle.bisect_game.specs.Truth.{Truth, IsRun, IsTrueAnswer}
use Rattle.tournament.specs.Bracket.{Record, live, is_complete, verdict_of, bracket}
use Rattle.tournament.specs.Moves.{begun}
use Rattle.tournament.specs.Journals.{turns, Legal, answers_of}
use Rattle.tournament.specs.Asked.{asked}
use Rattle.tournament.specs.Theorem.{AreTrue, Stays, IsRightVerdict}

-- a prover passes on a question no more often than the patience allows, and then gives the true answer
pub record AnswersTruly (says : Says) (patience : ℕ) (t : Truth) (p : ℕ) (q : Question) : Type 0 where
  pub passes : ℕ
  pub few : passes ≤ patience
  pub passing : (n : ℕ) → n < passes → says p q n ≡ None
  pub answer : Answer
  pub gives : says p q passes ≡ Some answer
  pub is_true : IsTrueAnswer t q.kind answer

-- it does so on each question that the record of the case asks it
abbrev pub IsTruthfulProver : Rules → Says → Truth → ℕ → Type 0
IsTruthfulProver rules says t p =
    (q : Question) → asked rules (bracket rules (answers_of rules says)) p q.qid ≡ Some q.kind → AnswersTruly says rules.setup.patience t p q

-- its settled answers so far are given and true, it stays, and once nothing is open it is live and the verdict is right
pub record IsSafe (rules : Rules) (t : Truth) (p : ℕ) (r : Record) : Type 0 where
  pub answers : AreTrue rules t p r
  pub stays : Stays rules t p r
  pub live_at_end : is_complete r ≡ true → Contains (live r) (p, t.claim)
  pub verdict : is_complete r ≡ true → IsRightVerdict rules t r (verdict_of rules r)

-- whoever moves in whatever order, a truthful prover is safe
abbrev pub TruthfulProversAreSafe : Type 0
TruthfulProversAreSafe =
    (rules : Rules) (says : Says) (t : Truth) (ps : List ℕ) (p : ℕ) → ArePlayable rules → IsFair rules.ruling → IsRun rules t → 0 < p → p ≤ rules.setup.provers →
    IsTruthfulProver rules says t p → Legal rules says ps (begun rules) → IsSafe rules t p (turns rules says ps (begun rules)).record_
