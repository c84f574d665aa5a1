-- To believe: the plain answers of a case's own run are the true ones.
use Rattle.std.specs.Prelude.{ℕ, List}
use Rattle.rv_step.specs.State.{State}
use Rattle.rv_step.specs.Step.{state_at}
use Rattle.bisect_game.specs.declared.settled.Kind.{Kind}
use Rattle.bisect_game.specs.Truth.{IsTrueAnswer}
use Rattle.tournament.specs.Asked.{IsWithinBound}
use Rattle.plain_answers.specs.Plain.{plain}
use Rattle.case_reader.specs.Case.{CaseData}
use Rattle.case_match.specs.Match.{truth_of_case}

-- the plain answer of the sequential run to what may be asked within the case's bound is the true one
abbrev pub PlainAnswersAreTrue : (List ℕ → List ℕ) → Type 0
PlainAnswersAreTrue digest =
    (c : CaseData) (start : State) (k : Kind) → IsWithinBound c.bound k → IsTrueAnswer (truth_of_case digest c start) k (plain digest (state_at start) c.bound k)
