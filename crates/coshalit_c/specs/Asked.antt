-- To believe. The open questions of a match as a caller in another language reads them.
use Rattle.std.specs.Prelude.{ℕ, zero, suc, ◌+◌, List, [], ◌∷◌, ◌++◌, Option, Some, None}
use Rattle.bisect_game.specs.declared.settled.Kind.{Kind}
use Rattle.bisect_game.specs.declared.settled.Kind.TheVariants as kind
use Rattle.bisect_game.specs.declared.settled.Question.{Question}
use Rattle.bisect_game.specs.Rules.{Rules}
use Rattle.tournament.specs.Bracket.{open_question}
use Rattle.tournament.specs.Moves.{MatchState}
use Rattle.tournament.specs.Posting.{passes_on}
use Rattle.coshalit_c.specs.declared.asked.CoshalitQuestion.{CoshalitQuestion}

-- a question for the claim with these numbers, and what it is if something else is asked for
abbrev pub kind_to : CoshalitQuestion → Kind → CoshalitQuestion
kind_to claim kind.Claim = claim
kind_to claim (kind.Root step) = record claim { kind = 2; low = step }
kind_to claim (kind.Proof step) = record claim { kind = 3; low = step }
kind_to claim (kind.Roots lo hi parts) = record claim { kind = 5; parts = parts; low = lo; high = hi }

-- a question to a prover that has passed so often on it
abbrev pub question_to : ℕ → Question → ℕ → CoshalitQuestion
question_to p q passes =
    kind_to (record { prover = p; dispute = q.qid.dispute; round = q.qid.round; kind = 1; parts = 0; passes = passes; low = 0; high = 0 }) q.kind

-- none, or one
abbrev pub asked_if : ℕ → ℕ → Option Question → List CoshalitQuestion
asked_if p passes None = []
asked_if p passes (Some q) = question_to p q passes ∷ []

-- those to the provers up to this one, in their order
abbrev pub asked_of : Rules → MatchState → ℕ → List CoshalitQuestion
asked_of rules st zero = []
asked_of rules st (suc n) = asked_of rules st n ++ asked_if (n + 1) (passes_on rules st (n + 1)) (open_question rules st.record_ (n + 1))
