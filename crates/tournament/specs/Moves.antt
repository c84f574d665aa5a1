-- To believe: a match in play, moved by one move at a time. Passes are counted on the question on which they were made.
use Rattle.std.specs.Prelude.{ℕ, ◌+◌, ◌-◌, nat_lt, List, replicate, slice_index, slice_set, Option, Some, None, if◌then◌else◌}
use Rattle.rd_base.specs.declared.answer.Answer.{Answer}
use Rattle.bisect_game.specs.declared.settled.Question.{Question}
use Rattle.bisect_game.specs.declared.settled.Settled.{Settled}
use Rattle.bisect_game.specs.declared.settled.Settled.TheVariants.{Spent}
use Rattle.bisect_game.specs.Rules.{Rules, judged}
use Rattle.tournament.specs.Bracket.{Record, settle, nothing_settled}

-- a match in play: its record, and how often each prover has passed on its open question
pub record MatchState : Type 0 where
  pub record_ : Record
  pub passed : List ℕ

abbrev pub begun : Rules → MatchState
begun rules = record { record_ = nothing_settled rules; passed = replicate rules.setup.provers 0 }

abbrev pub passes_of : MatchState → ℕ → ℕ
passes_of st p = slice_index st.passed (p - 1)

-- what a move settles after this many passes: an answer settles, and a pass beyond the patience
abbrev pub settled_by : Rules → Question → ℕ → Option Answer → Option Settled
settled_by rules q passes (Some a) = Some (judged rules.ruling q.kind a)
settled_by rules q passes None = if nat_lt passes rules.setup.patience then None else Some Spent

-- a pass that settles nothing is counted, and a settled question is followed by one without passes
abbrev pub moved : Rules → MatchState → ℕ → Option Settled → MatchState
moved rules st p None = record st { passed = slice_set st.passed (p - 1) (passes_of st p + 1) }
moved rules st p (Some s) = record { record_ = settle rules p s st.record_; passed = slice_set st.passed (p - 1) 0 }
