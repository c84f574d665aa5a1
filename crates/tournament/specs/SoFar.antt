-- To believe: the answers that a record holds. Whatever was posted, a record of a match is the bracket over the answers so far.
use Rattle.std.specs.Prelude.{◌≡◌, ℕ, ◌-◌, ◌==◌, List, [], ◌∷◌, slice_get, Option, Some, None, if◌then◌else◌}
use Rattle.rd_base.specs.declared.answer.Qid.{Qid}
use Rattle.bisect_game.specs.declared.settled.Settled.{Settled}
use Rattle.bisect_game.specs.Rules.{Rules, ArePlayable}
use Rattle.bisect_game.specs.Bisection.{Bisection}
use Rattle.bisect_game.specs.Disputes.{Answers}
use Rattle.bisect_game.specs.Held.{settled_in_round}
use Rattle.tournament.specs.Bracket.{Record, bracket}
use Rattle.tournament.specs.Posting.{Post, record_after}

-- what is settled of a prover under a number, among disputes
abbrev pub settled_among : ℕ → Qid → List Bisection → Option Settled
settled_among p qid [] = None
settled_among p qid (d ∷ ds) = if d.number == qid.dispute then settled_in_round p qid.round d else settled_among p qid ds

abbrev pub claim_at : Option (Option Settled) → Option Settled
claim_at (Some s) = s
claim_at None = None

-- the answers so far: what a record holds of each question
abbrev pub answers_in : Record → Answers
answers_in t p q = if q.qid.dispute == 0 then claim_at (slice_get t.claims (p - 1)) else settled_among p q.qid t.disputes

-- the record after any posts is the bracket over the answers so far
abbrev pub RecordIsBracket : Type 0
RecordIsBracket = (rules : Rules) (xs : List Post) → ArePlayable rules → record_after rules xs ≡ bracket rules (answers_in (record_after rules xs))
