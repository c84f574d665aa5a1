-- To believe, for the law `ended_matches_are_of_cases`: a match that is over is that of a case, whatever was posted: of the provers that
-- say what its record holds.
use Rattle.std.specs.Prelude.{◌≡◌, true, List, Option, Some, None}
use Rattle.rd_base.specs.declared.answer.Answer.{Answer}
use Rattle.bisect_game.specs.declared.settled.Settled.{Settled}
use Rattle.bisect_game.specs.declared.settled.Settled.TheVariants.{Given, Faulty, Spent}
use Rattle.bisect_game.specs.Says.{Says}
use Rattle.bisect_game.specs.Rules.{Rules, ArePlayable}
use Rattle.tournament.specs.Bracket.{Record, is_complete, bracket}
use Rattle.tournament.specs.Journals.{answers_of}
use Rattle.tournament.specs.Posting.{Post, record_after}
use Rattle.tournament.specs.SoFar.{answers_in}

-- the answer that a settled question holds, also if it is faulty
abbrev pub answer_held : Option Settled → Option Answer
answer_held (Some (Given a)) = Some a
answer_held (Some (Faulty a)) = Some a
answer_held (Some Spent) = None
answer_held None = None

-- the provers of a record: each gives at once the answer that the record holds of it, and passes for ever if it holds none
abbrev pub says_of : Record → Says
says_of t p q passes = answer_held (answers_in t p q)

-- once a match is over, its record is that of the case of these provers
abbrev pub EndedMatchesAreOfCases : Type 0
EndedMatchesAreOfCases =
    (rules : Rules) (xs : List Post) → ArePlayable rules → is_complete (record_after rules xs) ≡ true →
    record_after rules xs ≡ bracket rules (answers_of rules (says_of (record_after rules xs)))
