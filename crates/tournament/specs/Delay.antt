-- To believe, for the law `few_rounds_come_in_sequence`: how many rounds of a match come one after another. The disputes of a stage are
-- played side by side, and stages one after another.
use Rattle.std.specs.Prelude.{ℕ, zero, suc, ◌+◌, ◌-◌, ◌*◌, ◌≤◌, max, ◌==◌, List, [], ◌∷◌, length, if◌then◌else◌}
use Rattle.bisect_game.specs.Bisection.{Bisection}
use Rattle.bisect_game.specs.Rules.{Rules, ArePlayable}
use Rattle.tournament.specs.Bracket.{Record, last_stage}
use Rattle.tournament.specs.Length.{IsMost}
use Rattle.tournament.specs.Posting.{Post, record_after}

-- the rounds of the longest dispute of a stage, the last round included
abbrev pub longest_of : ℕ → List Bisection → ℕ
longest_of stage [] = 0
longest_of stage (d ∷ ds) = max (if d.stage == stage then length d.past + 1 else 0) (longest_of stage ds)

-- those of so many stages, one after another
abbrev pub longest_through : ℕ → List Bisection → ℕ
longest_through zero ds = 0
longest_through (suc stages) ds = longest_through stages ds + longest_of (suc stages) ds

-- the rounds of a match one after another: the claims, and of each stage those of its longest dispute
abbrev pub rounds_in_sequence : Record → ℕ
rounds_in_sequence r = 1 + longest_through (last_stage r.disputes) r.disputes

-- they are at most k + 1 a stage, beside the claims, and so 1 + (m - 1) * (k + 1) for m provers, for a most number k of bisection rounds
pub record HasFewRoundsInSequence (rules : Rules) (k : ℕ) (r : Record) : Type 0 where
  pub by_stage : rounds_in_sequence r ≤ 1 + last_stage r.disputes * (k + 1)
  pub all : rounds_in_sequence r ≤ 1 + (rules.setup.provers - 1) * (k + 1)

abbrev pub FewRoundsInSequence : Type 0
FewRoundsInSequence =
    (rules : Rules) (xs : List Post) (k : ℕ) → ArePlayable rules → IsMost rules.setup.fan rules.setup.bound k → HasFewRoundsInSequence rules k (record_after rules xs)
