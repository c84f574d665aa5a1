-- To believe: how many moves a match has at most.
use Rattle.std.specs.Prelude.{ℕ, ◌+◌, ◌-◌, ◌*◌, ◌^◌, ◌<◌, ◌≤◌, List, length}
use Rattle.bisect_game.specs.Says.{Says}
use Rattle.bisect_game.specs.Setup.{Setup}
use Rattle.bisect_game.specs.Rules.{Rules, ArePlayable}
use Rattle.tournament.specs.Moves.{begun}
use Rattle.tournament.specs.Journals.{Legal}

-- the most bisection rounds of a dispute
pub record IsMost (fan bound k : ℕ) : Type 0 where
  pub few : fan ^ k < fan * bound
  pub most : (j : ℕ) → fan ^ j < fan * bound → j ≤ k

-- a question takes a move for each pass and one more, and there are a claim of each prover and two questions a round
abbrev pub most_entries : Setup → ℕ → ℕ
most_entries setup k = (setup.patience + 1) * (setup.provers + 2 * (setup.provers - 1) * (k + 1))

abbrev pub SpareIsEnough : Type 0
SpareIsEnough =
    (rules : Rules) (says : Says) (ps : List ℕ) (k : ℕ) → ArePlayable rules → IsMost rules.setup.fan rules.setup.bound k →
    Legal rules says ps (begun rules) → length ps ≤ most_entries rules.setup k

-- each fan and each bound has a most number
abbrev pub ThereIsAMost : Type 0
ThereIsAMost = (fan bound : ℕ) → 1 < fan → 0 < bound → (k : ℕ) × IsMost fan bound k
