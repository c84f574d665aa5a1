-- To believe: what a prover has once a case is over, if it has deposits. Who is live in the record of a case has its own stake and one for
-- each of its disputes but that of a collision, and the others and the pool have the rest.
use Rattle.std.specs.Prelude.{◌≡◌, ℕ, ◌<◌, ◌≤◌, true}
use Rattle.bisect_game.specs.Rules.{Rules, ArePlayable}
use Rattle.bisect_game.specs.Says.{Says}
use Rattle.tournament.specs.Bracket.{bracket}
use Rattle.tournament.specs.Journals.{answers_of}
use Rattle.tournament.specs.Theorem.{lives}
use Rattle.deposits.specs.ExactBalance.{HasWonAll}

-- whatever the provers of a match say
abbrev pub WhoLivesInACaseWinsAll : Type 0
WhoLivesInACaseWinsAll =
    (stake : ℕ) (rules : Rules) (says : Says) (p : ℕ) → ArePlayable rules → 0 < p → p ≤ rules.setup.provers →
    lives (bracket rules (answers_of rules says)) p ≡ true → HasWonAll stake rules.setup.provers p (bracket rules (answers_of rules says))
