-- To believe: how many sides the proof rounds of a match have in all, two for each. For each side the code asks the judge once where a
-- proof leads, which is a ruling, and only a proof round looks at proofs.
use Rattle.std.specs.Prelude.{ℕ, ◌+◌, ◌-◌, ◌*◌, ◌≤◌, List, [], ◌∷◌}
use Rattle.bisect_game.specs.Bisection.{Bisection, proof_rounds_of}
use Rattle.bisect_game.specs.Rules.{Rules, ArePlayable}
use Rattle.tournament.specs.Posting.{Post, record_after}

-- two for each proof round of these disputes
abbrev pub rulings_of : List Bisection → ℕ
rulings_of [] = 0
rulings_of (d ∷ ds) = 2 * proof_rounds_of d + rulings_of ds

-- of m provers they are at most 2 (m - 1) in all, whatever was posted
abbrev pub RulingsAreFew : Type 0
RulingsAreFew = (rules : Rules) (xs : List Post) → ArePlayable rules → rulings_of (record_after rules xs).disputes ≤ 2 * (rules.setup.provers - 1)
