-- To believe: in how many open disputes a prover is. Whatever was posted, in one at most: open disputes share no prover.
use Rattle.std.specs.Prelude.{◌≢◌, ℕ, ◌+◌, ◌≤◌, Bool, true, false, not, ◌&&◌, ◌||◌, ◌==◌, List, [], ◌∷◌}
use Rattle.bisect_game.specs.Bisection.{Bisection, is_closed}
use Rattle.bisect_game.specs.Rules.{Rules, ArePlayable}
use Rattle.tournament.specs.Posting.{Post, record_after}

-- a prover is one of the sides
abbrev pub is_side : ℕ → Bisection → Bool
is_side p d = (d.first == p) || (d.second == p)

abbrev pub one_if : Bool → ℕ
one_if true = 1
one_if false = 0

-- in how many open disputes a prover is
abbrev pub open_disputes_of : ℕ → List Bisection → ℕ
open_disputes_of p [] = 0
open_disputes_of p (d ∷ ds) = one_if (is_side p d && not (is_closed d)) + open_disputes_of p ds

abbrev pub OpenDisputesShareNoProver : Type 0
OpenDisputesShareNoProver = (rules : Rules) (xs : List Post) (p : ℕ) → open_disputes_of p (record_after rules xs).disputes ≤ 1

-- and the two sides of a dispute are two provers
abbrev pub AllApart : List Bisection → Type 0
AllApart [] = Unit {0}
AllApart (d ∷ ds) = (d.first ≢ d.second) × AllApart ds

abbrev pub SidesAreTwoProvers : Type 0
SidesAreTwoProvers = (rules : Rules) (xs : List Post) → ArePlayable rules → AllApart (record_after rules xs).disputes
